use Rattle.std.proofs.Common.{◌^◌, ◌-◌, ℕ, bit_and, length, get_or, sym, subst, ap, refl, ◌∙◌}
use Rattle.std.proofs.lemmas.Bool.{false≢true}
use Rattle.vec_clock.specs.trace_model.Clock.{Covers}
use Rattle.chan_replayer.specs.Needs.{clock_at}
use Rattle.chan_replayer.proofs.Covering.{AreCovered, covered-all, covered-none, covered-not, covered-place, left-there, rest-less, same-covers}
use Rattle.chan_replayer.proofs.Sharing.{clock-long}
use Rattle.chan_replayer.proofs.offers.covered.Goals as goal
use Rattle.chan_replayer.proofs.offers.covered.Goals.{then-offers, else-offers}

pub left-init : goal.left-init
left-init c = covered-none _ c.args.which c.ranges.which.fits

pub together-together-requires : goal.together-together-requires
together-together-requires c = (
  length c.args.have.now,
  c.requires.needs,
  left-there _ c.args.which c.left.left c.left.covered (length c.args.have.now) c.in-Some.c c.requires.which c.left.invariant c.in-Some.ensures.1.named,
)

pub clock-requires : goal.clock-requires
clock-requires c = (
  length c.args.have.now,
  c.requires.needs,
  left-there _ c.args.which c.left.left c.left.covered (length c.args.have.now) c.in-Some.c c.requires.which c.left.invariant c.in-Some.ensures.1.named,
)

pub offers-requires : goal.offers-requires
offers-requires c = ap length (c.clock.ensures (length c.args.have.now) c.requires.needs)
    ∙ clock-long (length c.args.have.now) c.args.needs.now c.in-Some.c c.requires.needs
    (left-there _ c.args.which c.left.left c.left.covered (length c.args.have.now) c.in-Some.c c.requires.which c.left.invariant c.in-Some.ensures.1.named)

pub left-smaller : goal.left-smaller
left-smaller c =
    let n = length c.args.have.now in
    rest-less (λ d. Covers n (λ e. get_or c.args.have.now e 0) (λ e. get_or (clock_at n c.args.needs.now d) e 0)) c.args.which c.left.left c.left.covered
    c.in-Some.c c.together-together.result c.left.invariant c.in-Some.ensures.1.named c.together-together.ensures.own c.together-together.type_inv
    (λ d up. same-covers n (λ e. get_or c.args.have.now e 0) _ _ (c.together-together.ensures.same n d c.requires.needs up).1)

pub left-preserved : goal.left-preserved
left-preserved c =
    let n = length c.args.have.now in
    let is : ℕ → Type 0 = λ d. Covers n (λ e. get_or c.args.have.now e 0) (λ e. get_or (clock_at n c.args.needs.now d) e 0) in
    let rest = bit_and c.left.left (2 ^ 128 - 1 - c.together-together.result) in
    let own = c.clock.ensures n c.requires.needs in
    let same = λ (d : ℕ) (up : _). same-covers n (λ e. get_or c.args.have.now e 0) _ _ (c.together-together.ensures.same n d c.requires.needs up).1 in
    elim c.if-offers.branch [
      | then-offers w ↦ subst (AreCovered is c.args.which rest) (sym w.covered-is)
          (covered-place is c.args.which c.left.left c.left.covered c.in-Some.c c.together-together.result c.left.invariant c.in-Some.ensures.1.named
          c.together-together.ensures.own c.together-together.type_inv same
          ((same-covers n (λ e. get_or c.args.have.now e 0) _ _ own).0 ((c.offers.ensures).0 w.if-offers.true).1))
      | else-offers w ↦ subst (AreCovered is c.args.which rest) (sym w.covered-is)
          (covered-not is c.args.which c.left.left c.left.covered c.in-Some.c c.together-together.result c.left.invariant c.in-Some.ensures.1.named
          c.together-together.ensures.own c.together-together.type_inv same
          (λ there. false≢true (sym w.if-offers.false ∙ (c.offers.ensures).1 (refl, (same-covers n (λ e. get_or c.args.have.now e 0) _ _ own).1 there))))
    ]

pub returns : goal.returns
returns c = covered-all _ c.args.which c.left.left c.left.covered c.in_default.ensures c.left.invariant
