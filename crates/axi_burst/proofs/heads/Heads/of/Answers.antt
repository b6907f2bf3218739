use Rattle.std.proofs.Common.{◌≡◌, ◌-◌, length, refl, subst, ◌∙◌, arith}
use Rattle.std.proofs.lemmas.Option.{slice_get-get_or}
use Rattle.axi_burst.specs.HeadTable.{AreBuilt}
use Rattle.axi_burst.proofs.HeadTable.{built-all, built-none, built-on}
use Rattle.axi_burst.proofs.heads.Heads.of.Goals as goal

pub loop-j-init : goal.loop-j-init
loop-j-init c = built-none c.args.asks.now c.new.result.entries c.in_ok-with_capacity.field-0.items c.new.ensures.empty
    c.in_ok-with_capacity.ensures.items

pub loop-j-preserved : goal.loop-j-preserved
loop-j-preserved c =
    let k = length c.args.asks.now - 1 - c.loop-j.j in
    built-on c.args.asks.now c.loop-j.j k _ _ _ _ _ _ c.loop-j.invariant c.loop-j-test.true refl (slice_get-get_or c.args.asks.now k _ (omega arith))
    c.head-next.ensures c.in_ok-set.ensures.heads (c.in_ok-set.ensures.next ∙ c.in_ok-push.ensures.items)

pub returns : goal.returns
returns c =
    let all : c.loop-j.j ≡ length c.args.asks.now = omega arith in
    built-all c.args.asks.now c.loop-j.heads (subst (λ n. AreBuilt c.args.asks.now n c.loop-j.heads.heads.entries c.loop-j.heads.next.items)
    all c.loop-j.invariant)
