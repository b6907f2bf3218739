use Rattle.std.proofs.Common.{◌≡◌, ℕ, ◌+◌, length, get_or, sym, ap, ◌∙◌, arith}
use Rattle.std.specs.Int.{bit_at}
use Rattle.vec_clock.specs.trace_model.declared.packet.Packet.{Packet}
use Rattle.vec_clock.specs.Counts.{clock_counts}
use Rattle.vec_clock.proofs.Counting.{counts-long}
use Rattle.trace_compare.proofs.FirstCovers.{clock-small, clock-on, covers-clock, none-on}
use Rattle.trace_compare.proofs.covering.first_covering.Goals as goal

pub covers-requires : goal.covers-requires
covers-requires c = counts-long (length c.args.other.now) c.args.packets.now c.loop-at.at c.loop-at.carried c.loop-at.invariant.now

pub add-requires : goal.add-requires
add-requires c = record {
  small = λ k l _. clock-small (length c.args.other.now) c.args.packets.now c.loop-at.at c.loop-at.carried c.loop-at.invariant.now
      (omega arith) c.requires.few k l;
}

pub returns-then-covers-clause-covers : goal.returns-then-covers-clause-covers
returns-then-covers-clause-covers c _ =
    (covers-clock (length c.args.other.now) c.args.packets.now c.loop-at.at c.loop-at.carried c.args.other.now c.covers.result
    c.loop-at.invariant.now c.covers.ensures).0 c.if-covers.true

pub loop-at-preserved : goal.loop-at-preserved
loop-at-preserved c =
    let n : ℕ = length c.args.other.now in
    record {
      now = clock-on n c.args.packets.now c.loop-at.at c.index-packets-at.result c.loop-at.carried c.add.new.self c.loop-at.invariant.now
          (omega arith) c.index-packets-at.is c.add.ensures.len
          (λ k l. c.add.ensures.each k l
          ∙ ap (λ (x : Packet). get_or c.loop-at.carried k 0 + bit_at x.ends k) (sym c.index-packets-at.is));
      none = none-on n c.args.packets.now (λ d. get_or c.args.other.now d 0) c.args.from c.loop-at.at c.covers.result c.if-covers.false
          (covers-clock n c.args.packets.now c.loop-at.at c.loop-at.carried c.args.other.now c.covers.result c.loop-at.invariant.now
          c.covers.ensures)
          c.loop-at.invariant.none;
    }

pub returns-clause-new : goal.returns-clause-new
returns-clause-new c = c.loop-at.invariant.now ∙ ap (clock_counts (length c.args.other.now) c.args.packets.now) (omega arith)

pub returns-clause-before : goal.returns-clause-before
returns-clause-before c q l below = c.loop-at.invariant.none q l (omega (arith, below))
