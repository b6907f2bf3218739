use Rattle.std.proofs.Common.{◌≡◌, ℕ, length, sym, ap, ◌∙◌, arith}
use Rattle.vec_clock.specs.Counts.{clock_counts}
use Rattle.vec_clock.proofs.Counting.{counts-first, counts-long}
use Rattle.trace_compare.proofs.FirstCovers.{clock-small, clock-on, covered-none, covered-on}
use Rattle.trace_compare.proofs.covering.covering.Goals as goal

pub loop-packet-init : goal.loop-packet-init
loop-packet-init c = record {
  clock_a = c.in_ok-clock_a.ensures ∙ counts-first c.args.channels c.args.a.now;
  clock_b = c.in_ok-clock_b.ensures ∙ counts-first c.args.channels c.args.b.now;
  within = omega arith;
  covered = covered-none c.args.channels c.args.a.now c.args.b.now c.in_ok-places.places.items (ap length c.in_ok-places.ensures.items);
}

pub first_covering-place-requires-clause-at : goal.first_covering-place-requires-clause-at
first_covering-place-requires-clause-at c =
    let inv = c.loop-packet.invariant in
    inv.clock_b ∙ ap (λ k. clock_counts k c.args.b.now c.loop-packet.place)
    (sym (counts-long c.args.channels c.args.a.now c.loop-packet.packet-index c.loop-packet.clock_a inv.clock_a))

pub add-requires : goal.add-requires
add-requires c = record {
  small = λ k l _. clock-small c.args.channels c.args.a.now c.loop-packet.packet-index c.loop-packet.clock_a
      c.loop-packet.invariant.clock_a c.loop-packet-test.true c.requires.few_a k l;
}

pub loop-packet-preserved : goal.loop-packet-preserved
loop-packet-preserved c =
    let n : ℕ = c.args.channels in
    let a = c.args.a.now in
    let b = c.args.b.now in
    let at : ℕ = c.loop-packet.packet-index in
    let inv = c.loop-packet.invariant in
    let next = c.first_covering-place in
    record {
      clock_a = clock-on n a at c.packet-item.result c.loop-packet.clock_a c.add.new.self inv.clock_a c.loop-packet-test.true
          c.packet-item.is c.add.ensures.len (λ k l. c.add.ensures.each k l);
      clock_b = next.ensures.new ∙ ap (λ k. clock_counts k b next.result) (counts-long n a at c.loop-packet.clock_a inv.clock_a);
      within = next.ensures.within;
      covered = covered-on n a b at c.loop-packet.place next.result c.loop-packet.clock_a c.loop-packet.places.items c.push.new.self.items
          inv.covered inv.clock_a (λ q l m. next.ensures.before q l m) next.ensures.covers c.in_ok-push.ensures.items;
    }
