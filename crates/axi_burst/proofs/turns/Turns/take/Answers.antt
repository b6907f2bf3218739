use Rattle.std.proofs.Common.{length, ◌∙◌, sym, ap, arith, refl}
use Rattle.std.proofs.lemmas.Option.{slice_get_past, slice_get_read}
use Rattle.axi_burst.specs.Counted.{count_in}
use Rattle.axi_burst.specs.TurnTable.{left_from, left_in}
use Rattle.axi_burst.proofs.TurnTable.{last-turn, next-turn, no-turn}
use Rattle.axi_burst.proofs.turns.Turns.take.Goals as goal

pub returns-in_default : goal.returns-in_default
returns-in_default c =
    no-turn c.args.asks.now c.args.self.now c.args.id
    (ap (left_from c.args.asks.now c.args.id (count_in c.args.self.now.used.numbers.entries c.args.id)) (sym c.head.ensures ∙ c.in_default.is))

pub returns-in_default-get : goal.returns-in_default-get
returns-in_default-get c =
    let asks = c.args.asks.now in
    let used = count_in c.args.self.now.used.numbers.entries c.args.id in
    no-turn asks c.args.self.now c.args.id
    (ap (left_from asks c.args.id used) (sym c.in-Some.ensures)
    ∙ ap (left_in asks c.args.id c.in-Some.m used) (slice_get_past asks c.in-Some.m (omega (arith, c.in_default-get.ensures.lookup))))

pub returns-then-used-from : goal.returns-then-used-from
returns-then-used-from c =
    let there = c.in-Some-get.ensures.lookup in
    let bound = c.from.ensures ∙ c.saturating_sub.ensures in
    next-turn c.args.asks.now c.args.self.now (record { heads = c.args.self.now.heads; used = c.set.new.self }) c.args.id c.in-Some.m
    c.get-used.result c.in-Some-get.a.now (sym c.in-Some.ensures)
    (slice_get_read c.args.asks.now (length c.args.asks.now) c.in-Some.m c.in-Some-get.a.now refl there.3.0 there.1)
    c.get-used.ensures (omega (arith, bound)) refl c.in_ok-set.ensures

pub returns : goal.returns
returns c =
    let there = c.in-Some-get.ensures.lookup in
    let bound = c.from.ensures ∙ c.saturating_sub.ensures in
    last-turn c.args.asks.now c.args.self.now (record { heads = c.take.new.self; used = c.set-2.new.self }) c.args.id c.in-Some.m
    c.get-used.result c.in-Some-get.a.now c.in_ok-_taken._taken (sym c.in-Some.ensures)
    (slice_get_read c.args.asks.now (length c.args.asks.now) c.in-Some.m c.in-Some-get.a.now refl there.3.0 there.1)
    c.get-used.ensures (omega (arith, bound)) c.in_ok-_taken.ensures c.in_ok-set-2.ensures
