use Rattle.std.proofs.Common.{arith}
use Rattle.vidi_io.proofs.Names.{IsAt, Keeps, becomes}
use Rattle.vidi_io.proofs.entries.start_file.Goals as goal

pub returns-clause-ok : goal.returns-clause-ok
returns-clause-ok c =
    let at : IsAt c.args.entries.now.items c.place_for.new.entries.items c.args.name.now c.in_ok-i.i c.index_mut.result.now = record
    { since = c.place_for.ensures.same; first = c.in_ok-i.ensures.ok; item = c.index_mut.ensures.value } in
    let keeps : Keeps c.index_mut.result.now c.start.new.self = record
    { name = c.start.ensures.name; faults = c.start.ensures.faults; more = omega (arith, c.start.ensures.room) } in
    becomes c.start.new.self _ at keeps c.start.ensures.file
