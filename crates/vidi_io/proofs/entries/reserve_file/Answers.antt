use Rattle.vidi_io.proofs.Names.{IsAt, Keeps, on_ok, stays, room_now}
use Rattle.vidi_io.proofs.entries.reserve_file.Goals as goal

pub returns-clause-same : goal.returns-clause-same
returns-clause-same c =
    let at : IsAt c.args.entries.now.items c.place_for.new.entries.items c.args.name.now c.in_ok-i.i c.index_mut.result.now = record
    { since = c.place_for.ensures.same; first = c.in_ok-i.ensures.ok; item = c.index_mut.ensures.value } in
    let keeps : Keeps c.index_mut.result.now c.reserve.new.self = record
    { name = c.reserve.ensures.name; faults = c.reserve.ensures.faults; more = c.reserve.ensures.more } in
    stays c.reserve.new.self at keeps c.reserve.ensures.file

pub returns-clause-room : goal.returns-clause-room
returns-clause-room c =
    let at : IsAt c.args.entries.now.items c.place_for.new.entries.items c.args.name.now c.in_ok-i.i c.index_mut.result.now = record
    { since = c.place_for.ensures.same; first = c.in_ok-i.ensures.ok; item = c.index_mut.ensures.value } in
    let keeps : Keeps c.index_mut.result.now c.reserve.new.self = record
    { name = c.reserve.ensures.name; faults = c.reserve.ensures.faults; more = c.reserve.ensures.more } in
    on_ok c.reserve.result c.reserve.ensures.room (λ room. rw (room_now c.reserve.new.self at keeps) room)
