use Rattle.vidi_io.proofs.Names.{IsAt, Keeps, on_ok, on_err, becomes, stays}
use Rattle.vidi_io.proofs.entries.hold_file.Goals as goal

pub returns-clause-ok : goal.returns-clause-ok
returns-clause-ok c =
    let at : IsAt c.args.entries.now.items c.place_for.new.entries.items c.args.name.now c.in_ok-i.i c.index_mut.result.now = record
    { since = c.place_for.ensures.same; first = c.in_ok-i.ensures.ok; item = c.index_mut.ensures.value } in
    let keeps : Keeps c.index_mut.result.now c.hold.new.self = record {
      name = c.hold.ensures.name;
      faults = c.hold.ensures.faults;
      more
          = c.hold.ensures.more;
    } in
    on_ok c.hold.result c.hold.ensures.ok (becomes c.hold.new.self c.args.bytes.now at keeps)

pub returns-clause-err : goal.returns-clause-err
returns-clause-err c =
    let at : IsAt c.args.entries.now.items c.place_for.new.entries.items c.args.name.now c.in_ok-i.i c.index_mut.result.now = record
    { since = c.place_for.ensures.same; first = c.in_ok-i.ensures.ok; item = c.index_mut.ensures.value } in
    let keeps : Keeps c.index_mut.result.now c.hold.new.self = record {
      name = c.hold.ensures.name;
      faults = c.hold.ensures.faults;
      more
          = c.hold.ensures.more;
    } in
    on_err c.hold.result c.hold.ensures.err (stays c.hold.new.self at keeps)
