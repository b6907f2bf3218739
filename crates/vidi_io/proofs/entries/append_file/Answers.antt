use Rattle.vidi_io.proofs.Names.{IsAt, Keeps, on_ok, on_err, stays, grows, full_before}
use Rattle.vidi_io.proofs.entries.append_file.Goals as goal

pub returns-clause-ok : goal.returns-clause-ok
returns-clause-ok c =
    let at : IsAt c.args.entries.now.items c.place_for.new.entries.items c.args.name.now c.in_ok-i.i c.index_mut.result.now = record
    { since = c.place_for.ensures.same; first = c.in_ok-i.ensures.ok; item = c.index_mut.ensures.value } in
    let keeps : Keeps c.index_mut.result.now c.grow.new.self = record {
      name = c.grow.ensures.name;
      faults = c.grow.ensures.faults;
      more
          = c.grow.ensures.more;
    } in
    on_ok c.grow.result c.grow.ensures.ok (grows c.grow.new.self c.args.piece.now at keeps)

pub returns-clause-err : goal.returns-clause-err
returns-clause-err c =
    let at : IsAt c.args.entries.now.items c.place_for.new.entries.items c.args.name.now c.in_ok-i.i c.index_mut.result.now = record
    { since = c.place_for.ensures.same; first = c.in_ok-i.ensures.ok; item = c.index_mut.ensures.value } in
    let keeps : Keeps c.index_mut.result.now c.grow.new.self = record {
      name = c.grow.ensures.name;
      faults = c.grow.ensures.faults;
      more
          = c.grow.ensures.more;
    } in
    on_err c.grow.result c.grow.ensures.err (stays c.grow.new.self at keeps)

pub returns-clause-full : goal.returns-clause-full
returns-clause-full c =
    let at : IsAt c.args.entries.now.items c.place_for.new.entries.items c.args.name.now c.in_ok-i.i c.index_mut.result.now = record
    { since = c.place_for.ensures.same; first = c.in_ok-i.ensures.ok; item = c.index_mut.ensures.value } in
    on_err c.grow.result c.grow.ensures.full (full_before c.args.piece.now at)
