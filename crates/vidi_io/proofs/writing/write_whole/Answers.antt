use Rattle.std.proofs.Common.{◌∙◌}
use Rattle.std.proofs.lemmas.Result.{on_err_weaker}
use Rattle.vidi_io.specs.Shelf.{HasStarted}
use Rattle.vidi_io.proofs.Cut.{cut-at_piece, on_ok, written-whole}
use Rattle.vidi_io.proofs.writing.write_whole.Goals as goal

pub returns-clause-ok : goal.returns-clause-ok
returns-clause-ok g c = on_ok c.append.result
    (written-whole (g.S.Shelf.files c.args.shelf.now) (g.S.Shelf.files c.start.new.self) (g.S.Shelf.files c.append.new.self)
    c.args.name.now c.args.bytes.now c.in_ok-start.ensures.ok) c.append.ensures.ok

pub returns-clause-err : goal.returns-clause-err
returns-clause-err g c = on_err_weaker c.append.result
    (cut-at_piece (g.S.Shelf.files c.args.shelf.now) (g.S.Shelf.files c.start.new.self) (g.S.Shelf.files c.append.new.self)
    c.args.name.now c.args.bytes.now (HasStarted (g.S.Shelf.starts c.args.shelf.now) (g.S.Shelf.starts c.append.new.self))
    c.in_ok-start.ensures.ok (c.append.ensures.starts ∙ c.in_ok-start.ensures.started)) c.append.ensures.err
