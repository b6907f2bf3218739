use Rattle.vidi_io.proofs.Started.{ok-pushed, err-pushed, over-pushed}
use Rattle.vidi_io.proofs.shelf_sink.ShelfSinkSink.push.Goals as goal

pub returns-clause-ok : goal.returns-clause-ok
returns-clause-ok g c =
    ok-pushed c.append.result c.begin.new.self.started (g.S.Shelf.files c.begin.new.self.shelf.now) (g.S.Shelf.files c.append.new.self) _
    c.begin.new.self.name.now c.args.piece.now c.in_ok-begin.ensures.started c.in_ok-begin.ensures.written c.append.ensures.ok

pub returns-clause-err : goal.returns-clause-err
returns-clause-err g c =
    err-pushed c.append.result c.begin.new.self.started (g.S.Shelf.files c.begin.new.self.shelf.now) (g.S.Shelf.files c.append.new.self) _
    c.begin.new.self.name.now c.args.piece.now c.in_ok-begin.ensures.started c.in_ok-begin.ensures.written c.append.ensures.err

pub returns-clause-frame : goal.returns-clause-frame
returns-clause-frame g c f over =
    over-pushed c.begin.new.self.started c.append.result (g.S.Shelf.files c.begin.new.self.shelf.now) (g.S.Shelf.files c.append.new.self)
    c.begin.new.self.name.now c.args.piece.now (g.S.Shelf.read_faults c.begin.new.self.shelf.now)
    (g.S.Shelf.read_faults c.append.new.self) (g.S.Shelf.starts c.begin.new.self.shelf.now) (g.S.Shelf.starts c.append.new.self) f
    c.in_ok-begin.ensures.started c.append.ensures.ok c.append.ensures.err c.append.ensures.starts
    c.append.ensures.counts.reads (c.in_ok-begin.ensures.frame f over)
