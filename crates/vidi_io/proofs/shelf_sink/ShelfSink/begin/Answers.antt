use Rattle.std.proofs.Common.{Bool, true, subst, ap, sym, ◌∙◌}
use Rattle.vidi_io.specs.ShelfSink.{bytes_written, IsOver}
use Rattle.vidi_io.proofs.Started.{written-started, over-started, over-kept}
use Rattle.vidi_io.proofs.shelf_sink.ShelfSink.begin.Goals as goal

pub returns-in_err-start-clause-frame : goal.returns-in_err-start-clause-frame
returns-in_err-start-clause-frame g c f over =
    let S = g.S.Shelf in
    let old = c.args.self.now in
    subst (λ (b : Bool). IsOver b (S.files c.start.new.self) old.name.now (S.read_faults c.start.new.self) (S.starts c.start.new.self) f)
    (sym c.if-self.false)
    (over-kept (S.files old.shelf.now) (S.files c.start.new.self) old.name.now (S.read_faults old.shelf.now)
    (S.read_faults c.start.new.self) (S.starts old.shelf.now) (S.starts c.start.new.self) f c.in_err-start.ensures.err
    c.in_err-start.ensures.unstarted c.in_err-start.ensures.counts.reads
    (subst (λ (b : Bool). IsOver b (S.files old.shelf.now) old.name.now (S.read_faults old.shelf.now) (S.starts old.shelf.now) f)
    c.if-self.false over))

pub returns-clause-written : goal.returns-clause-written
returns-clause-written g c =
    let S = g.S.Shelf in
    let old = c.args.self.now in
    ap (λ fs. bytes_written true fs old.name.now) c.in_ok-start.ensures.ok ∙ written-started (S.files old.shelf.now) old.name.now
    ∙ ap (λ b. bytes_written b (S.files old.shelf.now) old.name.now) (sym c.if-self.false)

pub returns-clause-frame : goal.returns-clause-frame
returns-clause-frame g c f over =
    let S = g.S.Shelf in
    let old = c.args.self.now in
    over-started (S.files old.shelf.now) (S.files c.start.new.self) old.name.now (S.read_faults old.shelf.now)
    (S.read_faults c.start.new.self) (S.starts old.shelf.now) (S.starts c.start.new.self) f c.in_ok-start.ensures.ok
    c.in_ok-start.ensures.started
    c.in_ok-start.ensures.counts.reads
    (subst (λ (b : Bool). IsOver b (S.files old.shelf.now) old.name.now (S.read_faults old.shelf.now) (S.starts old.shelf.now) f)
    c.if-self.false over)
