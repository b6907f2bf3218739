use Rattle.std.proofs.Common.{refl, [], ◌∙◌}
use Rattle.text_page.specs.Pad.{shown}
use Rattle.text_page.specs.PrintingLaws.{prints_on, blames_nothing, blames_on}
use Rattle.text_page.proofs.Printed.{kept, pushed}
use Rattle.text_page.proofs.printer.PrinterPage.print.Goals as goal

pub returns-then-piece-left : goal.returns-then-piece-left
returns-then-piece-left g c = (
  kept (g.O.Sink.told c.args.self.now.out.now) (shown c.args.self.now.pad.now) (shown c.put.new.self) c.args.self.now.lost c.args.piece.now
      c.put.ensures.text,
  blames_nothing (g.O.Sink.faults c.args.self.now.out.now) c.args.self.now.lost,
  refl,
  λ f has. has,
  refl,
)

pub returns-then-piece-left-2 : goal.returns-then-piece-left-2
returns-then-piece-left-2 g c = (
  prints_on (g.O.Sink.told c.args.self.now.out.now) (g.O.Sink.told c.flush.new.self.out.now) (g.O.Sink.told c.flush.new.self.out.now)
      (shown c.args.self.now.pad.now) (shown c.flush.new.self.pad.now) (shown c.put-then-piece-left-2.new.self)
      c.args.self.now.lost c.flush.new.self.lost c.flush.new.self.lost [] c.args.piece.now c.flush.ensures.prints
      (kept (g.O.Sink.told c.flush.new.self.out.now) (shown c.flush.new.self.pad.now) (shown c.put-then-piece-left-2.new.self)
      c.flush.new.self.lost c.args.piece.now c.put-then-piece-left-2.ensures.text),
  c.flush.ensures.blames,
  c.flush.ensures.place,
  c.flush.ensures.frame,
  c.flush.ensures.same,
)

pub returns-else-piece-left-2 : goal.returns-else-piece-left-2
returns-else-piece-left-2 g c = (
  prints_on (g.O.Sink.told c.args.self.now.out.now) (g.O.Sink.told c.flush.new.self.out.now) (g.O.Sink.told c.send.new.out)
      (shown c.args.self.now.pad.now) (shown c.flush.new.self.pad.now) (shown c.flush.new.self.pad.now)
      c.args.self.now.lost c.flush.new.self.lost c.send.new.lost [] c.args.piece.now c.flush.ensures.prints
      (pushed (g.O.Sink.told c.flush.new.self.out.now) (g.O.Sink.told c.send.new.out) (shown c.flush.new.self.pad.now)
      (shown c.flush.new.self.pad.now) c.flush.new.self.lost c.send.new.lost c.args.piece.now c.flush.ensures.empty c.flush.ensures.empty
      c.send.ensures.sends),
  blames_on (g.O.Sink.faults c.args.self.now.out.now) (g.O.Sink.faults c.flush.new.self.out.now) (g.O.Sink.faults c.send.new.out)
      c.args.self.now.lost c.flush.new.self.lost c.send.new.lost c.flush.ensures.blames c.send.ensures.blames,
  c.send.ensures.place ∙ c.flush.ensures.place,
  λ f has. c.send.ensures.frame f (c.flush.ensures.frame f has),
  c.flush.ensures.same,
)
