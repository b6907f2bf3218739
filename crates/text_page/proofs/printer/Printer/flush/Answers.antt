use Rattle.std.proofs.Common.{List, ℕ, subst}
use Rattle.text_page.specs.Pad.{shown}
use Rattle.text_page.specs.Printing.{Sends}
use Rattle.text_page.proofs.Printed.{flushed}
use Rattle.text_page.proofs.printer.Printer.flush.Goals as goal

pub returns-clause-prints : goal.returns-clause-prints
returns-clause-prints g c =
    flushed (g.O.Sink.told c.args.self.now.out.now) (g.O.Sink.told c.send.new.out) (shown c.args.self.now.pad.now) (shown c.clear.new.self)
    c.args.self.now.lost c.send.new.lost c.clear.ensures.text
    (subst (λ (x : List ℕ). Sends (g.O.Sink.told c.args.self.now.out.now) c.args.self.now.lost (g.O.Sink.told c.send.new.out)
    c.send.new.lost x) c.as_slice.ensures c.send.ensures.sends)
