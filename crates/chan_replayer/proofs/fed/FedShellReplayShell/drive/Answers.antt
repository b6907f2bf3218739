use Rattle.std.proofs.Common.{◌^◌, ◌<◌, ◌∙◌, ap, length, subst, sym}
use Rattle.vec_clock.specs.trace_model.Mask.{all_up}
use Rattle.vec_clock.specs.trace_model.Row.{all_widths, row_before}
use Rattle.vec_clock.proofs.trace_model_lemmas.ContentsLemmas.{fit-length}
use Rattle.chan_monitor.specs.chan_map.declared.pins.Map.{Map}
use Rattle.chan_replayer.proofs.Feeding.{gates-below, over, running-shown, shown}
use Rattle.chan_replayer.proofs.fed.FedShellReplayShell.drive.Goals as goal

pub returns-clause-over : goal.returns-clause-over
returns-clause-over g c =
    let f = c.args.self.now in
    over f.map.now (g.S.Shell.map f.shell) (g.S.Shell.runs f.shell) c.fill_offers.new.offers _ c.drive.new.row f.map_is
    (g.met.S.Shell.running f.shell) c.drive.ensures.row

pub returns-clause-row : goal.returns-clause-row
returns-clause-row g c d s rows around =
    let f = c.args.self.now in
    shown d f.map.now (g.S.Shell.map f.shell) s rows (g.S.Shell.runs f.shell) f.have c.args.feed.now c.fill_offers.new.offers _
    c.drive.new.row f.map_is f.long (c.all_up.ensures ∙ ap all_up c.len.ensures) c.fill_offers.ensures around
    (c.drive.ensures.row d s (row_before rows (length rows)) around.on)

pub drive-requires-clause-gates : goal.drive-requires-clause-gates
drive-requires-clause-gates g c =
    let f = c.args.self.now in
    subst (λ (m : Map). c.all_up.result < 2 ^ length m.channels) (sym f.map_is)
    (gates-below f.map.now.channels c.all_up.result (c.all_up.ensures ∙ ap all_up c.len.ensures))

pub invariant_of-self : goal.invariant_of-self
invariant_of-self g c =
    let f = c.args.self.now in
    record {
      running = running-shown (g.S.Shell.runs f.shell) (g.S.Shell.runs c.drive.new.self) f.have c.drive.ensures.runs f.running;
      map_is = c.drive.ensures.map ∙ f.map_is;
      some = f.some;
      few = f.few;
      long = f.long;
      places = sym (fit-length (all_widths f.map.now.channels) c.fill_offers.new.offers.contents c.fill_offers.ensures.over.contents);
      small = f.small;
    }
