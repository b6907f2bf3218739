use Rattle.std.proofs.Common.{◌≡◌, ℕ, Option, length, ap, sym, subst, ◌∙◌}
use Rattle.chan_replayer.specs.trace_model.declared.row.Row.{Row}
use Rattle.chan_replayer.specs.trace_model.Row.{all_widths, IsOver}
use Rattle.chan_replayer.specs.trace_model.Stability.{IsLowestUnstable}
use Rattle.chan_replayer.proofs.trace_model_lemmas.ContentsLemmas.{fit-length}
use Rattle.chan_replayer.specs.chan_map.declared.pins.Map.{Map}
use Rattle.run_stage.specs.Stretching.{is_fresh_behind}
use Rattle.run_stage.proofs.Stretching.{next, stays, stops}
use Rattle.run_stage.proofs.Turning.{stable-kept}
use Rattle.run_stage.proofs.cycle.play_cycle.Goals as goal

pub returns-in-Some-clause-stops : goal.returns-in-Some-clause-stops
returns-in-Some-clause-stops g c k same first start d past here stands mapped fresh at =
    let m = c.args.map.now in
    let given = g.S.Stage.map c.args.stage.now in
    let runs = g.S.Stage.runs start c.args.stage.now in
    let rule = g.P.StretchPlayer.rule first in
    let turns = g.P.StretchPlayer.turns first in
    let allows = g.G.Given.allows given.channels c.given.result.now in
    let ruled = subst (λ (n : Map). (r : Row) → g.G.Given.allows n.channels c.given.result.now here r → r.fresh ≡ is_fresh_behind past here
    → rule past here r) (mapped ∙ sym c.requires.mapped) (λ r. c.given.ensures.ruled first past here r stands) in (
      stops d m given rule turns allows runs past here c.args.rows.now.last c.drive.new.row c.requires.mapped ruled at
          (c.drive.ensures.row start d) (c.drive.ensures.fresh ∙ fresh) k
          (subst (λ (o : Option ℕ). IsLowestUnstable m.channels c.args.rows.now.last c.drive.new.row o) same c.in-Some.ensures),
      stays d m rule turns runs (g.S.Stage.runs start c.drive.new.self) c.args.rows.now.last past here
          (λ s on. c.drive.ensures.runs start d s _ here on) at,
    )

pub returns-in-Some-clause-rows : goal.returns-in-Some-clause-rows
returns-in-Some-clause-rows g c = record {
  places = sym (fit-length (all_widths c.args.map.now.channels) c.drive.new.row.contents
      (subst (λ (m : Map). IsOver m.channels c.drive.new.row) c.requires.mapped c.drive.ensures.over).contents);
  over = c.requires.rows.over;
}

pub returns-clause-on : goal.returns-clause-on
returns-clause-on g c same first start d past here stands mapped fresh on at =
    let m = c.args.map.now in
    let given = g.S.Stage.map c.args.stage.now in
    let runs = g.S.Stage.runs start c.args.stage.now in
    let rule = g.P.StretchPlayer.rule first in
    let turns = g.P.StretchPlayer.turns first in
    let allows = g.G.Given.allows given.channels c.given.result.now in
    let ruled = subst (λ (n : Map). (r : Row) → g.G.Given.allows n.channels c.given.result.now here r → r.fresh ≡ is_fresh_behind past here
    → rule past here r) (mapped ∙ sym c.requires.mapped) (λ r. c.given.ensures.ruled first past here r stands) in
    next d m given rule turns allows runs past here c.args.rows.now.last c.drive.new.row c.requires.mapped ruled at
    (c.drive.ensures.row start d) (c.drive.ensures.fresh ∙ fresh) c.swap.new.y c.swap.ensures.y_after
    (g.S.Stage.runs start c.clock.new.self) (g.S.Stage.map c.drive.new.self) (c.drive.ensures.map ∙ c.requires.mapped) on
    (λ s before runs. c.clock.ensures.next start d s before here c.drive.new.row (c.drive.ensures.runs start d s before here runs) c.drive.ensures.driven)
    c.in_default.ensures

pub returns-clause-stable : goal.returns-clause-stable
returns-clause-stable g c same past here is stable = record {
  before = stable.before;
  last = stable-kept c.args.map.now.channels here c.args.rows.now.last c.drive.new.row c.swap.new.y c.swap.ensures.y_after stable.last is
      c.in_default.ensures;
}

pub returns-clause-rows : goal.returns-clause-rows
returns-clause-rows g c = record {
  places = ap (λ (r : Row). length r.contents) c.swap.ensures.x_after
      ∙ sym (fit-length (all_widths c.args.map.now.channels) c.args.rows.now.last.contents c.requires.rows.over.contents);
  over = subst (λ (r : Row). IsOver c.args.map.now.channels r) (sym c.swap.ensures.y_after)
      (subst (λ (m : Map). IsOver m.channels c.drive.new.row) c.requires.mapped c.drive.ensures.over);
}
