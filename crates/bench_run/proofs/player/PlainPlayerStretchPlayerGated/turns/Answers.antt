use Rattle.std.proofs.Common.{ap, sym, subst, ◌∙◌}
use Rattle.std.proofs.lemmas.Bool.{false≢true}
use Rattle.env_script.specs.Resets.{is_due}
use Rattle.run_stage.proofs.Stretching.{all-same}
use Rattle.bench_run.specs.Playing.{IsAt}
use Rattle.bench_run.proofs.Growing.{said-due}
use Rattle.bench_run.proofs.player.PlainPlayerStretchPlayerGated.turns.Goals as goal

pub returns-clause-turned : goal.returns-clause-turned
returns-clause-turned g c comes first past here at some ruled last =
    let now = c.args.self.now in
    let cells = now.cells.now in
    let env = now.env.now in
    let told = c.is_due.ensures ∙ ap (λ times. is_due times cells.resets cells.cycles) c.as_slice.ensures in (
      said-due first.resets.now now.resets.now cells.resets cells.cycles past here at.0.resets_are at.1.came at.1.count ∙ sym told ∙ comes,
      (at.0, subst (IsAt first.map.now.channels (g.E.Env.stands_for env) (g.E.Env.current env) cells) (sym (all-same past here)) at.1),
    )

pub returns-clause-on : goal.returns-clause-on
returns-clause-on g c stays first past here at some ruled last =
    let now = c.args.self.now in
    let cells = now.cells.now in
    let told = c.is_due.ensures ∙ ap (λ times. is_due times cells.resets cells.cycles) c.as_slice.ensures in (
      (λ comes. false≢true (sym stays ∙ told
          ∙ sym (said-due first.resets.now now.resets.now cells.resets cells.cycles past here at.0.resets_are at.1.came at.1.count) ∙ comes)),
      at,
    )
