use Rattle.std.proofs.Common.{sym, subst, ◌∙◌, arith}
use Rattle.std.proofs.lemmas.Bool.{false≢true}
use Rattle.run_stage.proofs.Stretching.{all-same}
use Rattle.vidi_recorder.specs.Course.{plan_of}
use Rattle.vidi_recorder.specs.Standing.{IsAsFar}
use Rattle.vidi_recorder.proofs.Kept.{some-past}
use Rattle.vidi_recorder.proofs.recorder.RecorderStretchPlayerGated.turns.Goals as goal

pub returns-clause-turned : goal.returns-clause-turned
returns-clause-turned g c comes first past here stands some ruled last =
    let now = c.args.self.now in
    let env = now.env.now in
    let at = stands.4 in (
      sym (at.next.goes_on some) ∙ comes,
      (
        stands.0,
        stands.1,
        stands.2,
        stands.3,
        record {
          far = subst (IsAsFar first.map.now.channels (plan_of first.stalls.now first.resets.now) (g.K.Sink.told first.sink.now)
              (g.K.Sink.told now.sink.now) (g.E.Env.stands_for env) (g.E.Env.current env) now.cells.now) (sym (all-same past here)) at.far;
          next = record { begins = λ e. comes ∙ sym (some-past past here); goes_on = λ l. absurd (omega (arith, l)) };
        },
      ),
    )

pub returns-clause-on : goal.returns-clause-on
returns-clause-on g c stays first past here stands some ruled last =
    (λ turned. false≢true (sym stays ∙ stands.4.next.goes_on some ∙ turned), stands)
