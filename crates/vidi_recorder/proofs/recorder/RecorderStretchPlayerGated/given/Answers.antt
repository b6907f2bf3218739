use Rattle.std.proofs.Common.{◌∙◌, subst}
use Rattle.run_stage.specs.Stretching.{all_rows}
use Rattle.vidi_recorder.specs.Course.{plan_of}
use Rattle.vidi_recorder.specs.Standing.{rule_within}
use Rattle.vidi_recorder.proofs.Turning.{given-fits, given-ruled}
use Rattle.vidi_recorder.proofs.Turns.{fits-now, lasting}
use Rattle.vidi_recorder.proofs.recorder.RecorderStretchPlayerGated.given.Goals as goal

pub returns-clause-fits : goal.returns-clause-fits
returns-clause-fits g c first past here stands =
    let self = c.args.self.now in
    let env = self.env.now in
    let channels = first.map.now.channels in
    let offer = g.E.Env.offer (g.E.Env.plan env) in
    let rows = all_rows past here in
    let at = stands.4.far in
    let lasts = lasting channels (g.E.Env.channels env) offer (stands.2.channels_stay ∙ stands.2.channels_are) (g.met.E.Env.fits env)
    (g.met.E.Env.stays env) in
    given-fits channels (g.E.Env.current env) self.cells.now.given at.offers
    (fits-now channels offer (g.E.Env.current env) rows lasts (g.met.E.Env.offers_now env rows at.played)) at.below

pub returns-clause-ruled : goal.returns-clause-ruled
returns-clause-ruled g c first past here row stands is marked =
    let self = c.args.self.now in
    let env = self.env.now in
    let channels = first.map.now.channels in
    let plan = plan_of first.stalls.now first.resets.now in
    let at = stands.4.far in
    subst (λ p. rule_within channels (g.E.Env.offer p) plan first.resets.now first.cycles past here row) stands.2.plan
    (given-ruled channels (g.E.Env.current env) self.cells.now.given at.offers (g.E.Env.offer (g.E.Env.plan env)) plan first.resets.now
    first.cycles self.cells.now.room past here self.cells.now.fresh row (g.met.E.Env.offers_now env (all_rows past here) at.played) at.gates
    (at.going at.header.0 at.header.1).stands stands.4.next is marked)
