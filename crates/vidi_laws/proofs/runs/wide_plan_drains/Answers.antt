use Rattle.vidi_laws.proofs.Headline.{wide-drains}
use Rattle.vidi_laws.proofs.runs.wide_plan_drains.Goals as goal

pub returns : goal.returns
returns c = wide-drains
