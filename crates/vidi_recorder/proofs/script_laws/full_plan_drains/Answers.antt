use Rattle.vidi_recorder.proofs.ScriptKept.{full-drains}
use Rattle.vidi_recorder.proofs.script_laws.full_plan_drains.Goals as goal

pub returns : goal.returns
returns c = full-drains
