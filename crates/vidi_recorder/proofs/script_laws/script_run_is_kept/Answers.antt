use Rattle.vidi_recorder.proofs.ScriptKept.{script-kept}
use Rattle.vidi_recorder.proofs.script_laws.script_run_is_kept.Goals as goal

pub returns : goal.returns
returns c = script-kept
