use Rattle.vidi_recorder.proofs.ScriptKept.{one-script_run}
use Rattle.vidi_recorder.proofs.script_laws.one_script_run.Goals as goal

pub returns : goal.returns
returns c = one-script_run
