use Rattle.env_script.proofs.Moves.{no_step}
use Rattle.env_script.proofs.script_env.step_of.Goals as goal

pub returns-in-None : goal.returns-in-None
returns-in-None c = no_step c.args.script.now c.args.channel c.args.number c.in-None.ensures
