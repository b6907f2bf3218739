use Rattle.run_reference.proofs.StepLemmas.{plugs-length}
use Rattle.run_reference.proofs.play.reset.Goals as goal

pub input_pins-requires-clause-plugs : goal.input_pins-requires-clause-plugs
input_pins-requires-clause-plugs g c = plugs-length (g.B.Block.design c.args.block.now) c.args.map.now c.requires
