-- What the names of a joint's nets begin with.
use Rattle.std.specs.Prelude.{ℕ, List, codes}
use Rattle.sample_gen.specs.declared.joint.Joint.{Joint}
use Rattle.sample_gen.specs.declared.joint.Joint.TheVariants.{Input, Wires, Output}
use Rattle.sample_gen.specs.Design.{wire}

abbrev pub joint_text : Joint → List ℕ
joint_text Input = codes "a"
joint_text (Wires i) = wire i
joint_text Output = codes "b"
