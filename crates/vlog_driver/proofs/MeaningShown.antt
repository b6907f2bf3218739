-- The definitions on the example.
use Rattle.std.proofs.Common.{◌≡◌, true, false, [], ◌∷◌, refl}
use Rattle.net_design.specs.declared.values.Target.TheVariants.{Net}
use Rattle.net_design.specs.Updates.{update}
use Rattle.vlog_names.specs.vlog_size.Size.{number, assigned_number}
use Rattle.vlog_names.specs.Entries.{declared}
use Rattle.vlog_driver.specs.Items.{whole, read}
use Rattle.vlog_names.specs.Ports.{has_output}
use Rattle.vlog_driver.specs.Settled.{is_held, inputs_of}
use Rattle.vlog_driver.specs.Next.{clocked_updates, initial_number}
use Rattle.vlog_driver.specs.MeaningExamples as example
use Rattle.vlog_driver.specs.MeaningExamples.{top_scope, leaf_scope, net, numbers, at_top, at_leaf, assigned, id, bit, z_of_w}

pub top_nets : top_scope.nets ≡ net 99 1 ∷ net 120 2 ∷ net 122 2 ∷ []
unfolding number
top_nets = refl

pub leaf_nets : leaf_scope.nets ≡ net 99 1 ∷ net 97 1 ∷ net 113 1 ∷ net 121 1 ∷ []
unfolding number
leaf_nets = refl

pub inputs : inputs_of example.top ≡ (99 ∷ []) ∷ (120 ∷ []) ∷ []
inputs = refl

pub numbers_top : at_top ≡ numbers (0 ∷ 2 ∷ 1 ∷ [])
unfolding number
numbers_top = refl

pub numbers_u : at_leaf 117 ≡ numbers (0 ∷ 0 ∷ 1 ∷ 1 ∷ [])
unfolding number
numbers_u = refl

pub numbers_w : at_leaf 119 ≡ numbers (0 ∷ 1 ∷ 1 ∷ 0 ∷ [])
unfolding number
numbers_w = refl

pub output : has_output example.leaf (121 ∷ []) ≡ true
unfolding declared
output = refl

pub no_output : has_output example.leaf (97 ∷ []) ≡ false
unfolding declared
no_output = refl

-- the input a of w gets x[1]
pub input_joined : assigned leaf_scope (numbers (0 ∷ 0 ∷ 1 ∷ 0 ∷ [])) (whole (id 97)) top_scope at_top (bit 120 49)
    ≡ numbers (0 ∷ 1 ∷ 1 ∷ 0 ∷ [])
unfolding number
input_joined = refl

-- z[1] gets the output y of w
pub output_joined : assigned top_scope (numbers (0 ∷ 2 ∷ 3 ∷ [])) z_of_w leaf_scope (at_leaf 119) (read (id 121)) ≡ at_top
unfolding number
output_joined = refl

pub held : is_held example.leaf leaf_scope (113 ∷ []) 2 0 ≡ true
unfolding declared
held = refl

pub not_held : is_held example.leaf leaf_scope (121 ∷ []) 3 0 ≡ false
unfolding declared
not_held = refl

pub clocked : clocked_updates example.leaf leaf_scope (at_leaf 119) ≡ update (Net 2) 0 1 0 ∷ []
unfolding number
clocked = refl

pub initial : initial_number example.leaf leaf_scope (113 ∷ []) ≡ 1
unfolding number assigned_number
initial = refl
