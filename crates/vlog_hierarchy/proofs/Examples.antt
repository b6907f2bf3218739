-- The definitions on a top with two instances of one module.
use Rattle.std.proofs.Common.{◌≡◌, ℕ, List, [], ◌∷◌, refl}
use Rattle.vlog_tree.specs.Tree.{InstanceOf}
use Rattle.vlog_hierarchy.specs.Outlines.{Child, Outline}
use Rattle.vlog_hierarchy.specs.Nodes.{Node, nodes, firsts, net_total}

abbrev instance_named : List ℕ → InstanceOf ℕ
instance_named name = record {
  module_id = record { name = []; line = 1 };
  parameters = [];
  id = record { name = name; line = 1 };
  ports = [];
}

abbrev child_named : List ℕ → Child
child_named name = record { instance = instance_named name; place = 1 }

-- four nets and the instances u and v; three nets
abbrev outlines : List Outline
outlines = record { nets = 4; children = child_named (117 ∷ []) ∷ child_named (118 ∷ []) ∷ [] } ∷ record { nets = 3; children = [] } ∷ []

abbrev found : List Node
found = record { path = []; place = 0 } ∷ record { path = (117 ∷ []) ∷ []; place = 1 } ∷ record { path = (118 ∷ []) ∷ []; place = 1 } ∷ []

in_preorder : nodes 4 outlines [] 0 ≡ found
unfolding nodes
in_preorder = refl

numbered : firsts outlines 0 found ≡ 0 ∷ 4 ∷ 7 ∷ []
numbered = refl

counted : net_total outlines found ≡ 10
counted = refl
