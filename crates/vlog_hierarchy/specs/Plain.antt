-- Outlines and instances of the code as plain data, without pointers.
use Rattle.std.specs.Prelude.{ℕ, List, map}
use Rattle.std.specs.Borrow.{Bor}
use Rattle.vlog_tree.specs.Plain.{plain_instance}
use Rattle.vlog_hierarchy.specs.Outlines.{Child, Outline}
use Rattle.vlog_hierarchy.specs.Nodes.{Node}
use Rattle.vlog_hierarchy.specs.declared.outline.Child as child
use Rattle.vlog_hierarchy.specs.declared.outline.Outline as outline
use Rattle.vlog_hierarchy.specs.declared.nodes.Node as node

abbrev pub plain_child : child.Child → Child
plain_child c = record { instance = plain_instance c.instance.now; place = c.place }

abbrev pub plain_outline : outline.Outline → Outline
plain_outline o = record { nets = o.nets; children = map plain_child o.children }

abbrev pub plain_outlines : List outline.Outline → List Outline
plain_outlines os = map plain_outline os

abbrev pub plain_path : List (Bor (List ℕ)) → List (List ℕ)
plain_path path = map (λ (name : Bor (List ℕ)). name.now) path

abbrev pub plain_node : node.Node → Node
plain_node n = record { path = plain_path n.path; place = n.place }

abbrev pub plain_nodes : List node.Node → List Node
plain_nodes ns = map plain_node ns
