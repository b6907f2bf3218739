-- The instances of a design in preorder (IEEE 1364-2005, 12.5; this project's profile), and E12 of instances and nets.
use Rattle.std.specs.Prelude.{ℕ, zero, suc, ◌+◌, ◌<◌, nat_lt, List, [], ◌∷◌, ◌++◌, length, Option, None, Some}
use Rattle.std.specs.List.{flat_map, sum_by}
use Rattle.vlog_size.specs.vidi_bits.Findings.{told_if}
use Rattle.vlog_hierarchy.specs.declared.error.HierarchyError.{HierarchyError}
use Rattle.vlog_hierarchy.specs.declared.error.HierarchyError.TheVariants as e
use Rattle.vlog_hierarchy.specs.declared.error.HierarchyLimit.TheVariants.{Instances, Nets}
use Rattle.vlog_hierarchy.specs.Outlines.{Child, Outline, children_at, nets_at}
use Rattle.vlog_hierarchy.specs.declared.nodes.TheConstants.{MOST_INSTANCES, MOST_LEVELS, MOST_NETS}

-- an instance: the names of the instances that lead to it, the top's left out, and the place of its module in the file
pub record Node : Type 0 where
  pub path : List (List ℕ)
  pub place : ℕ

-- an instance of module k and all those in it, in preorder and text order, at most n levels deep
unfoldable pub nodes : ℕ → List Outline → List (List ℕ) → ℕ → List Node
nodes zero os path k = []
nodes (suc n) os path k = record { path = path; place = k }
    ∷ flat_map (λ (c : Child). nodes n os (path ++ c.instance.id.name ∷ []) c.place) (children_at os k)

-- the same for an instance in an instance of this path
abbrev pub child_nodes : ℕ → List Outline → List (List ℕ) → Child → List Node
child_nodes n os path c = nodes n os (path ++ c.instance.id.name ∷ []) c.place

-- the instances of a top. More than 4,096 of them are too many, and 4,096 are at most 4,096 levels deep
unfoldable pub nodes_of : List Outline → Option ℕ → List Node
nodes_of os None = []
nodes_of os (Some top) = nodes MOST_LEVELS os [] top

-- the number of nets of these instances
abbrev pub net_total : List Outline → List Node → ℕ
net_total os ns = sum_by (λ (n : Node). nets_at os n.place) ns

-- for each instance the number of nets before its own, where f nets come before the first one's
abbrev pub firsts : List Outline → ℕ → List Node → List ℕ
firsts os f [] = []
firsts os f (n ∷ ns) = f ∷ firsts os (f + nets_at os n.place) ns

-- E12: more than 4,096 instances, then more than 65,536 nets
abbrev pub count_faults : List Node → List HierarchyError
count_faults ns = told_if (nat_lt MOST_INSTANCES (length ns)) (e.TooBig Instances)

abbrev pub net_faults : List Outline → List Node → List HierarchyError
net_faults os ns = told_if (nat_lt MOST_NETS (net_total os ns)) (e.TooBig Nets)

abbrev pub size_faults : List Outline → List Node → List HierarchyError
size_faults os ns = count_faults ns ++ net_faults os ns

-- why the list of instances wasn't made, where there are so many
abbrev pub IsTooMany : HierarchyError → ℕ → Type 0
IsTooMany (e.TooBig Instances) n = MOST_INSTANCES < n
IsTooMany (e.TooBig Nets) n = ⊥
IsTooMany (e.Clock line) n = ⊥
IsTooMany e.Memory n = Unit {0}

abbrev pub AreTooManyNets : HierarchyError → ℕ → Type 0
AreTooManyNets (e.TooBig Instances) n = ⊥
AreTooManyNets (e.TooBig Nets) n = MOST_NETS < n
AreTooManyNets (e.Clock line) n = ⊥
AreTooManyNets e.Memory n = Unit {0}
