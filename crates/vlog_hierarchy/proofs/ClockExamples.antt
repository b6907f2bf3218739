-- E13's definitions on a top with the ports c and d, a clocked block of c, and an instance with c joined to its k.
use Rattle.std.proofs.Common.{◌≡◌, ℕ, List, [], ◌∷◌, None, Some, refl}
use Rattle.vlog_size.specs.Table.{Named}
use Rattle.vlog_tree.specs.Tree.{ExprOf, UnaryExpr, RefPrim, ParenPrim, RefWith, NoIndex, NoLast, ConnOf, InstanceOf, ItemOf, ModuleOf}
use Rattle.vlog_tree.specs.Tree.{AlwaysItem, InstanceItem, PosedgeEvent, EmptyBody}
use Rattle.vlog_hierarchy.specs.declared.error.HierarchyError.TheVariants as error
use Rattle.vlog_hierarchy.specs.declared.scopes.Scope.{Scope}
use Rattle.vlog_hierarchy.specs.Outlines.{Outline}
use Rattle.vlog_hierarchy.specs.Clock.{ports_from, child_joined, scopes, clock_ports, scope_ports, clock_marks, name_faults, scope_faults}
use Rattle.vlog_hierarchy.specs.Clock.{clock_faults}

abbrev c : List ℕ
c = 99 ∷ []

abbrev d : List ℕ
d = 100 ∷ []

abbrev k : List ℕ
k = 107 ∷ []

abbrev named : List ℕ → ℕ → Named ℕ
named name port = record { name = name; value = port }

abbrev read : ℕ → List ℕ → ExprOf ℕ
read line name = UnaryExpr None (RefPrim (RefWith (record { name = name; line = line }) NoIndex NoLast))

abbrev conn : ℕ → List ℕ → ExprOf ℕ → ConnOf ℕ
conn line name value = record { line = line; id = record { name = name; line = line }; value = Some value }

-- .k(c), .d((d))
abbrev instance : InstanceOf ℕ
instance = record {
  module_id = record { name = []; line = 4 };
  parameters = [];
  id = record { name = 117 ∷ []; line = 4 };
  ports = conn 4 k (read 4 c) ∷ conn 4 d (UnaryExpr None (ParenPrim 4 (read 4 d))) ∷ [];
}

abbrev block : ℕ → List ℕ → ItemOf ℕ
block line name = AlwaysItem (record { line = line; event = PosedgeEvent (record { name = name; line = line }); body = EmptyBody })

abbrev unit : List (ItemOf ℕ) → ModuleOf ℕ
unit items = record { name = []; parameters = []; ports = []; items = items }

abbrev outlines : List Outline
outlines = record { nets = 2; children = record { instance = instance; place = 1 } ∷ [] } ∷ record { nets = 1; children = [] } ∷ []

top_ports : ports_from 0 [] (c ∷ d ∷ []) ≡ named c 0 ∷ named d 1 ∷ []
top_ports = refl

-- what stands in parentheses isn't joined
inner : child_joined (named c 0 ∷ named d 1 ∷ []) instance ≡ named k 0 ∷ []
unfolding child_joined
inner = refl

abbrev found : List Scope
found = record { place = 0; joined = named c 0 ∷ named d 1 ∷ [] } ∷ record { place = 1; joined = named k 0 ∷ [] } ∷ []

in_preorder : scopes 3 outlines (named c 0 ∷ named d 1 ∷ []) 0 ≡ found
unfolding scopes child_joined
in_preorder = refl

-- with a block of c in the top and one of k in the instance nothing is found
lawful : clock_faults (unit (block 3 c ∷ InstanceItem instance ∷ []) ∷ unit (block 7 k ∷ []) ∷ []) 2 found ≡ []
unfolding clock_faults clock_ports scope_ports clock_marks scope_faults name_faults
lawful = refl

-- a block of d in the top comes first, and then k is another port than the first block's. So d, which is read at line 4, is a clock too
refused : clock_faults (unit (block 3 d ∷ InstanceItem instance ∷ []) ∷ unit (block 7 k ∷ []) ∷ []) 2 found
    ≡ error.Clock 4 ∷ error.Clock 7 ∷ []
unfolding clock_faults clock_ports scope_ports clock_marks scope_faults name_faults
refused = refl
