-- Names that stand twice or aren't declared, computed on examples.
use Rattle.std.proofs.Common.{◌≡◌, ℕ, false, None, Some, [], ◌∷◌, refl}
use Rattle.vlog_tree.specs.declared.module.Direction.TheVariants.{Input}
use Rattle.vlog_tree.specs.Tree.{IdentOf, ExprOf, UnaryExpr, RefPrim, RefWith, NoIndex, NoLast, RefTarget, PortOf, WiresItem}
use Rattle.vlog_tree.specs.Tree.{AssignItem, InstanceItem, ConnOf, ModuleOf}
use Rattle.vlog_names.specs.declared.error.NameError.TheVariants as e
use Rattle.vlog_names.specs.Entries.{declared, modules_of}
use Rattle.vlog_names.specs.Twice.{twice_names, twice_in}
use Rattle.vlog_names.specs.Unknown.{unknown_names, unknown_module, unknown_in, unknown_instance, unknown_at}

-- a name of one letter
abbrev ident : ℕ → IdentOf ℕ
ident letter = record { name = letter ∷ []; line = 1 }

abbrev read : ℕ → ExprOf ℕ
read letter = UnaryExpr None (RefPrim (RefWith (ident letter) NoIndex NoLast))

abbrev input : ℕ → PortOf ℕ
input letter = record { head = Some (record { direction = Input false; range = None }); id = ident letter; init = None }

abbrev conn : ℕ → ℕ → ConnOf ℕ
conn port letter = record { line = 1; id = ident port; value = Some (read letter) }

-- `module m(input a); wire b, a, b; n n(.x(a), .x(q)); assign r = a; endmodule`, where a is 97, b 98, m 109, n 110, q 113, r 114, x 120
abbrev unit : ModuleOf ℕ
unit = record {
  name = 109 ∷ [];
  parameters = [];
  ports = input 97 ∷ [];
  items = WiresItem None (ident 98 ∷ ident 97 ∷ ident 98 ∷ [])
      ∷ InstanceItem (record { module_id = ident 110; parameters = []; id = ident 110; ports = conn 120 97 ∷ conn 120 113 ∷ [] })
      ∷ AssignItem (record { target = RefTarget (RefWith (ident 114) NoIndex NoLast); value = read 97 } ∷ []) ∷ [];
}

-- `module n(input x); endmodule`
abbrev child : ModuleOf ℕ
child = record { name = 110 ∷ []; parameters = []; ports = input 120 ∷ []; items = [] }

-- `m`, `n` and once more `m`: `a` and `b` in the module, `x` in its connections, then `m` itself and what stands in it again
twice : twice_names (record { modules = unit ∷ child ∷ unit ∷ [] })
    ≡ (e.Twice (97 ∷ []) ∷ e.Twice (98 ∷ []) ∷ e.Twice (120 ∷ []) ∷ e.Twice (109 ∷ []) ∷ e.Twice (97 ∷ []) ∷ e.Twice (98 ∷ [])
    ∷ e.Twice (120 ∷ []) ∷ [])
unfolding twice_names twice_in declared modules_of
twice = refl

-- with the top `z`: this top, `q` in a connection and the target `r`
unknown : unknown_names (record { modules = unit ∷ child ∷ [] }) (122 ∷ [])
    ≡ (e.Unknown (122 ∷ []) ∷ e.Unknown (113 ∷ []) ∷ e.Unknown (114 ∷ []) ∷ [])
unfolding unknown_names unknown_module unknown_in unknown_instance unknown_at declared modules_of
unknown = refl

-- without `n` it isn't declared, and no port of it is looked at
alone : unknown_names (record { modules = unit ∷ [] }) (109 ∷ [])
    ≡ (e.Unknown (110 ∷ []) ∷ e.Unknown (113 ∷ []) ∷ e.Unknown (114 ∷ []) ∷ [])
unfolding unknown_names unknown_module unknown_in unknown_instance unknown_at declared modules_of
alone = refl
