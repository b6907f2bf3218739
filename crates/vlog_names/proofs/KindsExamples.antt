-- Names and assignments of a wrong kind, computed on an example.
use Rattle.std.proofs.Common.{◌≡◌, ℕ, false, None, Some, [], ◌∷◌, refl}
use Rattle.vlog_tree.specs.declared.expr.NumberKind.TheVariants.{Decimal}
use Rattle.vlog_tree.specs.declared.module.Direction.{Direction}
use Rattle.vlog_tree.specs.declared.module.Direction.TheVariants.{Input, Output}
use Rattle.vlog_tree.specs.declared.stmt.AssignOp.TheVariants.{Blocking}
use Rattle.vlog_tree.specs.Tree.{IdentOf, ExprOf, UnaryExpr, NumberPrim, RefPrim, RefOf, RefWith, NoIndex, LastOf, NoLast, Last, IndexSel}
use Rattle.vlog_tree.specs.Tree.{RefTarget, PortOf, ItemOf, AssignItem, AlwaysItem, PosedgeEvent, StmtBody, AssignStmt}
use Rattle.vlog_names.specs.Entries.{declared, modules_of}
use Rattle.vlog_names.specs.Selects.{place_at}
use Rattle.vlog_names.specs.Uses.{wrong_uses, in_module, in_module_with, in_expr, in_ref}

-- a name of one letter on a line
abbrev ident : ℕ → ℕ → IdentOf ℕ
ident letter line = record { name = letter ∷ []; line = line }

abbrev ref : ℕ → ℕ → LastOf ℕ → RefOf ℕ
ref letter line last = RefWith (ident letter line) NoIndex last

abbrev read : ℕ → ℕ → LastOf ℕ → ExprOf ℕ
read letter line last = UnaryExpr None (RefPrim (ref letter line last))

-- `[0]`
abbrev bit : LastOf ℕ
bit = Last (IndexSel (UnaryExpr None (NumberPrim (record { kind = Decimal; text = 48 ∷ []; line = 9 }))))

abbrev port : Direction → ℕ → PortOf ℕ
port direction letter = record { head = Some (record { direction = direction; range = None }); id = ident letter 1; init = None }

abbrev assign : RefOf ℕ → ExprOf ℕ → ItemOf ℕ
assign target value = AssignItem (record { target = RefTarget target; value = value } ∷ [])

-- `module m(input s, output q);` and an item on each of four lines, where m is 109, q 113, s 115:
-- `assign q = s;`, `assign q = s[0];`, `assign s = q;` and `always @(posedge s) q = s;`
example : wrong_uses (record {
  modules = record {
    name = 109 ∷ [];
    parameters = [];
    ports = port (Input false) 115 ∷ port (Output None) 113 ∷ [];
    items = assign (ref 113 2 NoLast) (read 115 2 NoLast)
        ∷ assign (ref 113 3 NoLast) (read 115 3 bit)
        ∷ assign (ref 115 4 NoLast) (read 113 4 NoLast)
        ∷ AlwaysItem (record {
          line = 5;
          event = PosedgeEvent (ident 115 5);
          body = StmtBody (AssignStmt (RefTarget (ref 113 5 NoLast)) Blocking (read 115 5 NoLast));
        }) ∷ [];
  } ∷ [];
})
    -- a scalar with an index, an input that is driven, `=` in a clocked block, and a target that isn't a reg
    ≡ (3 ∷ 4 ∷ 5 ∷ 5 ∷ [])
unfolding wrong_uses in_module in_module_with in_expr in_ref declared modules_of place_at
example = refl
