-- A file of two modules, and the numbers of its nets. Its text is
--   module leaf(input c, input a, output reg q = 1, output y);
--     assign y = q ^ a;  always @(posedge c) q <= y;
--   endmodule
--   module top(input c, input [1:0] x, output [1:0] z);
--     leaf u(.c(c), .a(x[0]), .y(z[0]));  leaf w(.c(c), .a(x[1]), .y(z[1]));
--   endmodule
use Rattle.std.specs.Prelude.{ℕ, max, false, List, [], ◌∷◌, Option, None, Some, if◌then◌else◌}
use Rattle.vlog_tree.specs.declared.expr.NumberKind.TheVariants.{Decimal}
use Rattle.vlog_tree.specs.declared.expr.BinaryOp.TheVariants.{Xor}
use Rattle.vlog_tree.specs.declared.stmt.AssignOp.TheVariants.{Nonblocking}
use Rattle.vlog_tree.specs.declared.module.Direction.{Direction}
use Rattle.vlog_tree.specs.declared.module.Direction.TheVariants.{Input, Output}
use Rattle.vlog_tree.specs.declared.module.NetKind.TheVariants.{Reg}
use Rattle.vlog_tree.specs.Tree.{IdentOf, ExprOf, UnaryExpr, BinaryExpr, NumberPrim, RefPrim, RefWith, NoIndex, Last, IndexSel, RangeOf}
use Rattle.vlog_tree.specs.Tree.{AssignStmt, StmtBody, PosedgeEvent, PortOf, ConnOf, InstanceOf, AssignItem, AlwaysItem, InstanceItem}
use Rattle.vlog_tree.specs.Tree.{ModuleOf, TargetOf, RefTarget}
use Rattle.vlog_names.specs.vlog_size.declared.scope.ScopeNet.{ScopeNet}
use Rattle.vlog_names.specs.vlog_size.declared.scope.Scope.{Scope}
use Rattle.vlog_names.specs.vlog_size.Table.{Named}
use Rattle.vlog_scope.specs.Scope.{readable_at, scope_with, scope_of}
use Rattle.net_design.specs.declared.values.Values.{Values}
use Rattle.net_design.specs.Updates.{apply}
use Rattle.vlog_block.specs.Value.{value, width_of}
use Rattle.vlog_block.specs.Targets.{target_width, target_updates}
use Rattle.vlog_driver.specs.Names.{Full, State, numbers_at, same_path}
use Rattle.vlog_driver.specs.Placed.{names_at}
use Rattle.vlog_driver.specs.Items.{whole, read}

abbrev pub id : ℕ → IdentOf ℕ
id letter = record { name = letter ∷ []; line = 1 }

abbrev pub digit : ℕ → ExprOf ℕ
digit code = UnaryExpr None (NumberPrim (record { kind = Decimal; text = code ∷ []; line = 1 }))

-- one bit of a vector
abbrev pub bit : ℕ → ℕ → ExprOf ℕ
bit letter code = UnaryExpr None (RefPrim (RefWith (id letter) NoIndex (Last (IndexSel (digit code)))))

abbrev port : Direction → Option (RangeOf ℕ) → ℕ → Option (ExprOf ℕ) → PortOf ℕ
port direction range letter init =
    record { head = Some (record { direction = direction; range = range }); id = id letter; init = init }

abbrev conn : ℕ → ExprOf ℕ → ConnOf ℕ
conn letter e = record { line = 1; id = id letter; value = Some e }

-- a leaf with this name, whose bits of x and z have this digit as their place
abbrev leaf_at : ℕ → ℕ → InstanceOf ℕ
leaf_at letter code = record {
  module_id = id 108;
  parameters = [];
  id = id letter;
  ports = conn 99 (read (id 99)) ∷ conn 97 (bit 120 code) ∷ conn 121 (bit 122 code) ∷ [];
}

abbrev pub leaf : ModuleOf ℕ
leaf = record {
  name = 108 ∷ [];
  parameters = [];
  ports = port (Input false) None 99 None ∷ port (Input false) None 97 None ∷ port (Output (Some Reg)) None 113 (Some (digit 49))
      ∷ port (Output None) None 121 None ∷ [];
  items = AssignItem (record { target = whole (id 121); value = BinaryExpr (read (id 113)) Xor (read (id 97)) } ∷ [])
      ∷ AlwaysItem (record {
        line = 1;
        event = PosedgeEvent (id 99);
        body = StmtBody (AssignStmt (whole (id 113)) Nonblocking (read (id 121)));
      }) ∷ [];
}

abbrev pair : Option (RangeOf ℕ)
pair = Some (record { first = digit 49; second = digit 48 })

abbrev pub top : ModuleOf ℕ
top = record {
  name = 116 ∷ [];
  parameters = [];
  ports = port (Input false) None 99 None ∷ port (Input false) pair 120 None ∷ port (Output None) pair 122 None ∷ [];
  items = InstanceItem (leaf_at 117 48) ∷ InstanceItem (leaf_at 119 49) ∷ [];
}

abbrev pub file : List (ModuleOf ℕ)
file = leaf ∷ top ∷ []

-- ---- numbers by full name

-- the number that a list has for a full name, 0 where it has none
abbrev number_in : List (Full × ℕ) → Full → ℕ
number_in [] full = 0
number_in (e ∷ es) full = if same_path e.0 full then e.1 else number_in es full

abbrev in_top : ℕ → Full
in_top letter = (letter ∷ []) ∷ []

abbrev in_leaf : ℕ → ℕ → Full
in_leaf instance letter = (instance ∷ []) ∷ (letter ∷ []) ∷ []

-- the initial state: both registers are 1
abbrev pub state : State
state = record { nets = number_in ((in_leaf 117 113, 1) ∷ (in_leaf 119 113, 1) ∷ []); words = λ full k. 0 }

-- what it settles to with x = 2: a of w is 1, y of u is 1 and y of w is 0, so z is 1
abbrev pub settled : Full → ℕ
settled = number_in ((in_top 120, 2) ∷ (in_top 122, 1) ∷ (in_leaf 117 113, 1) ∷ (in_leaf 117 121, 1) ∷ (in_leaf 119 97, 1)
    ∷ (in_leaf 119 113, 1) ∷ [])

-- the next state: the register of w is 0
abbrev pub after : State
after = record { nets = number_in ((in_leaf 117 113, 1) ∷ []); words = λ full k. 0 }

abbrev pub top_scope : Scope
top_scope = scope_with [] top

abbrev pub leaf_scope : Scope
leaf_scope = scope_of (readable_at top_scope 0) [] leaf

abbrev pub net : ℕ → ℕ → Named ScopeNet
net letter width = record { name = letter ∷ []; value = record { width = width } }

-- these numbers, and no words
abbrev pub numbers : List ℕ → Values
numbers nets = record { nets = nets; words = [] }

-- what the example's instances have, in the order of their nets
abbrev pub at_top : Values
at_top = numbers_at settled state.words [] top_scope

abbrev pub at_leaf : ℕ → Values
at_leaf instance = numbers_at settled state.words ((instance ∷ []) ∷ []) leaf_scope

-- v after the assignment of an expression to a target
abbrev pub assigned : Scope → Values → TargetOf ℕ → Scope → Values → ExprOf ℕ → Values
assigned s v target t u e =
    apply (target_updates (names_at s 0) v target (value (names_at t 0) u e
    (max (target_width (names_at s 0) target) (width_of (names_at t 0) e)))) v

-- the target that an output of the leaf w goes to
abbrev pub z_of_w : TargetOf ℕ
z_of_w = RefTarget (RefWith (id 122) NoIndex (Last (IndexSel (digit 49))))
