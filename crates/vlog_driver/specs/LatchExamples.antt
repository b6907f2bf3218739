-- Blocks in a scope with the nets s and z of 1 bit and y of 2 bits, declared in the order s, y, z. Each `always` stands on line 2.
use Rattle.std.specs.Prelude.{ℕ, false, true, List, [], ◌∷◌, None}
use Rattle.vlog_tree.specs.declared.expr.NumberKind.TheVariants.{Decimal}
use Rattle.vlog_tree.specs.declared.stmt.AssignOp.TheVariants.{Blocking}
use Rattle.vlog_tree.specs.Tree.{ExprOf, UnaryExpr, NumberPrim, RefPrim, RefOf, RefWith, NoIndex, LastOf, NoLast, Last, IndexSel, IndexedSel}
use Rattle.vlog_tree.specs.Tree.{RefTarget, StmtOf, BeginStmt, IfStmt, CaseStmt, AssignStmt, StmtBody, NoElse, Else}
use Rattle.vlog_tree.specs.Tree.{ArmOf, LabelsArm, DefaultArm, arms_of, stmts_of, ImplicitEvent, AlwaysOf}
use Rattle.vlog_block.specs.vlog_size.Names.{Readable}

abbrev pub scope : Readable
scope = record {
  params = [];
  constants = [];
  nets = record { name = 115 ∷ []; value = record { width = 1 } } ∷ record { name = 121 ∷ []; value = record { width = 2 } }
      ∷ record { name = 122 ∷ []; value = record { width = 1 } } ∷ [];
  memories = [];
  is_checked = true;
}

abbrev ref : ℕ → LastOf ℕ → RefOf ℕ
ref name last = RefWith (record { name = name ∷ []; line = 2 }) NoIndex last

abbrev read : ℕ → LastOf ℕ → ExprOf ℕ
read name last = UnaryExpr None (RefPrim (ref name last))

abbrev digit : ℕ → ExprOf ℕ
digit code = UnaryExpr None (NumberPrim (record { kind = Decimal; text = code ∷ []; line = 2 }))

abbrev zero_number : ExprOf ℕ
zero_number = digit 48

abbrev one_number : ExprOf ℕ
one_number = digit 49

abbrev s_read : ExprOf ℕ
s_read = read 115 NoLast

abbrev z_read : ExprOf ℕ
z_read = read 122 NoLast

abbrev at : ExprOf ℕ → LastOf ℕ
at i = Last (IndexSel i)

-- `NAME[..] = e;`
abbrev set : ℕ → LastOf ℕ → ExprOf ℕ → StmtOf ℕ
set name last e = AssignStmt (RefTarget (ref name last)) Blocking e

abbrev set_y : ExprOf ℕ → StmtOf ℕ
set_y e = set 121 NoLast e

abbrev set_z : ExprOf ℕ → StmtOf ℕ
set_z e = set 122 NoLast e

abbrev block : List (StmtOf ℕ) → StmtOf ℕ
block ss = BeginStmt (stmts_of ss)

abbrev pub always : StmtOf ℕ → AlwaysOf ℕ
always s = record { line = 2; event = ImplicitEvent false; body = StmtBody s }

abbrev label : ExprOf ℕ → StmtOf ℕ → ArmOf ℕ
label e s = LabelsArm (e ∷ []) (StmtBody s)

abbrev default : StmtOf ℕ → ArmOf ℕ
default s = DefaultArm 2 true (StmtBody s)

-- `if (s) z = 1;`
abbrev pub no_else : StmtOf ℕ
no_else = IfStmt s_read (StmtBody (set_z one_number)) NoElse

-- `begin z = 0; if (s) z = 1; end`
abbrev pub mended : StmtOf ℕ
mended = block (set_z zero_number ∷ no_else ∷ [])

-- `if (s) z = 1; else z = 0;`
abbrev pub with_else : StmtOf ℕ
with_else = IfStmt s_read (StmtBody (set_z one_number)) (Else (StmtBody (set_z zero_number)))

-- `begin y[0] = 1; z = y[1]; end`
abbrev pub other_bit_read : StmtOf ℕ
other_bit_read = block (set 121 (at zero_number) one_number ∷ set_z (read 121 (at one_number)) ∷ [])

-- `y[2 +: 1] = 1;`, which writes no bit
abbrev pub none_written : StmtOf ℕ
none_written = set 121 (Last (IndexedSel (digit 50) one_number)) one_number

-- `begin y[2 +: 1] = 1; z = y[0]; end`
abbrev pub none_in_range : StmtOf ℕ
none_in_range = block (none_written ∷ set_z (read 121 (at zero_number)) ∷ [])

-- `begin y = 0; z = y[1]; end`
abbrev pub read_after : StmtOf ℕ
read_after = block (set_y zero_number ∷ set_z (read 121 (at one_number)) ∷ [])

-- `if (s) begin z = 1; y = 1; end`
abbrev pub two_nets : StmtOf ℕ
two_nets = IfStmt s_read (StmtBody (block (set_z one_number ∷ set_y one_number ∷ []))) NoElse

-- `y[s] = 1;`
abbrev pub at_run_time : StmtOf ℕ
at_run_time = set 121 (at s_read) one_number

-- `begin y = 0; y[s] = 1; end`
abbrev pub whole_before : StmtOf ℕ
whole_before = block (set_y zero_number ∷ at_run_time ∷ [])

-- `begin y = 0; y[z] = 1; z = 0; end`
abbrev pub index_read : StmtOf ℕ
index_read = block (set_y zero_number ∷ set 121 (at z_read) one_number ∷ set_z zero_number ∷ [])

-- `case (s) 0: z = 1; 1: z = 0; endcase`
abbrev pub no_default : StmtOf ℕ
no_default = CaseStmt s_read (arms_of (label zero_number (set_z one_number) ∷ label one_number (set_z zero_number) ∷ []))

-- `case (s) 0: z = 1; default: z = 0; endcase`
abbrev pub with_default : StmtOf ℕ
with_default = CaseStmt s_read (arms_of (label zero_number (set_z one_number) ∷ default (set_z zero_number) ∷ []))

-- `case (s) 0: z = 1; z: z = 0; default z = 0; endcase`
abbrev pub label_read : StmtOf ℕ
label_read =
    CaseStmt s_read (arms_of (label zero_number (set_z one_number) ∷ label z_read (set_z zero_number) ∷ default (set_z zero_number) ∷ []))
