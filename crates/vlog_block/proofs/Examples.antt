-- What statements change, computed on examples.
use Rattle.std.proofs.Common.{◌≡◌, ℕ, true, List, [], ◌∷◌, None, refl}
use Rattle.vlog_tree.specs.declared.expr.NumberKind.TheVariants.{Decimal}
use Rattle.vlog_tree.specs.declared.stmt.AssignOp.TheVariants as sign
use Rattle.vlog_tree.specs.Tree.{ExprOf, UnaryExpr, NumberPrim, RefPrim, RefOf, RefWith, NoIndex, LastOf, NoLast, Last, IndexSel, PartSel}
use Rattle.vlog_tree.specs.Tree.{TargetOf, RefTarget, ConcatTarget, targets_of, StmtOf, AssignStmt, stmts_of}
use Rattle.vlog_size.specs.Names.{Readable}
use Rattle.vlog_size.specs.Size.{number}
use Rattle.net_design.specs.declared.act.Timing.TheVariants.{Blocking, Nonblocking}
use Rattle.net_design.specs.declared.values.Values.{Values}
use Rattle.net_design.specs.declared.values.Target.TheVariants.{Net}
use Rattle.net_design.specs.Updates.{apply, update}
use Rattle.vlog_block.specs.Updates.{stmt_updates, stmts_updates}

-- the nets a, b and x of 4, 4 and 8 bits, and their numbers
abbrev scope : Readable
scope = record {
  params = [];
  constants = [];
  nets = record { name = 97 ∷ []; value = record { width = 4 } } ∷ record { name = 98 ∷ []; value = record { width = 4 } }
      ∷ record { name = 120 ∷ []; value = record { width = 8 } } ∷ [];
  memories = [];
  is_checked = true;
}

abbrev before : Values
before = record { nets = 3 ∷ 5 ∷ 0 ∷ []; words = [] }

abbrev ref : ℕ → LastOf ℕ → RefOf ℕ
ref name last = RefWith (record { name = name ∷ []; line = 1 }) NoIndex last

abbrev whole : ℕ → ExprOf ℕ
whole name = UnaryExpr None (RefPrim (ref name NoLast))

abbrev decimal : List ℕ → ExprOf ℕ
decimal digits = UnaryExpr None (NumberPrim (record { kind = Decimal; text = digits; line = 1 }))

-- `target = e;` or `target <= e;`
abbrev set : TargetOf ℕ → ExprOf ℕ → StmtOf ℕ
set target e = AssignStmt target sign.Blocking e

-- `a` and `b` change places in a clocked block, and not in an `always @*`
abbrev swap : List (StmtOf ℕ)
swap = set (RefTarget (ref 97 NoLast)) (whole 98) ∷ set (RefTarget (ref 98 NoLast)) (whole 97) ∷ []

swapped : stmts_updates scope Nonblocking (stmts_of swap) before ≡ update (Net 0) 0 4 5 ∷ update (Net 1) 0 4 3 ∷ []
swapped = refl

copied : stmts_updates scope Blocking (stmts_of swap) before ≡ update (Net 0) 0 4 5 ∷ update (Net 1) 0 4 5 ∷ []
copied = refl

-- `x <= 255; x[3:0] <= 0;`
abbrev twice : List (StmtOf ℕ)
twice =
    set (RefTarget (ref 120 NoLast)) (decimal (50 ∷ 53 ∷ 53 ∷ []))
    ∷ set (RefTarget (ref 120 (Last (PartSel (decimal (51 ∷ [])) (decimal (48 ∷ [])))))) (decimal (48 ∷ [])) ∷ []

last_wins : apply (stmts_updates scope Nonblocking (stmts_of twice) before) before ≡ record { nets = 3 ∷ 5 ∷ 240 ∷ []; words = [] }
unfolding number
last_wins = refl

-- `{a, b[b], x[0]} = 27`: b is 5, so the second part isn't there; the first takes 6, of the number's six bits 011011, and the last 1
out_of_range : stmt_updates scope Blocking (set (ConcatTarget 1 (targets_of (RefTarget (ref 97 NoLast)
    ∷ RefTarget (ref 98 (Last (IndexSel (whole 98)))) ∷ RefTarget (ref 120 (Last (IndexSel (decimal (48 ∷ []))))) ∷ [])))
    (decimal (50 ∷ 55 ∷ []))) before ≡ update (Net 0) 0 4 6 ∷ update (Net 2) 0 1 27 ∷ []
unfolding number
out_of_range = refl
