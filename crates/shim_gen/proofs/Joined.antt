-- Connections by labels.
use Rattle.std.proofs.Common.{◌≡◌, ℕ, List, [], ◌∷◌, ◌++◌, Option, length, sym, ap, ◌∙◌}
use Rattle.std.proofs.lemmas.List.{append-nil}
use Rattle.std.specs.Borrow.{Bor}
use Rattle.vlog_tree.specs.Tree.{ExprOf, ConnOf}
use Rattle.shim_trees.specs.Pieces.{Name, ident, each, upto}
use Rattle.shim_gen.specs.declared.names.Label.{Label}
use Rattle.shim_gen.specs.declared.conns.ConnRow.TheVariants as conns
use Rattle.shim_gen.specs.Labels.{text, text_at}
use Rattle.shim_gen.specs.Rows.{joined, joined_at, conn_of, conn_at, conns_of}
use Rattle.shim_gen.proofs.Upto.{each_is_upto}

abbrev conn_with : Name → Option (ExprOf ℕ) → ConnOf ℕ
conn_with x v = record { line = 0; id = ident x; value = v }

-- names with their numbers make the connection of this number
pub same_conn : (a port : Label) (b label : Option Label) (i : ℕ) → text a ≡ text_at port i → joined b ≡ joined_at label i
    → conn_of a b ≡ conn_at port label i
same_conn a port b label i names nets =
    ap (λ (x : Name). conn_with x (joined b)) names ∙ ap (λ (v : Option (ExprOf ℕ)). conn_with (text_at port i) v) nets

-- a row over widths is one of as many connections
pub each_row : (port : Label) (label : Option Label) (widths : Bor (List ℕ)) (old new : List (ConnOf ℕ))
    → new ≡ old ++ upto (λ j. conn_at port label j) 0 (length widths.now) → new ≡ old ++ conns_of (conns.Each port label widths ∷ [])
each_row port label widths old new is =
    is
    ∙ ap (λ ys. old ++ ys) (sym (each_is_upto (λ j. conn_at port label j) 0 widths.now))
    ∙ ap (λ ys. old ++ ys) (sym (append-nil (each (λ i (_ : ℕ). conn_at port label i) 0 widths.now)))
