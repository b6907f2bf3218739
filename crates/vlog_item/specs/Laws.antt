-- What the reader of items means: what is spelled is read, and what is read is spelled.
use Rattle.std.specs.Prelude.{◌≡◌, ◌≤◌, ℕ, None, Some, length}
use Rattle.vlog_tree.specs.declared.terminal.Terminal.TheVariants as t
use Rattle.vlog_tree.specs.Tree.{AlwaysItem, ItemOf}
use Rattle.vlog_tree.specs.Spelling.{item_words}
use Rattle.vlog_tree.specs.Shape.{IsGoodItem}
use Rattle.vlog_stmt.specs.vlog_expr.Marks.{Toks, spell, AreWords, AreLawful, after}
use Rattle.vlog_stmt.specs.vlog_expr.Bare.{forget_all}
use Rattle.vlog_stmt.specs.vlog_expr.Reader.{fuel_for}
use Rattle.vlog_stmt.specs.vlog_expr.Laws.{Holds, seen}
use Rattle.vlog_item.specs.BareItem.{bare_item}
use Rattle.vlog_item.specs.ItemReader.{item_at}

-- no `else` follows the item, where it is an `always`
abbrev pub IsWholeItem : {A B : Type 0} → ItemOf A → Toks B → Type 0
IsWholeItem (AlwaysItem a) rest = after t.Else rest ≡ None
IsWholeItem _ rest = Unit {0}

-- the tokens of a whole item of good shape are read as it
abbrev pub ItemsAreRead : Type 0
ItemsAreRead = (i : ItemOf (Unit {0})) (fuel : ℕ) (rest : Toks (Unit {0})) → IsGoodItem i → IsWholeItem i rest
    → fuel_for (length (item_words i)) ≤ fuel → item_at fuel (spell tt (item_words i) rest) ≡ Some (i, rest)

abbrev pub ReadItemsAreSpelled : Type 0 → Type 0
ReadItemsAreSpelled A = (fuel : ℕ) (ws : Toks A) → AreLawful ws
    → Holds (item_at fuel ws) (λ x. IsGoodItem x.0 × AreWords (item_words x.0) ws x.1)

abbrev pub ItemLinesDontCount : Type 0 → Type 0
ItemLinesDontCount A = (fuel : ℕ) (ws : Toks A) → item_at fuel (forget_all ws) ≡ seen bare_item (item_at fuel ws)
