-- The reader of whole units, one after the other.
use Rattle.std.specs.Prelude.{ℕ, zero, suc, Bool, true, false, Option, None, Some}
use Rattle.vlog_tree.specs.declared.terminal.Terminal.TheVariants as t
use Rattle.vlog_tree.specs.Tree.{ItemOf, AlwaysItem}
use Rattle.vlog_item.specs.vlog_expr.Marks.{Toks, after}
use Rattle.vlog_item.specs.vlog_expr.Reader.{◌>>=◌, found_or, Read}
use Rattle.vlog_parse.specs.FileReader.{header_at}
use Rattle.vlog_item.specs.ItemReader.{item_at}

-- no `else` follows the item, where it is an `always`
abbrev pub whole_item : {A : Type 0} → ItemOf A → Toks A → Option (Unit {0})
whole_item (AlwaysItem a) rest = found_or (after t.Else rest) (Some tt) (λ o. None)
whole_item _ rest = Some tt

-- what stands behind a module's header, and behind a whole item
abbrev pub behind_header : {A : Type 0} → ℕ → Toks A → Option (Toks A)
behind_header n ws = header_at n ws >>= λ h. Some h.1

abbrev pub behind_item : {A : Type 0} → ℕ → Toks A → Option (Toks A)
behind_item n ws = item_at n ws >>= λ i. whole_item i.0 i.1 >>= λ w. Some i.1

-- a whole unit, in a module or not; what is read is whether a module is open behind it
abbrev pub unit_at : {A : Type 0} → ℕ → Bool → Toks A → Read A Bool
unit_at n false ws = header_at n ws >>= λ h. Some (true, h.1)
unit_at n true ws = found_or (after t.Endmodule ws) (item_at n ws >>= λ i. whole_item i.0 i.1 >>= λ w. Some (true, i.1))
    (λ o. Some (false, o.1))

abbrev pub read_or : {X Y : Type 0} → Option X → Y → (X → Y) → Y
read_or None other go = other
read_or (Some x) other go = go x

-- what stands behind the whole units at the front, of which there are at most so many
abbrev pub behind_units : {A : Type 0} → ℕ → ℕ → Bool → Toks A → Toks A
behind_units n zero inside ws = ws
behind_units n (suc left) inside ws = read_or (unit_at n inside ws) ws (λ u. behind_units n left u.0 u.1)
