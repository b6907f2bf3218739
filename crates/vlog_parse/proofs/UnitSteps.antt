-- A unit from what stands behind its header or its item.
use Rattle.std.proofs.Common.{◌≡◌, ℕ, Bool, true, false, Option, None, Some, refl, ap, ◌∙◌}
use Rattle.vlog_tree.specs.Tree.{ItemOf}
use Rattle.vlog_tree.specs.declared.terminal.Terminal.TheVariants as t
use Rattle.vlog_item.specs.vlog_expr.Marks.{Toks, after}
use Rattle.vlog_item.specs.vlog_expr.Reader.{◌>>=◌, found_or}
use Rattle.vlog_parse.specs.FileReader.{header_at}
use Rattle.vlog_item.specs.ItemReader.{item_at}
use Rattle.vlog_parse.specs.UnitReader.{whole_item, behind_header, behind_item, unit_at}

-- a module is open behind these tokens
abbrev goes_on : {Y : Type 0} → Y → Option (Bool × Y)
goes_on rest = Some (true, rest)

outside : {X Y : Type 0} (o : Option (X × Y)) → (o >>= λ h. goes_on h.1) ≡ ((o >>= λ h. Some h.1) >>= goes_on)
outside None = refl
outside (Some h) = refl

whole : {Y : Type 0} (o : Option (Unit {0})) (rest : Y) → (o >>= λ w. goes_on rest) ≡ ((o >>= λ w. Some rest) >>= goes_on)
whole None rest = refl
whole (Some w) rest = refl

inside : {A : Type 0} (o : Option (ItemOf A × Toks A)) → (o >>= λ i. whole_item i.0 i.1 >>= λ w. goes_on i.1)
    ≡ ((o >>= λ i. whole_item i.0 i.1 >>= λ w. Some i.1) >>= goes_on)
inside None = refl
inside (Some i) = whole (whole_item i.0 i.1) i.1

pub header_found : {A : Type 0} (n : ℕ) (inside : Bool) (ws : Toks A) → inside ≡ false
    → unit_at n inside ws ≡ (behind_header n ws >>= goes_on)
header_found n false ws is = outside (header_at n ws)
header_found n true ws is = absurd (cc)

pub item_found : {A : Type 0} (n : ℕ) (in_module : Bool) (ws : Toks A) → in_module ≡ true → after t.Endmodule ws ≡ None
    → unit_at n in_module ws ≡ (behind_item n ws >>= goes_on)
item_found {A} n true ws is none = ap (λ (o : Option (A × Toks A)). found_or o (item_at n ws >>= λ i. whole_item i.0 i.1 >>= λ w. goes_on i.1)
    (λ e. Some (false, e.1))) none ∙ inside (item_at n ws)
item_found n false ws is none = absurd (cc)
