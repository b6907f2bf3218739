-- The overrides that the code keeps, and the constants of expressions.
use Rattle.std.proofs.Common.{◌≡◌, ℕ, Bool, true, List, Option, Some, None, option_map, ap, ◌∙◌, if◌then◌else◌}
use Rattle.std.specs.Borrow.{Bor}
use Rattle.vlog_tree.specs.declared.expr.Expr.{Expr}
use Rattle.vlog_tree.specs.Plain.{plain_expr}
use Rattle.vlog_size.specs.Table.{Named, value_of, added}
use Rattle.vlog_size.specs.Names.{Readable}
use Rattle.vlog_size.specs.Size.{Sizes, sizes_of, number, is_sound, own}
use Rattle.vlog_scope.specs.Given.{sizes_in}
use Rattle.vlog_scope.specs.Params.{given_or}
use Rattle.vlog_scope.proofs.Named.{value_of_map, added_map}

pub sizes_added : (r : Readable) (xs : List (Named (Bor Expr))) (n : List ℕ) (x : Bor Expr)
    → sizes_in r (added xs n x) ≡ added (sizes_in r xs) n (sizes_of r (plain_expr x.now))
sizes_added r xs n x = added_map (λ (e : Bor Expr). sizes_of r (plain_expr e.now)) xs n x

pub given_some : (r : Readable) (xs : List (Named (Bor Expr))) (n : List ℕ) (x : Bor Expr) (own : Sizes) → value_of xs n ≡ Some x
    → given_or (value_of (sizes_in r xs) n) own ≡ sizes_of r (plain_expr x.now)
given_some r xs n x own h =
    ap (λ o. given_or o own) (value_of_map (λ (e : Bor Expr). sizes_of r (plain_expr e.now)) xs n
    ∙ ap (option_map (λ (e : Bor Expr). sizes_of r (plain_expr e.now))) h)

pub given_none : (r : Readable) (xs : List (Named (Bor Expr))) (n : List ℕ) (own : Sizes) → value_of xs n ≡ None
    → given_or (value_of (sizes_in r xs) n) own ≡ own
given_none r xs n own h =
    ap (λ o. given_or o own) (value_of_map (λ (e : Bor Expr). sizes_of r (plain_expr e.now)) xs n
    ∙ ap (option_map (λ (e : Bor Expr). sizes_of r (plain_expr e.now))) h)

when_plain : (p s : Bool) (whole own : Option ℕ) → p ≡ true → (if p then whole else (if s then own else None)) ≡ whole
when_plain p s whole own h = ap (λ b. if b then whole else (if s then own else None)) h

pub plain_number : (e : Sizes) → e.plain ≡ true → number e ≡ e.whole
unfolding number
plain_number e h = when_plain e.plain (is_sound e) e.whole (own e) h
