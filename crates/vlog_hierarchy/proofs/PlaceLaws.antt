-- A table of places by name grows module by module.
use Rattle.std.proofs.Common.{◌≡◌, ℕ, suc, ◌+◌, ◌<◌, Bool, true, false, cond, if◌then◌else◌, nat_eq, List, [], ◌∷◌, ◌++◌, Option}
use Rattle.std.proofs.Common.{Some, None, map, drop, length, get_or, refl, sym, ap, ◌∙◌, arith, drop-cons, Vec, Global}
use Rattle.std.specs.Cmp.Lexicographic.{pointwise}
use Rattle.std.specs.Map.{lookup}
use Rattle.std.specs.Str.{bytes_eq}
use Rattle.indexmap.specs.IndexMap.{IndexMap, get, get_by, insert_entry}
use Rattle.indexmap.proofs.CallerLemmas.{insert_entry-new}
use Rattle.vlog_size.specs.vidi_bits.Findings.{or_first}
use Rattle.vlog_tree.specs.Plain.{plain_module}
use Rattle.vlog_tree.specs.declared.module.Module.{Module}
use Rattle.vlog_hierarchy.specs.Outlines.{place_from}

abbrev Key : Type 0
Key = Vec ℕ Global

abbrev same_key : Key → Key → Bool
same_key v w = pointwise nat_eq v.items w.items

abbrev is_key : List ℕ → Key → Bool
is_key q v = pointwise nat_eq q v.items

lookup_push : (test : Key → Bool) (es : List (Key × ℕ)) (v : Key) (s : ℕ)
    → lookup test (es ++ (v, s) ∷ []) ≡ or_first (lookup test es) (if test v then Some s else None)
lookup_push test [] v s = refl
lookup_push test (e ∷ es) v s = ap (λ rest. cond (test e.0) (Some e.1) rest) (lookup_push test es v s) ∙ cond_else (test e.0) e.1
    (lookup test es) _
  where
    cond_else : (b : Bool) (x : ℕ) (y z : Option ℕ) → cond b (Some x) (or_first y z) ≡ or_first (cond b (Some x) y) z
    cond_else true x y z = refl
    cond_else false x y z = refl

pub grown : {S : Type 0} (m : IndexMap Key ℕ S) (new : List (Key × ℕ)) (v : Key) (s : ℕ) (name q : List ℕ) → v.items ≡ name
    → get_by (is_key name) m ≡ None → new ≡ insert_entry same_key m.entries v s
    → lookup (is_key q) new ≡ or_first (get_by (is_key q) m) (if bytes_eq q name then Some s else None)
grown m new v s name q is absent inserted =
    let none : get same_key m v ≡ None = ap (λ n. get_by (is_key n) m) is ∙ absent in
    ap (lookup (is_key q)) (inserted ∙ insert_entry-new same_key m v s none) ∙ lookup_push (is_key q) m.entries v s
    ∙ ap (λ n. or_first (get_by (is_key q) m) (if bytes_eq q n then Some s else None)) is

found_at : (old rest whole : Option ℕ) (b : Bool) (s : ℕ) → or_first old (if b then Some s else rest) ≡ whole
    → or_first (or_first old (if b then Some s else None)) rest ≡ whole
found_at None rest whole true s e = e
found_at None rest whole false s e = e
found_at (Some t) rest whole b s e = e

pub next_place : (modules : List Module) (i : ℕ) (m : Module) (q : List ℕ) (old new whole : Option ℕ) → i < length modules
    → m ≡ get_or modules i m
    → or_first old (place_from i (map plain_module (drop i modules)) q) ≡ whole
    → new ≡ or_first old (if bytes_eq q m.name then Some i else None)
    → or_first new (place_from (i + 1) (map plain_module (drop (i + 1) modules)) q) ≡ whole
next_place modules i m q old new whole within at so_far grew =
    let after : suc i ≡ i + 1 = omega arith in
    let split : drop i modules ≡ m ∷ drop (i + 1) modules =
    drop-cons modules i m within ∙ ap (λ (x : Module). x ∷ drop (suc i) modules) (sym at) ∙ ap (λ k. m ∷ drop k modules) after in
    let step : place_from i (map plain_module (drop i modules)) q ≡
    (if bytes_eq q m.name then Some i else place_from (i + 1) (map plain_module (drop (i + 1) modules)) q) =
    ap (λ (rest : List Module). place_from i (map plain_module rest) q) split in
    ap (λ o. or_first o (place_from (i + 1) (map plain_module (drop (i + 1) modules)) q)) grew
    ∙ found_at old (place_from (i + 1) (map plain_module (drop (i + 1) modules)) q) whole (bytes_eq q m.name) i
    (ap (or_first old) (sym step) ∙ so_far)
