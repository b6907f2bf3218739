-- What code names at an instance's places.
use Rattle.std.proofs.Math.Nat.{zero-add}
use Rattle.std.proofs.Common.{◌≡◌, ℕ, ◌+◌, ◌-◌, nat_le, ◌&&◌, Bool, true, false, cond, if◌then◌else◌, List, [], ◌∷◌, ◌++◌, map}
use Rattle.std.proofs.Common.{refl, ap, sym, ◌∙◌}
use Rattle.std.specs.List.{count_by, flat_map}
use Rattle.std.proofs.lemmas.List.{map-append, append-nil}
use Rattle.std.proofs.lemmas.List.Sums.{sum_by-cons}
use Rattle.std.proofs.Math.Bool.{or-false}
use Rattle.net_design.specs.declared.act.Place.{Place}
use Rattle.net_design.specs.declared.act.Place.TheVariants.{Bits as PlaceBits, BitsFrom, Word as PlaceWord, WordFrom}
use Rattle.net_design.specs.declared.act.Act.{Act, Set, Read, Branch', Row_of-Act, end_of-Act, more_of-Act, Row_of-Guard, end_of-Guard}
use Rattle.net_design.specs.declared.act.Act.{more_of-Guard}
use Rattle.net_design.specs.declared.act.Code.{Code}
use Rattle.net_design.specs.declared.rhs.Rhs.{Rhs}
use Rattle.net_design.specs.Bits.{place_writes}
use Rattle.net_drive.specs.net_code.Moved.{moved_place, moved_act, moved_guards, moved_row, moved}
use Rattle.net_drive.specs.net_code.Targets.{targets, guard_row_targets, row_targets, block_targets, bit_count}
use Rattle.vlog_block.specs.Naming.{Naming, place_name, place_names, code_names}
use Rattle.vlog_driver.specs.Sites.{Site, name_at, names_at_site, count_at}
use Rattle.vlog_driver.proofs.Placing.{target_writes_placed}

-- ---- how often bits are named

counted : (b : Bool) (f g : Place → Bool) (t : Place → Place) (ps : List Place) → ((p : Place) → f (t p) ≡ (b && g p))
    → count_by f (map t ps) ≡ (if b then count_by g ps else 0)
counted true f g t [] h = refl
counted false f g t [] h = refl
counted true f g t (p ∷ ps) h =
    sum_by-cons (λ x. cond (f x) 1 0) (t p) (map t ps)
    ∙ ap (λ c. cond c 1 0 + count_by f (map t ps)) (h p)
    ∙ ap (λ n. cond (g p) 1 0 + n) (counted true f g t ps h)
    ∙ sym (sum_by-cons (λ x. cond (g x) 1 0) p ps)
counted false f g t (p ∷ ps) h =
    sum_by-cons (λ x. cond (f x) 1 0) (t p) (map t ps)
    ∙ ap (λ c. cond c 1 0 + count_by f (map t ps)) (h p)
    ∙ zero-add (count_by f (map t ps)) ∙ counted false f g t ps h

module _ (p : Site) where
  place_moved : (q : Place) (m k : ℕ) → place_writes (moved_place p.base.net p.base.word q) m k ≡ (nat_le p.base.net m && place_writes q (m - p.base.net) k)
  place_moved q m k = sym (or-false _)
      ∙ target_writes_placed p.base.net p.base.word (q ∷ []) (moved_place p.base.net p.base.word q ∷ []) (λ x y. place_writes q x y) refl (λ x y. or-false _) m k

  pub count_placed : (old new : List Place) (f : ℕ → ℕ → ℕ) → new ≡ map (moved_place p.base.net p.base.word) old
      → ((m k : ℕ) → bit_count old m k ≡ f m k) → (m k : ℕ) → bit_count new m k ≡ count_at p f m k
  count_placed old new f is h m k =
      ap (λ ps. bit_count ps m k) is
      ∙ counted (nat_le p.base.net m) (λ (q : Place). place_writes q m k) (λ (q : Place). place_writes q (m - p.base.net) k)
      (moved_place p.base.net p.base.word) old (λ q. place_moved q m k)
      ∙ ap (λ n. if nat_le p.base.net m then n else 0) (h (m - p.base.net) k)

  -- ---- what is named

  name_moved : (q : Place) → place_name (moved_place p.base.net p.base.word q) ≡ name_at p (place_name q)
  name_moved (PlaceBits s n) = refl
  name_moved (BitsFrom s i w) = refl
  name_moved (PlaceWord r i low w n) = refl
  name_moved (WordFrom r i size j w) = refl

  names_moved : (ps : List Place) → place_names (map (moved_place p.base.net p.base.word) ps) ≡ map (name_at p) (place_names ps)
  names_moved [] = refl
  names_moved (q ∷ ps) =
      ap (λ n. n ∷ place_names (map (moved_place p.base.net p.base.word) ps)) (name_moved q)
      ∙ ap (λ ns. name_at p (place_name q) ∷ ns) (names_moved ps)

  both : (xs xs' ys ys' : List Place) → xs' ≡ map (moved_place p.base.net p.base.word) xs → ys' ≡ map (moved_place p.base.net p.base.word) ys
      → xs' ++ ys' ≡ map (moved_place p.base.net p.base.word) (xs ++ ys)
  both xs xs' ys ys' h k =
      ap (λ zs. zs ++ ys') h ∙ ap (λ zs. map (moved_place p.base.net p.base.word) xs ++ zs) k ∙ sym (map-append (moved_place p.base.net p.base.word) xs ys)

  mutual
    act_moved : (a : Act) → targets (moved_act p.base.net p.base.word a) ≡ map (moved_place p.base.net p.base.word) (targets a)
    act_moved (Set target e) = refl
    act_moved (Read e) = refl
    act_moved (Branch' n guards l otherwise) =
        both (guard_row_targets guards) _ (row_targets otherwise) _ (guards_moved guards) (row_moved otherwise)

    guards_moved : {n : _} → (row : Row_of-Guard n)
        → guard_row_targets (moved_guards p.base.net p.base.word row) ≡ map (moved_place p.base.net p.base.word) (guard_row_targets row)
    guards_moved end_of-Guard = refl
    guards_moved (more_of-Guard c k body rest) = both (row_targets body) _ (guard_row_targets rest) _ (row_moved body) (guards_moved rest)

    row_moved : {n : _} → (row : Row_of-Act n)
        → row_targets (moved_row p.base.net p.base.word row) ≡ map (moved_place p.base.net p.base.word) (row_targets row)
    row_moved end_of-Act = refl
    row_moved (more_of-Act a rest) = both (targets a) _ (row_targets rest) _ (act_moved a) (row_moved rest)

  acts_moved : (acts : List Act)
      → flat_map targets (map (moved_act p.base.net p.base.word) acts) ≡ map (moved_place p.base.net p.base.word) (flat_map targets acts)
  acts_moved [] = refl
  acts_moved (a ∷ acts) = both (targets a) _ (flat_map targets acts) _ (act_moved a) (acts_moved acts)

  code_moved : (acts : List Act) → code_names (map (moved_act p.base.net p.base.word) acts) ≡ map (name_at p) (code_names acts)
  unfolding block_targets
  code_moved acts = ap place_names (acts_moved acts) ∙ names_moved (flat_map targets acts)

  pub names_placed : (old new : Code) (ns : List Naming) → new ≡ moved p.base.net p.base.word old → code_names old.acts ≡ ns
      → code_names new.acts ≡ names_at_site p ns
  names_placed old new ns is h = ap (λ (c : Code). code_names c.acts) is ∙ code_moved old.acts ∙ ap (map (name_at p)) h

-- ---- one assignment

pub set_targets : (acts : List Act) (ps : List Place) (e : Rhs) → acts ≡ Set ps e ∷ [] → (m k : ℕ)
    → bit_count (block_targets acts) m k ≡ bit_count ps m k
unfolding block_targets
set_targets acts ps e is m k =
    ap (λ (xs : List Act). bit_count (flat_map targets xs) m k) is ∙ ap (λ (qs : List Place). bit_count qs m k) (append-nil ps)
