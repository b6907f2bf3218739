-- Lists of drivers to which others were added.
use Rattle.std.proofs.Common.{◌≡◌, ℕ, ◌+◌, ◌<◌, List, [], ◌∷◌, ◌++◌, map, length, drop, get_or, ap, sym, subst, ◌∙◌}
use Rattle.std.proofs.Common.{append_assoc, Result, Ok, Err, OnOk}
use Rattle.std.specs.List.{AllZip, AllByRecursion}
use Rattle.std.proofs.lemmas.List.{append-nil}
use Rattle.net_design.specs.declared.design.Driver.{Driver}
use Rattle.net_design.proofs.UpdateLaws.{from_here}
use Rattle.vlog_driver.specs.Duties.{Duty, Does, DoMore}

zip_more : (xs : List Duty) (ys : List Driver) (x : Duty) (y : Driver) → AllZip Does xs ys → Does x y
    → AllZip Does (xs ++ x ∷ []) (ys ++ y ∷ [])
zip_more [] [] x y h d = (d, tt)
zip_more [] (z ∷ ys) x y h d = absurd h
zip_more (w ∷ xs) [] x y h d = absurd h
zip_more (w ∷ xs) (z ∷ ys) x y h d = (h.0, zip_more xs ys x y h.1 d)

pub one_more : (x : Duty) (d : Driver) (old new : List Driver) → new ≡ old ++ d ∷ [] → Does x d → DoMore (x ∷ []) old new
one_more x d old new is does before h = subst (AllZip Does (before ++ x ∷ [])) (sym is) (zip_more before old x d h does)

pub no_more : (old : List Driver) → DoMore [] old old
no_more old before h = subst (λ xs. AllZip Does xs old) (sym (append-nil before)) h

pub and_more : (xs ys : List Duty) (a b c : List Driver) → DoMore xs a b → DoMore ys b c → DoMore (xs ++ ys) a c
and_more xs ys a b c h k before z = subst (λ zs. AllZip Does zs c) (append_assoc before xs ys) (k (before ++ xs) (h before z))

-- what is left of a list has its duties done from `now` on, and so the whole list has from `start` on
abbrev pub Going : {X : Type 0} → (List X → List Duty) → List X → List X → List Driver → List Driver → Type 0
Going duties rest all now start = (end : List Driver) → DoMore (duties rest) now end → DoMore (duties all) start end

module _ {X : Type 0} (duties : List X → List Duty) (own : X → List Duty)
    (split : (x : X) (rest : List X) → duties (x ∷ rest) ≡ own x ++ duties rest) where
  pub go_on : (xs : List X) (i : ℕ) (x : X) (now next start : List Driver) → i < length xs → x ≡ get_or xs i x
      → DoMore (own x) now next → Going duties (drop i xs) xs now start → Going duties (drop (i + 1) xs) xs next start
  go_on xs i x now next start l is does going end h =
      let whole : duties (drop i xs) ≡ own x ++ duties (drop (i + 1) xs) = ap duties (from_here xs i x l is) ∙ split x (drop (i + 1) xs) in
      going end (subst (λ zs. DoMore zs now end) (sym whole) (and_more (own x) (duties (drop (i + 1) xs)) now next end does h))

-- what holds of each of what is left holds of the first of these and of the others
pub first_left : {X Y : Type 0} (P : Y → Type 0) (plain : X → Y) (xs : List X) (i : ℕ) (x : X) → i < length xs → x ≡ get_or xs i x
    → AllByRecursion P (map plain (drop i xs)) → P (plain x) × AllByRecursion P (map plain (drop (i + 1) xs))
first_left P plain xs i x l is h = subst (λ zs. AllByRecursion P (map plain zs)) (from_here xs i x l is) h

pub one_more_result : {E : Type 0} (result : Result (Unit {0}) E) (d : Driver) (old new : List Driver) → OnOk result (new ≡ old ++ d ∷ [])
    → OnOk result ((x : Duty) → Does x d → DoMore (x ∷ []) old new)
one_more_result (Ok done) d old new is = λ x does. one_more x d old new is does
one_more_result (Err error) d old new is = tt
