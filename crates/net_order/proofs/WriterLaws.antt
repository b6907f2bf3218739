-- One more writer of a net.
use Rattle.std.proofs.Common.{◌≡◌, ℕ, zero, suc, ◌+◌, ◌<◌, ◌≤◌, ◌==◌, ◌&&◌, ◌||◌, Bool, true, false, List, [], ◌∷◌, ◌++◌, length, get_or}
use Rattle.std.proofs.Common.{slice_set, slice_index_or, take, drop, refl, ap, sym, ◌∙◌, arith}
use Rattle.std.specs.List.{list_any}
use Rattle.std.proofs.lemmas.Bool.{eqb-true, eq-eqb, ne_eqb}
use Rattle.std.proofs.lemmas.List.{take_more}
use Rattle.std.proofs.lemmas.List.Folds.{list_any-append}
use Rattle.vidi_bits.proofs.Bools.{same_test, or_none}
use Rattle.net_design.specs.declared.act.Mask.{Mask}
use Rattle.net_design.specs.declared.design.Driver.{Driver}
use Rattle.vidi_bits.specs.Number.{has}
use Rattle.net_design.specs.Bits.{named}
use Rattle.net_design.specs.Names.{list_at}
use Rattle.net_design.proofs.UpdateLaws.{from_here}
use Rattle.net_order.specs.declared.writers.Writer.{Writer}
use Rattle.net_order.specs.Order.{writes_of}
use Rattle.net_order.specs.Index.{listed}

suc_same : (n m : ℕ) → (n == m) ≡ (suc n == suc m)
suc_same n m =
    same_test (n == m) (suc n == suc m) (λ t. eq-eqb (suc n) (suc m) (ap suc (eqb-true n m t)))
    (λ t. let e : suc n ≡ suc m = eqb-true (suc n) (suc m) t in eq-eqb n m (omega arith))

no_more : (a b : Bool) (n m : ℕ) → (n ≡ m → ⊥) → a ≡ (a || ((n == m) && b))
no_more a b n m h = or_none a ∙ ap (λ t. a || (t && b)) (sym (ne_eqb n m h))

suc_more : (a b c : Bool) (n m : ℕ) → c ≡ (a || ((n == m) && b)) → c ≡ (a || ((suc n == suc m) && b))
suc_more a b c n m h = h ∙ ap (λ t. a || (t && b)) (suc_same n m)

-- a list of lists of which one has one more item
set_at : {X : Type 0} (p : List X → Bool) (xs : List (List X)) (n m : ℕ) (new d : List X) (more : Bool) → n < length xs
    → p new ≡ (p (slice_index_or xs n d) || more) → p (list_at (slice_set xs n new) m) ≡ (p (list_at xs m) || ((n == m) && more))
set_at p [] n m new d more l h = absurd (omega arith)
set_at p (x ∷ xs) zero zero new d more l h = h
set_at p (x ∷ xs) zero (suc m) new d more l h = no_more (p (list_at xs m)) more 0 (suc m) (λ e. omega arith)
set_at p (x ∷ xs) (suc n) zero new d more l h = no_more (p x) more (suc n) 0 (λ e. omega arith)
set_at p (x ∷ xs) (suc n) (suc m) new d more l h =
    suc_more (p (list_at xs m)) more (p (list_at (slice_set xs n new) m)) n m (set_at p xs n m new d more (omega arith) h)

last_or : (a b : Bool) → (a || (b || false)) ≡ (a || b)
last_or true b = refl
last_or false true = refl
last_or false false = refl

abbrev says : ℕ → ℕ → List Writer → Bool
says j k ws = list_any (λ (w : Writer). (w.driver == j) && has w.bits k) ws

pub listed_more : (ws : List (List Writer)) (n : ℕ) (w : Writer) (old new : List Writer) → n < length ws → old ≡ get_or ws n old
    → new ≡ old ++ w ∷ [] → (m j k : ℕ)
    → listed (slice_set ws n new) m j k ≡ (listed ws m j k || ((n == m) && ((w.driver == j) && has w.bits k)))
listed_more ws n w old new l is made m j k =
    set_at (says j k) ws n m new old ((w.driver == j) && has w.bits k) l
    (ap (says j k) made ∙ list_any-append (λ (w : Writer). (w.driver == j) && has w.bits k) old (w ∷ [])
    ∙ last_or (says j k old) ((w.driver == j) && has w.bits k)
    ∙ ap (λ xs. says j k xs || ((w.driver == j) && has w.bits k)) is)

regroup : (a d o r : Bool) → ((a || (d && o)) || (d && r)) ≡ (a || (d && (o || r)))
regroup true d o r = refl
regroup false true o r = refl
regroup false false o r = refl

-- one more mask of a driver
pub mask_noted : (masks : List Mask) (i : ℕ) (x : Mask) (old new : Bool) (driver j m k : ℕ) → i < length masks → x ≡ get_or masks i x
    → new ≡ (old || ((driver == j) && ((x.net == m) && has x.bits k)))
    → (new || ((driver == j) && named (drop (i + 1) masks) m k)) ≡ (old || ((driver == j) && named (drop i masks) m k))
mask_noted masks i x old new driver j m k l e h =
    ap (λ b. b || ((driver == j) && named (drop (i + 1) masks) m k)) h
    ∙ regroup old (driver == j) ((x.net == m) && has x.bits k) (named (drop (i + 1) masks) m k)
    ∙ ap (λ xs. old || ((driver == j) && named xs m k)) (sym (from_here masks i x l e))

-- one more driver
writes_more : (xs : List Driver) (n : ℕ) (x : Driver) (j m k : ℕ) → length xs ≡ n
    → writes_of (xs ++ x ∷ []) j m k ≡ (writes_of xs j m k || ((n == j) && named x.code.writes m k))
writes_more [] zero x zero m k l = refl
writes_more [] zero x (suc j) m k l = no_more false (named x.code.writes m k) 0 (suc j) (λ e. omega arith)
writes_more [] (suc n) x j m k l = absurd (omega arith)
writes_more (y ∷ xs) zero x j m k l = absurd (omega arith)
writes_more (y ∷ xs) (suc n) x zero m k l = no_more (named y.code.writes m k) (named x.code.writes m k) (suc n) 0 (λ e. omega arith)
writes_more (y ∷ xs) (suc n) x (suc j) m k l =
    suc_more (writes_of xs j m k) (named x.code.writes m k) (writes_of (xs ++ x ∷ []) j m k) n j (writes_more xs n x j m k (omega arith))

length_take : (xs : List Driver) (i : ℕ) → i ≤ length xs → length (take i xs) ≡ i
length_take xs zero l = refl
length_take [] (suc i) l = absurd (omega arith)
length_take (x ∷ xs) (suc i) l = ap suc (length_take xs i (omega arith))

pub driver_noted : (drivers : List Driver) (i : ℕ) (x : Driver) (old new : Bool) (j m k : ℕ) → i < length drivers
    → x ≡ get_or drivers i x → old ≡ writes_of (take i drivers) j m k
    → new ≡ (old || ((i == j) && named x.code.writes m k)) → new ≡ writes_of (take (i + 1) drivers) j m k
driver_noted drivers i x old new j m k l e was h =
    h
    ∙ ap (λ b. b || ((i == j) && named x.code.writes m k)) was
    ∙ sym (writes_more (take i drivers) i x j m k (length_take drivers i (omega arith)))
    ∙ ap (λ y. writes_of (take i drivers ++ y ∷ []) j m k) e
    ∙ ap (λ xs. writes_of xs j m k) (sym (take_more drivers i x l))
