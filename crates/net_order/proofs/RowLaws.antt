-- One more number of a row.
use Rattle.std.proofs.Common.{◌≡◌, ℕ, ◌+◌, ◌<◌, ◌≤◌, ◌==◌, ◌&&◌, ◌||◌, not, Bool, true, false, List, [], ◌∷◌, ◌++◌, length, get_or}
use Rattle.std.proofs.Common.{drop, take, bit_and, refl, ap, sym, subst, ◌∙◌}
use Rattle.std.proofs.lemmas.Bool.{eq-eqb}
use Rattle.std.proofs.lemmas.List.Folds.{list_any-append}
use Rattle.std.proofs.lemmas.List.{take_more}
use Rattle.std.proofs.Math.Bool.{or_assoc}
use Rattle.vidi_bits.proofs.Bools.{or_none}
use Rattle.net_design.specs.declared.act.Mask.{Mask}
use Rattle.net_design.specs.declared.design.Driver.{Driver}
use Rattle.net_design.specs.Names.{list_at}
use Rattle.net_design.proofs.UpdateLaws.{from_here}
use Rattle.net_order.specs.declared.writers.Writer.{Writer}
use Rattle.net_order.specs.Index.{meets, met, found, in_row, IsRow, AreRows}
use Rattle.net_order.proofs.Rows.{list_past}

last_or : (a b c : Bool) → c ≡ true → (a || (b || false)) ≡ (a || (b && c))
last_or true b c h = refl
last_or false true c h = sym h
last_or false false c h = refl

no_or : (a b c : Bool) → c ≡ false → a ≡ (a || (b && c))
no_or true b c h = refl
no_or false true c h = sym h
no_or false false c h = refl

pub row_more : (row : List ℕ) (n bits mask j : ℕ) → (not (bit_and bits mask == 0) ≡ true)
    → in_row (row ++ n ∷ []) j ≡ (in_row row j || ((n == j) && meets bits mask))
row_more row n bits mask j h =
    list_any-append (λ (i : ℕ). i == j) row (n ∷ []) ∙ last_or (in_row row j) (n == j) (meets bits mask) h

pub row_stays : (row : List ℕ) (n bits mask j : ℕ) → bit_and bits mask ≡ 0 → in_row row j ≡ (in_row row j || ((n == j) && meets bits mask))
row_stays row n bits mask j h =
    no_or (in_row row j) (n == j) (meets bits mask) (ap not (eq-eqb (bit_and bits mask) 0 h))

pub past_all : (writers : List (List Writer)) (bits m j : ℕ) (b : Bool) → length writers ≤ m → b ≡ (b || met bits (list_at writers m) j)
past_all writers bits m j b l = or_none b ∙ ap (λ (ws : List Writer). b || met bits ws j) (sym (list_past writers m l))

zip_push : (writers : List (List Writer)) (xs : List Driver) (g : List (List ℕ)) (x : Driver) (row : List ℕ) → AreRows writers xs g
    → IsRow writers x row → AreRows writers (xs ++ x ∷ []) (g ++ row ∷ [])
zip_push writers [] [] x row h r = (r, tt)
zip_push writers [] (y ∷ g) x row h r = absurd h
zip_push writers (y ∷ xs) [] x row h r = absurd h
zip_push writers (y ∷ xs) (z ∷ g) x row h r = (h.0, zip_push writers xs g x row h.1 r)

-- one more row
pub rows_more : (writers : List (List Writer)) (drivers : List Driver) (i : ℕ) (x : Driver) (reads : List Mask) (row : List ℕ)
    (old new : List (List ℕ)) → i < length drivers → x ≡ get_or drivers i x → AreRows writers (take i drivers) old → reads ≡ x.code.reads
    → ((j : ℕ) → in_row row j ≡ found writers reads j) → new ≡ old ++ row ∷ [] → AreRows writers (take (i + 1) drivers) new
rows_more writers drivers i x reads row old new l is rows same h made =
    let pushed = zip_push writers (take i drivers) old x row rows (λ j. h j ∙ ap (λ (ms : List Mask). found writers ms j) same) in
    let front : take (i + 1) drivers ≡ take i drivers ++ x ∷ [] = take_more drivers i x l ∙ ap (λ y. take i drivers ++ y ∷ []) (sym is) in
    subst (λ (g : List (List ℕ)). AreRows writers (take (i + 1) drivers) g) (sym made)
    (subst (λ (xs : List Driver). AreRows writers xs (old ++ row ∷ [])) (sym front) pushed)

pub met_more : (writers : List Writer) (i : ℕ) (w : Writer) (bits j : ℕ) (old new : Bool) → i < length writers → w ≡ get_or writers i w
    → new ≡ (old || ((w.driver == j) && meets bits w.bits))
    → (new || met bits (drop (i + 1) writers) j) ≡ (old || met bits (drop i writers) j)
met_more writers i w bits j old new l e h =
    ap (λ b. b || met bits (drop (i + 1) writers) j) h
    ∙ or_assoc old ((w.driver == j) && meets bits w.bits) (met bits (drop (i + 1) writers) j)
    ∙ ap (λ ws. old || met bits ws j) (sym (from_here writers i w l e))

pub found_more : (writers : List (List Writer)) (reads : List Mask) (i : ℕ) (x : Mask) (j : ℕ) (old new : Bool) → i < length reads
    → x ≡ get_or reads i x → new ≡ (old || met x.bits (list_at writers x.net) j)
    → (new || found writers (drop (i + 1) reads) j) ≡ (old || found writers (drop i reads) j)
found_more writers reads i x j old new l e h =
    ap (λ b. b || found writers (drop (i + 1) reads) j) h
    ∙ or_assoc old (met x.bits (list_at writers x.net) j) (found writers (drop (i + 1) reads) j)
    ∙ ap (λ xs. old || found writers xs j) (sym (from_here reads i x l e))
