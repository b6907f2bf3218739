-- Rows that fit, net by net; nets whose names differ.
use Rattle.std.proofs.Common.{◌≡◌, ◌≢◌, ℕ, zero, suc, ◌+◌, ◌^◌, ◌<◌, ◌≤◌, ◌⊎◌, inl, inr, ◌||◌, Bool, true, false, List, [], ◌∷◌, ◌++◌, length, map, take, All, get_or, slice_get, Some, refl, ap, sym, subst, ◌∙◌, arith, AllPairs}
use Rattle.std.specs.List.{list_any}
use Rattle.std.specs.Str.{bytes_eq}
use Rattle.std.proofs.lemmas.Bool.{cases_lt, cases_Bool}
use Rattle.std.proofs.lemmas.List.{take_more, map-append, length-take-le, get_or-take, take_all}
use Rattle.std.proofs.lemmas.List.Elements.{All-push}
use Rattle.std.proofs.lemmas.List.Quantifiers.{all_pairs_push}
use Rattle.std.proofs.lemmas.Option.{get_or_from_slice_get}
use Rattle.std.proofs.lemmas.Slice.Eq.{bytes_eq-Decides}
use Rattle.wave_text.specs.declared.wave.WaveNet.{WaveNet}
use Rattle.wave_text.specs.Wave.{FitsRow}

-- the first n nets have fitting numbers
abbrev pub FitBelow : ℕ → List WaveNet → List ℕ → Type 0
FitBelow n nets row = (k : ℕ) (x : WaveNet) → k < n → slice_get nets k ≡ Some x → get_or row k 0 < 2 ^ x.width

pub fit-none : (nets : List WaveNet) (row : List ℕ) → FitBelow 0 nets row
fit-none nets row k x l at = absurd (omega (arith, l))

pub fit-more : (n : ℕ) (nets : List WaveNet) (row : List ℕ) (net : WaveNet) → FitBelow n nets row → net ≡ get_or nets n net
    → get_or row n 0 < 2 ^ net.width → FitBelow (n + 1) nets row
fit-more n nets row net below is here k x l at = elim (cases_lt k n) [
  | inl lt ↦ below k x lt at
  | inr ge ↦
      let same : k ≡ n = omega (arith, l, ge) in
      let net_is : net ≡ x = is ∙ get_or_from_slice_get nets n x net (ap (slice_get nets) (sym same) ∙ at) in
      subst (λ (i : ℕ). get_or row i 0 < 2 ^ x.width) (sym same) (subst (λ (y : WaveNet). get_or row n 0 < 2 ^ y.width) net_is here)
]

some-below : {X : Type 0} → (xs : List X) (k : ℕ) (x : X) → slice_get xs k ≡ Some x → k < length xs
some-below [] k x at = absurd (cc)
some-below (y ∷ xs) zero x at = omega arith
some-below (y ∷ xs) (suc k) x at = let l = some-below xs k x at in omega (arith, l)

pub fit-all : (n : ℕ) (nets : List WaveNet) (row : List ℕ) → length row ≡ length nets → length nets ≤ n → FitBelow n nets row → FitsRow nets row
fit-all n nets row long all below = record { long = long; each = λ k x at. below k x (let l = some-below nets k x at in omega (arith, l, all)) at }

-- ---- names
abbrev pub Differ : List WaveNet → Type 0
Differ nets = AllPairs (λ (x y : WaveNet). x.name ≢ y.name) nets

abbrev pub names_of : List WaveNet → List (List ℕ)
names_of nets = map (λ (x : WaveNet). x.name) nets

or-cases : (a b : Bool) → (a || b) ≡ true → (a ≡ true) ⊎ (b ≡ true)
or-cases true b e = inl refl
or-cases false b e = inr e

or-none : (a b : Bool) → (a || b) ≡ false → (a ≡ false) × (b ≡ false)
or-none true b e = absurd (cc)
or-none false b e = (refl, e)

any-at : (name : List ℕ) (nets : List WaveNet) (d : WaveNet) → list_any (bytes_eq name) (names_of nets) ≡ true
    → (k : ℕ) × (k < length nets) × ((get_or nets k d).name ≡ name)
any-at name [] d e = absurd (cc)
any-at name (x ∷ nets) d e = elim (or-cases (bytes_eq name x.name) (list_any (bytes_eq name) (names_of nets)) e) [
  | inl here ↦ (0, omega arith, sym ((bytes_eq-Decides name x.name).0 here))
  | inr more ↦ let r = any-at name nets d more in (suc r.0, (let l = r.1 in omega (arith, l)), r.2)
]

none-at : (name : List ℕ) (nets : List WaveNet) → list_any (bytes_eq name) (names_of nets) ≡ false
    → (k : ℕ) (d : WaveNet) → k < length nets → (get_or nets k d).name ≢ name
none-at name [] e k d l = absurd (omega (arith, l))
none-at name (x ∷ nets) e zero d l = λ same.
    let t = or-none (bytes_eq name x.name) (list_any (bytes_eq name) (names_of nets)) e in
    let yes = (bytes_eq-Decides name x.name).1 (sym same) in
    let z : true ≡ false = sym yes ∙ t.0 in absurd (cc)
none-at name (x ∷ nets) e (suc k) d l =
    none-at name nets (or-none (bytes_eq name x.name) (list_any (bytes_eq name) (names_of nets)) e).1 k d (omega (arith, l))

-- the names of the nets before this one, and of them with it
pub names-more : (nets : List WaveNet) (i : ℕ) (net : WaveNet) (old new : List (List ℕ)) → i < length nets → net ≡ get_or nets i net
    → old ≡ names_of (take i nets) → new ≡ old ++ net.name ∷ [] → new ≡ names_of (take (i + 1) nets)
names-more nets i net old new l is were grown =
    let here : take (i + 1) nets ≡ take i nets ++ net ∷ [] = take_more nets i net l ∙ ap (λ y. take i nets ++ y ∷ []) (sym is) in
    grown ∙ ap (λ ns. ns ++ net.name ∷ []) were ∙ sym (ap names_of here ∙ map-append (λ (x : WaveNet). x.name) (take i nets) (net ∷ []))

pub differ-more : (nets : List WaveNet) (i : ℕ) (net : WaveNet) (old : List (List ℕ)) → i < length nets → net ≡ get_or nets i net
    → old ≡ names_of (take i nets) → list_any (bytes_eq net.name) old ≡ false → Differ (take i nets) → Differ (take (i + 1) nets)
differ-more nets i net old l is were none differ =
    let here : take (i + 1) nets ≡ take i nets ++ net ∷ [] = take_more nets i net l ∙ ap (λ y. take i nets ++ y ∷ []) (sym is) in
    subst Differ (sym here) (all_pairs_push (λ (x y : WaveNet). x.name ≢ y.name) (take i nets) net differ
    (none-at net.name (take i nets) (ap (list_any (bytes_eq net.name)) (sym were) ∙ none)))

pub not-differ : (nets : List WaveNet) (i : ℕ) (net : WaveNet) (old : List (List ℕ)) → i < length nets → net ≡ get_or nets i net
    → old ≡ names_of (take i nets) → list_any (bytes_eq net.name) old ≡ true → Differ nets → ⊥
not-differ nets i net old l is were there differ =
    let r = any-at net.name (take i nets) net (ap (list_any (bytes_eq net.name)) (sym were) ∙ there) in
    let long : length (take i nets) ≡ i = length-take-le i nets (omega (arith, l)) in
    let below = r.1 in
    let before : r.0 < i = omega (arith, below, long) in
    let at : get_or (take i nets) r.0 net ≡ get_or nets r.0 net = get_or-take i nets r.0 net before in
    differ r.0 i net before l (ap (λ (x : WaveNet). x.name) (sym at) ∙ r.2 ∙ ap (λ (x : WaveNet). x.name) is)

-- one more item does
pub all-more : {X : Type 0} (P : X → Type 0) (xs : List X) (i : ℕ) (x : X) → i < length xs → x ≡ get_or xs i x → All P (take i xs) → P x
    → All P (take (i + 1) xs)
all-more P xs i x l is all here =
    subst (All P) (sym (take_more xs i x l ∙ ap (λ y. take i xs ++ y ∷ []) (sym is))) (All-push P (take i xs) x all here)

pub all-whole : {X : Type 0} (P : X → Type 0) (xs : List X) (i : ℕ) → length xs ≤ i → All P (take i xs) → All P xs
all-whole P xs i l all = subst (All P) (take_all i xs l) all
