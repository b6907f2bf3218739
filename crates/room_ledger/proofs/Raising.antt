-- The gates that go up one after the other are those of *Gates*, where the sums are added up anew.
use Rattle.std.proofs.Common.{◌≡◌, ◌≢◌, ℕ, zero, suc, ◌+◌, ◌<◌, ◌≤◌, ◌^◌, ◌&&◌, ◌||◌, Bool, true, false, not, cond, List, [], ◌∷◌, Some}
use Rattle.std.proofs.Common.{length, take, slice_get, bit_or, leb, refl, ap, sym, ◌∙◌, ⊎_elim, arith, add-zero}
use Rattle.std.proofs.lemmas.Bool.{cases_Bool, cases_eq}
use Rattle.std.proofs.lemmas.Option.{same_Some}
use Rattle.std.proofs.Math.Bool.{or-false}
use Rattle.trace_model.specs.vidi_bits.Number.{has}
use Rattle.room_ledger.specs.Reservation.{whole}
use Rattle.room_ledger.specs.Raising.{raise}
use Rattle.room_ledger.proofs.Masks.{has-or, has-pow_same, has-pow_other}
use Rattle.trace_model.proofs.LengthLemmas.{total, total-cons, total-same}

-- the R_d of the gates that `up` has and `kept` hasn't
abbrev pub newly : ℕ → (ℕ → Bool) → (ℕ → Bool) → ℕ × ℕ → ℕ
newly head kept up d = cond (up d.0 && not (kept d.0)) (whole head d.1) 0

-- what `raise` does to the gates, from channel c on
pub record RaisedFrom (head capacity : ℕ) (sizes : List ℕ) (c claimed gates up : ℕ) : Type 0 where
  pub below : (i : ℕ) → i < c → has up i ≡ has gates i
  pub above : (i : ℕ) → c + length sizes ≤ i → has up i ≡ has gates i
  pub stay : (i : ℕ) → has gates i ≡ true → has up i ≡ true
  pub exact : (i size : ℕ) → slice_get sizes i ≡ Some size → has gates (c + i) ≡ false
      → has up (c + i) ≡ leb (claimed + total (newly head (has gates) (has up)) c (take i sizes) + whole head size) capacity

-- one more gate
set-same : (gates c : ℕ) → has (bit_or gates (2 ^ c)) c ≡ true
set-same gates c = has-or gates (2 ^ c) c ∙ ap (λ b. has gates c || b) (has-pow_same c)
    ∙ ⊎_elim (λ (h : has gates c ≡ true). rw h refl) (λ (h : has gates c ≡ false). rw h refl) (cases_Bool (has gates c))

set-other : (gates c i : ℕ) → i ≢ c → has (bit_or gates (2 ^ c)) i ≡ has gates i
set-other gates c i h = has-or gates (2 ^ c) i ∙ ap (λ b. has gates i || b) (has-pow_other c i h) ∙ or-false (has gates i)

-- its R_c counts for the later ones
raised-exact : (head capacity size : ℕ) (sizes : List ℕ) (c claimed gates up : ℕ) → has gates c ≡ false
    → leb (claimed + whole head size) capacity ≡ true → has up c ≡ true
    → RaisedFrom head capacity sizes (c + 1) (claimed + whole head size) (bit_or gates (2 ^ c)) up
    → (i s : ℕ) → slice_get (size ∷ sizes) i ≡ Some s → has gates (c + i) ≡ false
    → has up (c + i) ≡ leb (claimed + total (newly head (has gates) (has up)) c (take i (size ∷ sizes)) + whole head s) capacity
raised-exact head capacity size sizes c claimed gates up down room mine is zero s at h =
    let same : size ≡ s = same_Some size s at in
    let sum : claimed + whole head size ≡ claimed + 0 + whole head s = ap (λ x. claimed + whole head x) same ∙ (omega arith) in
    ap (has up) (add-zero c) ∙ mine ∙ sym room ∙ ap (λ x. leb x capacity) sum
raised-exact head capacity size sizes c claimed gates up down room mine is (suc i) s at h =
    let place : c + 1 + i ≡ c + suc i = omega arith in
    let later : has (bit_or gates (2 ^ c)) (c + 1 + i) ≡ false = set-other gates c (c + 1 + i) (λ e. absurd (omega arith))
    ∙ ap (has gates) place ∙ h in
    let others : total (newly head (has (bit_or gates (2 ^ c))) (has up)) (c + 1) (take i sizes)
    ≡ total (newly head (has gates) (has up)) (c + 1) (take i sizes) =
    total-same (newly head (has (bit_or gates (2 ^ c))) (has up)) (newly head (has gates) (has up)) (c + 1) (take i sizes)
    (λ d b l m. ap (λ g. cond (has up d && not g) (whole head b) 0) (set-other gates c d (λ e. absurd (omega arith)))) in
    let first : newly head (has gates) (has up) (c, size) ≡ whole head size = ap (λ g. cond (has up c && not g) (whole head size) 0) down
    ∙ ap (λ u. cond (u && true) (whole head size) 0) mine in
    let all = total-cons (newly head (has gates) (has up)) c size (take i sizes) in
    let sum : claimed + whole head size + total (newly head (has (bit_or gates (2 ^ c))) (has up)) (c + 1) (take i sizes) + whole head s
    ≡ claimed + total (newly head (has gates) (has up)) c (size ∷ take i sizes) + whole head s = omega arith in
    ap (has up) (sym place) ∙ is.exact i s at later ∙ ap (λ x. leb x capacity) sum

-- the gate of channel c goes up
raised-step : (head capacity size : ℕ) (sizes : List ℕ) (c claimed gates up : ℕ) → has gates c ≡ false
    → leb (claimed + whole head size) capacity ≡ true
    → RaisedFrom head capacity sizes (c + 1) (claimed + whole head size) (bit_or gates (2 ^ c)) up
    → RaisedFrom head capacity (size ∷ sizes) c claimed gates up
raised-step head capacity size sizes c claimed gates up down room is =
    let mine : has up c ≡ true = is.below c (omega arith) ∙ set-same gates c in
    record {
      below = λ i l. is.below i (omega arith) ∙ set-other gates c i (λ e. absurd (omega arith));
      above = λ i l. is.above i (omega arith) ∙ set-other gates c i (λ e. absurd (omega arith));
      stay = λ i h. ⊎_elim
          (λ (e : i ≡ c). ap (has up) e ∙ mine)
          (λ (d : i ≡ c → ⊥). is.stay i (set-other gates c i d ∙ h))
          (cases_eq i c);
      exact = raised-exact head capacity size sizes c claimed gates up down room mine is;
    }

none : (g : Bool) (x : ℕ) → cond (g && not g) x 0 ≡ 0
none true x = refl
none false x = refl

-- a gate that stays counts for none
passed-exact : (head capacity size : ℕ) (sizes : List ℕ) (c claimed gates up : ℕ)
    → (has gates c ≡ false → leb (claimed + whole head size) capacity ≡ false)
    → RaisedFrom head capacity sizes (c + 1) claimed gates up
    → (i s : ℕ) → slice_get (size ∷ sizes) i ≡ Some s → has gates (c + i) ≡ false
    → has up (c + i) ≡ leb (claimed + total (newly head (has gates) (has up)) c (take i (size ∷ sizes)) + whole head s) capacity
passed-exact head capacity size sizes c claimed gates up room is zero s at h =
    let down : has gates c ≡ false = ap (has gates) (sym (add-zero c)) ∙ h in
    let same : size ≡ s = same_Some size s at in
    let sum : claimed + whole head size ≡ claimed + 0 + whole head s = ap (λ x. claimed + whole head x) same ∙ (omega arith) in
    ap (has up) (add-zero c) ∙ is.below c (omega arith) ∙ down ∙ sym (room down) ∙ ap (λ x. leb x capacity) sum
passed-exact head capacity size sizes c claimed gates up room is (suc i) s at h =
    let place : c + 1 + i ≡ c + suc i = omega arith in
    let later : has gates (c + 1 + i) ≡ false = ap (has gates) place ∙ h in
    let here : has up c ≡ has gates c = is.below c (omega arith) in
    let first : newly head (has gates) (has up) (c, size) ≡ 0 = ap (λ u. cond (u && not (has gates c)) (whole head size) 0) here
    ∙ none (has gates c) (whole head size) in
    let all = total-cons (newly head (has gates) (has up)) c size (take i sizes) in
    let sum : claimed + total (newly head (has gates) (has up)) (c + 1) (take i sizes) + whole head s
    ≡ claimed + total (newly head (has gates) (has up)) c (size ∷ take i sizes) + whole head s = omega arith in
    ap (has up) (sym place) ∙ is.exact i s at later ∙ ap (λ x. leb x capacity) sum

-- the gate of channel c stays as it is, since it is up or has no room
passed-step : (head capacity size : ℕ) (sizes : List ℕ) (c claimed gates up : ℕ)
    → (has gates c ≡ false → leb (claimed + whole head size) capacity ≡ false)
    → RaisedFrom head capacity sizes (c + 1) claimed gates up → RaisedFrom head capacity (size ∷ sizes) c claimed gates up
passed-step head capacity size sizes c claimed gates up room is = record {
  below = λ i l. is.below i (omega arith);
  above = λ i l. is.above i (omega arith);
  stay = is.stay;
  exact = passed-exact head capacity size sizes c claimed gates up room is;
}

-- one channel: as the code decides
step : (head capacity size : ℕ) (sizes : List ℕ) (c claimed gates : ℕ) (h t : Bool) → has gates c ≡ h
    → leb (claimed + whole head size) capacity ≡ t
    → RaisedFrom head capacity sizes (c + 1) (claimed + whole head size) (bit_or gates (2 ^ c))
    (raise head capacity sizes (c + 1) (claimed + whole head size) (bit_or gates (2 ^ c)))
    → RaisedFrom head capacity sizes (c + 1) claimed gates (raise head capacity sizes (c + 1) claimed gates)
    → RaisedFrom head capacity (size ∷ sizes) c claimed gates
    (cond (not h && t) (raise head capacity sizes (c + 1) (claimed + whole head size) (bit_or gates (2 ^ c)))
    (raise head capacity sizes (c + 1) claimed gates))
step head capacity size sizes c claimed gates true t up room a b = passed-step head capacity size sizes c claimed gates _
    (λ down. absurd (let x = sym up ∙ down in cc)) b
step head capacity size sizes c claimed gates false true up room a b = raised-step head capacity size sizes c claimed gates _ up room a
step head capacity size sizes c claimed gates false false up room a b = passed-step head capacity size sizes c claimed gates _
    (λ down. room) b

pub raised-from : (head capacity : ℕ) (sizes : List ℕ) (c claimed gates : ℕ)
    → RaisedFrom head capacity sizes c claimed gates (raise head capacity sizes c claimed gates)
raised-from head capacity [] c claimed gates = record {
  below = λ i l. refl;
  above = λ i l. refl;
  stay = λ i h. h;
  exact = λ i size at h. absurd (cc);
}
raised-from head capacity (size ∷ sizes) c claimed gates =
    step head capacity size sizes c claimed gates (has gates c) (leb (claimed + whole head size) capacity) refl refl
    (raised-from head capacity sizes (c + 1) (claimed + whole head size) (bit_or gates (2 ^ c)))
    (raised-from head capacity sizes (c + 1) claimed gates)
