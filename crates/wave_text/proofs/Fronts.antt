-- Texts that begin with a piece.
use Rattle.std.proofs.Common.{◌≡◌, ℕ, zero, suc, ◌++◌, true, false, nat_eq, List, [], ◌∷◌, length, take, drop, refl, ap, sym, subst, ◌∙◌, take-append-drop, take_at, Bool, not, append-nil}
use Rattle.std.specs.Prelude.{IsTrue}
use Rattle.wave_text.specs.Matching.{Matched}
use Rattle.std.proofs.lemmas.List.{append_cancel_left}
use Rattle.std.specs.Str.{bytes_eq}
use Rattle.std.specs.Cmp.Lexicographic.{pointwise}
use Rattle.std.proofs.lemmas.Slice.Eq.{bytes_eq-Decides}

pub front_there : (text piece rest : List ℕ) → pointwise nat_eq (take (length piece) text) piece ≡ true → rest ≡ drop (length piece) text
    → text ≡ piece ++ rest
front_there text piece rest h e = sym (take-append-drop (length piece) text)
    ∙ ap (λ xs. xs ++ drop (length piece) text) ((bytes_eq-Decides (take (length piece) text) piece).0 h) ∙ ap (λ xs. piece ++ xs) (sym e)

pub front_not : (text piece : List ℕ) → pointwise nat_eq (take (length piece) text) piece ≡ false → (tail : List ℕ) → text ≡ piece ++ tail → ⊥
front_not text piece h tail e =
    let same : take (length piece) text ≡ piece = ap (take (length piece)) e ∙ take_at piece tail (length piece) refl in
    let yes = (bytes_eq-Decides (take (length piece) text) piece).1 same in
    let z : true ≡ false = sym yes ∙ h in absurd cc

-- a page that differs isn't of the text
pub not_head : (x rest text : List ℕ) (d : Bool) → d ≡ true → Matched x false rest d text
    → (IsTrue (not d) → x ≡ text) × (x ≡ text → IsTrue (not d))
not_head x rest text true h m = ((λ t. absurd cc), (λ e. absurd (m [] (e ∙ sym (append-nil text)))))
not_head x rest text false h m = absurd cc

-- the same from a page that is new
pub matched-new : (rest text rest' : List ℕ) (differs differs' : Bool) (whole : List ℕ) → rest ≡ text → differs ≡ false
    → Matched rest differs rest' differs' whole → Matched text false rest' differs' whole
matched-new rest text rest' differs differs' whole e f m =
    subst (λ (d : Bool). Matched text d rest' differs' whole) f (subst (λ (r : List ℕ). Matched r differs rest' differs' whole) e m)

-- a page that hasn't come to the text's end isn't of it
pub is_whole : (text rest whole : List ℕ) (differs : Bool) → differs ≡ false → Matched text false rest differs whole
    → ((rest ≡ []) → text ≡ whole) × (text ≡ whole → rest ≡ [])
is_whole text rest whole true h m = absurd (cc)
is_whole text rest whole false h m = (
  λ none. m ∙ ap (λ r. whole ++ r) none ∙ append-nil whole,
  λ same. append_cancel_left whole rest [] (sym m ∙ same ∙ sym (append-nil whole)),
)
