-- A file that is started, and whose one piece is cut off.
use Rattle.std.proofs.Common.{◌≡◌, ℕ, Bool, true, false, List, [], Option, Result, Ok, Err, OnOk, take, inl, inr, ap, subst, ◌∙◌}
use Rattle.vidi_io.specs.Shelf.{Files, HasStarted, holding, emptied, appended, GrewBySome}
use Rattle.vidi_io.specs.Writing.{IsCutOff}
use Rattle.vidi_io.proofs.Started.{appended-holding}

-- the append failed
pub cut-at_piece : (old mid new : Option Files) (name bytes : List ℕ) (Started : Bool → Type 0) → mid ≡ emptied old name → Started true
    → GrewBySome mid new name bytes → IsCutOff old name bytes Started new
cut-at_piece old mid new name bytes Started started once (inl same) = inr (once, 0, same ∙ started)
cut-at_piece old mid new name bytes Started started once (inr (k, grew)) = inr (
  once,
  k,
  grew ∙ ap (λ (fs : Option Files). appended fs name (take k bytes)) started ∙ appended-holding old name [] (take k bytes),
)

-- the same of what else is known of the starts
pub cut-knowing : (old new : Option Files) (name bytes : List ℕ) (P Q : Bool → Type 0) → ((once : Bool) → P once → Q once)
    → IsCutOff old name bytes P new → IsCutOff old name bytes Q new
cut-knowing old new name bytes P Q known (inl (is, kept)) = inl (known false is, kept)
cut-knowing old new name bytes P Q known (inr (is, k, held)) = inr (known true is, k, held)

-- a start that was made since a later place, before which none was, was made since an earlier one
pub started-since : (before middle now : ℕ) (once : Bool) → middle ≡ before → HasStarted middle now once → HasStarted before now once
started-since before middle now once same is = subst (λ (n : ℕ). HasStarted n now once) same is

-- it was written whole
pub written-whole : (old mid new : Option Files) (name bytes : List ℕ) → mid ≡ emptied old name → new ≡ appended mid name bytes
    → new ≡ holding old name bytes
written-whole old mid new name bytes started grew =
    grew ∙ ap (λ (fs : Option Files). appended fs name bytes) started ∙ appended-holding old name [] bytes

pub on_ok : {X E P Q : Type 0} (r : Result X E) → (P → Q) → OnOk r P → OnOk r Q
on_ok (Ok x) f p = f p
on_ok (Err e) f p = p
