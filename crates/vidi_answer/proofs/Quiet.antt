-- Steps of commands: none of their answers a failed write, and the same where no read failed.
use Rattle.std.proofs.Common.{◌≡◌, ◌≢◌, ℕ, List, Option, inl, inr, sym}
use Rattle.report_text.specs.vidi_io.Shelf.{Files}
use Rattle.report_text.specs.declared.reason.Word.{Word}
use Rattle.report_text.specs.declared.reason.Reason.{Reason}
use Rattle.report_text.specs.declared.reason.Reason.TheVariants.{TooLong}
use Rattle.vidi_answer.specs.declared.status.Status.{Status}
use Rattle.vidi_answer.specs.declared.status.Status.TheVariants.{Done, ReadFault, WriteFault, Refused}
use Rattle.vidi_answer.specs.Steps.{Ending, IsSaid, IsRefusal, Step}
use Rattle.vidi_answer.specs.Reading.{IsUnread, IsRead, Reading}
use Rattle.vidi_answer.proofs.Chain.{Implies}

-- ---- no failed write
abbrev pub Mute : Ending → Type 0
Mute E = (x : List ℕ) → E WriteFault x → ⊥

pub mute-step : {X : Type 0} (Ends : Ending) (Gives : X → Type 0) (Next : X → Ending) → Mute Ends → ((x : X) → Mute (Next x))
    → Mute (Step Ends Gives Next)
mute-step Ends Gives Next mute next x (inl e) = mute x e
mute-step Ends Gives Next mute next x (inr (k, g, n)) = next k x n

pub mute-refusal : (word : Word) (reason : Reason) → Mute (IsRefusal word reason)
mute-refusal word reason x s = let e : WriteFault ≡ Refused word reason = s.0 in cc

pub mute-unread : (limit : ℕ) (word : Word) (name : List ℕ) (files : Option Files) (F : List ℕ → Type 0)
    → Mute (IsUnread limit word name files F)
mute-unread limit word name files F x (inl (u, s)) = let e : WriteFault ≡ ReadFault word = s.0 in cc
mute-unread limit word name files F x (inr (long, s)) = mute-refusal word (TooLong limit) x s

pub mute-reading : (limit : ℕ) (word : Word) (name : List ℕ) (files : Option Files) (F : List ℕ → Type 0) (Next : List ℕ → Ending)
    → ((file : List ℕ) → Mute (Next file)) → Mute (Reading limit word name files F Next)
mute-reading limit word name files F Next mute =
    mute-step (IsUnread limit word name files F) (IsRead limit name files) Next (mute-unread limit word name files F) mute

pub mute-said : (s : Status) (t : List ℕ) → s ≢ WriteFault → Mute (IsSaid s t)
mute-said s t other x is = other (sym is.0)

pub done-goes : Done ≡ WriteFault → ⊥
done-goes e = cc

-- ---- where no read failed
pub quiet-unread : (limit : ℕ) (word : Word) (name : List ℕ) (files : Option Files) (F : List ℕ → Type 0) (a : Status) (x : List ℕ)
    → ¬ F name → IsUnread limit word name files F a x → IsUnread limit word name files (λ _. ⊥) a x
quiet-unread limit word name files F a x quiet (inl (inl absent, s)) = inl (inl absent, s)
quiet-unread limit word name files F a x quiet (inl (inr failed, s)) = absurd (quiet failed)
quiet-unread limit word name files F a x quiet (inr long) = inr long

pub quiet-reading : (limit : ℕ) (word : Word) (name : List ℕ) (files : Option Files) (F : List ℕ → Type 0) (Next Then : List ℕ → Ending)
    → ¬ F name → ((file : List ℕ) → Implies (Next file) (Then file))
    → Implies (Reading limit word name files F Next) (Reading limit word name files (λ _. ⊥) Then)
quiet-reading limit word name files F Next Then quiet on a x (inl u) = inl (quiet-unread limit word name files F a x quiet u)
quiet-reading limit word name files F Next Then quiet on a x (inr (file, read, rest)) = inr (file, read, on file a x rest)
