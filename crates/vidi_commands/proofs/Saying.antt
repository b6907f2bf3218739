-- From what was earned and what was said to the answer of a call.
use Rattle.std.proofs.Common.{◌≡◌, ◌≢◌, ℕ, Bool, List, Option, inl, inr, sym, subst, refl}
use Rattle.std.specs.Io.KnownBytes.{append_known}
use Rattle.wrap_command.specs.vidi_io.Shelf.{Files}
use Rattle.wrap_command.specs.vidi_bench.vidi_answer.declared.status.Status.{Status}
use Rattle.wrap_command.specs.vidi_bench.vidi_answer.declared.status.Status.TheVariants.{Done, Usage, ReadFault, WriteFault, Refused, Unstable, Short, Diverged, Memory}
use Rattle.vidi_commands.specs.Answer.{Earns, Answers, Says}
use Rattle.vidi_commands.proofs.CommandFacts.{facts}

not_writing : (words : List (List ℕ)) (files : Option Files) (F : List ℕ → Type 0) (P : Bool → Type 0) (text : List ℕ)
    (left : Option Files) → Earns words files F P WriteFault text left → ⊥
not_writing words files F P text left (inl (none, said, same)) = let e : WriteFault ≡ Usage = said.0 in cc
not_writing words files F P text left (inr (inl (said, same))) = let e : WriteFault ≡ Memory = said.0 in cc
not_writing words files F P text left (inr (inr (c, given, d))) = (facts c).mute files F P text left d

answered : (E : Status → List ℕ → Option Files → Type 0) (S : Option Files → Type 0) (W V : Type 0) (old new : Option (List ℕ))
    (left : Option Files) (status : Status) (text : List ℕ)
    → E status text left → status ≢ WriteFault → new ≡ append_known old text → Answers E S W V old new left status
answered E S W V old new left Done text earned other told = (text, earned, told)
answered E S W V old new left Usage text earned other told = (text, earned, told)
answered E S W V old new left (ReadFault word) text earned other told = (text, earned, told)
answered E S W V old new left WriteFault text earned other told = absurd (other refl)
answered E S W V old new left (Refused word reason) text earned other told = (text, earned, told)
answered E S W V old new left (Unstable channel cycle) text earned other told = (text, earned, told)
answered E S W V old new left (Short helds events) text earned other told = (text, earned, told)
answered E S W V old new left Diverged text earned other told = (text, earned, told)
answered E S W V old new left Memory text earned other told = (text, earned, told)

pub said : (words : List (List ℕ)) (files : Option Files) (F : List ℕ → Type 0) (P : Bool → Type 0) (S : Option Files → Type 0)
    (W V : Type 0) (old new : Option (List ℕ)) (left : Option Files) (status : Status) (text : List ℕ) (result : Status)
    → Earns words files F P status text left → Says status text V old new result → Answers (Earns words files F P) S W V old new left result
said words files F P S W V old new left status text result earned (inl (same, told)) =
    let other : status ≢ WriteFault = λ e. not_writing words files F P text left
    (subst (λ (s : Status). Earns words files F P s text left) e earned) in
    subst (λ (s : Status). Answers (Earns words files F P) S W V old new left s) (sym same)
    (answered (Earns words files F P) S W V old new left status text earned other told)
said words files F P S W V old new left status text result earned (inr (fault, failed, some)) =
    subst (λ (s : Status). Answers (Earns words files F P) S W V old new left s) (sym fault) (inl (failed, (status, text, earned, some)))

quiet_earns : (words : List (List ℕ)) (files : Option Files) (F : List ℕ → Type 0) (P : Bool → Type 0) (status : Status) (text : List ℕ)
    (left : Option Files) → ((name : List ℕ) → ¬ F name) → Earns words files F P status text left
    → Earns words files (λ _. ⊥) P status text left
quiet_earns words files F P status text left quiet (inl usage) = inl usage
quiet_earns words files F P status text left quiet (inr (inl memory)) = inr (inl memory)
quiet_earns words files F P status text left quiet (inr (inr (c, given, d))) =
    inr (inr (c, given, (facts c).quiet files F P status text left quiet d))

-- where nothing failed, the answer is that of a call in which nothing fails
pub quietly : (words : List (List ℕ)) (files : Option Files) (F : List ℕ → Type 0) (P : Bool → Type 0) (S : Option Files → Type 0)
    (W V : Type 0) (old new : Option (List ℕ)) (left : Option Files) (status : Status) → ((name : List ℕ) → ¬ F name) → ¬ W → ¬ V
    → Answers (Earns words files F P) S W V old new left status
    → Answers (Earns words files (λ _. ⊥) P) (λ _. ⊥) ⊥ ⊥ old new left status
quietly words files F P S W V old new left Done quiet kept heard (text, e, told) =
    (text, quiet_earns words files F P Done text left quiet e, told)
quietly words files F P S W V old new left Usage quiet kept heard (text, e, told) =
    (text, quiet_earns words files F P Usage text left quiet e, told)
quietly words files F P S W V old new left (ReadFault word) quiet kept heard (text, e, told) =
    (text, quiet_earns words files F P (ReadFault word) text left quiet e, told)
quietly words files F P S W V old new left WriteFault quiet kept heard (inl (failed, _)) = absurd (heard failed)
quietly words files F P S W V old new left WriteFault quiet kept heard (inr (failed, _, _)) = absurd (kept failed)
quietly words files F P S W V old new left (Refused word reason) quiet kept heard (text, e, told) =
    (text, quiet_earns words files F P (Refused word reason) text left quiet e, told)
quietly words files F P S W V old new left (Unstable channel cycle) quiet kept heard (text, e, told) =
    (text, quiet_earns words files F P (Unstable channel cycle) text left quiet e, told)
quietly words files F P S W V old new left (Short helds events) quiet kept heard (text, e, told) =
    (text, quiet_earns words files F P (Short helds events) text left quiet e, told)
quietly words files F P S W V old new left Diverged quiet kept heard (text, e, told) =
    (text, quiet_earns words files F P Diverged text left quiet e, told)
quietly words files F P S W V old new left Memory quiet kept heard (text, e, told) =
    (text, quiet_earns words files F P Memory text left quiet e, told)
