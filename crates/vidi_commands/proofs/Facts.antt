-- What is known of each command: that it answers no failed write, that where no read failed it answers as where none can, and how many files
-- it starts.
use Rattle.std.proofs.Common.{◌≡◌, ℕ, Bool, true, false, List, Option, inl, inr, subst}
use Rattle.wrap_command.specs.vidi_io.Shelf.{Files}
use Rattle.wrap_command.specs.vidi_io.Writing.{IsCutOff, IsKept}
use Rattle.wrap_command.specs.vidi_bench.vidi_answer.declared.status.Status.{Status}
use Rattle.wrap_command.specs.vidi_bench.vidi_answer.declared.status.Status.TheVariants.{Done, WriteFault}
use Rattle.wrap_command.specs.vidi_bench.Steps.{Ending}
use Rattle.wrap_command.proofs.vidi_bench_lemmas.Chain.{Implies}
use Rattle.wrap_command.proofs.vidi_bench_lemmas.Quiet.{Mute}
use Rattle.vidi_commands.specs.Answer.{StartsNone}

-- what a command owes, and what is left where a write of its file failed
abbrev pub Deed : Type 1
Deed = Option Files → (List ℕ → Type 0) → (Bool → Type 0) → Status → List ℕ → Option Files → Type 0

abbrev pub Stop : Type 1
Stop = Option Files → (Bool → Type 0) → Option Files → Type 0

-- a number of starts, none or one
abbrev pub Once : (Bool → Type 0) → Type 0
Once P = (once : Bool) × P once

pub record Facts (D : Deed) (S : Stop) : Type 1 where
  pub mute : (files : Option Files) (F : List ℕ → Type 0) (P : Bool → Type 0) (text : List ℕ) (left : Option Files)
      → D files F P WriteFault text left → ⊥
  pub quiet : (files : Option Files) (F : List ℕ → Type 0) (P : Bool → Type 0) (status : Status) (text : List ℕ) (left : Option Files)
      → ((name : List ℕ) → ¬ F name) → D files F P status text left → D files (λ _. ⊥) P status text left
  pub once : (files : Option Files) (F : List ℕ → Type 0) (P : Bool → Type 0) (status : Status) (text : List ℕ) (left : Option Files)
      → D files F P status text left → Once P
  pub none : (files : Option Files) (F : List ℕ → Type 0) (P : Bool → Type 0) (status : Status) (text : List ℕ) (left : Option Files)
      → D files F P status text left → StartsNone status → P false
  pub stopped : (files : Option Files) (P : Bool → Type 0) (left : Option Files) → S files P left → Once P

-- a command that writes no file
abbrev pub Reads : (Option Files → (List ℕ → Type 0) → Ending) → Deed
Reads E files F P status text left = E files F status text × IsKept files P left

abbrev pub StopsNever : Stop
StopsNever files P left = ⊥

pub reads-facts : (E : Option Files → (List ℕ → Type 0) → Ending)
    → ((files : Option Files) (F : List ℕ → Type 0) → Mute (E files F))
    → ((files : Option Files) (F : List ℕ → Type 0) → ((name : List ℕ) → ¬ F name) → Implies (E files F) (E files (λ _. ⊥)))
    → Facts (Reads E) StopsNever
reads-facts E mute quiet = record {
  mute = λ files F P text left (d, same). mute files F text d;
  quiet = λ files F P status text left still (d, same). (quiet files F still status text d, same);
  once = λ files F P status text left (d, (same, none)). (false, none);
  none = λ files F P status text left (d, (same, none)) is. none;
  stopped = λ files P left is. absurd is;
}

-- ---- a command that writes a file
pub cut-once : (files : Option Files) (name bytes : List ℕ) (P : Bool → Type 0) (left : Option Files) → IsCutOff files name bytes P left → Once P
cut-once files name bytes P left (inl (none, kept)) = (false, none)
cut-once files name bytes P left (inr (once, k, held)) = (true, once)

pub done-starts : (status : Status) → status ≡ Done → StartsNone status → ⊥
done-starts status same is = subst StartsNone same is
