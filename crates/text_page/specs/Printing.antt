-- What is printed through a pad on a sink.
use Rattle.std.specs.Prelude.{◌≡◌, ℕ, ◌≤◌, ◌⊎◌, ◌++◌, Bool, true, false, List, Option, MatchBool}
use Rattle.std.specs.Io.KnownBytes.{append_known}
use Rattle.vidi_io.specs.Cause.{Rose}
use Rattle.vidi_io.specs.Sink.{AppendsSome}

-- the text is what was pushed since the sink told base, and then what the pad holds
pub record IsHeld (base : Option (List ℕ)) (text : List ℕ) (told : Option (List ℕ)) (held : List ℕ) : Type 0 where
  pub pushed : List ℕ
  pub told_is : told ≡ append_known base pushed
  pub text_is : text ≡ pushed ++ held

-- this text was printed since the sink told base; once a push has failed, some front of it was pushed
abbrev pub IsPrinted : Option (List ℕ) → List ℕ → Option (List ℕ) → List ℕ → Bool → Type 0
IsPrinted base text told held lost = MatchBool lost (AppendsSome base told text) (IsHeld base text told held)

-- what had been printed goes on by this text
abbrev pub Prints : Option (List ℕ) → List ℕ → Bool → Option (List ℕ) → List ℕ → Bool → List ℕ → Type 0
Prints told held lost told' held' lost' text = (base : Option (List ℕ)) (before : List ℕ) → IsPrinted base before told held lost
    → IsPrinted base (before ++ text) told' held' lost'

-- the piece was pushed, or a push of it failed; a lost sink stays
abbrev pub Sends : Option (List ℕ) → Bool → Option (List ℕ) → Bool → List ℕ → Type 0
Sends told true told' lost' piece = (lost' ≡ true) × (told' ≡ told)
Sends told false told' lost' piece = MatchBool lost' (AppendsSome told told' piece) (told' ≡ append_known told piece)

-- no count fell, and what is lost has its cause
pub record Blames (faults : ℕ) (lost : Bool) (faults' : ℕ) (lost' : Bool) : Type 0 where
  pub later : faults ≤ faults'
  pub cause : lost' ≡ true → (lost ≡ true) ⊎ Rose faults faults'
