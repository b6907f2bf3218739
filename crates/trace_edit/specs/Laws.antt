-- What follows from *Moved*.
use Rattle.std.specs.Prelude.{◌≡◌, ◌⊎◌, ℕ, ◌+◌, ◌≤◌, Bool, false, length, Result, Ok, Err}
use Rattle.trace_model.specs.declared.event.Event.{Event}
use Rattle.trace_model.specs.declared.event.Kind.TheVariants.{End}
use Rattle.trace_model.specs.declared.trace.Trace.{Trace}
use Rattle.trace_model.specs.Packet.{count}
use Rattle.trace_model.specs.Recording.{recorded}
use Rattle.trace_model.specs.Trace.{IsWellFormed}
use Rattle.trace_edit.specs.declared.error.EditError.{EditError}
use Rattle.trace_edit.specs.declared.error.EditError.TheVariants.{Memory}
use Rattle.trace_edit.specs.declared.place.Move.{Move}
use Rattle.trace_edit.specs.Moved.{IsMove, Moves, stays}
use Rattle.trace_edit.specs.Parts.{IsMovedOn}
use Rattle.trace_edit.specs.Stories.{story}

-- each channel keeps its starts with their contents, and its completions, in their order
pub record Keeps (old new : Trace) : Type 0 where
  pub channels : new.channels ≡ old.channels
  pub starts : (c : ℕ) → recorded new.channels new.packets c ≡ recorded old.channels old.packets c
  pub ends : (c : ℕ) → count End c new.packets ≡ count End c old.packets
  pub stories : (c : ℕ) → story c new.packets ≡ story c old.packets

-- the clocks are those of the packets' parts, where the trace doesn't stay
abbrev pub MovesClocks : Event → Event → Bool → Trace → Trace → Type 0
MovesClocks end other after old new = (m : Move) → IsMove old.packets end other after m → stays m ≡ false
    → IsMovedOn after m old.packets new.packets

-- *moved completion*
pub record MovedCompletion (end other : Event) (after : Bool) (old new : Trace) : Type 0 where
  pub well_formed : IsWellFormed new
  pub keeps : Keeps old new
  pub clocks : MovesClocks end other after old new
  pub grows : length new.packets ≤ length old.packets + 1

abbrev pub MoveKeeps : Type 0
MoveKeeps = (end other : Event) (after : Bool) (t u : Trace) → IsWellFormed t → Moves t end other after (Ok u)
    → MovedCompletion end other after t u

-- no completion is moved in two ways, unless memory runs out
abbrev pub OneMove : Type 0
OneMove = (t : Trace) (end other : Event) (after : Bool) (a b : Result Trace EditError) → Moves t end other after a → Moves t end other after b
    → (a ≡ Err Memory) ⊎ (b ≡ Err Memory) ⊎ (a ≡ b)

-- a channel that isn't there completes nothing
abbrev pub NoChannelNoEnd : Type 0
NoChannelNoEnd = (t : Trace) → IsWellFormed t → count End (length t.channels) t.packets ≡ 0
