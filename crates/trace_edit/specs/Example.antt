-- Worked examples: move_after, move_refusals, and a reset on the way.
use Rattle.std.specs.Prelude.{◌≡◌, ℕ, true, false, Bool, List, [], ◌∷◌}
use Rattle.trace_model.specs.declared.event.Kind.TheVariants.{Start, End, Reset}
use Rattle.trace_model.specs.declared.packet.Packet.{Packet}
use Rattle.trace_model.specs.Packet.{count, plain_packet}
use Rattle.trace_model.specs.Recording.{reset_packet}
use Rattle.trace_edit.specs.declared.place.Move.{Move}
use Rattle.trace_edit.specs.Moved.{does_at, moved, stays}
use Rattle.trace_edit.specs.Stories.{alternating, story}

-- a is channel 0, b channel 1: a byte goes in at a, and a cycle later it comes out at b
abbrev pub one_send : List Packet
one_send = plain_packet 1 1 (5 ∷ []) ∷ plain_packet 2 2 (5 ∷ []) ∷ []

abbrev pub move : ℕ → ℕ → ℕ → Bool → Move
move channel from to after = record { channel = channel; from = from; to = to; after = after }

-- both start at once, and complete one after the other
abbrev pub both_in_one : List Packet
both_in_one = plain_packet 3 0 (5 ∷ 5 ∷ []) ∷ plain_packet 0 1 [] ∷ plain_packet 0 2 [] ∷ []

-- a completes, then the design is reset, then b completes
abbrev pub with_reset : List Packet
with_reset = plain_packet 1 1 (5 ∷ []) ∷ reset_packet 0 ∷ plain_packet 2 2 (5 ∷ []) ∷ []

pub record Examples : Type 0 where
  pub after : moved (move 0 0 1 true) one_send ≡ plain_packet 1 0 (5 ∷ []) ∷ plain_packet 2 2 (5 ∷ []) ∷ plain_packet 0 1 [] ∷ []
  pub not_blocked : does_at Start 0 one_send 1 ≡ false
  pub blocked : does_at Start 1 one_send 1 ≡ true
  pub stays : stays (move 0 0 1 false) ≡ true
  pub unmoved : moved (move 0 0 1 false) one_send ≡ one_send
  pub no_end : count End 0 one_send ≡ 1
  pub dropped : moved (move 0 1 2 true) both_in_one ≡ plain_packet 3 0 (5 ∷ 5 ∷ []) ∷ plain_packet 0 2 [] ∷ plain_packet 0 1 [] ∷ []
  pub reset : does_at Reset 0 with_reset 1 ≡ true
  pub told : story 0 with_reset ≡ Start ∷ End ∷ Reset ∷ []
  pub alternates : alternating false (story 0 with_reset) ≡ true
