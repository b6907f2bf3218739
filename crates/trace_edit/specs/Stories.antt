-- A channel's starts and completions in their order, with the resets among them, whatever packets they stand in: a move changes no channel's
-- story, and so keeps a trace well-formed.
use Rattle.std.specs.Prelude.{◌≡◌, ◌↔◌, ℕ, Bool, true, false, List, [], ◌∷◌, ◌++◌, if◌then◌else◌}
use Rattle.std.specs.List.{flat_map}
use Rattle.trace_model.specs.vidi_bits.Number.{has}
use Rattle.trace_model.specs.declared.event.Kind.{Kind}
use Rattle.trace_model.specs.declared.event.Kind.TheVariants.{Start, End, Reset}
use Rattle.trace_model.specs.declared.packet.Packet.{Packet}
use Rattle.trace_model.specs.Epoch.{epoch}
use Rattle.trace_model.specs.Trace.{Alternates}

-- in one packet the start comes first
abbrev pub told_in : ℕ → Packet → List Kind
told_in c x = if x.reset then Reset ∷ [] else (if has x.starts c then Start ∷ [] else []) ++ (if has x.ends c then End ∷ [] else [])

abbrev pub story : ℕ → List Packet → List Kind
story c packets = flat_map (told_in c) packets

-- a start where nothing is in flight, a completion where something is; behind a reset nothing is
abbrev pub alternating : Bool → List Kind → Bool
alternating flies [] = true
alternating false (Start ∷ more) = alternating true more
alternating true (Start ∷ more) = false
alternating false (End ∷ more) = false
alternating true (End ∷ more) = alternating false more
alternating flies (Reset ∷ more) = alternating false more

-- starts and ends alternate in each epoch exactly where they do in each channel's story
abbrev pub StoriesAlternate : Type 0
StoriesAlternate = (packets : List Packet) → ((e : ℕ) → Alternates (epoch e packets)) ↔ ((c : ℕ) → alternating false (story c packets) ≡ true)
