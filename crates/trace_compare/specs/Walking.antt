-- The places of a channel's events, and what is asked of them.
use Rattle.std.specs.Prelude.{◌≡◌, ℕ, ◌<◌, ◌≤◌, Bool, List, [], ◌++◌, length, map, nat_lt, slice_index, slice_index_or}
use Rattle.std.specs.List.{zip}
use Rattle.vec_clock.specs.trace_model.declared.channel.Channel.{Channel}
use Rattle.vec_clock.specs.trace_model.declared.event.Kind.{Kind}
use Rattle.vec_clock.specs.trace_model.declared.packet.Packet.{Packet}
use Rattle.vec_clock.specs.trace_model.Clock.{clock, Covers}
use Rattle.vec_clock.specs.trace_model.Packet.{plain_packet}
use Rattle.trace_compare.specs.declared.report.Finding.{Finding}
use Rattle.trace_compare.specs.Findings.{events_from, differs, found, missing, extra, early, marked, first_marked}

-- the places of the packets that have a start, or an end, of channel c
abbrev pub places : Kind → ℕ → List Packet → List ℕ
places kind c packets = map (λ (x : ℕ × Packet). x.0) (events_from kind c 0 packets)

-- place has the first packet of b whose clock covers that of packet p of a, or is their number where there is none
pub record IsCovering (n : ℕ) (a b : List Packet) (p place : ℕ) : Type 0 where
  pub before : (q : ℕ) → q < place → ¬ Covers n (clock b q) (clock a p)
  pub from : (q : ℕ) → place ≤ q → q < length b → Covers n (clock b q) (clock a p)

pub record AreCovering (n : ℕ) (a b : List Packet) (covering : List ℕ) : Type 0 where
  pub long : length covering ≡ length a
  pub each : (p : ℕ) → p < length a → IsCovering n a b p (slice_index covering p)

-- ---- the events of a channel at these places of two traces
-- whether the contents of two starts are unequal
abbrev pub no_packet : Packet
no_packet = plain_packet 0 0 []

abbrev pub differing_at : List Channel → ℕ → List Packet → List Packet → List ℕ → List ℕ → List Bool
differing_at channels c a b in_a in_b = map (λ (x : ℕ × ℕ). differs channels c
    ((x.0, slice_index_or a x.0 no_packet), (x.1, slice_index_or b x.1 no_packet))) (zip in_a in_b)

-- whether an event stands in b before each packet whose clock covers the clock in a
abbrev pub early_at : List ℕ → List ℕ → List ℕ → List Bool
early_at covering in_a in_b = map (λ (x : ℕ × ℕ). nat_lt x.1 (slice_index covering x.0)) (zip in_a in_b)

-- ---- findings, by what they rest on
abbrev pub only_of : ℕ → Kind → ℕ → ℕ → ℕ → List Finding
only_of e kind c in_a in_b = found (nat_lt in_b in_a) e c (missing kind) in_b 1 ++ found (nat_lt in_a in_b) e c (extra kind) in_a 1

abbrev pub early_of : ℕ → Kind → ℕ → List Bool → List Finding
early_of e kind c marks = found (nat_lt 0 (marked marks)) e c (early kind) (first_marked marks) (marked marks)
