-- Running counts of completions are the clocks.
use Rattle.std.proofs.Common.{◌≡◌, ℕ, ◌+◌, ◌<◌, ◌≤◌, List, Some, length, get_or, slice_get, take, replicate, sym, ap, ◌∙◌, add-one, arith}
use Rattle.std.proofs.lemmas.List.{length-take-le, get_or-replicate, length-replicate}
use Rattle.std.proofs.lemmas.List.Sums.{count_by-le-length}
use Rattle.std.proofs.lemmas.List.FromFn.{fill_by_all, get_or-map-range_with_len, length-map-range_with_len}
use Rattle.std.specs.Int.{bit_at}
use Rattle.trace_model.specs.declared.event.Kind.TheVariants.{End}
use Rattle.trace_model.specs.declared.packet.Packet.{Packet}
use Rattle.trace_model.specs.Packet.{does}
use Rattle.trace_model.specs.Clock.{clock}
use Rattle.trace_model.proofs.FlightLemmas.{count-end-suc}
use Rattle.vec_clock.specs.Counts.{clock_counts}

pub counts-length : (n : ℕ) (packets : List Packet) (p : ℕ) → length (clock_counts n packets p) ≡ n
counts-length n packets p = length-map-range_with_len (clock packets p) 0 n

pub counts-long : (n : ℕ) (packets : List Packet) (p : ℕ) (clock : List ℕ) → clock ≡ clock_counts n packets p → length clock ≡ n
counts-long n packets p clock is = ap length is ∙ counts-length n packets p

pub counts-at : (n : ℕ) (packets : List Packet) (p c : ℕ) → c < n → get_or (clock_counts n packets p) c 0 ≡ clock packets p c
counts-at n packets p c l = get_or-map-range_with_len (clock packets p) 0 n c c 0 l (omega arith)

-- before the first packet nothing has completed
pub counts-first : (n : ℕ) (packets : List Packet) → replicate n 0 ≡ clock_counts n packets 0
counts-first n packets = fill_by_all (clock packets 0) (replicate n 0) n 0 (length-replicate n 0) (λ k l. get_or-replicate n k 0 0 l)

-- no count is above the number of packets before
pub counts-small : (n : ℕ) (packets : List Packet) (p c : ℕ) → p ≤ length packets → c < n → get_or (clock_counts n packets p) c 0 ≤ p
counts-small n packets p c l within =
    omega (arith, counts-at n packets p c within, count_by-le-length (does End c) (take p packets), length-take-le p packets l)

-- one packet further
pub counts-on : (n : ℕ) (packets : List Packet) (p : ℕ) (packet : Packet) (new : List ℕ) → slice_get packets p ≡ Some packet
    → length new ≡ n → ((c : ℕ) → c < n → get_or new c 0 ≡ get_or (clock_counts n packets p) c 0 + bit_at packet.ends c)
    → new ≡ clock_counts n packets (p + 1)
counts-on n packets p packet new there long each =
    fill_by_all (clock packets (p + 1)) new n 0 long (λ k l.
    each k l ∙ ap (λ m. m + bit_at packet.ends k) (counts-at n packets p k l) ∙ sym (count-end-suc packets p packet k there)
    ∙ ap (λ m. clock packets m k) (sym (add-one p)))
