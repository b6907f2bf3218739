-- The running counts of completions are the clocks.
use Rattle.std.proofs.Common.{◌≡◌, ℕ, ◌+◌, ◌<◌, ◌≤◌, Bool, true, false, cond, List, [], ◌∷◌, ◌++◌, Some, length, get_or, slice_get, take, map, refl, sym, ap, ◌∙◌}
use Rattle.std.proofs.Common.{add-one, arith}
use Rattle.std.proofs.lemmas.List.{length-take-le}
use Rattle.std.proofs.lemmas.List.Sums.{count_by-le-length}
use Rattle.std.proofs.lemmas.List.FromFn.{fill_by_all, get_or-map-range_with_len, length-map-range_with_len}
use Rattle.std.specs.Int.{bit_at}
use Rattle.std.specs.List.{range_with_len}
use Rattle.run_model.specs.trace_model.declared.event.Kind.TheVariants.{End}
use Rattle.run_model.specs.trace_model.declared.packet.Packet.{Packet}
use Rattle.run_model.specs.trace_model.Epoch.{since_reset}
use Rattle.run_model.specs.trace_model.Packet.{count, does}
use Rattle.run_model.proofs.trace_model_lemmas.CountingLemmas.{take-suc_get}
use Rattle.run_model.proofs.trace_model_lemmas.EpochLemmas.{since-nil, since-push, since-short}
use Rattle.run_model.proofs.trace_model_lemmas.FlightLemmas.{count-end-push}
use Rattle.report_text.specs.Trace.{epoch_clock}

-- before the first packet nothing has completed
pub clock-first : (packets : List Packet) (n : ℕ) (xs : List ℕ) → length xs ≡ n → ((k : ℕ) → k < n → get_or xs k 0 ≡ 0) → xs
    ≡ map (epoch_clock packets 0) (range_with_len 0 n)
clock-first packets n xs long zeros =
    fill_by_all (epoch_clock packets 0) xs n 0 long (λ k l. zeros k l ∙ sym (ap (λ (ps : List Packet). count End k ps) since-nil))

clock-le : (packets : List Packet) (p c : ℕ) → p ≤ length packets → epoch_clock packets p c ≤ p
clock-le packets p c l = omega (
  arith,
  count_by-le-length (does End c) (since_reset (take p packets)),
  since-short (take p packets),
  length-take-le p packets l,
)

-- no count is above the number of packets before
pub clock-small : (packets : List Packet) (n p : ℕ) (xs : List ℕ) → p ≤ length packets → xs ≡ map (epoch_clock packets p) (range_with_len 0 n)
    → (c : ℕ) → c < length xs → get_or xs c 0 ≤ p
clock-small packets n p xs l e c within =
    let long : length xs ≡ n = ap length e ∙ length-map-range_with_len (epoch_clock packets p) 0 n in
    let here : get_or xs c 0 ≡ epoch_clock packets p c = ap (λ (ys : List ℕ). get_or ys c 0) e
    ∙ get_or-map-range_with_len (epoch_clock packets p) 0 n c c 0 (omega (arith, long)) (omega arith) in
    omega (arith, here, clock-le packets p c l)

-- the clock behind one packet more, which may be a reset
clock-push : (ps : List Packet) (p : Packet) (c : ℕ) (b : Bool) → p.reset ≡ b
    → count End c (since_reset (ps ++ p ∷ [])) ≡ cond b 0 (count End c (since_reset ps) + bit_at p.ends c)
clock-push ps p c true h = ap (λ (qs : List Packet). count End c qs) (since-push ps p ∙ ap (λ b. cond b [] (since_reset ps ++ p ∷ [])) h)
clock-push ps p c false h = ap (λ (qs : List Packet). count End c qs) (since-push ps p ∙ ap (λ b. cond b [] (since_reset ps ++ p ∷ [])) h)
    ∙ count-end-push (since_reset ps) p c

clock-suc : (packets : List Packet) (p : ℕ) (packet : Packet) (c : ℕ) → slice_get packets p ≡ Some packet
    → epoch_clock packets (p + 1) c ≡ cond packet.reset 0 (epoch_clock packets p c + bit_at packet.ends c)
clock-suc packets p packet c there =
    ap (λ m. epoch_clock packets m c) (add-one p)
    ∙ ap (λ (ps : List Packet). count End c (since_reset ps)) (take-suc_get packets p packet there)
    ∙ clock-push (take p packets) packet c packet.reset refl

-- one packet further
pub clock-on : (packets : List Packet) (n p : ℕ) (packet : Packet) (old new : List ℕ) → slice_get packets p ≡ Some packet → old
    ≡ map (epoch_clock packets p) (range_with_len 0 n) → length new ≡ length old
    → ((c : ℕ) → c < length old → get_or new c 0 ≡ cond packet.reset 0 (get_or old c 0 + bit_at packet.ends c)) → new
    ≡ map (epoch_clock packets (p + 1)) (range_with_len 0 n)
clock-on packets n p packet old new there e same each =
    let long : length old ≡ n = ap length e ∙ length-map-range_with_len (epoch_clock packets p) 0 n in
    fill_by_all (epoch_clock packets (p + 1)) new n 0 (same ∙ long) (λ k l.
    let before : get_or old k 0 ≡ epoch_clock packets p k = ap (λ (ys : List ℕ). get_or ys k 0) e
    ∙ get_or-map-range_with_len (epoch_clock packets p) 0 n k k 0 l (omega arith) in
    each k (omega (arith, long)) ∙ ap (λ m. cond packet.reset 0 (m + bit_at packet.ends k)) before
    ∙ sym (clock-suc packets p packet k there))
