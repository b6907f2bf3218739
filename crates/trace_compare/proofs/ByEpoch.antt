-- The findings of one epoch more.
use Rattle.std.proofs.Common.{◌≡◌, ℕ, suc, ◌+◌, ◌-◌, ◌<◌, ◌≤◌, List, [], ◌++◌, length, sym, ap, ◌∙◌, arith}
use Rattle.std.specs.Prelude.{nat_lt}
use Rattle.std.proofs.lemmas.List.{append-nil}
use Rattle.std.specs.List.{flat_map, range_with_len}
use Rattle.vec_clock.specs.trace_model.declared.channel.Channel.{Channel}
use Rattle.vec_clock.specs.trace_model.declared.packet.Packet.{Packet}
use Rattle.vec_clock.specs.trace_model.declared.event.Kind.TheVariants.{Reset}
use Rattle.vec_clock.specs.trace_model.declared.trace.Trace.{Trace}
use Rattle.vec_clock.specs.trace_model.Epoch.{epoch, resets}
use Rattle.trace_compare.specs.declared.report.Finding.{Finding}
use Rattle.trace_compare.specs.declared.report.What.TheVariants.{MissingReset, ExtraReset}
use Rattle.trace_compare.specs.Findings.{epochs_in_both, findings, findings_in, findings_on, found, only_one}

none : (e : ℕ) → 0 + e ≡ e
none e = omega arith

-- at first nothing is found, and the rests are whole
pub first-found : {X : Type 0} (F : ℕ → List X) (n : ℕ) (found : List X) → found ≡ []
    → found ++ flat_map F (range_with_len 0 (n - 0)) ≡ flat_map F (range_with_len 0 n)
first-found F n found h = ap (λ xs. xs ++ flat_map F (range_with_len 0 (n - 0))) h
    ∙ ap (λ k. flat_map F (range_with_len 0 k)) (let z : n - 0 ≡ n = omega arith in z)

pub first-rest : (a rest : List Packet) → rest ≡ a → (k : ℕ) → epoch k rest ≡ epoch (k + 0) a
first-rest a rest h k = ap (epoch k) h ∙ ap (λ n. epoch n a) (let z : k ≡ k + 0 = omega arith in z)

-- those of what stands at the front of the rests are those of epoch e
pub findings-here : (channels : List Channel) (a b rest_a rest_b here_a here_b : List Packet) (e : ℕ)
    → here_a ≡ epoch 0 rest_a → here_b ≡ epoch 0 rest_b
    → ((k : ℕ) → epoch k rest_a ≡ epoch (k + e) a) → ((k : ℕ) → epoch k rest_b ≡ epoch (k + e) b)
    → flat_map (findings_on e channels here_a here_b) (range_with_len 0 (length channels)) ≡ findings_in channels a b e
findings-here channels a b rest_a rest_b here_a here_b e at_a at_b on_a on_b =
    ap (λ xs. flat_map (findings_on e channels xs here_b) (range_with_len 0 (length channels))) (at_a ∙ on_a 0 ∙ ap (λ k. epoch k a) (none e))
    ∙ ap (λ ys. flat_map (findings_on e channels (epoch e a) ys) (range_with_len 0 (length channels))) (at_b ∙ on_b 0 ∙ ap (λ k. epoch k b) (none e))

-- what is behind them is the rest of the epochs
pub later-rest : (a rest later : List Packet) (e : ℕ) → ((k : ℕ) → epoch k later ≡ epoch (suc k) rest)
    → ((k : ℕ) → epoch k rest ≡ epoch (k + e) a) → (k : ℕ) → epoch k later ≡ epoch (k + (e + 1)) a
later-rest a rest later e behind on k =
    behind k ∙ on (suc k) ∙ ap (λ n. epoch n a) (let z : suc k + e ≡ k + (e + 1) = omega arith in z)

-- where neither has a reset there is one epoch, with all packets
pub findings-alone : (a b : Trace) → resets a.packets ≡ 0 → resets b.packets ≡ 0 → epoch 0 a.packets ≡ a.packets → epoch 0 b.packets ≡ b.packets
    → findings a b ≡ flat_map (findings_on 0 a.channels a.packets b.packets) (range_with_len 0 (length a.channels))
findings-alone a b none_a none_b whole_a whole_b =
    let F = findings_in a.channels a.packets b.packets in
    let one : epochs_in_both a.packets b.packets ≡ 1 = omega (arith, none_a, none_b) in
    ap (λ n. flat_map F (range_with_len 0 n) ++ only_one 0 Reset 0 a.packets b.packets) one
    ∙ ap (λ n. (F 0 ++ []) ++ (found (nat_lt (resets b.packets) n) 0 0 MissingReset (resets b.packets) 1
    ++ found (nat_lt n (resets b.packets)) 0 0 ExtraReset n 1)) none_a
    ∙ ap (λ n. (F 0 ++ []) ++ (found (nat_lt n 0) 0 0 MissingReset n 1 ++ found (nat_lt 0 n) 0 0 ExtraReset 0 1)) none_b
    ∙ append-nil (F 0 ++ []) ∙ append-nil (F 0)
    ∙ ap (λ xs. flat_map (findings_on 0 a.channels xs (epoch 0 b.packets)) (range_with_len 0 (length a.channels))) whole_a
    ∙ ap (λ ys. flat_map (findings_on 0 a.channels a.packets ys) (range_with_len 0 (length a.channels))) whole_b
