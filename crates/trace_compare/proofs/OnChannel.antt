-- The findings on a channel, by the places of its events.
use Rattle.std.proofs.Common.{◌≡◌, ℕ, List, ◌++◌, length, ap, ◌∙◌}
use Rattle.vec_clock.specs.trace_model.declared.channel.Channel.{Channel}
use Rattle.vec_clock.specs.trace_model.declared.event.Kind.{Kind}
use Rattle.vec_clock.specs.trace_model.declared.event.Kind.TheVariants.{Start, End}
use Rattle.vec_clock.specs.trace_model.declared.packet.Packet.{Packet}
use Rattle.vec_clock.specs.trace_model.Packet.{count}
use Rattle.trace_compare.specs.declared.report.Finding.{Finding}
use Rattle.trace_compare.specs.Findings.{different, only_one, early_ones, findings_on}
use Rattle.trace_compare.specs.Walking.{places, AreCovering, only_of, early_of, early_at}
use Rattle.trace_compare.proofs.PairMarks.{early-same}
use Rattle.trace_compare.proofs.EventPlaces.{places-counted}

only-same : (e : ℕ) (kind : Kind) (c : ℕ) (a b : List Packet) (m n : ℕ) (in_a in_b : List ℕ) → in_a ≡ places kind c a → in_b ≡ places kind c b
    → m ≡ length in_a → n ≡ length in_b → only_of e kind c m n ≡ only_one e kind c a b
only-same e kind c a b m n in_a in_b ea eb em en =
    ap (λ k. only_of e kind c k n) (em ∙ ap length ea ∙ places-counted kind c a)
    ∙ ap (λ k. only_of e kind c (count kind c a) k) (en ∙ ap length eb ∙ places-counted kind c b)

early-found : (e n : ℕ) (kind : Kind) (c : ℕ) (a b : List Packet) (covering in_a in_b : List ℕ) → AreCovering n a b covering
    → in_a ≡ places kind c a → in_b ≡ places kind c b → early_of e kind c (early_at covering in_a in_b) ≡ early_ones e n kind c a b
early-found e n kind c a b covering in_a in_b are ea eb =
    ap (λ (xs : List ℕ). early_of e kind c (early_at covering xs in_b)) ea
    ∙ ap (λ (ys : List ℕ). early_of e kind c (early_at covering (places kind c a) ys)) eb
    ∙ ap (early_of e kind c) (early-same n kind c a b covering are)

pub findings-same : (e : ℕ) (channels : List Channel) (c : ℕ) (a b : List Packet) (covering starts_a starts_b ends_a ends_b : List ℕ)
    (s t m n : ℕ) → AreCovering (length channels) a b covering → starts_a ≡ places Start c a → starts_b ≡ places Start c b
    → ends_a ≡ places End c a → ends_b ≡ places End c b → s ≡ length starts_a → t ≡ length starts_b → m ≡ length ends_a
    → n ≡ length ends_b
    → different e channels c a b ++ (only_of e Start c s t ++ (only_of e End c m n
    ++ (early_of e Start c (early_at covering starts_a starts_b) ++ early_of e End c (early_at covering ends_a ends_b))))
    ≡ findings_on e channels a b c
findings-same e channels c a b covering starts_a starts_b ends_a ends_b s t m n are sa sb ea eb es et em en =
    let one : List Finding = different e channels c a b in
    let two : List Finding = only_one e Start c a b in
    let three : List Finding = only_one e End c a b in
    let four : List Finding = early_ones e (length channels) Start c a b in
    let late : List Finding = early_of e End c (early_at covering ends_a ends_b) in
    let soon : List Finding = early_of e Start c (early_at covering starts_a starts_b) in
    ap (λ (fs : List Finding). one ++ (fs ++ (only_of e End c m n ++ (soon ++ late))))
    (only-same e Start c a b s t starts_a starts_b sa sb es et)
    ∙ ap (λ (fs : List Finding). one ++ (two ++ (fs ++ (soon ++ late)))) (only-same e End c a b m n ends_a ends_b ea eb em en)
    ∙ ap (λ (fs : List Finding). one ++ (two ++ (three ++ (fs ++ late))))
    (early-found e (length channels) Start c a b covering starts_a starts_b are sa sb)
    ∙ ap (λ (fs : List Finding). one ++ (two ++ (three ++ (four ++ fs))))
    (early-found e (length channels) End c a b covering ends_a ends_b are ea eb)
