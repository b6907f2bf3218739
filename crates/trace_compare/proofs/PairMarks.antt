-- What is asked of the places of events is what is asked of the events.
use Rattle.std.proofs.Common.{◌≡◌, ℕ, ◌+◌, ◌<◌, ◌≤◌, Bool, List, [], ◌∷◌, ◌++◌, length, get_or, map, min, All, refl, sym, ap, subst}
use Rattle.std.proofs.Common.{◌∙◌, arith}
use Rattle.std.specs.Prelude.{not, nat_eq, nat_lt, take}
use Rattle.std.specs.List.{zip, AllByRecursion}
use Rattle.std.proofs.lemmas.List.{length-map, get_or-map, get_or_default, take_all, length-take}
use Rattle.std.proofs.lemmas.List.Elements.{recursion_from_All}
use Rattle.std.proofs.lemmas.Slice.Zip.{length-zip, get_or-zip}
use lib.Pointwise.{pointwise}
use Rattle.vec_clock.specs.trace_model.declared.channel.Channel.{Channel}
use Rattle.vec_clock.specs.trace_model.declared.event.Kind.{Kind}
use Rattle.vec_clock.specs.trace_model.declared.event.Kind.TheVariants.{Start}
use Rattle.vec_clock.specs.trace_model.declared.packet.Packet.{Packet}
use Rattle.vec_clock.specs.trace_model.Packet.{content_of}
use Rattle.vec_clock.proofs.trace_model_lemmas.CountingLemmas.{take-more_read}
use Rattle.trace_compare.specs.declared.tally.Tally.{Tally}
use Rattle.trace_compare.specs.Findings.{events_from, differs, differing, is_early, early_marks}
use Rattle.trace_compare.specs.Tally.{IsTally}
use Rattle.trace_compare.specs.Walking.{places, AreCovering, no_packet, differing_at, early_at}
use Rattle.trace_compare.proofs.Early.{early-place}
use Rattle.trace_compare.proofs.EventPlaces.{place, IsEvent, events-known}
use Rattle.trace_compare.proofs.Tallies.{before-le, marked-le}

abbrev Event : Type 0
Event = ℕ × Packet

-- ---- pairs of places and pairs of events
same-marks : (f : ℕ × ℕ → Bool) (g : Event × Event → Bool) (P Q : Event → Type 0)
    → ((x y : Event) → P x → Q y → f (x.0, y.0) ≡ g (x, y)) → (xs ys : List Event) → AllByRecursion P xs → AllByRecursion Q ys
    → map f (zip (map place xs) (map place ys)) ≡ map g (zip xs ys)
same-marks f g P Q h [] ys px py = refl
same-marks f g P Q h (x ∷ xs) [] px py = refl
same-marks f g P Q h (x ∷ xs) (y ∷ ys) px py =
    ap (λ (m : Bool). m ∷ map f (zip (map place xs) (map place ys))) (h x y px.0 py.0)
    ∙ ap (λ (ms : List Bool). g (x, y) ∷ ms) (same-marks f g P Q h xs ys px.1 py.1)

both-marks : (f : ℕ × ℕ → Bool) (g : Event × Event → Bool) (kind : Kind) (c : ℕ) (a b : List Packet)
    → ((x y : Event) → IsEvent a x → IsEvent b y → f (x.0, y.0) ≡ g (x, y))
    → map f (zip (places kind c a) (places kind c b)) ≡ map g (zip (events_from kind c 0 a) (events_from kind c 0 b))
both-marks f g kind c a b h = same-marks f g (IsEvent a) (IsEvent b) h (events_from kind c 0 a) (events_from kind c 0 b)
    (recursion_from_All (IsEvent a) (events_from kind c 0 a) (events-known kind c a))
    (recursion_from_All (IsEvent b) (events_from kind c 0 b) (events-known kind c b))

pub differing-same : (channels : List Channel) (c : ℕ) (a b : List Packet)
    → differing_at channels c a b (places Start c a) (places Start c b) ≡ differing channels c a b
differing-same channels c a b =
    both-marks (λ x. differs channels c ((x.0, get_or a x.0 no_packet), (x.1, get_or b x.1 no_packet))) (differs channels c) Start c a b
    (λ x y in_a in_b.
    ap (λ (p : Packet). not (pointwise nat_eq (content_of channels p c) (content_of channels (get_or b y.0 no_packet) c)))
    (in_a.at no_packet)
    ∙ ap (λ (q : Packet). not (pointwise nat_eq (content_of channels x.1 c) (content_of channels q c))) (in_b.at no_packet))

pub early-same : (n : ℕ) (kind : Kind) (c : ℕ) (a b : List Packet) (covering : List ℕ) → AreCovering n a b covering
    → early_at covering (places kind c a) (places kind c b) ≡ early_marks n kind c a b
early-same n kind c a b covering are =
    both-marks (λ x. nat_lt x.1 (get_or covering x.0 0)) (is_early n a b) kind c a b
    (λ x y in_a in_b. early-place n a b x.0 y.0 (get_or covering x.0 0) (are.each x.0 in_a.within) in_b.within)

-- what a comparison of two contents says
pub unequal-at : (channels : List Channel) (c : ℕ) (a b : List Packet) (p q : ℕ) (x y : Packet) (one other : List ℕ) (r : Bool)
    → p < length a → q < length b → x ≡ get_or a p x → y ≡ get_or b q y → one ≡ content_of channels x c → other ≡ content_of channels y c
    → r ≡ not (pointwise nat_eq one other)
    → r ≡ differs channels c ((p, get_or a p no_packet), (q, get_or b q no_packet))
unequal-at channels c a b p q x y one other r lp lq ex ey eo ep er =
    let first = eo ∙ ap (λ (k : Packet). content_of channels k c) (ex ∙ get_or_default a p x no_packet lp) in
    let second = ep ∙ ap (λ (k : Packet). content_of channels k c) (ey ∙ get_or_default b q y no_packet lq) in
    er ∙ ap (λ (xs : List ℕ). not (pointwise nat_eq xs other)) first
    ∙ ap (λ (ys : List ℕ). not (pointwise nat_eq (content_of channels (get_or a p no_packet) c) ys)) second

-- ---- a walk over pairs of places
pub marks-before : (marks : List Bool) (i : ℕ) (t : Tally) → IsTally (take i marks) t → (t.before ≤ i) × (t.marked ≤ i)
marks-before marks i t is = (
  omega (arith, before-le (take i marks) t is, length-take i marks),
  omega (arith, marked-le (take i marks) t is, length-take i marks),
)

pub marks-on : (test : ℕ × ℕ → Bool) (xs ys : List ℕ) (i p q : ℕ) (t u : Tally) (m : Bool) → i < min (length xs) (length ys)
    → p ≡ get_or xs i 0 → q ≡ get_or ys i 0 → m ≡ test (p, q) → IsTally (take i (map test (zip xs ys))) t
    → ((marks : List Bool) → IsTally marks t → IsTally (marks ++ m ∷ []) u) → IsTally (take (i + 1) (map test (zip xs ys))) u
marks-on test xs ys i p q t u m l ep eq em so_far add =
    let marks = map test (zip xs ys) in
    let long : length marks ≡ min (length xs) (length ys) = length-map (zip xs ys) test ∙ length-zip xs ys in
    let pair : get_or (zip xs ys) i (0, 0) ≡ (p, q) = get_or-zip xs ys i (0, 0) (omega (arith, l)) (omega (arith, l))
    ∙ ap (λ k. (k, get_or ys i 0)) (sym ep) ∙ ap (λ k. (p, k)) (sym eq) in
    let here : m ≡ get_or marks i m = em ∙ ap test (sym pair)
    ∙ sym (get_or-map test (zip xs ys) i (0, 0) m (omega (arith, l, length-zip xs ys))) in
    subst (λ (ms : List Bool). IsTally ms u) (sym (take-more_read marks i m (omega (arith, l, long)) here)) (add (take i marks) so_far)

pub marks-done : (test : ℕ × ℕ → Bool) (xs ys : List ℕ) (i : ℕ) (t : Tally) → min (length xs) (length ys) ≤ i
    → IsTally (take i (map test (zip xs ys))) t → IsTally (map test (zip xs ys)) t
marks-done test xs ys i t l so_far =
    subst (λ (ms : List Bool). IsTally ms t) (take_all i (map test (zip xs ys))
    (omega (arith, l, length-map (zip xs ys) test, length-zip xs ys))) so_far
