-- The text of a map has one reading.
use Rattle.std.proofs.Common.{◌≡◌, ◌⊎◌, ℕ, List, [], ◌∷◌, Some, inl, inr, true, refl, sym, ap, subst, ◌∙◌}
use Rattle.std.proofs.Props.{props}
use Rattle.std.specs.List.{flat_map, list_all}
use Rattle.vidi_lines.specs.vidi_bits.Findings.{first}
use Rattle.chan_map.specs.declared.error.MapError.{MapError}
use Rattle.chan_map.specs.declared.error.MapError.TheVariants.{Line, Port, Cover, Limit, Memory}
use Rattle.chan_map.specs.declared.map_text.MapLine.{MapLine}
use Rattle.chan_map.specs.declared.text.MapText.{MapText}
use Rattle.chan_map.specs.Follow.{entries, clock_name, top_name, follow, is_named}
use Rattle.chan_map.specs.Text.{text_faults, IsText, IsFirstLine, ReadsMap}
use Rattle.chan_map.specs.Laws.{OneMapText}
use Rattle.vidi_lines.proofs.vidi_bits_lemmas.OneAnswer.{one-answer}

same-one : (a b : List ℕ) → a ∷ [] ≡ b ∷ [] → a ≡ b
same-one a b e = cc

-- ---- texts with the same top, clock and lines are one
abbrev Follows : List MapLine → Type 0
Follows lines = follow [] (entries lines) ≡ true

abbrev AreNamed : List MapLine → Type 0
AreNamed lines = list_all is_named (entries lines) ≡ true

abbrev HasClock : List MapLine → List ℕ → Type 0
HasClock lines clock = flat_map clock_name (entries lines) ≡ clock ∷ []

follows-prop : (lines : List MapLine) → IsProp (Follows lines)
follows-prop lines = hlevel props

named-prop : (lines : List MapLine) → IsProp (AreNamed lines)
named-prop lines = hlevel props

clock-prop : (lines : List MapLine) (clock : List ℕ) → IsProp (HasClock lines clock)
clock-prop lines clock = hlevel props

-- with these parts
abbrev made : (top clock : List ℕ) (lines : List MapLine) → Follows lines → AreNamed lines → HasClock lines clock → MapText
made top clock lines f n o = record { top = top; clock = clock; lines = lines; follows = f; named = n; one_clock = o }

abbrev IsMade : MapText → List ℕ → List ℕ → List MapLine → Type 0
IsMade a top clock lines = (f : Follows lines) (n : AreNamed lines) (o : HasClock lines clock) → a ≡ made top clock lines f n o

own-parts : (a : MapText) → IsMade a a.top a.clock a.lines
own-parts a f n o =
    let follows = follows-prop a.lines a.follows f in
    let named = named-prop a.lines a.named n in
    let clock = clock-prop a.lines a.clock a.one_clock o in
    λ i. made a.top a.clock a.lines (follows i) (named i) (clock i)

same-parts : (a b : MapText) → a.top ≡ b.top → a.clock ≡ b.clock → a.lines ≡ b.lines → a ≡ b
same-parts a b top clock lines =
    subst (λ (ls : List MapLine). IsMade a b.top b.clock ls) lines
    (subst (λ (c : List ℕ). IsMade a b.top c a.lines) clock
    (subst (λ (t : List ℕ). IsMade a t a.clock a.lines) top (own-parts a)))
    b.follows b.named b.one_clock

same-text : (bytes : List ℕ) (a b : MapText) → IsText bytes a → IsText bytes b → a ≡ b
same-text bytes a b x y =
    let lines : a.lines ≡ b.lines = x.lines ∙ sym y.lines in
    same-parts a b
    (same-one a.top b.top (sym x.top ∙ ap (λ (ls : List MapLine). flat_map top_name (entries ls)) lines ∙ y.top))
    (same-one a.clock b.clock (sym a.one_clock ∙ ap (λ (ls : List MapLine). flat_map clock_name (entries ls)) lines ∙ b.one_clock))
    lines

found : (faults : List ℕ) (e : MapError) → IsFirstLine faults e
    → (e ≡ Memory) ⊎ ((n : ℕ) × (e ≡ Line n) × (first faults ≡ Some n))
found faults (Line n) is = inr (n, refl, is)
found faults (Port n) is = absurd is
found faults (Cover port times) is = absurd is
found faults (Limit what got) is = absurd is
found faults Memory is = inl refl

pub one-map_text : OneMapText
one-map_text bytes = one-answer (λ (a b : MapText). a ≡ b) Memory (IsText bytes) (text_faults bytes) Line (ReadsMap bytes) (λ a x. x)
    (found (text_faults bytes)) (same-text bytes)
