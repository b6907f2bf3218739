-- Lists of packets in bytes, each packet spelled by bytes of its own: of two such lists in the same bytes one goes on where the other ends.
use Rattle.std.proofs.Common.{◌≡◌, ◌≢◌, ℕ, ◌≤◌, ◌⊎◌, List, [], ◌∷◌, ◌++◌, length, All, inl, inr, ⊎_elim, refl, sym, ap, subst, ◌∙◌}
use Rattle.std.proofs.Common.{append_assoc, arith}
use Rattle.std.specs.List.{flat_map, AllByRecursion}
use Rattle.std.proofs.lemmas.List.{append-nil, get_or_at, length-append, flat_map_more}
use Rattle.std.proofs.lemmas.List.Elements.{recursion_from_All}
use Rattle.vec_clock.specs.trace_model.declared.packet.Packet.{Packet}
use Rattle.trace_code.specs.Encoding.{end_mark}

-- lawful packets with the same bytes are the same, whatever follows them
abbrev pub SpellsOnce : (Packet → Type 0) → (Packet → List ℕ) → Type 0
SpellsOnce Lawful spell = (p q : Packet) (xs ys : List ℕ) → Lawful p → Lawful q → spell p ++ xs ≡ spell q ++ ys → (p ≡ q) × (xs ≡ ys)

-- no packet begins where the end of a trace stands
abbrev pub EndsNowhere : (Packet → List ℕ) → Type 0
EndsNowhere spell = (p : Packet) (n : ℕ) (rest : List ℕ) → end_mark n ≢ spell p ++ rest

regroup : (spell : Packet → List ℕ) (p : Packet) (ps : List Packet) (rest : List ℕ) → flat_map spell (p ∷ ps) ++ rest
    ≡ spell p ++ (flat_map spell ps ++ rest)
regroup spell p ps rest = append_assoc (spell p) (flat_map spell ps) rest

-- a list of packets goes on where another ends, with what follows each
pub record GoesOn (spell : Packet → List ℕ) (front all : List Packet) (rest left : List ℕ) : Type 0 where
  pub others : List Packet
  pub whole : all ≡ front ++ others
  pub parts : rest ≡ flat_map spell others ++ left

goes_on-cons : (spell : Packet → List ℕ) (p q : Packet) (front all : List Packet) (rest left : List ℕ) → p ≡ q
    → GoesOn spell front all rest left → GoesOn spell (p ∷ front) (q ∷ all) rest left
goes_on-cons spell p q front all rest left e g = record {
  others = g.others;
  whole = ap (λ (x : Packet). x ∷ all) (sym e) ∙ ap (λ (xs : List Packet). p ∷ xs) g.whole;
  parts = g.parts;
}

two-lists : (Lawful : Packet → Type 0) (spell : Packet → List ℕ) → SpellsOnce Lawful spell → (ps qs : List Packet) (r s : List ℕ)
    → AllByRecursion Lawful ps → AllByRecursion Lawful qs → flat_map spell ps ++ r ≡ flat_map spell qs ++ s
    → GoesOn spell ps qs r s ⊎ GoesOn spell qs ps s r
two-lists Lawful spell once [] qs r s hp hq e = inl (record { others = qs; whole = refl; parts = e })
two-lists Lawful spell once (p ∷ ps) [] r s hp hq e = inr (record { others = p ∷ ps; whole = refl; parts = sym e })
two-lists Lawful spell once (p ∷ ps) (q ∷ qs) r s hp hq e =
    let same = once p q (flat_map spell ps ++ r) (flat_map spell qs ++ s) hp.0 hq.0
    (sym (regroup spell p ps r) ∙ e ∙ regroup spell q qs s) in
    ⊎_elim
    (λ (g : GoesOn spell ps qs r s). inl (goes_on-cons spell p q ps qs r s same.0 g))
    (λ (g : GoesOn spell qs ps s r). inr (goes_on-cons spell q p qs ps s r (sym same.0) g))
    (two-lists Lawful spell once ps qs r s hp.1 hq.1 same.1)

pub compared : (Lawful : Packet → Type 0) (spell : Packet → List ℕ) → SpellsOnce Lawful spell → (ps qs : List Packet) (r s : List ℕ)
    → All Lawful ps → All Lawful qs → flat_map spell ps ++ r ≡ flat_map spell qs ++ s → GoesOn spell ps qs r s ⊎ GoesOn spell qs ps s r
compared Lawful spell once ps qs r s hp hq e =
    two-lists Lawful spell once ps qs r s (recursion_from_All Lawful ps hp) (recursion_from_All Lawful qs hq) e

-- none goes on where the end of a trace stands
pub ended : (spell : Packet → List ℕ) → EndsNowhere spell → (front all : List Packet) (n : ℕ) (left : List ℕ)
    → GoesOn spell front all (end_mark n) left → (all ≡ front) × (end_mark n ≡ left)
ended spell nowhere front all n left g = cases g.others g.whole g.parts
  where
    cases : (others : List Packet) → all ≡ front ++ others → end_mark n ≡ flat_map spell others ++ left → (all ≡ front)
        × (end_mark n ≡ left)
    cases [] whole parts = (whole ∙ append-nil front, parts)
    cases (q ∷ qs) whole parts = absurd (nowhere q n (flat_map spell qs ++ left) (parts ∙ regroup spell q qs left))

All-middle : (Lawful : Packet → Type 0) (front : List Packet) (q : Packet) (qs : List Packet) → All Lawful (front ++ q ∷ qs) → Lawful q
All-middle Lawful front q qs each =
    subst Lawful (get_or_at front q qs q (length front) refl) (each (length front) q (omega (arith, length-append front (q ∷ qs))))

-- behind all packets that make a chain none goes on
pub none-behind : (Lawful : Packet → Type 0) (spell : Packet → List ℕ) (Chain : List Packet → Type 0)
    → ((front others : List Packet) → Chain (front ++ others) → Chain front) → (rest left : List ℕ) (ps qs : List Packet)
    → ((p : Packet) (after : List ℕ) → Lawful p → Chain (ps ++ p ∷ []) → rest ≢ spell p ++ after) → All Lawful qs → Chain qs
    → GoesOn spell ps qs rest left → (qs ≡ ps) × (rest ≡ left)
none-behind Lawful spell Chain front_of rest left ps qs last each chain g = cases g.others g.whole g.parts
  where
    cases : (others : List Packet) → qs ≡ ps ++ others → rest ≡ flat_map spell others ++ left → (qs ≡ ps) × (rest ≡ left)
    cases [] whole parts = (whole ∙ append-nil ps, parts)
    cases (q ∷ others) whole parts =
        let grouped : qs ≡ (ps ++ q ∷ []) ++ others = whole ∙ sym (append_assoc ps (q ∷ []) others) in
        absurd (last q (flat_map spell others ++ left) (All-middle Lawful ps q others (subst (All Lawful) whole each))
        (front_of (ps ++ q ∷ []) others (subst Chain grouped chain)) (parts ∙ regroup spell q others left))

-- one packet more
pub parts-push : (spell : Packet → List ℕ) (front new : List Packet) (p : Packet) (bytes rest after : List ℕ) → bytes
    ≡ flat_map spell front ++ rest → rest ≡ spell p ++ after → new ≡ front ++ p ∷ [] → bytes ≡ flat_map spell new ++ after
parts-push spell front new p bytes rest after parts here push =
    let spelled : flat_map spell new ≡ flat_map spell front ++ spell p = ap (flat_map spell) push ∙ sym (flat_map_more spell [] front p) in
    parts ∙ ap (λ (t : List ℕ). flat_map spell front ++ t) here
    ∙ sym (append_assoc (flat_map spell front) (spell p) after) ∙ ap (λ (t : List ℕ). t ++ after) (sym spelled)

-- no more packets than bytes
pub packets-few : (spell : Packet → List ℕ) → ((p : Packet) → 1 ≤ length (spell p)) → (ps : List Packet)
    → length ps ≤ length (flat_map spell ps)
packets-few spell some [] = omega arith
packets-few spell some (p ∷ ps) =
    omega (arith, some p, packets-few spell some ps, length-append (spell p) (flat_map spell ps))
