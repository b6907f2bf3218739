-- Two laws of a packet: what is read is spelled so, and what is spelled so is read.
use Rattle.std.proofs.Common.{◌≡◌, ℕ, ◌+◌, ◌*◌, ◌/◌, ◌%◌, ◌^◌, ◌<◌, ◌≤◌, Bool, true, false, cond, eqb, List, [], ◌∷◌, ◌++◌, length}
use Rattle.std.proofs.Common.{Some, None, Result, Ok, Err, MatchResult, ⊎_elim, refl, sym, ap, subst, ◌∙◌, append_assoc, arith}
use Rattle.std.specs.Prelude.{IfOk}
use Rattle.std.specs.Int.{bytes_high_first}
use Rattle.std.proofs.lemmas.Bool.{cases_Bool, cond-false, cond-true, eqb-true}
use Rattle.std.proofs.lemmas.Option.{same_Some, none-some}
use Rattle.vec_clock.specs.trace_model.declared.channel.Channel.{Channel}
use Rattle.vec_clock.specs.trace_model.declared.packet.Packet.{Packet}
use Rattle.vec_clock.specs.trace_model.declared.packet.TheConstants.{GAP_LIMIT}
use Rattle.vec_clock.specs.trace_model.Channel.{byte_count}
use Rattle.vec_clock.specs.trace_model.Packet.{is_bare, IsPacket, widths_under, Fit}
use Rattle.vec_clock.specs.trace_model.Recording.{reset_packet}
use Rattle.vec_clock.proofs.trace_model_lemmas.TraceLaws.{reset-is, reset-lawful}
use Rattle.trace_code.specs.declared.error.CodeError.{CodeError}
use Rattle.trace_code.specs.declared.error.CodeError.TheVariants.{BadTrace, Memory}
use Rattle.trace_code.specs.Encoding.{events_bytes, gap_bytes, mask_bytes, number_bytes, packet_bytes}
use Rattle.trace_code.specs.Reading.{◌>>=◌, Gives}
use Rattle.trace_code.specs.PacketReading.{mask_at, number_at, numbers_at, tag_at, gap_at, masks_at, events_at, packet_at}
use Rattle.trace_code.proofs.Table.{bind_some, tested}
use Rattle.trace_code.proofs.NumberLaws.{IsBytes, IsBytes-rest, Takes, Takes-then, mask_takes, mask_again, number_takes, number_again}

-- ---- numbers

pub numbers_take : (ws bytes : List ℕ) (x : List ℕ × List ℕ) → IsBytes bytes → numbers_at ws bytes ≡ Some x
    → Takes bytes (number_bytes ws x.0) x.1 × Fit ws x.0
unfolding numbers_at
numbers_take [] bytes x fits e =
    subst (λ (y : List ℕ × List ℕ). Takes bytes (number_bytes [] y.0) y.1 × Fit [] y.0) (same_Some ([], bytes) x e)
    (record { parts = refl; rest_fits = fits }, tt)
numbers_take (w ∷ ws) bytes x fits e =
    let a = bind_some (number_at w bytes) (λ first. numbers_at ws first.1 >>= λ others. Some (first.0 ∷ others.0, others.1)) x e in
    let b = bind_some (numbers_at ws a.0.1) (λ others. Some (a.0.0 ∷ others.0, others.1)) x a.2 in
    let first = number_takes w bytes a.0 fits a.1 in
    let second = numbers_take ws a.0.1 b.0 first.0.rest_fits b.1 in
    let made : List ℕ × List ℕ = (a.0.0 ∷ b.0.0, b.0.1) in
    let both : Takes bytes (number_bytes (w ∷ ws) made.0) made.1 = Takes-then bytes (bytes_high_first (byte_count w) a.0.0) a.0.1
    (number_bytes ws b.0.0) b.0.1 first.0 second.0 in
    subst (λ (y : List ℕ × List ℕ). Takes bytes (number_bytes (w ∷ ws) y.0) y.1 × Fit (w ∷ ws) y.0) (same_Some made x b.2)
    (both, (first.1, second.1))

pub numbers_again : (ws xs rest : List ℕ) → Fit ws xs → numbers_at ws (number_bytes ws xs ++ rest) ≡ Some (xs, rest)
unfolding numbers_at
numbers_again [] [] rest fit = refl
numbers_again [] (x ∷ xs) rest fit = absurd fit
numbers_again (w ∷ ws) [] rest fit = absurd fit
numbers_again (w ∷ ws) (x ∷ xs) rest fit =
    let grouped : number_bytes (w ∷ ws) (x ∷ xs) ++ rest ≡ bytes_high_first (byte_count w) x
    ++ (number_bytes ws xs ++ rest) = append_assoc (bytes_high_first (byte_count w) x) (number_bytes ws xs) rest in
    ap (numbers_at (w ∷ ws)) grouped ∙ rw (number_again w x (number_bytes ws xs ++ rest) fit.0, numbers_again ws xs rest fit.1) refl

-- ---- the byte, the gap and the masks

tag_takes : (bytes : List ℕ) (x : Bool × List ℕ) → tag_at bytes ≡ Some x → bytes ≡ cond x.0 2 1 ∷ x.1
unfolding tag_at
tag_takes [] x e = absurd cc
tag_takes (b ∷ bytes) x e = row (eqb b 1) refl
  where
    reset : (t : Bool) → eqb b 2 ≡ t → cond t (Some (true, bytes)) None ≡ Some x → b ∷ bytes ≡ cond x.0 2 1 ∷ x.1
    reset true h is = ap (λ n. n ∷ bytes) (eqb-true b 2 h)
        ∙ ap (λ (y : Bool × List ℕ). cond y.0 2 1 ∷ y.1) (same_Some (true, bytes) x is)
    reset false h is = absurd cc

    row : (t : Bool) → eqb b 1 ≡ t → b ∷ bytes ≡ cond x.0 2 1 ∷ x.1
    row true h = ap (λ n. n ∷ bytes) (eqb-true b 1 h)
        ∙ ap (λ (y : Bool × List ℕ). cond y.0 2 1 ∷ y.1) (same_Some (false, bytes) x
        (sym (ap (λ t. cond t (Some (false, bytes)) (cond (eqb b 2) (Some (true, bytes)) None)) h) ∙ e))
    row false h = reset (eqb b 2) refl (sym (ap (λ t. cond t (Some (false, bytes)) (cond (eqb b 2) (Some (true, bytes)) None)) h) ∙ e)

row_again : (rest : List ℕ) → tag_at (1 ∷ rest) ≡ Some (false, rest)
unfolding tag_at
row_again rest = refl

reset_again : (rest : List ℕ) → tag_at (2 ∷ rest) ≡ Some (true, rest)
unfolding tag_at
reset_again rest = refl

gap_takes : (bytes : List ℕ) (x : ℕ × List ℕ) → IsBytes bytes → gap_at bytes ≡ Some x → Takes bytes (gap_bytes x.0) x.1 × (x.0 < GAP_LIMIT)
unfolding gap_at
gap_takes [] x fits e = absurd cc
gap_takes (high ∷ []) x fits e = absurd cc
gap_takes (high ∷ low ∷ rest) x fits e =
    let h = fits 0 in
    let l = fits 1 in
    let first : high ≡ (256 * high + low) / 256 % 256 = omega arith in
    let second : low ≡ (256 * high + low) % 256 = omega arith in
    subst (λ (y : ℕ × List ℕ). Takes (high ∷ low ∷ rest) (gap_bytes y.0) y.1 × (y.0 < GAP_LIMIT)) (same_Some (256 * high + low, rest) x e) (
      record {
        parts = λ i. first i ∷ second i ∷ rest;
        rest_fits = IsBytes-rest low rest (IsBytes-rest high (low ∷ rest) fits);
      },
      omega (arith, h, l),
    )

gap_again : (gap : ℕ) (rest : List ℕ) → gap < GAP_LIMIT → gap_at (gap_bytes gap ++ rest) ≡ Some (gap, rest)
unfolding gap_at
gap_again gap rest l =
    let same : 256 * (gap / 256 % 256) + gap % 256 ≡ gap = omega arith in
    ap (λ n. Some (n, rest)) same

pub record TakesMasks (n : ℕ) (bytes : List ℕ) (x : ℕ × ℕ × List ℕ) : Type 0 where
  pub parts : Takes bytes (mask_bytes n x.0 ++ mask_bytes n x.1) x.2
  pub starts : x.0 < 2 ^ n
  pub ends : x.1 < 2 ^ n
  pub event : false ≡ is_bare x.0 x.1

pub masks_take : (n : ℕ) (bytes : List ℕ) (x : ℕ × ℕ × List ℕ) → IsBytes bytes → masks_at n bytes ≡ Some x → TakesMasks n bytes x
unfolding masks_at
masks_take n bytes x fits e =
    let a = bind_some (mask_at n bytes) (λ starts. mask_at n starts.1 >>= λ ends. cond (is_bare starts.0 ends.0) None
    (Some (starts.0, ends.0, ends.1))) x e in
    let b = bind_some (mask_at n a.0.1) (λ ends. cond (is_bare a.0.0 ends.0) None (Some (a.0.0, ends.0, ends.1))) x a.2 in
    let made : ℕ × ℕ × List ℕ = (a.0.0, b.0.0, b.0.1) in
    let g = tested (is_bare a.0.0 b.0.0) made x b.2 in
    let first = mask_takes n bytes a.0 fits a.1 in
    let second = mask_takes n a.0.1 b.0 first.0.rest_fits b.1 in
    let both = Takes-then bytes (mask_bytes n a.0.0) a.0.1 (mask_bytes n b.0.0) b.0.1 first.0 second.0 in
    subst (TakesMasks n bytes) g.1 (record { parts = both; starts = first.1; ends = second.1; event = sym g.0 })

pub masks_again : (n starts ends : ℕ) (rest : List ℕ) → starts < 2 ^ n → ends < 2 ^ n → false ≡ is_bare starts ends
    → masks_at n (mask_bytes n starts ++ (mask_bytes n ends ++ rest)) ≡ Some (starts, ends, rest)
unfolding masks_at
masks_again n starts ends rest low high event =
    rw (mask_again n starts (mask_bytes n ends ++ rest) low, mask_again n ends rest high, ← event) refl

-- ---- what a packet with events has behind its gap

regroup : (cs : List Channel) (starts ends : ℕ) (contents rest : List ℕ) → events_bytes cs starts ends contents ++ rest
    ≡ mask_bytes (length cs) starts ++ (mask_bytes (length cs) ends ++ (number_bytes (widths_under starts cs) contents ++ rest))
regroup cs starts ends contents rest =
    append_assoc (mask_bytes (length cs) starts) (mask_bytes (length cs) ends ++ number_bytes (widths_under starts cs) contents) rest
    ∙ ap (λ (t : List ℕ). mask_bytes (length cs) starts ++ t) (append_assoc (mask_bytes (length cs) ends)
    (number_bytes (widths_under starts cs) contents) rest)

-- a packet with events
abbrev row_packet : ℕ → ℕ → ℕ → List ℕ → Packet
row_packet gap starts ends contents = record { gap = gap; reset = false; starts = starts; ends = ends; contents = contents }

events_take : (cs : List Channel) (gap : ℕ) (bytes : List ℕ) (x : Packet × List ℕ) → IsBytes bytes → gap < GAP_LIMIT
    → events_at cs gap bytes ≡ Some x → IsPacket cs x.0 × (1 ∷ (gap_bytes gap ++ bytes) ≡ packet_bytes cs x.0 ++ x.1)
unfolding events_at
events_take cs gap bytes x fits l e =
    let n = length cs in
    let b = bind_some (masks_at n bytes) (λ masks. numbers_at (widths_under masks.0 cs) masks.2
    >>= λ contents. Some (row_packet gap masks.0 masks.1 contents.0, contents.1)) x e in
    let d = bind_some (numbers_at (widths_under b.0.0 cs) b.0.2) (λ contents. Some
    (row_packet gap b.0.0 b.0.1 contents.0, contents.1)) x b.2 in
    let made : Packet × List ℕ = (row_packet gap b.0.0 b.0.1 d.0.0, d.0.1) in
    let second = masks_take n bytes b.0 fits b.1 in
    let third = numbers_take (widths_under b.0.0 cs) b.0.2 d.0 second.parts.rest_fits d.1 in
    let masks = mask_bytes n b.0.0 in
    let ends = mask_bytes n b.0.1 in
    let inner : bytes ≡ events_bytes cs b.0.0 b.0.1 d.0.0 ++ d.0.1 =
    second.parts.parts ∙ append_assoc masks ends b.0.2 ∙ ap (λ (t : List ℕ). masks ++ (ends ++ t)) third.0.parts
    ∙ sym (regroup cs b.0.0 b.0.1 d.0.0 d.0.1) in
    subst (λ (y : Packet × List ℕ). IsPacket cs y.0 × (1 ∷ (gap_bytes gap ++ bytes) ≡ packet_bytes cs y.0 ++ y.1)) (same_Some made x d.2) (
      record { gap = l; event = second.event; starts = second.starts; ends = second.ends; contents = third.1 },
      ap (λ (t : List ℕ). 1 ∷ (gap_bytes gap ++ t)) inner,
    )

events_again : (cs : List Channel) (gap : ℕ) (p : Packet) (rest : List ℕ) → IsPacket cs p → false ≡ is_bare p.starts p.ends
    → events_at cs gap (events_bytes cs p.starts p.ends p.contents ++ rest) ≡ Some (row_packet gap p.starts p.ends p.contents, rest)
unfolding events_at
events_again cs gap p rest h event =
    ap (events_at cs gap) (regroup cs p.starts p.ends p.contents rest)
    ∙ rw (
      masks_again (length cs) p.starts p.ends (number_bytes (widths_under p.starts cs) p.contents ++ rest) h.starts h.ends event,
      numbers_again (widths_under p.starts cs) p.contents rest h.contents,
    ) refl

-- ---- the packet

-- a reset, or a packet with events
either_take : (cs : List Channel) (bytes rest : List ℕ) (gap : ℕ) (reset : Bool) (x : Packet × List ℕ) → IsBytes rest → gap < GAP_LIMIT
    → bytes ≡ cond reset 2 1 ∷ (gap_bytes gap ++ rest)
    → cond reset (Some (reset_packet gap, rest)) (events_at cs gap rest) ≡ Some x
    → IsPacket cs x.0 × (bytes ≡ packet_bytes cs x.0 ++ x.1)
either_take cs bytes rest gap true x fits l whole e =
    subst (λ (y : Packet × List ℕ). IsPacket cs y.0 × (bytes ≡ packet_bytes cs y.0 ++ y.1)) (same_Some (reset_packet gap, rest) x e)
    (reset-lawful cs gap l, whole)
either_take cs bytes rest gap false x fits l whole e =
    let found = events_take cs gap rest x fits l e in
    (found.0, whole ∙ found.1)

pub packet_takes : (cs : List Channel) (bytes : List ℕ) (x : Packet × List ℕ) → IsBytes bytes → packet_at cs bytes ≡ Some x
    → IsPacket cs x.0 × (bytes ≡ packet_bytes cs x.0 ++ x.1)
unfolding packet_at
packet_takes cs bytes x fits e =
    let a = bind_some (tag_at bytes) (λ tag. gap_at tag.1
    >>= λ gap. cond tag.0 (Some (reset_packet gap.0, gap.1)) (events_at cs gap.0 gap.1)) x e in
    let b = bind_some (gap_at a.0.1) (λ gap. cond a.0.0 (Some (reset_packet gap.0, gap.1)) (events_at cs gap.0 gap.1)) x a.2 in
    let tag = tag_takes bytes a.0 a.1 in
    let gap = gap_takes a.0.1 b.0 (IsBytes-rest (cond a.0.0 2 1) a.0.1 (subst IsBytes tag fits)) b.1 in
    either_take cs bytes b.0.1 b.0.0 a.0.0 x gap.0.rest_fits gap.1
    (tag ∙ ap (λ (t : List ℕ). cond a.0.0 2 1 ∷ t) gap.0.parts) b.2

-- what is told by its parts
row_is : (p : Packet) → p.reset ≡ false → row_packet p.gap p.starts p.ends p.contents ≡ p
row_is p h = λ i. record { gap = p.gap; reset = (sym h) i; starts = p.starts; ends = p.ends; contents = p.contents }

pub packet_again : (cs : List Channel) (p : Packet) (rest : List ℕ) → IsPacket cs p → packet_at cs (packet_bytes cs p ++ rest)
    ≡ Some (p, rest)
unfolding packet_at
packet_again cs p rest h = ⊎_elim
    (λ (r : p.reset ≡ true).
    ap (λ (bs : List ℕ). packet_at cs (bs ++ rest)) (cond-true p.reset (2 ∷ gap_bytes p.gap) (1 ∷ (gap_bytes p.gap
    ++ events_bytes cs p.starts p.ends p.contents)) r)
    ∙ rw (reset_again (gap_bytes p.gap ++ rest), gap_again p.gap rest h.gap)
    (ap (λ (q : Packet). Some (q, rest)) (reset-is cs p h r)))
    (λ (r : p.reset ≡ false).
    ap (λ (bs : List ℕ). packet_at cs (bs ++ rest)) (cond-false p.reset (2 ∷ gap_bytes p.gap) (1 ∷ (gap_bytes p.gap
    ++ events_bytes cs p.starts p.ends p.contents)) r)
    ∙ rw (
      row_again (gap_bytes p.gap ++ (events_bytes cs p.starts p.ends p.contents ++ rest)),
      gap_again p.gap (events_bytes cs p.starts p.ends p.contents ++ rest) h.gap,
      events_again cs p.gap p rest h (sym r ∙ h.event),
    ) (ap (λ (q : Packet). Some (q, rest)) (row_is p r)))
    (cases_Bool p.reset)

-- a packet takes 3 bytes or more
pub packet_some : (cs : List Channel) (p : Packet) → 3 ≤ length (packet_bytes cs p)
packet_some cs p = one p.reset
  where
    one : (b : Bool) → 3 ≤ length (cond b (2 ∷ gap_bytes p.gap) (1 ∷ (gap_bytes p.gap ++ events_bytes cs p.starts p.ends p.contents)))
    one true = omega arith
    one false = omega arith

-- ---- what reading gives, as clauses say it

pub is_found : {X : Type 0} (cs : List Channel) (bytes : List ℕ) (view : X → Packet × List ℕ) (r : Result X CodeError) → IsBytes bytes
    → Gives view r (packet_at cs bytes)
    → IfOk r (λ x. IsPacket cs (view x).0 × (bytes ≡ packet_bytes cs (view x).0 ++ (view x).1))
is_found cs bytes view (Ok x) fits given = packet_takes cs bytes (view x) fits given
is_found cs bytes view (Err e) fits given = tt

pub is_only : {X : Type 0} (cs : List Channel) (bytes : List ℕ) (view : X → Packet × List ℕ) (r : Result X CodeError)
    → Gives view r (packet_at cs bytes)
    → (p : Packet) (rest : List ℕ) → IsPacket cs p → bytes ≡ packet_bytes cs p ++ rest
    → MatchResult r (λ x. ((view x).0 ≡ p) × ((view x).1 ≡ rest)) (λ e. e ≡ Memory)
is_only cs bytes view (Ok x) given p rest h e =
    let s = same_Some (view x) (p, rest) (sym given ∙ ap (packet_at cs) e ∙ packet_again cs p rest h) in
    (ap (λ (y : Packet × List ℕ). y.0) s, ap (λ (y : Packet × List ℕ). y.1) s)
is_only cs bytes view (Err Memory) given p rest h e = refl
is_only cs bytes view (Err (BadTrace at)) given p rest h e = absurd (none-some (p, rest)
    (sym given.1 ∙ ap (packet_at cs) e ∙ packet_again cs p rest h))
