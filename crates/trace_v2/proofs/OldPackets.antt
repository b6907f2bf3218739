-- Two laws of an old packet: what is read is spelled so, and what is spelled so is read.
use Rattle.std.proofs.Common.{◌≡◌, ℕ, eqb, List, [], ◌∷◌, ◌++◌, length, Some, Result, Ok, Err, MatchResult, refl, sym, ap, subst, ◌∙◌}
use Rattle.std.proofs.Common.{append_assoc, lit<}
use Rattle.std.specs.Prelude.{IfOk}
use Rattle.std.proofs.lemmas.Bool.{eqb-true}
use Rattle.std.proofs.lemmas.Option.{same_Some, none-some, cond_some}
use Rattle.trace_code.specs.declared.error.CodeError.{CodeError}
use Rattle.trace_code.specs.declared.error.CodeError.TheVariants.{BadTrace, Memory}
use Rattle.trace_code.specs.trace_model.declared.channel.Channel.{Channel}
use Rattle.trace_code.specs.trace_model.declared.packet.Packet.{Packet}
use Rattle.trace_code.specs.trace_model.Packet.{plain_packet, widths_under}
use Rattle.trace_code.specs.Encoding.{mask_bytes, number_bytes}
use Rattle.trace_code.specs.Reading.{◌>>=◌, Gives}
use Rattle.trace_code.specs.PacketReading.{masks_at, numbers_at}
use Rattle.trace_code.proofs.trace_model_lemmas.RowLaws.{plain-is}
use Rattle.trace_code.proofs.Table.{bind_some}
use Rattle.trace_code.proofs.NumberLaws.{IsBytes, IsBytes-rest}
use Rattle.trace_code.proofs.PacketLaws.{masks_take, masks_again, numbers_take, numbers_again}
use Rattle.trace_v2.specs.Old.{IsOldPacket, old_packet_bytes}
use Rattle.trace_v2.specs.OldReading.{old_tag_at, old_packet_at}

-- ---- the byte

tag_takes : (bytes rest : List ℕ) → old_tag_at bytes ≡ Some rest → bytes ≡ 1 ∷ rest
unfolding old_tag_at
tag_takes [] rest e = absurd cc
tag_takes (b ∷ bytes) rest e =
    let g = cond_some (eqb b 1) bytes rest e in
    let one : b ≡ 1 = eqb-true b 1 g.0 in
    rw (one, ← g.1) refl

tag_again : (rest : List ℕ) → old_tag_at (1 ∷ rest) ≡ Some rest
unfolding old_tag_at
tag_again rest = refl

-- ---- the packet

regroup : (cs : List Channel) (p : Packet) (rest : List ℕ) → old_packet_bytes cs p ++ rest
    ≡ 1 ∷ (mask_bytes (length cs) p.starts ++ (mask_bytes (length cs) p.ends
    ++ (number_bytes (widths_under p.starts cs) p.contents ++ rest)))
regroup cs p rest =
    ap (λ (t : List ℕ). 1 ∷ t) (append_assoc (mask_bytes (length cs) p.starts)
    (mask_bytes (length cs) p.ends ++ number_bytes (widths_under p.starts cs) p.contents) rest
    ∙ ap (λ (t : List ℕ). mask_bytes (length cs) p.starts ++ t) (append_assoc (mask_bytes (length cs) p.ends)
    (number_bytes (widths_under p.starts cs) p.contents) rest))

pub old_packet_takes : (cs : List Channel) (bytes : List ℕ) (x : Packet × List ℕ) → IsBytes bytes → old_packet_at cs bytes ≡ Some x
    → IsOldPacket cs x.0 × (bytes ≡ old_packet_bytes cs x.0 ++ x.1)
unfolding old_packet_at
old_packet_takes cs bytes x fits e =
    let n = length cs in
    let a = bind_some (old_tag_at bytes) (λ rest. masks_at n rest >>= λ masks. numbers_at (widths_under masks.0 cs) masks.2
    >>= λ contents. Some (plain_packet masks.0 masks.1 contents.0, contents.1)) x e in
    let b = bind_some (masks_at n a.0) (λ masks. numbers_at (widths_under masks.0 cs) masks.2
    >>= λ contents. Some (plain_packet masks.0 masks.1 contents.0, contents.1)) x a.2 in
    let d = bind_some (numbers_at (widths_under b.0.0 cs) b.0.2) (λ contents. Some
    (plain_packet b.0.0 b.0.1 contents.0, contents.1)) x b.2 in
    let made : Packet × List ℕ = (plain_packet b.0.0 b.0.1 d.0.0, d.0.1) in
    let first : bytes ≡ 1 ∷ a.0 = tag_takes bytes a.0 a.1 in
    let second = masks_take n a.0 b.0 (IsBytes-rest 1 a.0 (subst IsBytes first fits)) b.1 in
    let third = numbers_take (widths_under b.0.0 cs) b.0.2 d.0 second.parts.rest_fits d.1 in
    let masks = mask_bytes n b.0.0 in
    let ends = mask_bytes n b.0.1 in
    let inner : a.0 ≡ masks ++ (ends ++ (number_bytes (widths_under b.0.0 cs) d.0.0 ++ d.0.1)) =
    second.parts.parts ∙ append_assoc masks ends b.0.2 ∙ ap (λ (t : List ℕ). masks ++ (ends ++ t)) third.0.parts in
    let whole : bytes ≡ old_packet_bytes cs made.0 ++ made.1 = first ∙ ap (λ (t : List ℕ). 1 ∷ t) inner ∙ sym (regroup cs made.0 made.1) in
    subst (λ (y : Packet × List ℕ). IsOldPacket cs y.0 × (bytes ≡ old_packet_bytes cs y.0 ++ y.1)) (same_Some made x d.2)
    ((record { gap = lit< tt; event = second.event; starts = second.starts; ends = second.ends; contents = third.1 }, (refl, refl)), whole)

pub old_packet_again : (cs : List Channel) (p : Packet) (rest : List ℕ) → IsOldPacket cs p → old_packet_at cs (old_packet_bytes cs p ++ rest)
    ≡ Some (p, rest)
unfolding old_packet_at
old_packet_again cs p rest h =
    let numbers = number_bytes (widths_under p.starts cs) p.contents ++ rest in
    ap (old_packet_at cs) (regroup cs p rest)
    ∙ rw (
      tag_again (mask_bytes (length cs) p.starts ++ (mask_bytes (length cs) p.ends ++ numbers)),
      masks_again (length cs) p.starts p.ends
          numbers h.0.starts h.0.ends (sym h.1.1 ∙ h.0.event),
      numbers_again (widths_under p.starts cs) p.contents rest h.0.contents,
    ) (ap (λ (q : Packet). Some (q, rest)) (plain-is p h.1.0 h.1.1))

-- ---- what reading gives, as clauses say it

pub is_found : {X : Type 0} (cs : List Channel) (bytes : List ℕ) (view : X → Packet × List ℕ) (r : Result X CodeError) → IsBytes bytes
    → Gives view r (old_packet_at cs bytes)
    → IfOk r (λ x. IsOldPacket cs (view x).0 × (bytes ≡ old_packet_bytes cs (view x).0 ++ (view x).1))
is_found cs bytes view (Ok x) fits given = old_packet_takes cs bytes (view x) fits given
is_found cs bytes view (Err e) fits given = tt

pub is_only : {X : Type 0} (cs : List Channel) (bytes : List ℕ) (view : X → Packet × List ℕ) (r : Result X CodeError)
    → Gives view r (old_packet_at cs bytes)
    → (p : Packet) (rest : List ℕ) → IsOldPacket cs p → bytes ≡ old_packet_bytes cs p ++ rest
    → MatchResult r (λ x. ((view x).0 ≡ p) × ((view x).1 ≡ rest)) (λ e. e ≡ Memory)
is_only cs bytes view (Ok x) given p rest h e =
    let s = same_Some (view x) (p, rest) (sym given ∙ ap (old_packet_at cs) e ∙ old_packet_again cs p rest h) in
    (ap (λ (y : Packet × List ℕ). y.0) s, ap (λ (y : Packet × List ℕ). y.1) s)
is_only cs bytes view (Err Memory) given p rest h e = refl
is_only cs bytes view (Err (BadTrace at)) given p rest h e = absurd (none-some (p, rest)
    (sym given.1 ∙ ap (old_packet_at cs) e ∙ old_packet_again cs p rest h))
