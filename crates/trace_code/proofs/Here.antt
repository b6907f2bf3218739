-- The packet at the front of the bytes, field by field.
use Rattle.std.proofs.Common.{◌≡◌, ℕ, suc, ◌+◌, ◌*◌, ◌^◌, ◌<◌, ◌≤◌, true, false, cond, List, [], ◌∷◌, ◌++◌, Some, None, length, get_or, take, drop}
use Rattle.std.proofs.Common.{slice_get, ltb, ⊎_elim, sym, ap, subst, ◌∙◌, append_assoc, arith}
use Rattle.std.specs.List.{flat_map}
use Rattle.std.proofs.Math.Seq.{drop-cons}
use Rattle.std.proofs.lemmas.Bool.{cases_Bool, cond-false, cond-true, false≢true, ltb-false}
use Rattle.std.proofs.lemmas.List.{length-drop, drop_all}
use Rattle.std.proofs.lemmas.List.Elements.{All-get_or}
use Rattle.std.proofs.lemmas.Option.{cond_some, same_Some, slice_get_cases, slice_get-get_or}
use Rattle.vec_clock.specs.trace_model.declared.channel.Channel.{Channel}
use Rattle.vec_clock.specs.trace_model.declared.packet.Packet.{Packet}
use Rattle.vec_clock.specs.trace_model.declared.trace.Trace.{Trace}
use Rattle.vec_clock.specs.trace_model.Length.{mask_len, contents_len}
use Rattle.vec_clock.specs.trace_model.Packet.{widths_under, IsPacket}
use Rattle.vec_clock.proofs.trace_model_lemmas.ContentsLemmas.{fit-length, widths-none}
use Rattle.vec_clock.proofs.trace_model_lemmas.TraceLaws.{reset-is}
use Rattle.trace_code.specs.Counted.{Counted}
use Rattle.trace_code.specs.Encoding.{events_bytes, gap_bytes, packet_bytes, mask_bytes, number_bytes, end_mark}
use Rattle.trace_code.specs.Heads.{front_len}
use Rattle.trace_code.specs.PacketReading.{low_value, sized_at}
use Rattle.trace_code.proofs.NumberLaws.{mask_again, refused}
use Rattle.trace_code.proofs.Picking.{number_bytes-length}
use Rattle.trace_code.proofs.RowBytes.{contents_len-widths}
use Rattle.trace_code.specs.Standing.{IsAt, bytes_from}
use Rattle.trace_code.proofs.Masks.{behind-head}

-- ---- a part that is read
pub record Part (value : List ℕ → ℕ) (len x : ℕ) (bytes rest : List ℕ) : Type 0 where
  pub long : len ≤ length bytes
  pub value_is : value (take len bytes) ≡ x
  pub after : drop len bytes ≡ rest

pub sized-part : (value : List ℕ → ℕ) (len limit : ℕ) (bytes : List ℕ) (x : ℕ) (rest : List ℕ)
    → sized_at value len limit bytes ≡ Some (x, rest) → Part value len x bytes rest
unfolding sized_at
sized-part value len limit bytes x rest e =
    let a = refused (ltb (length bytes) len) (cond (ltb (value (take len bytes)) limit) (Some (value (take len bytes), drop len bytes)) None)
    (x, rest) e in
    let s = (cond_some (ltb (value (take len bytes)) limit) (value (take len bytes), drop len bytes) (x, rest) a.1).1 in
    record {
      long = ltb-false (length bytes) len a.0;
      value_is = ap (λ (p : ℕ × List ℕ). p.0) s;
      after = ap (λ (p : ℕ × List ℕ). p.1) s;
    }

mask-part : (n x : ℕ) (rest : List ℕ) → x < 2 ^ n → Part low_value (mask_len n) x (mask_bytes n x ++ rest) rest
mask-part n x rest l = sized-part low_value (mask_len n) (2 ^ n) (mask_bytes n x ++ rest) x rest (mask_again n x rest l)

-- ---- a packet
regroup : (cs : List Channel) (gap starts ends : ℕ) (contents rest : List ℕ) → (1 ∷ (gap_bytes gap ++ events_bytes cs starts ends contents)) ++ rest
    ≡ 1 ∷ (gap_bytes gap ++ (mask_bytes (length cs) starts ++ (mask_bytes (length cs) ends
    ++ (number_bytes (widths_under starts cs) contents ++ rest))))
regroup cs gap starts ends contents rest =
    ap (λ (t : List ℕ). 1 ∷ (gap_bytes gap ++ t)) (append_assoc (mask_bytes (length cs) starts)
    (mask_bytes (length cs) ends ++ number_bytes (widths_under starts cs) contents) rest
    ∙ ap (λ (t : List ℕ). mask_bytes (length cs) starts ++ t) (append_assoc (mask_bytes (length cs) ends)
    (number_bytes (widths_under starts cs) contents) rest))

-- packet p stands at the front, of a table of n channels
pub record Here (t : Trace) (p n : ℕ) (rest : List ℕ) : Type 0 where
  pub packet : Packet
  pub at : slice_get t.packets p ≡ Some packet
  pub lawful : IsPacket t.channels packet
  pub tag : get_or rest 0 0 ≡ cond packet.reset 2 1
  pub long : front_len n packet.reset ≤ length rest
  pub starts : packet.reset ≡ false → low_value (take (mask_len n) (drop 3 rest)) ≡ packet.starts
  pub ends : packet.reset ≡ false → low_value (take (mask_len n) (drop (mask_len n) (drop 3 rest))) ≡ packet.ends
  pub contents : drop (front_len n packet.reset) rest
      ≡ number_bytes (widths_under packet.starts t.channels) packet.contents ++ bytes_from t (suc p)

row-here : (t : Trace) (p : ℕ) (rest : List ℕ) (packet : Packet) → slice_get t.packets p ≡ Some packet → IsPacket t.channels packet
    → rest ≡ packet_bytes t.channels packet ++ bytes_from t (suc p) → packet.reset ≡ false → Here t p (length t.channels) rest
row-here t p rest packet at lawful parts row =
    let n = length t.channels in
    let y2 = number_bytes (widths_under packet.starts t.channels) packet.contents ++ bytes_from t (suc p) in
    let y1 = mask_bytes n packet.ends ++ y2 in
    let events = events_bytes t.channels packet.starts packet.ends packet.contents in
    let whole : rest ≡ 1 ∷ (gap_bytes packet.gap ++ (mask_bytes n packet.starts ++ y1)) = parts
    ∙ ap (λ (bs : List ℕ). bs ++ bytes_from t (suc p)) (cond-false packet.reset (2 ∷ gap_bytes packet.gap) (1 ∷ (gap_bytes packet.gap ++ events)) row)
    ∙ regroup t.channels packet.gap packet.starts packet.ends packet.contents (bytes_from t (suc p)) in
    let three : drop 3 rest ≡ mask_bytes n packet.starts ++ y1 = ap (drop 3) whole in
    let a = mask-part n packet.starts y1 lawful.starts in
    let b = mask-part n packet.ends y2 lawful.ends in
    let first : drop (mask_len n) (drop 3 rest) ≡ y1 = ap (drop (mask_len n)) three ∙ a.after in
    let size : front_len n packet.reset ≡ 3 + 2 * mask_len n = ap (front_len n) row in
    record {
      packet = packet;
      at = at;
      lawful = lawful;
      tag = ap (λ (bs : List ℕ). get_or bs 0 0) whole ∙ sym (ap (λ b. cond b 2 1) row);
      long = omega (
        arith,
        size,
        ap length whole,
        a.long,
        b.long,
        ap length a.after,
        length-drop (mask_len n) (mask_bytes n packet.starts ++ y1),
      );
      starts = λ _. ap (λ (bs : List ℕ). low_value (take (mask_len n) bs)) three ∙ a.value_is;
      ends = λ _. ap (λ (bs : List ℕ). low_value (take (mask_len n) bs)) first ∙ b.value_is;
      contents = ap (λ k. drop k rest) size ∙ behind-head (mask_len n) rest ∙ ap (drop (mask_len n)) first ∙ b.after;
    }

-- a reset has no contents
reset-contents : (cs : List Channel) (p : Packet) → IsPacket cs p → p.reset ≡ true → [] ≡ number_bytes (widths_under p.starts cs) p.contents
reset-contents cs p lawful reset = ap (λ (ws : List ℕ). number_bytes ws []) (sym (widths-none cs))
    ∙ ap (λ (q : Packet). number_bytes (widths_under q.starts cs) q.contents) (reset-is cs p lawful reset)

reset-here : (t : Trace) (p : ℕ) (rest : List ℕ) (packet : Packet) → slice_get t.packets p ≡ Some packet → IsPacket t.channels packet
    → rest ≡ packet_bytes t.channels packet ++ bytes_from t (suc p) → packet.reset ≡ true → Here t p (length t.channels) rest
reset-here t p rest packet at lawful parts reset =
    let n = length t.channels in
    let events = events_bytes t.channels packet.starts packet.ends packet.contents in
    let whole : rest ≡ 2 ∷ (gap_bytes packet.gap ++ bytes_from t (suc p)) = parts
    ∙ ap (λ (bs : List ℕ). bs ++ bytes_from t (suc p)) (cond-true packet.reset (2 ∷ gap_bytes packet.gap) (1 ∷ (gap_bytes packet.gap ++ events)) reset)
    in
    let size : front_len n packet.reset ≡ 3 = ap (front_len n) reset in
    record {
      packet = packet;
      at = at;
      lawful = lawful;
      tag = ap (λ (bs : List ℕ). get_or bs 0 0) whole ∙ sym (ap (λ b. cond b 2 1) reset);
      long = omega (arith, size, ap length whole);
      starts = λ row. absurd (false≢true (sym row ∙ reset));
      ends = λ row. absurd (false≢true (sym row ∙ reset));
      contents = ap (λ k. drop k rest) size ∙ ap (drop 3) whole
          ∙ ap (λ (bs : List ℕ). bs ++ bytes_from t (suc p)) (reset-contents t.channels packet lawful reset);
    }

here-of : (t : Trace) (p : ℕ) (rest : List ℕ) (packet : Packet) → slice_get t.packets p ≡ Some packet → IsPacket t.channels packet
    → rest ≡ packet_bytes t.channels packet ++ bytes_from t (suc p) → Here t p (length t.channels) rest
here-of t p rest packet at lawful parts = ⊎_elim
    (λ (reset : packet.reset ≡ true). reset-here t p rest packet at lawful parts reset)
    (λ (row : packet.reset ≡ false). row-here t p rest packet at lawful parts row)
    (cases_Bool packet.reset)

pub from-packet : (t : Trace) (p : ℕ) (packet : Packet) → p < length t.packets → slice_get t.packets p ≡ Some packet
    → bytes_from t p ≡ packet_bytes t.channels packet ++ bytes_from t (suc p)
from-packet t p packet l at =
    let d = drop-cons t.packets p packet l in
    let same : get_or t.packets p packet ≡ packet = same_Some (get_or t.packets p packet) packet (sym (slice_get-get_or t.packets p packet l) ∙ at) in
    ap (λ (ps : List Packet). flat_map (packet_bytes t.channels) ps ++ end_mark (length t.packets)) (d ∙ ap (λ (q : Packet). q ∷ drop (suc p) t.packets) same)
    ∙ append_assoc (packet_bytes t.channels packet) (flat_map (packet_bytes t.channels) (drop (suc p) t.packets)) (end_mark (length t.packets))

pub here : (t : Trace) (p : ℕ) (sizes rest : List ℕ) (counts : Counted) → IsAt t p sizes rest counts → p < length t.packets
    → Here t p (length t.channels) rest
here t p sizes rest counts at l = ⊎_elim
    (λ (s : (x : Packet) × (p < length t.packets) × (slice_get t.packets p ≡ Some x) × (get_or t.packets p x ≡ x)).
    here-of t p rest s.0 s.2 (subst (IsPacket t.channels) s.3 (All-get_or (IsPacket t.channels) t.packets p s.0 l at.encoding.well_formed.packets))
    (at.parts ∙ from-packet t p s.0 l s.2))
    (λ (s : (length t.packets ≤ p) × (slice_get t.packets p ≡ None)). absurd (let k = s.0 in omega (arith, k, l)))
    (slice_get_cases t.packets p).1

-- where the packets are over, the end mark stands
pub at-end : (t : Trace) (p : ℕ) (sizes rest : List ℕ) (counts : Counted) → IsAt t p sizes rest counts → length t.packets ≤ p → rest ≡ end_mark (length t.packets)
at-end t p sizes rest counts at l = at.parts ∙ ap (λ (ps : List Packet). flat_map (packet_bytes t.channels) ps ++ end_mark (length t.packets)) (drop_all p t.packets l)

-- ---- what follows
pub contents-long : (t : Trace) (p n : ℕ) (rest : List ℕ) (h : Here t p n rest)
    → length (number_bytes (widths_under h.packet.starts t.channels) h.packet.contents) ≡ contents_len h.packet.starts t.channels
contents-long t p n rest h =
    number_bytes-length (widths_under h.packet.starts t.channels) h.packet.contents
    (sym (fit-length (widths_under h.packet.starts t.channels) h.packet.contents h.lawful.contents))
    ∙ sym (contents_len-widths h.packet.starts t.channels)
