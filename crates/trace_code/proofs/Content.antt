-- Where the content of a start stands among the bytes.
use Rattle.std.proofs.Common.{◌≡◌, ℕ, zero, suc, ◌+◌, ◌^◌, ◌<◌, ◌≤◌, Bool, true, false, cond, List, [], ◌∷◌, ◌++◌, Option, Some, length, get_or, take, drop}
use Rattle.std.proofs.Common.{slice_get, map, sum_by, refl, sym, ap, subst, ◌∙◌, append_assoc, arith, All}
use Rattle.std.specs.Int.{bytes_high_first}
use Rattle.std.proofs.Math.Seq.{drop-append_seam, drop-drop}
use Rattle.std.proofs.lemmas.List.{append-nil, length-append, length-drop, length-take-le, take-append-drop, take-map}
use Rattle.std.proofs.lemmas.List.Sums.{sum_by-cons, sum_by-take-le}
use Rattle.std.proofs.lemmas.Option.{get_or_from_slice_get, same_Some, slice_get_within}
use Rattle.std.proofs.lemmas.List.Elements.{All-from_get_or, All-get_or}
use Rattle.vec_clock.specs.trace_model.declared.channel.Channel.{Channel}
use Rattle.vec_clock.specs.trace_model.declared.event.Kind.{Kind}
use Rattle.vec_clock.specs.trace_model.declared.event.Kind.TheVariants.{Start}
use Rattle.vec_clock.specs.trace_model.declared.packet.Packet.{Packet}
use Rattle.vec_clock.specs.trace_model.declared.trace.Trace.{Trace}
use Rattle.vec_clock.specs.trace_model.Channel.{byte_count, content_bytes, IsChannel}
use Rattle.vec_clock.specs.vidi_bits.Number.{has}
use Rattle.vec_clock.specs.trace_model.Counting.{IsNth}
use Rattle.vec_clock.specs.trace_model.Length.{head_len, contents_len, sizes_under}
use Rattle.vec_clock.specs.trace_model.Packet.{content_of, count, does, widths_of, widths_under, Fit, IsPacket}
use Rattle.vec_clock.proofs.trace_model_lemmas.CountingLemmas.{nth-unique}
use Rattle.vec_clock.proofs.trace_model_lemmas.ContentsLemmas.{content-fits, fit-at, fit-length, widths-front, widths-suc}
use Rattle.trace_code.specs.Encoding.{number_bytes}
use Rattle.trace_code.specs.PacketReading.{high_value}
use Rattle.trace_code.proofs.NumberLaws.{number_again}
use Rattle.trace_code.proofs.Picking.{number_bytes-append, number_bytes-length}
use Rattle.trace_code.proofs.RowBytes.{contents_len-widths, contents-least}
use Rattle.vec_clock.proofs.trace_model_lemmas.TraceLaws.{event-row}
use Rattle.trace_code.specs.declared.cursor.Cursor.{Cursor}
use Rattle.trace_code.specs.Counted.{Counted}
use Rattle.trace_code.specs.Heads.{front_len}
use Rattle.trace_code.specs.Standing.{IsAt, StandsAt, bytes_from}
use Rattle.trace_code.specs.Stands.{IsOf}
use Rattle.trace_code.proofs.Here.{Here, sized-part}
use Rattle.trace_code.proofs.Walking.{sizes-len, Read, behind-front, head-read, not-over}

-- ---- a number that is read
number-read : (w n : ℕ) (rest : List ℕ) → n < 2 ^ w → high_value (take (byte_count w) (bytes_high_first (byte_count w) n ++ rest)) ≡ n
number-read w n rest l =
    (sized-part high_value (byte_count w) (2 ^ w) (bytes_high_first (byte_count w) n ++ rest) n rest (number_again w n rest l)).value_is

-- ---- number i of a content
behind : (ws ns more : List ℕ) (i : ℕ) → length ns ≡ length ws → i < length ws → (tail : List ℕ)
    × (drop (sum_by byte_count (take i ws)) (number_bytes ws ns ++ more) ≡ bytes_high_first (byte_count (get_or ws i 0)) (get_or ns i 0) ++ tail)
behind [] ns more i e l = absurd (omega arith)
behind (w ∷ ws) [] more i e l = absurd (omega arith)
behind (w ∷ ws) (n ∷ ns) more zero e l =
    (number_bytes ws ns ++ more, append_assoc (bytes_high_first (byte_count w) n) (number_bytes ws ns) more)
behind (w ∷ ws) (n ∷ ns) more (suc i) e l =
    let rest = behind ws ns more i (omega arith) (omega arith) in
    let first = bytes_high_first (byte_count w) n in
    let size : sum_by byte_count (w ∷ take i ws) ≡ length first + sum_by byte_count (take i ws) =
    sum_by-cons byte_count w (take i ws) ∙ ap (λ k. k + sum_by byte_count (take i ws)) (sym (length-first w n)) in (
      rest.0,
      ap (λ k. drop k ((first ++ number_bytes ws ns) ++ more)) size
          ∙ sym (drop-drop (sum_by byte_count (take i ws)) (length first) ((first ++ number_bytes ws ns) ++ more))
          ∙ ap (λ bs. drop (sum_by byte_count (take i ws)) (drop (length first) bs)) (append_assoc first (number_bytes ws ns) more)
          ∙ ap (drop (sum_by byte_count (take i ws))) (drop-append_seam first (number_bytes ws ns ++ more))
          ∙ rest.1,
    )
  where
    length-first : (w n : ℕ) → length (bytes_high_first (byte_count w) n) ≡ byte_count w
    length-first w n = let e = number_bytes-length (w ∷ []) (n ∷ []) refl in
        ap length (sym (append-nil (bytes_high_first (byte_count w) n))) ∙ e ∙ sum_by-cons byte_count w [] ∙ omega arith

pub port-number : (ws ns more : List ℕ) (i : ℕ) → Fit ws ns → i < length ws
    → high_value (take (byte_count (get_or ws i 0)) (drop (sum_by byte_count (take i ws)) (number_bytes ws ns ++ more))) ≡ get_or ns i 0
port-number ws ns more i fit l =
    let b = behind ws ns more i (sym (fit-length ws ns fit)) l in
    ap (λ bs. high_value (take (byte_count (get_or ws i 0)) bs)) b.1
    ∙ number-read (get_or ws i 0) (get_or ns i 0) b.0 (fit-at ws ns i fit l)

-- ---- the content of channel c
pub record Own (cs : List Channel) (p : Packet) (c : ℕ) (x : Channel) : Type 0 where
  pub more : List ℕ
  pub front : List ℕ
  pub front_len : length front ≡ contents_len p.starts (take c cs)
  pub parts : number_bytes (widths_under p.starts cs) p.contents ≡ front ++ (number_bytes x.widths (content_of cs p c) ++ more)

pub own : (cs : List Channel) (p : Packet) (c : ℕ) (x : Channel) → IsPacket cs p → slice_get cs c ≡ Some x → has p.starts c ≡ true → Own cs p c x
own cs p c x lawful at starts =
    let w1 = widths_under p.starts (take c cs) in
    let fr = widths-front p.starts (suc c) cs in
    let r = fr.0 in
    let whole : widths_under p.starts cs ≡ w1 ++ (x.widths ++ r) =
    fr.1 ∙ ap (λ ws. ws ++ r) (widths-suc p.starts cs c x at ∙ ap (λ b. w1 ++ cond b x.widths []) starts) ∙ append_assoc w1 x.widths r in
    let l1 = take (length w1) p.contents in
    let d1 = drop (length w1) p.contents in
    let mine = take (length x.widths) d1 in
    let l2 = drop (length x.widths) d1 in
    let long : length (w1 ++ (x.widths ++ r)) ≡ length p.contents = ap length (sym whole) ∙ fit-length (widths_under p.starts cs) p.contents lawful.contents in
    let split : p.contents ≡ l1 ++ (mine ++ l2) =
    sym (take-append-drop (length w1) p.contents) ∙ ap (λ xs. l1 ++ xs) (sym (take-append-drop (length x.widths) d1)) in
    let a = length-append w1 (x.widths ++ r) in
    let b = length-append x.widths r in
    let same : length l1 ≡ length w1 = length-take-le (length w1) p.contents (omega arith) in
    let d = length-drop (length w1) p.contents in
    let mine-len : length mine ≡ length x.widths = length-take-le (length x.widths) d1 (omega arith) in
    let is : content_of cs p c ≡ mine = ap (λ (o : Option Channel). take (length (widths_of o)) d1) at in
    record {
      more = number_bytes r l2;
      front = number_bytes w1 l1;
      front_len = number_bytes-length w1 l1 same ∙ sym (contents_len-widths p.starts (take c cs));
      parts = ap (λ ws. number_bytes ws p.contents) whole ∙ ap (number_bytes (w1 ++ (x.widths ++ r))) split
          ∙ number_bytes-append w1 (x.widths ++ r) l1 (mine ++ l2) same
          ∙ ap (λ bs. number_bytes w1 l1 ++ bs) (number_bytes-append x.widths r mine l2 mine-len)
          ∙ ap (λ ns. number_bytes w1 l1 ++ (number_bytes x.widths ns ++ number_bytes r l2)) (sym is);
    }

-- what stands behind the contents of the channels below
pub own-there : (t : Trace) (p : ℕ) (sizes rest : List ℕ) (counts : Counted) (reset : Bool) (starts ends : ℕ) (contents back : List ℕ) (c size : ℕ) (x : Channel)
    → IsAt t p sizes rest counts → (r : Read t p sizes rest reset starts ends contents) → slice_get t.channels c ≡ Some x
    → has r.here_is.packet.starts c ≡ true → size ≡ sizes_under starts (take c sizes) → back ≡ drop size contents
    → (more : List ℕ) × (back ≡ number_bytes x.widths (content_of t.channels r.here_is.packet c) ++ more) × (size ≤ length contents)
own-there t p sizes rest counts reset starts ends contents back c size x at r there up s b =
    let h = r.here_is in
    let o = own t.channels h.packet c x h.lawful there up in
    let text : contents ≡ o.front ++ ((number_bytes x.widths (content_of t.channels h.packet c) ++ o.more) ++ bytes_from t (suc p)) =
    r.contents_is ∙ behind-front t p sizes rest reset starts ends contents r ∙ ap (λ bs. bs ++ bytes_from t (suc p)) o.parts
    ∙ append_assoc o.front (number_bytes x.widths (content_of t.channels h.packet c) ++ o.more) (bytes_from t (suc p)) in
    let front-sizes : take c sizes ≡ map content_bytes (take c t.channels) = ap (take c) at.sizes_are ∙ take-map content_bytes c t.channels in
    let len : size ≡ length o.front =
    s ∙ ap (λ k. sizes_under k (take c sizes)) r.starts_is ∙ sizes-len h.packet.starts (take c t.channels) (take c sizes) front-sizes
    ∙ sym o.front_len in (
      o.more ++ bytes_from t (suc p),
      b ∙ ap (λ k. drop k contents) len ∙ ap (drop (length o.front)) text
          ∙ drop-append_seam o.front ((number_bytes x.widths (content_of t.channels h.packet c) ++ o.more) ++ bytes_from t (suc p))
          ∙ append_assoc (number_bytes x.widths (content_of t.channels h.packet c)) o.more (bytes_from t (suc p)),
      (let k = ap length text in
          let j = length-append o.front ((number_bytes x.widths (content_of t.channels h.packet c) ++ o.more) ++ bytes_from t (suc p)) in
          omega (arith, k, j, len)),
    )

pub own-fits : (t : Trace) (p n : ℕ) (rest : List ℕ) (h : Here t p n rest) (c : ℕ) (x : Channel) → slice_get t.channels c ≡ Some x
    → has h.packet.starts c ≡ true → Fit x.widths (content_of t.channels h.packet c)
own-fits t p n rest h c x at up = content-fits t.channels h.packet c x h.lawful.contents at up

-- ---- the parts of a channel
pub small-widths : (widths : List ℕ) → All (λ w. (1 ≤ w) × (w ≤ 128)) widths → All (λ w. w ≤ 128) widths
small-widths widths all = All-from_get_or (λ w. w ≤ 128) widths 0 (λ i l. (All-get_or (λ w. (1 ≤ w) × (w ≤ 128)) widths i 0 l all).1)

pub channel-of : (t : Trace) (p : ℕ) (sizes rest : List ℕ) (counts : Counted) → IsAt t p sizes rest counts → (c : ℕ) (x : Channel)
    → slice_get t.channels c ≡ Some x → IsChannel x
channel-of t p sizes rest counts at c x there =
    subst IsChannel (get_or_from_slice_get t.channels c x x there)
    (All-get_or IsChannel t.channels c x (slice_get_within t.channels c x there) at.encoding.table.each)

-- a port of its channel
pub port-there : (t : Trace) (k : Cursor) → IsOf t k → (port : ℕ) → port < length (widths_of (slice_get t.channels k.channel))
    → port < length k.widths
port-there t k of port l =
    let e : widths_of (slice_get t.channels k.channel) ≡ k.widths = ap widths_of of.at ∙ sym of.widths in
    subst (λ (ws : List ℕ). port < length ws) e l

-- a cursor at a start
pub record AtStart (t : Trace) (c j : ℕ) (sizes rest : List ℕ) (counts : Counted) (reset : Bool) (starts ends : ℕ) (contents : List ℕ)
    : Type 0 where
  pub p : ℕ
  pub at : IsAt t p sizes rest counts
  pub read : Read t p sizes rest reset starts ends contents
  pub long : head_len (length sizes) ≤ length rest
  pub up : has read.here_is.packet.starts c ≡ true
  pub is : IsNth (does Start c) t.packets j p read.here_is.packet

pub at-start : (t : Trace) (kind : Kind) (c j : ℕ) (sizes rest : List ℕ) (counts : Counted) (reset : Bool) (starts ends : ℕ)
    (contents : List ℕ) → StandsAt t kind c j sizes rest counts reset starts ends → kind ≡ Start → j < count kind c t.packets
    → contents ≡ drop (head_len (length sizes)) rest → AtStart t c j sizes rest counts reset starts ends contents
at-start t kind c j sizes rest counts reset starts ends contents s k more d =
    let n = length sizes in
    let l = not-over t kind c j sizes rest counts s more in
    let r = head-read t s.place sizes rest counts reset starts ends _ s.at l (s.head l) refl in
    let h = r.here_is in
    let e = s.next l in
    let same : e.0 ≡ h.packet = same_Some e.0 h.packet (sym e.1.at ∙ h.at) in
    let is : IsNth (does Start c) t.packets j s.place h.packet =
    subst (λ (q : Packet). IsNth (does Start c) t.packets j s.place q) same (subst (λ (i : Kind). IsNth (does i c) t.packets j s.place e.0) k e.1) in
    let row : h.packet.reset ≡ false = event-row t.channels h.packet c h.lawful is.passes in
    let no : reset ≡ false = r.reset_is ∙ row in
    let size : front_len n h.packet.reset ≡ head_len n = ap (front_len n) row in
    let long = h.long in
    record {
      p = s.place;
      at = s.at;
      read = record {
        here_is = h;
        reset_is = r.reset_is;
        starts_is = r.starts_is;
        ends_is = r.ends_is;
        contents_is = d ∙ ap (λ b. drop (front_len n b) rest) (sym no);
      };
      long = omega (arith, size, long);
      up = is.passes;
      is = is;
    }

-- the number of a port of it
pub content-is : (t : Trace) (c j : ℕ) (sizes rest : List ℕ) (counts : Counted) (reset : Bool) (starts ends : ℕ) (contents back : List ℕ) (size : ℕ) (x : Channel)
    → (a : AtStart t c j sizes rest counts reset starts ends contents) → slice_get t.channels c ≡ Some x
    → size ≡ sizes_under starts (take c sizes) → back ≡ drop size contents → (port : ℕ) → port < length x.widths → (p : ℕ) (packet : Packet)
    → IsNth (does Start c) t.packets j p packet
    → high_value (take (byte_count (get_or x.widths port 0)) (drop (sum_by byte_count (take port x.widths)) back))
    ≡ get_or (content_of t.channels packet c) port 0
content-is t c j sizes rest counts reset starts ends contents back size x a there s b port l p packet is =
    let o = own-there t a.p sizes rest counts reset starts ends contents back c size x a.at a.read there a.up s b in
    let h = a.read.here_is in
    let same : h.packet ≡ packet = (nth-unique (does Start c) t.packets j a.p p h.packet packet a.is is).1 in
    ap (λ bs. high_value (take (byte_count (get_or x.widths port 0)) (drop (sum_by byte_count (take port x.widths)) bs))) o.1
    ∙ port-number x.widths (content_of t.channels h.packet c) o.0 port
    (own-fits t a.p (length sizes) rest h c x there a.up) l
    ∙ ap (λ (q : Packet). get_or (content_of t.channels q c) port 0) same

pub below-within : (t : Trace) (c j : ℕ) (sizes rest : List ℕ) (counts : Counted) (reset : Bool) (starts ends : ℕ) (contents : List ℕ) (size : ℕ) (x : Channel)
    → (a : AtStart t c j sizes rest counts reset starts ends contents) → slice_get t.channels c ≡ Some x
    → size ≡ sizes_under starts (take c sizes) → (size ≤ length contents) × (content_bytes x ≤ length (drop size contents))
below-within t c j sizes rest counts reset starts ends contents size x a there s =
    let o = own-there t a.p sizes rest counts reset starts ends contents (drop size contents) c size x a.at a.read there a.up s refl in
    let h = a.read.here_is in
    let fit = own-fits t a.p (length sizes) rest h c x there a.up in
    let n = number_bytes-length x.widths (content_of t.channels h.packet c) (sym (fit-length x.widths (content_of t.channels h.packet c) fit)) in
    let e = ap length o.1 in
    let k = length-append (number_bytes x.widths (content_of t.channels h.packet c)) o.0 in
    (o.2, omega (arith, n, e, k))

pub small-front : (t : Trace) (p : ℕ) (sizes rest : List ℕ) (counts : Counted) → IsAt t p sizes rest counts → (starts c : ℕ)
    → sizes_under starts (take c sizes) < 2 ^ 32
small-front t p sizes rest counts at starts c =
    let front-sizes : take c sizes ≡ map content_bytes (take c t.channels) = ap (take c) at.sizes_are ∙ take-map content_bytes c t.channels in
    let a = sizes-len starts (take c t.channels) (take c sizes) front-sizes in
    let b = contents_len-widths starts (take c t.channels) in
    let d = contents-least starts (take c t.channels) in
    let e = sum_by-take-le content_bytes t.channels c in
    let most = at.encoding.table.content in
    omega arith
