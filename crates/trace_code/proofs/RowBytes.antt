-- The bytes of a row's packet: what is picked of its contents, and how long they are.
use Rattle.std.proofs.Common.{◌≡◌, ℕ, ◌+◌, ◌-◌, ◌^◌, ◌<◌, ◌≤◌, Bool, true, false, cond, eqb, not, ◌&&◌, List, [], ◌∷◌, ◌++◌, length, get_or}
use Rattle.std.proofs.Common.{suc, ◌==◌, map, take, drop, sum_by, refl, sym, ap, ⊎_elim, ◌∙◌, append_assoc, arith}
use Rattle.std.specs.List.{filter, flat_map, enumerate_from}
use Rattle.std.specs.Int.{bit_at}
use Rattle.std.proofs.Math.Seq.{drop-drop}
use Rattle.std.proofs.lemmas.Bool.{cases_Bool, cases_lt, cond-false, cond-true, false≢true, eq-eqb, eqb-true}
use Rattle.std.proofs.lemmas.List.{append-nil, length-append, length-take-le, take-append-drop, length-drop, length_push, take_at}
use Rattle.std.proofs.lemmas.List.Concat.{flat_map-append}
use Rattle.std.proofs.lemmas.List.Sums.{sum_by-cons, sum_by-append}
use Rattle.std.proofs.lemmas.Nat.Bits.{bit_at_ones, bit_at_above}
use Rattle.vec_clock.specs.vidi_bits.Number.{has}
use Rattle.vec_clock.specs.trace_model.declared.channel.Channel.{Channel}
use Rattle.vec_clock.specs.trace_model.Channel.{byte_count, content_bytes}
use Rattle.vec_clock.specs.trace_model.declared.packet.Packet.{Packet}
use Rattle.vec_clock.specs.trace_model.declared.row.Row.{Row}
use Rattle.vec_clock.specs.trace_model.Length.{mask_len, head_len, contents_len, longest_packet, packet_len}
use Rattle.vec_clock.specs.trace_model.Packet.{Fit, widths_under}
use Rattle.vec_clock.specs.trace_model.Recording.{after_gap, has_event, packet_of, packets_of, reset_packet, contents_under}
use Rattle.vec_clock.specs.trace_model.Row.{all_widths, content_at}
use Rattle.vec_clock.proofs.trace_model_lemmas.CountingLemmas.{take-more_read}
use Rattle.vec_clock.proofs.trace_model_lemmas.ContentsLemmas.{fit-length}
use Rattle.vec_clock.proofs.trace_model_lemmas.RowLaws.{content-behind, taken_of}
use Rattle.trace_code.specs.Encoding.{gap_bytes, mask_bytes, number_bytes, packet_bytes, row_bytes}
use Rattle.trace_code.specs.Writing.{overwritten, picked, tagged_bytes}
use Rattle.trace_code.proofs.NumberLaws.{length-low}
use Rattle.trace_code.proofs.Overwriting.{over-next, over-front}
use Rattle.trace_code.proofs.Picking.{number_bytes-length}
use Rattle.trace_code.proofs.PacketLoop.{widths_from}

-- ---- lengths
contents_from : (mask n : ℕ) (cs : List Channel) → sum_by (λ (c : ℕ × Channel). cond (has mask c.0) (content_bytes c.1) 0)
    (enumerate_from n cs) ≡ sum_by byte_count (widths_from n mask cs)
contents_from mask n [] = refl
contents_from mask n (c ∷ cs) =
    let f : ℕ × Channel → ℕ = λ d. cond (has mask d.0) (content_bytes d.1) 0 in
    sum_by-cons f (n, c) (enumerate_from (n + 1) cs)
    ∙ ap (λ k. f (n, c) + k) (contents_from mask (n + 1) cs)
    ∙ ap (λ k. k + sum_by byte_count (widths_from (n + 1) mask cs)) (one (has mask n))
    ∙ sym (sum_by-append byte_count (cond (has mask n) c.widths []) (widths_from (n + 1) mask cs))
  where
    one : (b : Bool) → cond b (content_bytes c) 0 ≡ sum_by byte_count (cond b c.widths [])
    one true = refl
    one false = refl

-- the length of contents, port by port
pub contents_len-widths : (mask : ℕ) (cs : List Channel) → contents_len mask cs ≡ sum_by byte_count (widths_under mask cs)
contents_len-widths mask cs = contents_from mask 0 cs

widths-least : (mask n : ℕ) (cs : List Channel) → sum_by byte_count (widths_from n mask cs) ≤ sum_by content_bytes cs
widths-least mask n [] = omega arith
widths-least mask n (c ∷ cs) =
    omega (
      arith,
      widths-least mask (n + 1) cs,
      sum_by-cons content_bytes c cs,
      sum_by-append byte_count (cond (has mask n) c.widths [])
          (widths_from (n + 1) mask cs),
      least (has mask n),
    )
  where
    least : (b : Bool) → sum_by byte_count (cond b c.widths []) ≤ content_bytes c
    least true = omega arith
    least false = omega arith

-- it is at most that of all channels
pub contents-least : (mask : ℕ) (cs : List Channel) → sum_by byte_count (widths_under mask cs) ≤ sum_by content_bytes cs
contents-least mask cs = widths-least mask 0 cs

-- a packet is no longer than one in which all channels start
pub packet-most : (channels : List Channel) (starts ends : ℕ) → packet_len channels starts ends ≤ longest_packet channels
packet-most channels starts ends = one (starts == 0 && ends == 0)
  where
    one : (b : Bool) → cond b 0 (head_len (length channels) + contents_len starts channels) ≤ longest_packet channels
    one true = omega arith
    one false = let a = contents_len-widths starts channels in let b = contents-least starts channels in omega arith

-- there are no more packets than rows
pub packets-few : (channels : List Channel) (rows : List Row) → length (packets_of channels rows) ≤ length rows
packets-few channels [] = omega arith
packets-few channels (r ∷ rows) = one (has_event r) (packets-few channels rows)
  where
    one : (b : Bool) → length (packets_of channels rows) ≤ length rows
        → length (map (packet_of channels) (cond b (r ∷ filter has_event rows) (filter has_event rows))) ≤ suc (length rows)
    one true l = omega (arith, l)
    one false l = omega (arith, l)

-- ---- what is picked
abbrev pub Among : ℕ → ℕ → Type 0
Among starts listed = (c : ℕ) → has starts c ≡ true → has listed c ≡ true

numbers-of_one : (listed starts : Bool) (c : Channel) (xs picks others ws W : List ℕ) → (starts ≡ true → listed ≡ true)
    → length (cond listed c.widths [] ++ ws) ≤ length xs
    → (length ws ≤ length (drop (length c.widths) xs) → length picks ≡ length W) → (length ws ≤ length xs → length others ≡ length W)
    → length (cond listed (cond starts (take (length c.widths) xs) [] ++ picks) others) ≡ length (cond starts c.widths [] ++ W)
numbers-of_one true true c xs picks others ws W among long p q =
    omega (
      arith,
      length-append (take (length c.widths) xs) picks,
      length-append c.widths W,
      length-append c.widths ws,
      length-take-le
          (length c.widths) xs (omega (arith, long, length-append c.widths ws)),
      p
          (omega (arith, long, length-append c.widths ws, length-drop (length c.widths) xs)),
    )
numbers-of_one true false c xs picks others ws W among long p q = p (omega
    (arith, long, length-append c.widths ws, length-drop (length c.widths) xs))
numbers-of_one false true c xs picks others ws W among long p q = absurd (false≢true (among refl))
numbers-of_one false false c xs picks others ws W among long p q = q long

-- as many numbers as the ports of the channels that start
pub picked-length : (listed starts n : ℕ) (cs : List Channel) (xs : List ℕ) → Among starts listed
    → length (widths_from n listed cs) ≤ length xs → length (picked listed starts n cs xs) ≡ length (widths_from n starts cs)
unfolding picked
picked-length listed starts n [] xs among long = refl
picked-length listed starts n (c ∷ cs) xs among long =
    numbers-of_one (has listed n) (has starts n) c xs (picked listed starts (n + 1) cs (drop (length c.widths) xs))
    (picked listed starts (n + 1) cs xs) (widths_from (n + 1) listed cs) (widths_from (n + 1) starts cs) (among n) long
    (λ l. picked-length listed starts (n + 1) cs (drop (length c.widths) xs) among l)
    (λ l. picked-length listed starts (n + 1) cs xs among l)

own_one : (starts : Bool) (c : Channel) (xs picks others ws : List ℕ) → length xs ≡ length (cond starts c.widths [] ++ ws)
    → (length (drop (length c.widths) xs) ≡ length ws → picks ≡ drop (length c.widths) xs) → (length xs ≡ length ws → others ≡ xs)
    → cond starts (cond starts (take (length c.widths) xs) [] ++ picks) others ≡ xs
own_one true c xs picks others ws long p q =
    ap (λ bs. take (length c.widths) xs ++ bs) (p (omega (arith, long, length-append c.widths ws, length-drop (length c.widths) xs)))
    ∙ take-append-drop (length c.widths) xs
own_one false c xs picks others ws long p q = q long

-- of the contents of the channels that start, all are picked
pub picked-own : (mask n : ℕ) (cs : List Channel) (xs : List ℕ) → length xs ≡ length (widths_from n mask cs) → picked mask mask n cs xs ≡ xs
unfolding picked
picked-own mask n [] [] e = refl
picked-own mask n [] (x ∷ xs) e = absurd (omega arith)
picked-own mask n (c ∷ cs) xs e =
    own_one (has mask n) c xs (picked mask mask (n + 1) cs (drop (length c.widths) xs)) (picked mask mask (n + 1) cs xs)
    (widths_from (n + 1) mask cs) e
    (λ l. picked-own mask (n + 1) cs (drop (length c.widths) xs) l) (λ l. picked-own mask (n + 1) cs xs l)

-- ---- the contents of all channels
abbrev pub every : ℕ
every = 2 ^ 128 - 1

pub has-every : (c : ℕ) → c < 128 → has every c ≡ true
has-every c l = eq-eqb (bit_at every c) 1 (bit_at_ones 128 c l)

has-past : (mask n c : ℕ) → mask < 2 ^ n → has mask c ≡ true → c < n
has-past mask n c l h = ⊎_elim
    (λ (b : c < n). b)
    (λ (b : n ≤ c). let z : bit_at mask c ≡ 0 = bit_at_above mask n c l b in let o = eqb-true (bit_at mask c) 1 h in absurd (omega arith))
    (cases_lt c n)

-- each channel of a table of at most 128 is among them
pub among-every : (starts n : ℕ) → n ≤ 128 → starts < 2 ^ n → Among starts every
among-every starts n few l c h = has-every c (let b = has-past starts n c l h in omega arith)

every-from : (n : ℕ) (cs : List Channel) → n + length cs ≤ 128 → widths_from n every cs ≡ all_widths cs
every-from n [] l = refl
every-from n (c ∷ cs) l =
    ap (λ b. cond b c.widths [] ++ widths_from (n + 1) every cs) (has-every n (omega arith))
    ∙ ap (λ ws. c.widths ++ ws) (every-from (n + 1) cs (omega arith))

pub every-widths : (cs : List Channel) → length cs ≤ 128 → widths_under every cs ≡ all_widths cs
every-widths cs l = every-from 0 cs (omega arith)

all-behind : (starts : ℕ) (cs : List Channel) (numbers : List ℕ) (front ds : List Channel) (n : ℕ) → cs ≡ front ++ ds → n ≡ length front → n
    + length ds ≤ 128
    → picked every starts n ds (drop (length (all_widths front)) numbers) ≡ taken_of starts cs numbers n ds
unfolding picked
all-behind starts cs numbers front [] n e l few = refl
all-behind starts cs numbers front (d ∷ ds) n e l few =
    let place = length (all_widths front) in
    let k = length d.widths in
    let xs = drop place numbers in
    let grouped : cs ≡ (front ++ d ∷ []) ++ ds = e ∙ sym (append_assoc front (d ∷ []) ds) in
    let further : n + 1 ≡ length (front ++ d ∷ []) = omega (arith, l, length_push front d) in
    let next : place + k ≡ length (all_widths (front ++ d ∷ [])) =
    sym (ap length (flat_map-append (λ (c : Channel). c.widths) front (d ∷ []) ∙ ap (λ ws. all_widths front ++ ws) (append-nil d.widths))
    ∙ length-append (all_widths front) d.widths) in
    let others : picked every starts (n + 1) ds (drop k xs) ≡ taken_of starts cs numbers (n + 1) ds =
    ap (picked every starts (n + 1) ds) (drop-drop k place numbers ∙ ap (λ m. drop m numbers) next)
    ∙ all-behind starts cs numbers (front ++ d ∷ []) ds (n + 1) grouped further (omega arith) in
    ap (λ b. cond b (cond (has starts n) (take k xs) [] ++ picked every starts (n + 1) ds (drop k xs)) (picked every starts (n + 1) ds xs))
    (has-every n (omega arith))
    ∙ ap (λ bs. cond (has starts n) bs [] ++ picked every starts (n + 1) ds (drop k xs)) (sym (content-behind front ds cs d numbers n e l))
    ∙ ap (λ bs. cond (has starts n) (content_at cs numbers n) [] ++ bs) others

-- out of the contents of all channels, those of the channels that start
pub picked-all : (starts : ℕ) (cs : List Channel) (numbers : List ℕ) → length cs ≤ 128 → picked every starts 0 cs numbers
    ≡ contents_under starts cs numbers
picked-all starts cs numbers few = all-behind starts cs numbers [] cs 0 refl refl (omega arith)

-- ---- a packet, part by part
abbrev Head : ℕ → ℕ → ℕ → ℕ → List ℕ → List ℕ
Head gap n starts ends numbers = 1 ∷ (gap_bytes gap ++ (mask_bytes n starts ++ (mask_bytes n ends ++ numbers)))

pub record Parts (gap n s e : ℕ) (numbers : List ℕ) (buf b b' b'' new : List ℕ) (p p' p'' : ℕ) : Type 0 where
  pub room : 3 + (length (mask_bytes n s) + length (mask_bytes n e)) + length numbers ≤ length buf
  pub tag : b ≡ overwritten buf 0 (1 ∷ gap_bytes gap)
  pub tag-place : p ≡ 0 + 3
  pub starts : b' ≡ overwritten b p (mask_bytes n s)
  pub starts-place : p' ≡ p + length (mask_bytes n s)
  pub ends : b'' ≡ overwritten b' p' (mask_bytes n e)
  pub ends-place : p'' ≡ p' + length (mask_bytes n e)
  pub contents : new ≡ overwritten b'' p'' numbers
  pub b-long : length b ≡ length buf
  pub b'-long : length b' ≡ length buf

pub parts-written : (gap n starts ends : ℕ) (numbers : List ℕ) (buf b b' b'' new : List ℕ) (p p' p'' place : ℕ)
    → Parts gap n starts ends numbers buf b b' b'' new p p' p'' → place ≡ p'' + length numbers
    → (new ≡ Head gap n starts ends numbers ++ drop place buf) × (place ≡ length (Head gap n starts ends numbers))
parts-written gap n starts ends numbers buf b b' b'' new p p' p'' place w e =
    let S = mask_bytes n starts in
    let E = mask_bytes n ends in
    let long : place ≡ length (Head gap n starts ends numbers) = omega (
      arith,
      e,
      w.room,
      w.tag-place,
      w.starts-place,
      w.ends-place,
      length-append S (E ++ numbers),
      length-append E numbers,
    ) in
    let whole : new ≡ overwritten buf 0 (Head gap n starts ends numbers) =
    w.contents
    ∙ over-next b' b'' E numbers p' p'' (omega (arith, w.room, w.tag-place, w.starts-place, w.b'-long)) w.ends w.ends-place
    ∙ over-next b b' S (E ++ numbers) p p' (omega (arith, w.room, w.tag-place, w.b-long)) w.starts w.starts-place
    ∙ over-next buf b (1 ∷ gap_bytes gap) (S ++ (E ++ numbers)) 0 p (omega (arith, w.room)) w.tag w.tag-place in
    (whole ∙ over-front buf (Head gap n starts ends numbers) ∙ ap (λ k. Head gap n starts ends numbers ++ drop k buf) (sym long), long)

-- ---- the packet of a row
event-tests : (starts ends : ℕ) → not (eqb starts 0 && eqb ends 0) ≡ true → (eqb starts 0 && eqb ends 0) ≡ false
event-tests starts ends h = ⊎_elim
    (λ (t : (eqb starts 0 && eqb ends 0) ≡ true). absurd (false≢true (ap not (sym t) ∙ h)))
    (λ (f : (eqb starts 0 && eqb ends 0) ≡ false). f)
    (cases_Bool (eqb starts 0 && eqb ends 0))

pub row-packet : (cs : List Channel) (gap : ℕ) (row : Row) → length cs ≤ 128 → has_event row ≡ true
    → tagged_bytes cs gap row.starts row.ends (picked every row.starts 0 cs row.contents) ≡ row_bytes cs gap row
row-packet cs gap row few h =
    ap (tagged_bytes cs gap row.starts row.ends) (picked-all row.starts cs row.contents few)
    ∙ ap (λ b. cond b (packet_bytes cs (after_gap gap (packet_of cs row))) []) (sym h)

-- all numbers that a listing of every channel asks for are there
pub every-there : (cs : List Channel) (numbers : List ℕ) → length cs ≤ 128 → Fit (all_widths cs) numbers
    → length (widths_under every cs) ≤ length numbers
every-there cs numbers few f = omega (arith, ap length (every-widths cs few), fit-length (all_widths cs) numbers f)

pub row-length : (cs : List Channel) (gap : ℕ) (row : Row) → length cs ≤ 128 → row.starts < 2 ^ length cs → Fit (all_widths cs) row.contents
    → has_event row ≡ true → length (row_bytes cs gap row) ≡ packet_len cs row.starts row.ends
row-length cs gap row few starts f h =
    let numbers = picked every row.starts 0 cs row.contents in
    let S = mask_bytes (length cs) row.starts in
    let E = mask_bytes (length cs) row.ends in
    let N = number_bytes (widths_under row.starts cs) numbers in
    let one = picked-length every row.starts 0 cs row.contents (among-every row.starts (length cs) few starts)
    (every-there cs row.contents few f) in
    let size : length (tagged_bytes cs gap row.starts row.ends numbers) ≡ head_len (length cs) + contents_len row.starts cs =
    omega (
      arith,
      length-append S (E ++ N),
      length-append E N,
      length-low 0 (mask_len (length cs)) row.starts,
      length-low 0
          (mask_len (length cs)) row.ends,
      number_bytes-length (widths_under row.starts cs) numbers one,
      contents_len-widths row.starts cs,
    ) in
    ap length (sym (row-packet cs gap row few h)) ∙ size ∙ ap (λ b. cond b 0 (head_len (length cs) + contents_len row.starts cs))
    (sym (event-tests row.starts row.ends h))

pub no-row-packet : (cs : List Channel) (gap : ℕ) (row : Row) → has_event row ≡ false → (row_bytes cs gap row ≡ [])
    × (packet_len cs row.starts row.ends ≡ 0)
no-row-packet cs gap row h =
    let none : (eqb row.starts 0 && eqb row.ends 0) ≡ true = ⊎_elim
    (λ (t : (eqb row.starts 0 && eqb row.ends 0) ≡ true). t)
    (λ (f : (eqb row.starts 0 && eqb row.ends 0) ≡ false). absurd (false≢true (sym h ∙ ap not f)))
    (cases_Bool (eqb row.starts 0 && eqb row.ends 0)) in (
      ap (λ b. cond b (packet_bytes cs (after_gap gap (packet_of cs row))) []) h,
      ap (λ b. cond b 0 (head_len (length cs) + contents_len row.starts cs))
          none,
    )

-- ---- a packet that is written by way of a buffer
pub packet-written : (cs : List Channel) (p : Packet) → p.reset ≡ false → Fit (widths_under p.starts cs) p.contents
    → tagged_bytes cs p.gap p.starts p.ends (picked p.starts p.starts 0 cs p.contents) ≡ packet_bytes cs p
packet-written cs p row f =
    ap (tagged_bytes cs p.gap p.starts p.ends) (picked-own p.starts 0 cs p.contents (sym (fit-length (widths_under p.starts cs) p.contents f)))
    ∙ sym (cond-false p.reset (2 ∷ gap_bytes p.gap) (tagged_bytes cs p.gap p.starts p.ends p.contents) row)

pub reset-written : (cs : List Channel) (p : Packet) → p.reset ≡ true → packet_bytes cs (reset_packet p.gap) ≡ packet_bytes cs p
reset-written cs p h = sym (cond-true p.reset (2 ∷ gap_bytes p.gap) (tagged_bytes cs p.gap p.starts p.ends p.contents) h)

-- one packet more
pub packet-pushed : (cs : List Channel) (ps : List Packet) (i len : ℕ) (p : Packet) (start before after old new : List ℕ) → i < length ps
    → p ≡ get_or ps i p → new ≡ packet_bytes cs p ++ old → len ≡ length (packet_bytes cs p)
    → before ≡ start ++ flat_map (packet_bytes cs) (take i ps) → after ≡ before ++ take len new → after ≡ start
    ++ flat_map (packet_bytes cs) (take (i + 1) ps)
packet-pushed cs ps i len p start before after old new l e n k b a =
    let front : take len new ≡ packet_bytes cs p = ap (take len) n ∙ take_at (packet_bytes cs p) old len (sym k) in
    let more : flat_map (packet_bytes cs) (take (i + 1) ps) ≡ flat_map (packet_bytes cs) (take i ps) ++ packet_bytes cs p =
    ap (flat_map (packet_bytes cs)) (take-more_read ps i p l e) ∙ flat_map-append (packet_bytes cs) (take i ps) (p ∷ [])
    ∙ ap (λ bs. flat_map (packet_bytes cs) (take i ps) ++ bs) (append-nil (packet_bytes cs p)) in
    a ∙ ap (λ bs. bs ++ take len new) b ∙ ap (λ bs. (start ++ flat_map (packet_bytes cs) (take i ps)) ++ bs) front
    ∙ append_assoc start (flat_map (packet_bytes cs) (take i ps)) (packet_bytes cs p) ∙ ap (λ bs. start ++ bs) (sym more)
