-- The contents of the channels that start, channel by channel, out of those of the listed channels.
use Rattle.std.proofs.Common.{◌≡◌, ℕ, ◌+◌, ◌<◌, ◌≤◌, Bool, true, false, cond, List, [], ◌∷◌, ◌++◌, length, get_or, take, drop, sum_by, refl}
use Rattle.std.proofs.Common.{sym, ap, ◌∙◌, append_assoc, arith}
use Rattle.std.specs.Int.{bytes_high_first}
use Rattle.std.proofs.lemmas.List.{length-append, length-take-le, drop_more, length-drop}
use Rattle.std.proofs.lemmas.List.Sums.{sum_by-cons, sum_by-append}
use Rattle.vec_clock.specs.vidi_bits.Number.{has}
use Rattle.vec_clock.specs.trace_model.declared.channel.Channel.{Channel}
use Rattle.vec_clock.specs.trace_model.Channel.{byte_count}
use Rattle.trace_code.specs.Encoding.{number_bytes}
use Rattle.trace_code.specs.Writing.{overwritten, picked}
use Rattle.trace_code.proofs.NumberLaws.{length-high}
use Rattle.trace_code.proofs.Overwriting.{over-next}
use Rattle.trace_code.proofs.PacketLoop.{widths_from}

-- ---- numbers, piece by piece
pub number_bytes-append : (ws vs xs ys : List ℕ) → length xs ≡ length ws → number_bytes (ws ++ vs) (xs ++ ys) ≡ number_bytes ws xs
    ++ number_bytes vs ys
number_bytes-append [] vs [] ys e = refl
number_bytes-append [] vs (x ∷ xs) ys e = absurd (omega arith)
number_bytes-append (w ∷ ws) vs [] ys e = absurd (omega arith)
number_bytes-append (w ∷ ws) vs (x ∷ xs) ys e =
    ap (λ bs. bytes_high_first (byte_count w) x ++ bs) (number_bytes-append ws vs xs ys (omega arith))
    ∙ sym (append_assoc (bytes_high_first (byte_count w) x) (number_bytes ws xs) (number_bytes vs ys))

pub number_bytes-length : (ws xs : List ℕ) → length xs ≡ length ws → length (number_bytes ws xs) ≡ sum_by byte_count ws
number_bytes-length [] [] e = refl
number_bytes-length [] (x ∷ xs) e = absurd (omega arith)
number_bytes-length (w ∷ ws) [] e = absurd (omega arith)
number_bytes-length (w ∷ ws) (x ∷ xs) e =
    let others = number_bytes-length ws xs (omega arith) in
    omega (
      arith,
      length-append (bytes_high_first (byte_count w) x) (number_bytes ws xs),
      length-high (byte_count w) x,
      sum_by-cons
          byte_count w ws,
    )

-- ---- one channel further
here : (cs : List Channel) (n : ℕ) (c : Channel) → n < length cs → c ≡ get_or cs n c → drop n cs ≡ c ∷ drop (n + 1) cs
here cs n c l e = drop_more cs n c l ∙ ap (λ d. d ∷ drop (n + 1) cs) (sym e)

widths-here : (mask : ℕ) (cs : List Channel) (n : ℕ) (c : Channel) → n < length cs → c ≡ get_or cs n c → widths_from n mask (drop n cs)
    ≡ cond (has mask n) c.widths [] ++ widths_from (n + 1) mask (drop (n + 1) cs)
widths-here mask cs n c l e = ap (widths_from n mask) (here cs n c l e)

picked-here : (listed starts : ℕ) (cs : List Channel) (n : ℕ) (c : Channel) (xs : List ℕ) → n < length cs → c ≡ get_or cs n c
    → picked listed starts n (drop n cs) xs ≡ cond (has listed n) (cond (has starts n) (take (length c.widths) xs) []
    ++ picked listed starts (n + 1) (drop (n + 1) cs) (drop (length c.widths) xs)) (picked listed starts (n + 1) (drop (n + 1) cs) xs)
unfolding picked
picked-here listed starts cs n c xs l e = ap (λ ds. picked listed starts n ds xs) (here cs n c l e)

-- what is still to be written, from channel n on
abbrev pub left : ℕ → ℕ → List Channel → ℕ → List ℕ → List ℕ
left listed starts cs n rest = number_bytes (widths_from n starts (drop n cs)) (picked listed starts n (drop n cs) rest)

-- what one channel more leaves
pub record Left (listed starts : ℕ) (cs : List Channel) (n at place : ℕ) (bytes new rest after : List ℕ) : Type 0 where
  pub bytes-are : overwritten new place (left listed starts cs (n + 1) after) ≡ overwritten bytes at (left listed starts cs n rest)
  pub place-is : place + length (left listed starts cs (n + 1) after) ≡ at + length (left listed starts cs n rest)
  pub room : place + sum_by byte_count (widths_from (n + 1) starts (drop (n + 1) cs)) ≤ at
      + sum_by byte_count (widths_from n starts (drop n cs))
  pub one_each : length (widths_from (n + 1) listed (drop (n + 1) cs)) ≤ length after

-- a channel that isn't listed
pub skipped : (listed starts : ℕ) (cs : List Channel) (n at : ℕ) (c : Channel) (bytes rest : List ℕ) → n < length cs → c ≡ get_or cs n c
    → has listed n ≡ false → has starts n ≡ false
    → length (widths_from n listed (drop n cs)) ≤ length rest → Left listed starts cs n at at bytes bytes rest rest
skipped listed starts cs n at c bytes rest l e unlisted none long =
    let ws : widths_from n starts (drop n cs) ≡ widths_from (n + 1) starts (drop (n + 1) cs) = widths-here starts cs n c l e
    ∙ ap (λ b. cond b c.widths [] ++ widths_from (n + 1) starts (drop (n + 1) cs)) none in
    let xs : picked listed starts n (drop n cs) rest ≡ picked listed starts (n + 1) (drop (n + 1) cs) rest =
    picked-here listed starts cs n c rest l e ∙ ap (λ b. cond b (cond (has starts n) (take (length c.widths) rest) []
    ++ picked listed starts (n + 1) (drop (n + 1) cs) (drop (length c.widths) rest))
    (picked listed starts (n + 1) (drop (n + 1) cs) rest)) unlisted in
    let same : left listed starts cs n rest ≡ left listed starts cs (n + 1) rest = ap
    (λ vs. number_bytes vs (picked listed starts n (drop n cs) rest)) ws
    ∙ ap (number_bytes (widths_from (n + 1) starts (drop (n + 1) cs))) xs in
    let listed-are : widths_from n listed (drop n cs) ≡ widths_from (n + 1) listed (drop (n + 1) cs) = widths-here listed cs n c l e
    ∙ ap (λ b. cond b c.widths [] ++ widths_from (n + 1) listed (drop (n + 1) cs)) unlisted in
    record {
      bytes-are = ap (overwritten bytes at) (sym same);
      place-is = ap (λ bs. at + length bs) (sym same);
      room = omega (arith, ap (sum_by byte_count) ws);
      one_each = omega (arith, ap length listed-are);
    }

-- the piece of a channel
abbrev pub piece : Bool → Channel → List ℕ → List ℕ
piece starts c content = number_bytes (cond starts c.widths []) (cond starts content [])

long-piece : (starts : Bool) (c : Channel) (content : List ℕ) → length content ≡ length c.widths → length (cond starts content [])
    ≡ length (cond starts c.widths [])
long-piece true c content e = e
long-piece false c content e = refl

-- a channel that is listed, and is written where it starts
pub written : (listed starts : ℕ) (cs : List Channel) (n at place : ℕ) (c : Channel) (bytes new rest content after : List ℕ) → n < length cs
    → c ≡ get_or cs n c → has listed n ≡ true
    → length (widths_from n listed (drop n cs)) ≤ length rest → at + sum_by byte_count (widths_from n starts (drop n cs)) ≤ length bytes
    → content ≡ take (length c.widths) rest → after ≡ drop (length c.widths) rest
    → new ≡ overwritten bytes at (piece (has starts n) c content) → place ≡ at + length (piece (has starts n) c content)
    → Left listed starts cs n at place bytes new rest after
written listed starts cs n at place c bytes new rest content after l e listing long room front back over next =
    let k = length c.widths in
    let W = widths_from (n + 1) starts (drop (n + 1) cs) in
    let X = picked listed starts (n + 1) (drop (n + 1) cs) in
    let mine = cond (has starts n) c.widths [] in
    let ws : widths_from n starts (drop n cs) ≡ mine ++ W = widths-here starts cs n c l e in
    let xs : picked listed starts n (drop n cs) rest ≡ cond (has starts n) content [] ++ X after =
    picked-here listed starts cs n c rest l e
    ∙ ap (λ b. cond b (cond (has starts n) (take k rest) [] ++ X (drop k rest)) (X rest)) listing
    ∙ ap (λ bs. cond (has starts n) bs [] ++ X (drop k rest)) (sym front)
    ∙ ap (λ bs. cond (has starts n) content [] ++ X bs) (sym back) in
    let listed-are : widths_from n listed (drop n cs) ≡ c.widths ++ widths_from (n + 1) listed (drop (n + 1) cs) = widths-here listed cs n c
    l e ∙ ap (λ b. cond b c.widths [] ++ widths_from (n + 1) listed (drop (n + 1) cs)) listing in
    let enough : k + length (widths_from (n + 1) listed (drop (n + 1) cs)) ≤ length rest = omega
    (arith, ap length listed-are, length-append c.widths (widths_from (n + 1) listed (drop (n + 1) cs))) in
    let content-long : length content ≡ k = ap length front ∙ length-take-le k rest (omega arith) in
    let one : length (cond (has starts n) content []) ≡ length mine = long-piece (has starts n) c content content-long in
    let parts : left listed starts cs n rest ≡ piece (has starts n) c content ++ left listed starts cs (n + 1) after =
    ap (λ vs. number_bytes vs (picked listed starts n (drop n cs) rest)) ws ∙ ap (number_bytes (mine ++ W)) xs
    ∙ number_bytes-append mine W (cond (has starts n) content []) (X after) one in
    let size = number_bytes-length mine (cond (has starts n) content []) one in
    let sum : sum_by byte_count (widths_from n starts (drop n cs)) ≡ sum_by byte_count mine
    + sum_by byte_count W = ap (sum_by byte_count) ws ∙ sum_by-append byte_count mine W in
    record {
      bytes-are = over-next bytes new (piece (has starts n) c content) (left listed starts cs (n + 1) after) at place (omega arith) over
          next ∙ ap (overwritten bytes at) (sym parts);
      place-is = omega (arith, next, ap length parts, length-append (piece (has starts n) c content) (left listed starts cs (n + 1) after));
      room = omega arith;
      one_each = omega (arith, ap length back, length-drop k rest);
    }
