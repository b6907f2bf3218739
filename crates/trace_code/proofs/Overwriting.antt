-- Pieces written one after the other over the bytes of a buffer.
use Rattle.std.proofs.Common.{◌≡◌, ℕ, zero, suc, ◌+◌, ◌-◌, ◌/◌, ◌%◌, ◌<◌, ◌≤◌, min, List, [], ◌∷◌, ◌++◌, length, get_or, take, drop, sum_by}
use Rattle.std.proofs.Common.{refl, sym, ap, ◌∙◌, append_assoc, arith}
use Rattle.std.specs.Int.{byte_at, bytes_high_first, bytes_low_first}
use Rattle.std.proofs.Math.Seq.{drop-drop}
use Rattle.std.proofs.lemmas.List.{length-append, length-take-le, take_at, take_all, drop_at, take-append-drop, drop_more}
use Rattle.std.proofs.lemmas.List.Sums.{sum_by-cons}
use Rattle.vec_clock.specs.trace_model.Channel.{byte_count}
use Rattle.vec_clock.specs.trace_model.Length.{mask_len}
use Rattle.trace_code.specs.Encoding.{mask_bytes, number_bytes}
use Rattle.trace_code.specs.Writing.{overwritten}
use Rattle.trace_code.proofs.NumberLaws.{length-high}

-- ---- parts of a number's 16 bytes
high-tail : (j k x : ℕ) → drop j (bytes_high_first (j + k) x) ≡ bytes_high_first k x
high-tail zero k x = ap (λ n. bytes_high_first n x) (omega arith)
high-tail (suc j) k x = ap (λ n. drop (suc j) (bytes_high_first n x)) (let e : suc j + k ≡ suc (j + k) = omega arith in e) ∙ high-tail j k x

-- the last k of them hold a number of k bytes
high-last : (k x : ℕ) → k ≤ 16 → drop (16 - k) (bytes_high_first 16 x) ≡ bytes_high_first k x
high-last k x l = ap (λ n. drop (16 - k) (bytes_high_first n x)) (let e : 16 ≡ (16 - k) + k = omega arith in e) ∙ high-tail (16 - k) k x

pub high-piece : (k x : ℕ) (bytes : List ℕ) → k ≤ 16 → bytes ≡ bytes_high_first 16 x → take (16 - (16 - k)) (drop (16 - k) bytes)
    ≡ bytes_high_first k x
high-piece k x bytes l e =
    let last = ap (drop (16 - k)) e ∙ high-last k x l in
    take_all (16 - (16 - k)) (drop (16 - k) bytes) (omega (arith, ap length last, length-high k x)) ∙ last

low-front : (i k m x : ℕ) → take k (bytes_low_first i (k + m) x) ≡ bytes_low_first i k x
low-front i zero m x = refl
low-front i (suc k) m x = ap (λ n. take (suc k) (bytes_low_first i n x)) (let e : suc k + m ≡ suc (k + m) = omega arith in e)
    ∙ ap (λ bs. byte_at i x ∷ bs) (low-front (suc i) k m x)

-- the first k of them, the lowest first
pub low-first : (k x : ℕ) → k ≤ 16 → take k (bytes_low_first 0 16 x) ≡ bytes_low_first 0 k x
low-first k x l = ap (λ n. take k (bytes_low_first 0 n x)) (let e : 16 ≡ k + (16 - k) = omega arith in e) ∙ low-front 0 k (16 - k) x

pub low-piece : (n x len : ℕ) (bytes : List ℕ) → n ≤ 128 → len ≡ n / 8 + min 1 (n % 8) → bytes ≡ bytes_low_first 0 16 x → take len bytes
    ≡ mask_bytes n x
low-piece n x len bytes l e b =
    let size : len ≡ mask_len n = omega arith in
    ap (take len) b ∙ ap (λ k. take k (bytes_low_first 0 16 x)) size ∙ low-first (mask_len n) x (omega arith)

-- ---- pieces
-- nothing written
pub over-nil : (bytes : List ℕ) (at : ℕ) → overwritten bytes at [] ≡ bytes
over-nil bytes at = ap (λ n. take at bytes ++ drop n bytes) (let e : at + 0 ≡ at = omega arith in e) ∙ take-append-drop at bytes

-- a piece, and another behind it
pub over-append : (bytes p q : List ℕ) (at : ℕ) → at + length p ≤ length bytes → overwritten (overwritten bytes at p) (at + length p) q
    ≡ overwritten bytes at (p ++ q)
over-append bytes p q at room =
    let front = take at bytes in
    let rest = drop (at + length p) bytes in
    let long : length (front ++ p) ≡ at + length p = omega (arith, length-append front p, length-take-le at bytes (omega arith)) in
    let whole : front ++ (p ++ rest) ≡ (front ++ p) ++ rest = sym (append_assoc front p rest) in
    let before : take (at + length p) (front ++ (p ++ rest)) ≡ front ++ p = ap (take (at + length p)) whole
    ∙ take_at (front ++ p) rest (at + length p) long in
    let behind : drop (at + length p) (front ++ (p ++ rest)) ≡ rest = ap (drop (at + length p)) whole
    ∙ drop_at (front ++ p) rest (at + length p) long in
    let after : drop (at + length p + length q) (front ++ (p ++ rest)) ≡ drop (at + length (p ++ q)) bytes =
    sym (drop-drop (length q) (at + length p) (front ++ (p ++ rest))) ∙ ap (drop (length q)) behind
    ∙ drop-drop (length q) (at + length p) bytes
    ∙ ap (λ n. drop n bytes) (let e : at + length p + length q ≡ at + length (p ++ q) = omega (arith, length-append p q) in e) in
    ap (λ bs. bs ++ (q ++ drop (at + length p + length q) (front ++ (p ++ rest)))) before
    ∙ ap (λ bs. (front ++ p) ++ (q ++ bs)) after
    ∙ append_assoc front p (q ++ drop (at + length (p ++ q)) bytes)
    ∙ ap (λ bs. front ++ bs) (sym (append_assoc p q (drop (at + length (p ++ q)) bytes)))

-- one piece after another, where the rest is written next
pub over-next : (bytes new p q : List ℕ) (at place : ℕ) → at + length p ≤ length bytes → new ≡ overwritten bytes at p → place ≡ at
    + length p → overwritten new place q ≡ overwritten bytes at (p ++ q)
over-next bytes new p q at place room n e = ap (λ bs. overwritten bs place q) n ∙ ap (λ k. overwritten (overwritten bytes at p) k q) e
    ∙ over-append bytes p q at room

-- at the front of the buffer
pub over-front : (bytes piece : List ℕ) → overwritten bytes 0 piece ≡ piece ++ drop (length piece) bytes
over-front bytes piece = ap (λ n. piece ++ drop n bytes) (let e : 0 + length piece ≡ length piece = omega arith in e)

-- ---- a loop over the numbers of a content
number_bytes-drop : (ws xs : List ℕ) (n w x : ℕ) → n < length ws → n < length xs → w ≡ get_or ws n 0 → x ≡ get_or xs n 0
    → number_bytes (drop n ws) (drop n xs) ≡ bytes_high_first (byte_count w) x ++ number_bytes (drop (n + 1) ws) (drop (n + 1) xs)
number_bytes-drop ws xs n w x lw lx ew ex = rw (drop_more ws n 0 lw, drop_more xs n 0 lx, ew, ex) refl

-- one number more was written
pub record Written (ws xs bytes new : List ℕ) (n at place : ℕ) : Type 0 where
  pub bytes-are : overwritten new place (number_bytes (drop (n + 1) ws) (drop (n + 1) xs))
      ≡ overwritten bytes at (number_bytes (drop n ws) (drop n xs))
  pub place-is : place + length (number_bytes (drop (n + 1) ws) (drop (n + 1) xs)) ≡ at + length (number_bytes (drop n ws) (drop n xs))
  pub room : place + sum_by byte_count (drop (n + 1) ws) ≡ at + sum_by byte_count (drop n ws)

pub number-written : (ws xs bytes new : List ℕ) (n at place w x : ℕ) → n < length ws → n < length xs → w ≡ get_or ws n 0 → x ≡ get_or xs n 0
    → at + sum_by byte_count (drop n ws) ≤ length bytes
    → new ≡ overwritten bytes at (bytes_high_first (byte_count w) x) → place ≡ at + byte_count w → Written ws xs bytes new n at place
number-written ws xs bytes new n at place w x lw lx ew ex room over e =
    let piece = bytes_high_first (byte_count w) x in
    let rest = number_bytes (drop (n + 1) ws) (drop (n + 1) xs) in
    let size : length piece ≡ byte_count w = length-high (byte_count w) x in
    let sum : sum_by byte_count (drop n ws) ≡ byte_count w + sum_by byte_count (drop (n + 1) ws) =
    ap (sum_by byte_count) (drop_more ws n 0 lw) ∙ sum_by-cons byte_count (get_or ws n 0) (drop (n + 1) ws)
    ∙ ap (λ v. byte_count v + sum_by byte_count (drop (n + 1) ws)) (sym ew) in
    let parts = number_bytes-drop ws xs n w x lw lx ew ex in
    let place' : place ≡ at + length piece = omega arith in
    record {
      bytes-are = over-next bytes new piece rest at place (omega arith) over place' ∙ ap (overwritten bytes at) (sym parts);
      place-is = omega (arith, ap length parts, length-append piece rest);
      room = omega arith;
    }
