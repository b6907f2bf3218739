-- A packet without a completion that it has, and the completion alone.
use Rattle.std.proofs.Common.{◌≡◌, ◌≢◌, ◌⊎◌, ℕ, ◌+◌, ◌<◌, ◌≤◌, ◌^◌, ◌%◌, ◌&&◌, ◌++◌, Bool, true, false, eqb, cond, List, [], ◌∷◌, All, inl, inr, length, map}
use Rattle.std.proofs.Common.{ap, sym, subst, ◌∙◌, ⊎_elim, arith, append-nil, eqb-true, false-eqb}
use Rattle.std.specs.Prelude.{bit_xor}
use Rattle.std.specs.Int.{bit_at}
use Rattle.std.proofs.Math.Pow.{pow-lt}
use Rattle.std.proofs.lemmas.Bool.{cases_Bool, cases_lt, cond-true, cond-false, and_parts, ne_eqb}
use Rattle.std.proofs.lemmas.Nat.{pow_pos, xor_lt}
use Rattle.std.proofs.lemmas.Nat.Bits.{bit_at-zero, bit_at_xor, bit_at-pow_same, bit_at-pow_other, bit_at-lt, bit_at_above}
use Rattle.std.proofs.lemmas.List.Elements.{All-nil, All-cons}
use Rattle.trace_model.specs.vidi_bits.Number.{has}
use Rattle.trace_model.specs.declared.channel.Channel.{Channel}
use Rattle.trace_model.specs.declared.event.Kind.{Kind}
use Rattle.trace_model.specs.declared.event.Kind.TheVariants.{Start, End, Reset}
use Rattle.trace_model.specs.declared.packet.Packet.{Packet}
use Rattle.trace_model.specs.Packet.{count, does, content_of, is_bare, Fit, IsPacket}
use Rattle.trace_model.specs.Recording.{recorded}
use Rattle.trace_model.proofs.ContentsLemmas.{widths-none}
use Rattle.trace_model.proofs.CountingLemmas.{count-cons}
use Rattle.trace_model.proofs.MaskLemmas.{bit-from-has}
use Rattle.trace_edit.specs.Moved.{alone, without}
use Rattle.trace_edit.specs.Parts.{own}
use Rattle.trace_edit.specs.Stories.{story, told_in}

-- ---- bits
abbrev pub less : ℕ → Packet → ℕ
less c P = bit_xor P.ends (2 ^ c)

pub none-in-zero : (d : ℕ) → has 0 d ≡ false
none-in-zero d = ap (λ n. eqb n 1) (bit_at-zero d)

pub has-own : (c : ℕ) → has (2 ^ c) c ≡ true
has-own c = ap (λ n. eqb n 1) (bit_at-pow_same c)

pub has-other : (c d : ℕ) → d ≢ c → has (2 ^ c) d ≡ false
has-other c d n = ap (λ k. eqb k 1) (bit_at-pow_other c d n)

pub cleared : (m c : ℕ) → has m c ≡ true → has (bit_xor m (2 ^ c)) c ≡ false
cleared m c h = ap (λ n. eqb n 1) (bit_at_xor m (2 ^ c) c ∙ (let a = bit-from-has m c h in let b = bit_at-pow_same c in
    let z : (bit_at m c + bit_at (2 ^ c) c) % 2 ≡ 0 = omega (arith, a, b) in z))

pub kept-bit : (m c d : ℕ) → d ≢ c → has (bit_xor m (2 ^ c)) d ≡ has m d
kept-bit m c d n = ap (λ k. eqb k 1) (bit_at_xor m (2 ^ c) d ∙ (let b = bit_at-pow_other c d n in let l = bit_at-lt m d in
    let z : (bit_at m d + bit_at (2 ^ c) d) % 2 ≡ bit_at m d = omega (arith, b, l) in z))

pub channel-below : (m c n : ℕ) → has m c ≡ true → m < 2 ^ n → c < n
channel-below m c n h l = ⊎_elim (λ (k : c < n). k)
    (λ (k : n ≤ c). let a = bit-from-has m c h in let b = bit_at_above m n c l k in absurd (omega (arith, a, b)))
    (cases_lt c n)

-- ---- what is left, or nothing
pub without-parts : (c : ℕ) (P : Packet) → ((without c P ≡ []) × (P.starts ≡ 0) × (less c P ≡ 0))
    ⊎ ((without c P ≡ record P { ends = less c P } ∷ []) × (is_bare P.starts (less c P) ≡ false))
without-parts c P = ⊎_elim
    (λ (y : is_bare P.starts (less c P) ≡ true).
    let t = and_parts (eqb P.starts 0) (eqb (less c P) 0) y in
    inl (cond-true (is_bare P.starts (less c P)) [] (record P { ends = less c P } ∷ []) y, eqb-true P.starts 0 t.0, eqb-true (less c P) 0 t.1))
    (λ (n : is_bare P.starts (less c P) ≡ false).
    inr (cond-false (is_bare P.starts (less c P)) [] (record P { ends = less c P } ∷ []) n, n))
    (cases_Bool (is_bare P.starts (less c P)))

pub length-without : (c : ℕ) (P : Packet) → length (without c P) ≤ 1
length-without c P = ⊎_elim
    (λ (e : (without c P ≡ []) × (P.starts ≡ 0) × (less c P ≡ 0)). let z = ap length e.0 in omega (arith, z))
    (λ (e : (without c P ≡ record P { ends = less c P } ∷ []) × (is_bare P.starts (less c P) ≡ false)). let z = ap length e.0 in omega (arith, z))
    (without-parts c P)

-- ---- stories
abbrev pub start_of : Bool → List Kind
start_of b = cond b (Start ∷ []) []

abbrev pub end_of : Bool → List Kind
end_of b = cond b (End ∷ []) []

pub told-is : (c : ℕ) (x : Packet) → x.reset ≡ false → told_in c x ≡ start_of (has x.starts c) ++ end_of (has x.ends c)
told-is c x n = cond-false x.reset (Reset ∷ []) (start_of (has x.starts c) ++ end_of (has x.ends c)) n

pub story-without : (c d : ℕ) (P : Packet) → P.reset ≡ false
    → story d (without c P) ≡ start_of (has P.starts d) ++ end_of (has (less c P) d)
story-without c d P plain = ⊎_elim
    (λ (e : (without c P ≡ []) × (P.starts ≡ 0) × (less c P ≡ 0)).
    ap (story d) e.0
    ∙ sym (ap (λ n. start_of (has n d) ++ end_of (has (less c P) d)) e.1 ∙ ap (λ b. start_of b ++ end_of (has (less c P) d)) (none-in-zero d)
    ∙ ap (λ n. end_of (has n d)) e.2 ∙ ap end_of (none-in-zero d)))
    (λ (e : (without c P ≡ record P { ends = less c P } ∷ []) × (is_bare P.starts (less c P) ≡ false)).
    let Q : Packet = record P { ends = less c P } in
    ap (story d) e.0 ∙ append-nil (told_in d Q) ∙ told-is d Q plain)
    (without-parts c P)

pub told-own : (c : ℕ) → told_in c (alone c) ≡ End ∷ []
told-own c = ap (λ b. start_of b ++ end_of (has (2 ^ c) c)) (none-in-zero c) ∙ ap end_of (has-own c)

pub told-other : (c d : ℕ) → d ≢ c → told_in d (alone c) ≡ []
told-other c d n = ap (λ b. start_of b ++ end_of (has (2 ^ c) d)) (none-in-zero d) ∙ ap end_of (has-other c d n)

-- ---- completions
abbrev bit : ℕ → ℕ → ℕ
bit mask d = cond (has mask d) 1 0

one-end : (d : ℕ) (x : Packet) → count End d (x ∷ []) ≡ bit x.ends d
one-end d x = let e = count-cons (does End d) x [] in let z : count End d (x ∷ []) ≡ bit x.ends d = omega (arith, e) in z

ends-left : (c d : ℕ) (P : Packet) → count End d (without c P) ≡ bit (less c P) d
ends-left c d P = ⊎_elim
    (λ (e : (without c P ≡ []) × (P.starts ≡ 0) × (less c P ≡ 0)).
    ap (count End d) e.0 ∙ sym (ap (λ n. bit n d) e.2 ∙ ap (λ b. cond b 1 0) (none-in-zero d)))
    (λ (e : (without c P ≡ record P { ends = less c P } ∷ []) × (is_bare P.starts (less c P) ≡ false)).
    let Q : Packet = record P { ends = less c P } in ap (count End d) e.0 ∙ one-end d Q)
    (without-parts c P)

pub ends-without : (c d : ℕ) (P : Packet) → has P.ends c ≡ true → count End d (P ∷ []) ≡ count End d (without c P) + own c d
ends-without c d P there =
    let a = one-end d P in let b = ends-left c d P in
    ⊎_elim
    (λ (t : eqb d c ≡ true).
    let e = eqb-true d c t in
    let p : bit P.ends d ≡ 1 = ap (bit P.ends) e ∙ ap (λ b. cond b 1 0) there in
    let q : bit (less c P) d ≡ 0 = ap (bit (less c P)) e ∙ ap (λ b. cond b 1 0) (cleared P.ends c there) in
    let o : own c d ≡ 1 = cond-true (eqb d c) 1 0 t in
    let z : count End d (P ∷ []) ≡ count End d (without c P) + own c d = omega (arith, a, b, p, q, o) in z)
    (λ (t : eqb d c ≡ false).
    let q : bit (less c P) d ≡ bit P.ends d = ap (λ b. cond b 1 0) (kept-bit P.ends c d (false-eqb d c (sym t))) in
    let o : own c d ≡ 0 = cond-false (eqb d c) 1 0 t in
    let z : count End d (P ∷ []) ≡ count End d (without c P) + own c d = omega (arith, a, b, q, o) in z)
    (cases_Bool (eqb d c))

pub ends-alone : (c d : ℕ) → count End d (alone c ∷ []) ≡ own c d
ends-alone c d = one-end d (alone c) ∙ ⊎_elim
    (λ (t : eqb d c ≡ true). ap (bit (2 ^ c)) (eqb-true d c t) ∙ ap (λ b. cond b 1 0) (has-own c) ∙ sym (cond-true (eqb d c) 1 0 t))
    (λ (t : eqb d c ≡ false). ap (λ b. cond b 1 0) (has-other c d (false-eqb d c (sym t))) ∙ sym (cond-false (eqb d c) 1 0 t))
    (cases_Bool (eqb d c))

-- ---- lawful packets
pub packet-without : (channels : List Channel) (c : ℕ) (P : Packet) → IsPacket channels P → has P.ends c ≡ true → P.reset ≡ false
    → All (IsPacket channels) (without c P)
packet-without channels c P is there plain = ⊎_elim
    (λ (e : (without c P ≡ []) × (P.starts ≡ 0) × (less c P ≡ 0)). subst (All (IsPacket channels)) (sym e.0) (All-nil (IsPacket channels)))
    (λ (e : (without c P ≡ record P { ends = less c P } ∷ []) × (is_bare P.starts (less c P) ≡ false)).
    subst (All (IsPacket channels)) (sym e.0) (All-cons (IsPacket channels) (record P { ends = less c P }) [] (record {
      gap = is.gap;
      event = plain ∙ sym e.1;
      starts = is.starts;
      ends = xor_lt (length channels) P.ends (2 ^ c) is.ends (pow-lt (channel-below P.ends c (length channels) there is.ends));
      contents = is.contents;
    }) (All-nil (IsPacket channels))))
    (without-parts c P)

pub packet-alone : (channels : List Channel) (c : ℕ) → c < length channels → IsPacket channels (alone c)
packet-alone channels c l = record {
  gap = omega arith;
  event = sym (ap (λ b. eqb 0 0 && b) (ne_eqb (2 ^ c) 0 (λ e. let p = pow_pos c in omega (arith, e, p))));
  starts = pow_pos (length channels);
  ends = pow-lt l;
  contents = subst (λ ws. Fit ws []) (sym (widths-none channels)) tt;
}

-- ---- transactions
pub recorded-without : (channels : List Channel) (c d : ℕ) (P : Packet) → recorded channels (without c P) d ≡ recorded channels (P ∷ []) d
recorded-without channels c d P = ⊎_elim
    (λ (e : (without c P ≡ []) × (P.starts ≡ 0) × (less c P ≡ 0)).
    ap (λ xs. recorded channels xs d) e.0
    ∙ sym (ap (map (λ (p : Packet). content_of channels p d))
    (cond-false (has P.starts d) (P ∷ []) [] (ap (λ n. has n d) e.1 ∙ none-in-zero d))))
    (λ (e : (without c P ≡ record P { ends = less c P } ∷ []) × (is_bare P.starts (less c P) ≡ false)).
    ap (λ xs. recorded channels xs d) e.0 ∙ same)
    (without-parts c P)
  where
    Q : Packet
    Q = record P { ends = less c P }

    same : recorded channels (record P { ends = less c P } ∷ []) d ≡ recorded channels (P ∷ []) d
    same = ⊎_elim
        (λ (y : has P.starts d ≡ true). ap (map (λ (p : Packet). content_of channels p d))
        (cond-true (has P.starts d) (record P { ends = less c P } ∷ []) [] y)
        ∙ sym (ap (map (λ (p : Packet). content_of channels p d)) (cond-true (has P.starts d) (P ∷ []) [] y)))
        (λ (n : has P.starts d ≡ false). ap (map (λ (p : Packet). content_of channels p d))
        (cond-false (has P.starts d) (record P { ends = less c P } ∷ []) [] n)
        ∙ sym (ap (map (λ (p : Packet). content_of channels p d)) (cond-false (has P.starts d) (P ∷ []) [] n)))
        (cases_Bool (has P.starts d))

pub recorded-alone : (channels : List Channel) (c d : ℕ) → recorded channels (alone c ∷ []) d ≡ []
recorded-alone channels c d = ap (map (λ (p : Packet). content_of channels p d)) (cond-false (has 0 d) (alone c ∷ []) [] (none-in-zero d))
