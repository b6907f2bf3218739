-- Counts of which the last are kept apart.
use Rattle.std.proofs.Common.{◌≡◌, ◌≢◌, ℕ, ◌+◌, ◌*◌, ◌<◌, ◌≤◌, ◌^◌, true, false, List, length, get_or, arith, sym, refl, ⊎_elim}
use Rattle.std.proofs.lemmas.Bool.{cases_lt}
use Rattle.std.proofs.lemmas.List.FromFn.{fill_by_all, get_or-map-range_with_len, length-map-range_with_len}
use Rattle.std.proofs.lemmas.Nat.Bits.{bit_at_above}
use Rattle.std.specs.Int.{bit_at}
use Rattle.vec_clock.specs.vidi_bits.Number.{has}
use Rattle.vec_clock.proofs.trace_model_lemmas.MaskLemmas.{bit-from-has, no-bit-from-has, some-bit}
use Rattle.trace_code.specs.Tallied.{tallied}

pub tallied-long : (counts : List ℕ) (ends times : ℕ) → length (tallied counts ends times) ≡ length counts
tallied-long counts ends times = length-map-range_with_len (λ c. get_or counts c 0 + times * bit_at ends c) 0 (length counts)

pub tallied-at : (counts : List ℕ) (ends times c : ℕ) → c < length counts
    → get_or (tallied counts ends times) c 0 ≡ get_or counts c 0 + times * bit_at ends c
tallied-at counts ends times c l = get_or-map-range_with_len (λ c. get_or counts c 0 + times * bit_at ends c) 0 (length counts) c c 0 l (omega arith)

-- nothing is kept apart
pub tallied-none : (counts : List ℕ) → tallied counts 0 0 ≡ counts
tallied-none counts = sym (fill_by_all (λ c. get_or counts c 0 + 0 * bit_at 0 c) counts (length counts) 0 refl (λ k l. omega arith))

-- one of the channels in use completes
pub some-ends : (n ends : ℕ) → ends < 2 ^ 128 → ends < 2 ^ n → ends ≢ 0 → (c : ℕ) × (c < n) × (bit_at ends c ≡ 1)
some-ends n ends fits below some =
    let found = some-bit ends fits some in (
      found.0,
      ⊎_elim
          (λ (l : found.0 < n). l)
          (λ (l : n ≤ found.0). let none = bit_at_above ends n found.0 below l in let one = found.1 in absurd (omega (arith, none, one)))
          (cases_lt found.0 n),
      found.1,
    )

-- once more
pub once-more : (times b : ℕ) → (times + 1) * b ≡ times * b + b
once-more times b = omega arith

-- the last packets complete the channel, or don't
pub times-on : (times ends c : ℕ) → has ends c ≡ true → times ≡ times * bit_at ends c
times-on times ends c h = rw (bit-from-has ends c h) (omega arith)

pub times-off : (times ends c : ℕ) → has ends c ≡ false → 0 ≡ times * bit_at ends c
times-off times ends c h = rw (no-bit-from-has ends c h) (omega arith)
