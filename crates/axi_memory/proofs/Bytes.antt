-- A word is as small as its bytes are few.
use Rattle.std.proofs.Common.{◌≡◌, ℕ, zero, suc, ◌+◌, ◌*◌, ◌/◌, ◌%◌, ◌^◌, ◌<◌, ◌≤◌, cond, ap, sym, subst, ◌∙◌, arith, mod-lt, pow_pos}
use Rattle.std.proofs.Common.{mul-le-mul_right, pow-add, mod-eq_of_lt}
use Rattle.std.proofs.Math.Nat.{pow-le-pow_right}
use Rattle.trace_model.specs.vidi_bits.Number.{has, part_of}
use Rattle.axi_memory.specs.Memory.{merged}

-- one byte more, above a number of so many bits
byte-more : (n byte unit : ℕ) → byte < 256 → n < unit → n + byte * unit < 256 * unit
byte-more n byte unit b l =
    let most : byte * unit ≤ 255 * unit = mul-le-mul_right unit (omega (arith, b)) in
    omega (arith, most, l)

pub unit-more : (k : ℕ) → 2 ^ (8 * suc k) ≡ 256 * 2 ^ (8 * k)
unit-more k =
    let e : 8 * suc k ≡ 8 + 8 * k = omega arith in
    ap (λ n. 2 ^ n) e ∙ pow-add 2 8 (8 * k)

pub merged-small : (k old new strobe : ℕ) → merged k old new strobe < 2 ^ (8 * k)
merged-small zero old new strobe = pow_pos 0
merged-small (suc k) old new strobe =
    let x = cond (has strobe k) new old in
    let unit = 2 ^ (8 * k) in
    let byte : part_of x (8 * k) 8 < 256 = mod-lt (x / unit) (pow_pos 8) in
    subst (λ n. merged (suc k) old new strobe < n) (sym (unit-more k))
    (byte-more (merged k old new strobe) (part_of x (8 * k) 8) unit byte (merged-small k old new strobe))

-- a byte more, as the code adds it
unit-small : (k : ℕ) → k < 16 → 256 * 2 ^ (8 * k) ≤ 2 ^ 128
unit-small k l =
    let less : 8 * suc k ≤ 128 = omega (arith, l) in
    let most : 2 ^ (8 * suc k) ≤ 2 ^ 128 = pow-le-pow_right (omega arith) less in
    subst (λ n. n ≤ 2 ^ 128) (unit-more k) most

pub shifted-byte : (k old new strobe byte : ℕ) → k < 16 → byte ≡ part_of (cond (has strobe k) new old) (8 * k) 8
    → merged k old new strobe + byte * 2 ^ (8 * k) % 2 ^ 128 ≡ merged (suc k) old new strobe
shifted-byte k old new strobe byte l e =
    let x = cond (has strobe k) new old in
    let unit = 2 ^ (8 * k) in
    let small : part_of x (8 * k) 8 < 256 = mod-lt (x / unit) (pow_pos 8) in
    let whole = byte-more (merged k old new strobe) (part_of x (8 * k) 8) unit small (merged-small k old new strobe) in
    let room = unit-small k l in
    let fits : part_of x (8 * k) 8 * unit < 2 ^ 128 = omega (arith, whole, room) in
    ap (λ b. merged k old new strobe + b * unit % 2 ^ 128) e
    ∙ ap (λ n. merged k old new strobe + n) (mod-eq_of_lt fits)

pub next-small : (k old new strobe : ℕ) → k < 16 → merged (suc k) old new strobe < 2 ^ 128
next-small k old new strobe l =
    let small = merged-small (suc k) old new strobe in
    let more = unit-more k in
    let room = unit-small k l in
    omega (arith, small, more, room)
