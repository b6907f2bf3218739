-- Lengths of packets, and sums over the channels, each with its number.
use Rattle.std.proofs.Common.{◌≡◌, ℕ, ◌+◌, ◌<◌, ◌≤◌, ◌*◌, List, [], ◌∷◌, All, length, sum_by, refl, arith}
use Rattle.std.specs.List.{enumerate_from}
use Rattle.std.proofs.lemmas.List.Sums.{sum_by-cons}
use Rattle.std.proofs.lemmas.List.Elements.{All-head, All-tail}
use Rattle.trace_model.specs.declared.channel.Channel.{Channel}
use Rattle.trace_model.specs.declared.packet.TheConstants.{LONGEST_PACKET, MOST_CHANNELS, MOST_CONTENT_BYTES}
use Rattle.trace_model.specs.Channel.{byte_count, content_bytes, IsChannel, IsTable}
use Rattle.trace_model.specs.Length.{head_len, longest_packet}

-- the sum of f over the channels from channel n on, whose sizes these are
abbrev pub total : (ℕ × ℕ → ℕ) → ℕ → List ℕ → ℕ
total f n sizes = sum_by f (enumerate_from n sizes)

pub total-cons : (f : ℕ × ℕ → ℕ) (n size : ℕ) (sizes : List ℕ) → total f n (size ∷ sizes) ≡ f (n, size) + total f (n + 1) sizes
total-cons f n size sizes = sum_by-cons f (n, size) (enumerate_from (n + 1) sizes)

-- two functions that agree on these channels have one sum
pub total-same : (f g : ℕ × ℕ → ℕ) (n : ℕ) (sizes : List ℕ) → ((c size : ℕ) → n ≤ c → c < n + length sizes → f (c, size) ≡ g (c, size))
    → total f n sizes ≡ total g n sizes
total-same f g n [] h = refl
total-same f g n (size ∷ sizes) h =
    let rest : total f (n + 1) sizes ≡ total g (n + 1) sizes = total-same f g (n + 1) sizes (λ c b l m. h c b (omega arith) (omega arith))
    in
    let here : f (n, size) ≡ g (n, size) = h n size (omega arith) (omega arith) in
    rw (total-cons f n size sizes, total-cons g n size sizes) (omega arith)

widths-most : (widths : List ℕ) → All (λ w. (1 ≤ w) × (w ≤ 128)) widths → sum_by byte_count widths ≤ 16 * length widths
widths-most [] each = omega arith
widths-most (w ∷ ws) each =
    let rest = widths-most ws (All-tail (λ n. (1 ≤ n) × (n ≤ 128)) w ws each) in
    let here = (All-head (λ n. (1 ≤ n) × (n ≤ 128)) w ws each).1 in
    rw (sum_by-cons byte_count w ws) (omega (arith, rest, here))

-- a channel has 16 ports of 16 bytes at most
pub content-most : (channel : Channel) → IsChannel channel → content_bytes channel ≤ 256
content-most channel is = let bytes = widths-most channel.widths is.widths in let ports = is.ports in omega (arith, bytes, ports)

pub contents-most : (channels : List Channel) → All IsChannel channels → sum_by content_bytes channels ≤ 256 * length channels
contents-most [] each = omega arith
contents-most (c ∷ cs) each =
    let rest = contents-most cs (All-tail IsChannel c cs each) in
    let here = content-most c (All-head IsChannel c cs each) in
    rw (sum_by-cons content_bytes c cs) (omega (arith, rest, here))

longest-is : LONGEST_PACKET ≡ head_len MOST_CHANNELS + MOST_CONTENT_BYTES
longest-is = refl

-- a lawful table's packets are no longer than the longest
pub longest : (channels : List Channel) → IsTable channels → longest_packet channels ≤ LONGEST_PACKET
longest channels table =
    let all = longest-is in
    let few = table.few in
    let content = table.content in
    omega (arith, all, few, content)
