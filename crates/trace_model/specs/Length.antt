-- How many bytes a packet has (this project's profile): a byte, the gap in two, the two masks, and the contents of the starts.
use Rattle.std.specs.Prelude.{ℕ, ◌+◌, ◌*◌, ◌==◌, ◌&&◌, List, length, sum_by, if◌then◌else◌}
use Rattle.std.specs.List.{enumerate_from}
use Rattle.vidi_bits.specs.Number.{has}
use Rattle.trace_model.specs.declared.channel.Channel.{Channel}
use Rattle.trace_model.specs.Channel.{byte_count, content_bytes}

-- the bytes of a mask of n channels, of which each has a bit
abbrev pub mask_len : ℕ → ℕ
mask_len n = byte_count n

-- the bytes of a packet of n channels without contents
abbrev pub head_len : ℕ → ℕ
head_len n = 3 + 2 * mask_len n

-- the bytes of the contents of the channels that a mask names
abbrev pub contents_len : ℕ → List Channel → ℕ
contents_len mask channels = sum_by (λ (c : ℕ × Channel). if has mask c.0 then content_bytes c.1 else 0) (enumerate_from 0 channels)

-- out of the content bytes of all channels, those of the channels that a mask names, added up
abbrev pub sizes_under : ℕ → List ℕ → ℕ
sizes_under mask sizes = sum_by (λ (c : ℕ × ℕ). if has mask c.0 then c.1 else 0) (enumerate_from 0 sizes)

-- the bytes of the longest packet of these channels, in which all of them start
abbrev pub longest_packet : List Channel → ℕ
longest_packet channels = head_len (length channels) + sum_by content_bytes channels

-- the bytes of the packet of these starts and ends; none where there is no event
abbrev pub packet_len : List Channel → ℕ → ℕ → ℕ
packet_len channels starts ends = if starts == 0 && ends == 0 then 0 else head_len (length channels) + contents_len starts channels
