-- Writing at a place of a buffer, in the manner of the code.
use Rattle.std.specs.Prelude.{ℕ, ◌+◌, List, [], ◌∷◌, ◌++◌, length, take, drop, if◌then◌else◌}
use Rattle.vec_clock.specs.vidi_bits.Number.{has}
use Rattle.vec_clock.specs.trace_model.declared.channel.Channel.{Channel}
use Rattle.trace_code.specs.Encoding.{gap_bytes, events_bytes}

-- the bytes with a piece written over them from a place on; the others stay
abbrev pub overwritten : List ℕ → ℕ → List ℕ → List ℕ
overwritten bytes at piece = take at bytes ++ (piece ++ drop (at + length piece) bytes)

-- out of the numbers of the listed channels, from channel c on, those of the channels that start
unfoldable pub picked : ℕ → ℕ → ℕ → List Channel → List ℕ → List ℕ
picked listed starts c [] numbers = []
picked listed starts c (channel ∷ channels) numbers = if has listed c
    then (if has starts c then take (length channel.widths) numbers else [])
    ++ picked listed starts (c + 1) channels (drop (length channel.widths) numbers)
    else picked listed starts (c + 1) channels numbers

-- a packet of these starts and ends behind a gap
abbrev pub tagged_bytes : List Channel → ℕ → ℕ → ℕ → List ℕ → List ℕ
tagged_bytes channels gap starts ends contents = 1 ∷ (gap_bytes gap ++ events_bytes channels starts ends contents)
