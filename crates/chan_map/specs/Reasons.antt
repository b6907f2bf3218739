-- M2, M3 and M4: how the lines of a map don't fit a design (this project's profile).
use Rattle.std.specs.Prelude.{ℕ, ◌+◌, ◌-◌, ◌^◌, ◌==◌, ◌&&◌, not, nat_lt, nat_le, min, List, [], ◌∷◌, ◌++◌}
use Rattle.std.specs.Prelude.{length, sum_by}
use Rattle.std.specs.List.{flat_map}
use Rattle.trace_model.specs.declared.channel.Channel.{Channel as Row}
use Rattle.trace_model.specs.declared.packet.TheConstants.{MOST_CHANNELS, MOST_CONTENT_BYTES}
use Rattle.trace_model.specs.Channel.{content_bytes}
use Rattle.net_design.specs.declared.design.Port.{Port}
use Rattle.net_design.specs.declared.design.Design.{Design}
use Rattle.vidi_lines.specs.vidi_bits.Findings.{told_if}
use Rattle.chan_map.specs.declared.error.MapError.{MapError}
use Rattle.chan_map.specs.declared.error.MapError.TheVariants as E
use Rattle.chan_map.specs.declared.error.MapLimit.TheVariants.{Channels, Ports, Bytes}
use Rattle.chan_map.specs.declared.map_text.MapLine.{MapLine}
use Rattle.chan_map.specs.Ports.{line_fits, names_of, times}

-- a count stands still at the end of its type
abbrev pub capped : ℕ → ℕ
capped n = min n (2 ^ 32 - 1)

-- M2: the lines that don't fit the design, in text order
abbrev pub port_faults : Design → List MapLine → List MapError
port_faults d lines = flat_map (λ (l : MapLine). told_if (not (line_fits d l.entry)) (E.Port l.line)) lines

-- the words of all lines that name ports
abbrev pub all_names : List MapLine → List (List ℕ)
all_names lines = flat_map (λ (l : MapLine). names_of l.entry) lines

-- M3: the ports, from number k on, that aren't named exactly once
abbrev pub cover_from : List Port → List (List ℕ) → ℕ → List Port → List MapError
cover_from ports words k [] = []
cover_from ports words k (p ∷ rest) =
    told_if (not (times ports words k == 1)) (E.Cover p.name (capped (times ports words k))) ++ cover_from ports words (k + 1) rest

abbrev pub cover_faults : Design → List MapLine → List MapError
cover_faults d lines = cover_from d.ports (all_names lines) 0 d.ports

-- M4: the number of channels, a channel with more than 16 ports, the content bytes of all (limits of a lawful table)
abbrev pub count_faults : List Row → List MapError
count_faults table = told_if (not (nat_le 1 (length table) && nat_le (length table) MOST_CHANNELS)) (E.Limit Channels (capped (length table)))

abbrev pub width_faults : List Row → List MapError
width_faults table = flat_map (λ (c : Row). told_if (nat_lt 16 (length c.widths)) (E.Limit Ports (capped (length c.widths)))) table

abbrev pub byte_faults : List Row → List MapError
byte_faults table = told_if (nat_lt MOST_CONTENT_BYTES (sum_by content_bytes table)) (E.Limit Bytes (capped (sum_by content_bytes table)))

abbrev pub limit_faults : List Row → List MapError
limit_faults table = count_faults table ++ (width_faults table ++ byte_faults table)
