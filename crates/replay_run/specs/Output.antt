-- What is written of a replay's trace, and the room that is left.
use Rattle.std.specs.Prelude.{◌≡◌, ℕ, ◌+◌, ◌-◌, ◌*◌, ◌≤◌, List, [], ◌++◌, length, take, if◌then◌else◌}
use Rattle.trace_code.specs.trace_model.declared.channel.Channel.{Channel}
use Rattle.trace_code.specs.trace_model.declared.packet.TheConstants.{RESET_LEN}
use Rattle.trace_code.specs.trace_model.declared.row.Row.{Row}
use Rattle.trace_code.specs.trace_model.Length.{longest_packet}
use Rattle.trace_code.specs.trace_model.Recording.{end_of, own_before, packets_from, reset_packet}
use Rattle.trace_code.specs.Encoding.{header_bytes, packet_bytes, rows_bytes}
use Rattle.replay_run.specs.declared.output.Output.{Output}
use Rattle.replay_run.specs.declared.output.TheConstants.{END_LEN}

-- the bytes of the reset before a row behind this gap, of which there are none where the row isn't fresh
abbrev pub fresh_bytes : List Channel → ℕ → Row → List ℕ
fresh_bytes channels gap row = if row.fresh then packet_bytes channels (reset_packet gap) else []

-- the header and the packets of these rows are written, with where the last packet ends
pub record IsWritten (channels : List Channel) (rows : List Row) (output : Output) : Type 0 where
  pub all : take output.len output.bytes.items ≡ header_bytes channels ++ rows_bytes channels rows
  pub count : output.packets ≡ length (packets_from channels 0 0 rows)
  pub end_is : output.end ≡ end_of 0 0 rows

-- so is the reset before the row behind them, where that is fresh
pub record IsWrittenBefore (channels : List Channel) (rows : List Row) (row : Row) (output : Output) : Type 0 where
  pub all : take output.len output.bytes.items
      ≡ (header_bytes channels ++ rows_bytes channels rows) ++ fresh_bytes channels (length rows - end_of 0 0 rows) row
  pub count : output.packets ≡ length (packets_from channels 0 0 rows) + (if row.fresh then 1 else 0)
  pub end_is : output.end ≡ own_before (length rows) (end_of 0 0 rows) row

-- there is room for the packets of n rows and a reset before each of them, and for the bytes of the end
abbrev pub HasRoomFor : List Channel → ℕ → Output → Type 0
HasRoomFor channels n output = output.len + n * (longest_packet channels + RESET_LEN) + END_LEN ≤ length output.bytes.items
