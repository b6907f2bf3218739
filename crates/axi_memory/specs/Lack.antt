-- What an AXI file lacks so that a memory serves its port (this project's profile).
use Rattle.std.specs.Prelude.{ℕ, ◌==◌, ◌&&◌, ◌||◌, not, Bool, false, List, ◌++◌, length, slice_get, Option, None, Some, is_none, is_some}
use Rattle.std.specs.List.{list_all, range_with_len}
use Rattle.axi_burst.specs.declared.axi.Axi.{Axi}
use Rattle.axi_burst.specs.declared.axi.Reads.{Reads}
use Rattle.axi_burst.specs.declared.axi.Writes.{Writes}
use Rattle.axi_burst.specs.Binding.{is_inward}
use Rattle.env_script.specs.trace_model.declared.channel.Channel.{Channel}
use Rattle.env_script.specs.trace_model.vidi_bits.Findings.{told_if}
use Rattle.axi_memory.specs.declared.reason.Lack.{Lack}
use Rattle.axi_memory.specs.declared.reason.Lack.TheVariants.{Channels, Places, Side, Words}

-- whether the file names channel c
abbrev pub is_written : Option Writes → ℕ → Bool
is_written None c = false
is_written (Some ws) c = ws.aw.channel == c || (ws.w == c || ws.b == c)

abbrev pub is_read : Option Reads → ℕ → Bool
is_read None c = false
is_read (Some rs) c = rs.ar.channel == c || rs.r == c

abbrev pub is_named : Axi → ℕ → Bool
is_named axi c = is_written axi.writes c || is_read axi.reads c

-- writes and reads are there, and each channel is named
abbrev pub names_all : Axi → ℕ → Bool
names_all axi channels = is_some axi.writes && (is_some axi.reads && list_all (is_named axi) (range_with_len 0 channels))

-- the design takes write addresses, so that it is itself the memory
abbrev pub comes_in : Option Channel → Bool
comes_in None = false
comes_in (Some x) = is_inward x.dir

abbrev pub takes_writes : List Channel → Option Writes → Bool
takes_writes channels None = false
takes_writes channels (Some ws) = comes_in (slice_get channels ws.aw.channel)

-- in this order
abbrev pub lacks : Axi → List Channel → List Lack
lacks axi channels = told_if (is_none axi.memory) Words ++ (told_if (is_none axi.places) Places
    ++ (told_if (not (names_all axi (length channels))) Channels ++ told_if (takes_writes channels axi.writes) Side))
