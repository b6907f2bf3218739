-- What an error tells beside the list of all findings.
use Rattle.std.specs.Prelude.{Option, None, Some}
use Rattle.chan_map.specs.declared.error.MapError.{MapError}
use Rattle.chan_map.specs.declared.error.MapError.TheVariants as e

-- the finding; want of memory is none
abbrev pub map_told : MapError → Option MapError
map_told e.Memory = None
map_told error = Some error
