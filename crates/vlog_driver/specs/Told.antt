-- What an error tells beside the list of all findings.
use Rattle.std.specs.Prelude.{Option, None, Some}
use Rattle.vlog_driver.specs.declared.latches.error.BlockError.{BlockError}
use Rattle.vlog_driver.specs.declared.latches.error.BlockError.TheVariants as e

-- the finding; want of memory is none
abbrev pub block_told : BlockError → Option BlockError
block_told e.Memory = None
block_told error = Some error
