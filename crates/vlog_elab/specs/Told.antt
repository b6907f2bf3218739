-- What an error tells beside the list of all findings.
use Rattle.std.specs.Prelude.{Option, None, Some}
use Rattle.vlog_elab.specs.declared.error.ElabError.{ElabError}
use Rattle.vlog_elab.specs.declared.error.ElabError.TheVariants as e

-- the finding; want of memory is none
abbrev pub elab_told : ElabError → Option ElabError
elab_told e.Memory = None
elab_told error = Some error
