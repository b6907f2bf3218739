-- What an error tells beside the list of all findings.
use Rattle.std.specs.Prelude.{ℕ, Option, None, Some}
use Rattle.vlog_names.specs.declared.error.NameError.{NameError}
use Rattle.vlog_names.specs.declared.error.NameError.TheVariants as e
use Rattle.vlog_names.specs.declared.kinds.error.KindError.{KindError}

-- the finding; want of memory is none
abbrev pub name_told : NameError → Option NameError
name_told e.Memory = None
name_told error = Some error

-- the line of a name or an assignment of a wrong kind
abbrev pub kind_told : KindError → Option ℕ
kind_told error = Some error.line
