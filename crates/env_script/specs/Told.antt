-- What an error tells beside the list of all findings.
use Rattle.std.specs.Prelude.{Option, None, Some}
use Rattle.env_script.specs.declared.error.ScriptError.{ScriptError}
use Rattle.env_script.specs.declared.error.ScriptError.TheVariants as e

-- the finding; want of memory is none
abbrev pub script_told : ScriptError → Option ScriptError
script_told e.Memory = None
script_told error = Some error
