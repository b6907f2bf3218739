-- Of a script and of a plan of stalls there is one answer, unless memory was wanting.
use Rattle.std.specs.Prelude.{◌≡◌, List, Option}
use Rattle.run_model.specs.vidi_bits.Agree.{OneAnswer}
use Rattle.run_model.specs.trace_model.declared.channel.Channel.{Channel}
use Rattle.run_model.specs.chan_map.vidi_lines.declared.lines.Line.{Line}
use Rattle.env_script.specs.declared.error.ScriptError.TheVariants as script_errors
use Rattle.env_script.specs.declared.error.StallError.TheVariants as stall_errors
use Rattle.env_script.specs.declared.script.Script.{Script}
use Rattle.env_script.specs.declared.stalls.Stalls.{Stalls}
use Rattle.env_script.specs.Reads.{ReadsScript}
use Rattle.env_script.specs.Stalls.{ReadsStalls}

-- the same capacity, and the same bytes may drain
abbrev pub SamePlan : Stalls → Stalls → Type 0
SamePlan a b = (a.capacity ≡ b.capacity) × (a.drains ≡ b.drains)

abbrev pub OneScript : Type 0
OneScript = (channels : List Channel) (lines : List (Option Line))
    → OneAnswer (λ (a b : Script). a ≡ b) script_errors.Memory (ReadsScript channels lines)

abbrev pub OnePlan : Type 0
OnePlan = (lines : List (Option Line)) → OneAnswer SamePlan stall_errors.Memory (ReadsStalls lines)
