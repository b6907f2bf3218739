-- What the crates below find wrong with a design, a map and a script, as reasons (this project's profile). Want of memory is no reason.
use Rattle.std.specs.Prelude.{Option, None, Some}
use Rattle.vlog_design.specs.vlog_elab.declared.error.ElabError.{ElabError}
use Rattle.vlog_design.specs.vlog_elab.declared.error.ElabError.TheVariants as elab
use Rattle.env_script.specs.chan_map.declared.error.MapError.{MapError}
use Rattle.env_script.specs.chan_map.declared.error.MapError.TheVariants as maps
use Rattle.env_script.specs.declared.error.ScriptError.{ScriptError}
use Rattle.env_script.specs.declared.error.ScriptError.TheVariants as scripts
use Rattle.vidi_answer.specs.report_text.declared.reason.Reason.{Reason}
use Rattle.vidi_answer.specs.report_text.declared.reason.Reason.TheVariants as reasons

-- E3 to E9 and E11 to E13
abbrev pub elab_reason : ElabError → Option Reason
elab_reason (elab.Twice name) = Some (reasons.Twice name)
elab_reason (elab.Unknown name) = Some (reasons.Unknown name)
elab_reason (elab.Kind line) = Some (reasons.Kind line)
elab_reason (elab.Nested name) = Some (reasons.Nested name)
elab_reason (elab.TooBig what) = Some (reasons.TooBig what)
elab_reason (elab.Const line) = Some (reasons.Const line)
elab_reason (elab.Width line got) = Some (reasons.Width line got)
elab_reason (elab.Clock line) = Some (reasons.Clock line)
elab_reason (elab.Latch name line) = Some (reasons.Latch name line)
elab_reason (elab.Drive name bit drivers) = Some (reasons.Drive name bit drivers)
elab_reason elab.Memory = None

-- M1 to M4
abbrev pub map_reason : MapError → Option Reason
map_reason (maps.Line line) = Some (reasons.MapLine line)
map_reason (maps.Port line) = Some (reasons.MapPort line)
map_reason (maps.Cover port times) = Some (reasons.Cover port times)
map_reason (maps.Limit what got) = Some (reasons.Limit what got)
map_reason maps.Memory = None

-- S1 to S3
abbrev pub script_reason : ScriptError → Option Reason
script_reason (scripts.Line line) = Some (reasons.ScriptLine line)
script_reason (scripts.Channel line) = Some (reasons.ScriptChannel line)
script_reason (scripts.Number line) = Some (reasons.ScriptNumber line)
script_reason scripts.Memory = None
