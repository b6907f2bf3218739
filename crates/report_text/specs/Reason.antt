-- The lines that tell why a file isn't accepted (this project's profile).
use Rattle.std.specs.Prelude.{ℕ, List, ◌++◌, codes, decimal}
use Rattle.report_text.specs.declared.reason.Word.{Word}
use Rattle.report_text.specs.declared.reason.Word.TheVariants as words
use Rattle.report_text.specs.declared.reason.Reason.{Reason}
use Rattle.report_text.specs.declared.reason.Reason.TheVariants as reasons
use Rattle.report_text.specs.AxiReasons.{broken_text, lack_name}
use Rattle.report_text.specs.DesignReasons.{big_text, drive_text, latch_text, loop_text, width_text}
use Rattle.report_text.specs.MapReasons.{cover_text, limit_text}
use Rattle.report_text.specs.ScriptReasons.{small_text, wave_long_text}
use Rattle.report_text.specs.Text.{newline}

abbrev pub word_text : Word → List ℕ
word_text words.Design = codes "design"
word_text words.Map = codes "map"
word_text words.Script = codes "script"
word_text words.Stalls = codes "stalls"
word_text words.Trace = codes "trace"
word_text words.Other = codes "other"
word_text words.Wave = codes "wave"
word_text words.Axi = codes "axi"

-- `vidi: read fault W`
abbrev pub read_fault_line : Word → List ℕ
read_fault_line word = codes "vidi: read fault " ++ (word_text word ++ newline)

-- the reason alone
abbrev pub reason_text : Reason → List ℕ
reason_text (reasons.TooLong limit) = codes "too long, limit " ++ decimal limit
reason_text (reasons.Word line) = codes "E1 word line " ++ decimal line
reason_text (reasons.Deep line) = codes "E14 deep line " ++ decimal line
reason_text (reasons.Item line) = codes "E2 item line " ++ decimal line
reason_text (reasons.Twice name) = codes "E3 twice " ++ name
reason_text (reasons.Unknown name) = codes "E4 unknown " ++ name
reason_text (reasons.Kind line) = codes "E7 kind line " ++ decimal line
reason_text (reasons.Nested name) = codes "E11 nested " ++ name
reason_text (reasons.TooBig what) = codes "E12 too big " ++ big_text what
reason_text (reasons.Const line) = codes "E5 const line " ++ decimal line
reason_text (reasons.Width line got) = width_text line got
reason_text (reasons.Clock line) = codes "E13 clock line " ++ decimal line
reason_text (reasons.Drive name bit drivers) = drive_text name bit drivers
reason_text (reasons.Latch name line) = latch_text name line
reason_text (reasons.Loop lines) = loop_text lines
reason_text (reasons.MapLine line) = codes "M1 line " ++ decimal line
reason_text (reasons.MapPort line) = codes "M2 port line " ++ decimal line
reason_text (reasons.Cover port times) = cover_text port times
reason_text (reasons.Limit what got) = limit_text what got
reason_text (reasons.ScriptLine line) = codes "S1 line " ++ decimal line
reason_text (reasons.ScriptChannel line) = codes "S2 channel line " ++ decimal line
reason_text (reasons.ScriptNumber line) = codes "S3 number line " ++ decimal line
reason_text (reasons.StallLine line) = codes "P1 line " ++ decimal line
reason_text (reasons.TooSmall need given) = small_text need given
reason_text (reasons.BadTrace at) = codes "bad trace at " ++ decimal at
reason_text (reasons.OtherChannels at) = codes "other channels at " ++ decimal at
reason_text (reasons.Reserved name) = codes "reserved " ++ name
reason_text (reasons.Wrapped number) = codes "wrapped has E" ++ decimal number
reason_text reasons.WrapLong = codes "wrapped text too long"
reason_text reasons.OldTrace = codes "old trace"
reason_text (reasons.HasReset index) = codes "reset in packet " ++ decimal index
reason_text (reasons.WaveLong nets cycles) = wave_long_text nets cycles
reason_text reasons.BadWave = codes "bad wave"
reason_text reasons.NoNet = codes "no net"
reason_text (reasons.NoCycle cycles) = codes "no cycle, cycles " ++ decimal cycles
reason_text (reasons.AxiLine line) = codes "A1 line " ++ decimal line
reason_text (reasons.AxiPort line) = codes "A2 port line " ++ decimal line
reason_text (reasons.Broken rule channel index) = broken_text rule channel index
reason_text (reasons.Serve what) = codes "serve " ++ lack_name what
reason_text (reasons.NoEnd which) = codes "no end " ++ decimal which
reason_text reasons.SameEnd = codes "same end"
reason_text (reasons.Blocked packet) = codes "blocked by packet " ++ decimal packet

-- `vidi: refused W: ` and the reason
abbrev pub reason_line : Word → Reason → List ℕ
reason_line word reason = codes "vidi: refused " ++ (word_text word ++ (codes ": " ++ (reason_text reason ++ newline)))
