-- What `bursts TRACE AXI` owes: each step of it in its order (AMBA AXI4, IHI 0022; this project's profile).
use Rattle.std.specs.Prelude.{◌≡◌, ℕ, ◌⊎◌, List, [], Option, None, Some, Ok, Err}
use Rattle.std.specs.Option.{option_map}
use Rattle.axi_burst.specs.declared.axi.Axi.{Axi}
use Rattle.axi_burst.specs.declared.axi.Broken.{Broken}
use Rattle.axi_burst.specs.declared.axi_text.AxiText.{AxiText}
use Rattle.axi_burst.specs.declared.error.AxiError.{AxiError}
use Rattle.axi_burst.specs.declared.error.AxiError.TheVariants as axis
use Rattle.axi_burst.specs.Binding.{BindsAxi}
use Rattle.axi_burst.specs.Bursts.{bursts, faults}
use Rattle.axi_burst.specs.Reading.{ReadsAxi}
use Rattle.axi_burst.specs.Text.{burst_text}
use Rattle.vidi_answer.specs.trace_code.trace_model.declared.channel.Channel.{Channel}
use Rattle.vidi_answer.specs.trace_code.trace_model.declared.trace.Trace.{Trace}
use Rattle.vidi_answer.specs.trace_code.trace_model.vidi_bits.Findings.{first}
use Rattle.vidi_answer.specs.trace_code.Encoding.{Encodes}
use Rattle.vidi_answer.specs.trace_code.NoReset.{HasNoReset}
use Rattle.vidi_answer.specs.vidi_io.Shelf.{Files}
use Rattle.vidi_answer.specs.report_text.declared.reason.Word.TheVariants as words
use Rattle.vidi_answer.specs.report_text.declared.reason.Reason.{Reason}
use Rattle.vidi_answer.specs.report_text.declared.reason.Reason.TheVariants as reasons
use Rattle.vidi_answer.specs.declared.read.TheConstants.{TEXT_LIMIT}
use Rattle.vidi_answer.specs.declared.status.Status.TheVariants.{Done}
use Rattle.vidi_answer.specs.Reading.{Reading}
use Rattle.vidi_answer.specs.Said.{name_of}
use Rattle.vidi_answer.specs.Steps.{Ending, IsRefusalFor, IsSaid, Step}
pub use Rattle.vidi_answer.specs.Traces.{trace_limit}
use Rattle.vidi_answer.specs.Traces.{Decoding, HasReset}

-- the longest AXI file, in bytes
abbrev pub text_limit : ℕ
text_limit = TEXT_LIMIT

-- ---- the AXI file, over the channels of a trace
-- A1 and A2; want of memory is no reason
abbrev pub axi_reason : AxiError → Option Reason
axi_reason (axis.Line line) = Some (reasons.AxiLine line)
axi_reason (axis.Port line) = Some (reasons.AxiPort line)
axi_reason axis.Memory = None

-- A1
abbrev pub IsNoAxi : List ℕ → Ending
IsNoAxi bytes status said = (error : AxiError) × ReadsAxi bytes (Err error) × IsRefusalFor words.Axi (axi_reason error) status said

-- A2
abbrev pub IsUnbound : AxiText → List Channel → Ending
IsUnbound text channels status said =
    (error : AxiError) × BindsAxi text channels (Err error) × IsRefusalFor words.Axi (axi_reason error) status said

-- the bytes are an AXI file that is bound to these channels, and this comes of it
abbrev pub Porting : List ℕ → List Channel → (Axi → Ending) → Ending
Porting bytes channels Next = Step (IsNoAxi bytes) (λ text. ReadsAxi bytes (Ok text))
    (λ text. Step (IsUnbound text channels) (λ axi. BindsAxi text channels (Ok axi)) Next)

-- ---- the rules
abbrev pub broken_reason : List Channel → Broken → Reason
broken_reason channels b = reasons.Broken b.rule (name_of channels b.channel) b.index

-- the first rule that is broken, and the transaction that breaks it
abbrev pub IsBroken : Trace → Axi → Ending
IsBroken t axi = IsRefusalFor words.Trace (option_map (broken_reason t.channels) (first (faults axi t)))

-- a rule is broken; or none is, and the bursts are said
abbrev pub Grouped : Trace → Axi → Ending
Grouped t axi status text = IsBroken t axi status text ⊎ ((faults axi t ≡ []) × IsSaid Done (burst_text (bursts axi t)) status text)

-- ---- `bursts TRACE AXI`
-- the bytes encode no trace, or one that has a reset
abbrev pub IsUnfit : List ℕ → Ending
IsUnfit trace = Decoding words.Trace trace (λ t. HasReset words.Trace t.packets)

-- the bytes encode this trace, which has no reset
abbrev pub IsFit : List ℕ → Trace → Type 0
IsFit trace t = Encodes t trace × HasNoReset t.packets

-- the bytes of two files
abbrev pub GroupedFiles : List ℕ → List ℕ → Ending
GroupedFiles trace axi = Step (IsUnfit trace) (IsFit trace) (λ t. Porting axi t.channels (Grouped t))

abbrev pub Bursts : List ℕ → List ℕ → Option Files → (List ℕ → Type 0) → Ending
Bursts trace axi files ReadFailed =
    Reading trace_limit words.Trace trace files ReadFailed (λ bytes.
    Reading text_limit words.Axi axi files ReadFailed (GroupedFiles bytes))
