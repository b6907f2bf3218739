-- `bursts`: no failed write among its answers, and the same where no read failed.
use Rattle.std.proofs.Common.{◌≡◌, ℕ, List, Option, inl, inr}
use Rattle.axi_burst.specs.declared.axi.Axi.{Axi}
use Rattle.axi_burst.specs.declared.axi_text.AxiText.{AxiText}
use Rattle.vidi_answer.specs.trace_code.trace_model.declared.channel.Channel.{Channel}
use Rattle.vidi_answer.specs.trace_code.trace_model.declared.trace.Trace.{Trace}
use Rattle.vidi_answer.specs.vidi_io.Shelf.{Files}
use Rattle.vidi_answer.specs.report_text.declared.reason.Word.{Word}
use Rattle.vidi_answer.specs.report_text.declared.reason.Word.TheVariants as words
use Rattle.vidi_answer.specs.report_text.declared.reason.Reason.{Reason}
use Rattle.vidi_answer.specs.declared.status.Status.TheVariants.{Done, WriteFault}
use Rattle.vidi_answer.specs.Reading.{Reading}
use Rattle.vidi_answer.specs.Steps.{Ending, IsRefusalFor}
use Rattle.vidi_answer.specs.Traces.{HasReset}
use Rattle.trace_commands.specs.Bursts.{trace_limit, text_limit, axi_reason, Bursts, Grouped, GroupedFiles, IsNoAxi, IsUnbound, IsUnfit, Porting}
use Rattle.vidi_answer.proofs.Chain.{Implies}
use Rattle.vidi_answer.proofs.Quiet.{Mute, mute-reading, mute-refusal, quiet-reading}
use Rattle.vidi_answer.proofs.QuietDecoding.{mute-decoding, mute-reset}

-- ---- no failed write
mute-refusal_for : (word : Word) (found : Option Reason) → Mute (IsRefusalFor word found)
mute-refusal_for word found x (reason, is, s) = mute-refusal word reason x s

mute-no_axi : (bytes : List ℕ) → Mute (IsNoAxi bytes)
mute-no_axi bytes x (error, is, s) = mute-refusal_for words.Axi (axi_reason error) x s

mute-unbound : (text : AxiText) (channels : List Channel) → Mute (IsUnbound text channels)
mute-unbound text channels x (error, is, s) = mute-refusal_for words.Axi (axi_reason error) x s

pub mute-porting : (bytes : List ℕ) (channels : List Channel) (Next : Axi → Ending) → ((axi : Axi) → Mute (Next axi))
    → Mute (Porting bytes channels Next)
mute-porting bytes channels Next mute x (inl unsaid) = mute-no_axi bytes x unsaid
mute-porting bytes channels Next mute x (inr (text, reads, inl unbound)) = mute-unbound text channels x unbound
mute-porting bytes channels Next mute x (inr (text, reads, inr (axi, binds, next))) = mute axi x next

mute-grouped : (t : Trace) (axi : Axi) → Mute (Grouped t axi)
mute-grouped t axi x (inl (reason, is, s)) = mute-refusal words.Trace reason x s
mute-grouped t axi x (inr (none, s)) = let e : WriteFault ≡ Done = s.0 in cc

mute-unfit : (bytes : List ℕ) → Mute (IsUnfit bytes)
mute-unfit bytes = mute-decoding words.Trace bytes (λ (t : Trace). HasReset words.Trace t.packets) (λ t. mute-reset words.Trace t.packets)

mute-grouped_files : (trace axi : List ℕ) → Mute (GroupedFiles trace axi)
mute-grouped_files trace axi x (inl unfit) = mute-unfit trace x unfit
mute-grouped_files trace axi x (inr (t, fit, rest)) = mute-porting axi t.channels (Grouped t) (mute-grouped t) x rest

pub mute-bursts : (trace axi : List ℕ) (files : Option Files) (F : List ℕ → Type 0) → Mute (Bursts trace axi files F)
mute-bursts trace axi files F = mute-reading trace_limit words.Trace trace files F
    (λ bytes. Reading text_limit words.Axi axi files F (GroupedFiles bytes))
    (λ bytes. mute-reading text_limit words.Axi axi files F (GroupedFiles bytes) (mute-grouped_files bytes))

-- ---- where no read failed
pub quiet-bursts : (trace axi : List ℕ) (files : Option Files) (F : List ℕ → Type 0) → ((name : List ℕ) → ¬ F name)
    → Implies (Bursts trace axi files F) (Bursts trace axi files (λ _. ⊥))
quiet-bursts trace axi files F quiet = quiet-reading trace_limit words.Trace trace files F _ _ (quiet trace)
    (λ bytes. quiet-reading text_limit words.Axi axi files F (GroupedFiles bytes) (GroupedFiles bytes) (quiet axi)
    (λ text a x rest. rest))
