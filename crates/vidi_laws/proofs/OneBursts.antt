-- `bursts`: one answer.
use Rattle.std.proofs.Common.{◌≡◌, ℕ, List, [], Option, None, Some, Result, Ok, Err, inl, inr, sym, ap, subst, ◌∙◌}
use Rattle.std.specs.Option.{option_map}
use Rattle.vidi_commands.proofs.vidi_bits_lemmas.Lists.{some_same}
use Rattle.vidi_commands.specs.vidi_bits.Findings.{first}
use Rattle.vidi_commands.specs.trace_model.declared.channel.Channel.{Channel}
use Rattle.vidi_commands.specs.trace_model.declared.trace.Trace.{Trace}
use Rattle.vidi_commands.specs.trace_code.Decoding.{OnePlace, OneReading}
use Rattle.vidi_commands.specs.trace_commands.axi_burst.declared.axi.Axi.{Axi}
use Rattle.vidi_commands.specs.trace_commands.axi_burst.declared.axi.Broken.{Broken}
use Rattle.vidi_commands.specs.trace_commands.axi_burst.declared.axi_text.AxiText.{AxiText}
use Rattle.vidi_commands.specs.trace_commands.axi_burst.declared.error.AxiError.{AxiError}
use Rattle.vidi_commands.specs.trace_commands.axi_burst.declared.error.AxiError.TheVariants as errors
use Rattle.vidi_commands.specs.trace_commands.axi_burst.Binding.{IsBound, axi_from, ends_of, port_faults}
use Rattle.vidi_commands.specs.trace_commands.axi_burst.Bursts.{bursts, faults}
use Rattle.vidi_commands.specs.trace_commands.axi_burst.Reading.{Answers, ReadsAxi, Said, said}
use Rattle.vidi_commands.specs.trace_commands.axi_burst.Text.{burst_text}
use Rattle.vidi_commands.specs.vidi_io.Shelf.{Files}
use Rattle.vidi_commands.specs.report_text.declared.reason.Word.{Word}
use Rattle.vidi_commands.specs.report_text.declared.reason.Word.TheVariants as words
use Rattle.vidi_commands.specs.report_text.declared.reason.Reason.{Reason}
use Rattle.vidi_commands.specs.report_text.declared.reason.Reason.TheVariants as reasons
use Rattle.vidi_commands.specs.report_text.Reason.{reason_line}
use Rattle.vidi_commands.specs.vidi_bench.vidi_answer.declared.status.Status.{Status}
use Rattle.vidi_commands.specs.vidi_bench.vidi_answer.declared.status.Status.TheVariants.{Done, Refused}
use Rattle.vidi_commands.specs.vidi_bench.Steps.{Ending, IsRefusal}
use Rattle.vidi_commands.specs.vidi_bench.Reading.{Reading}
use Rattle.vidi_commands.specs.vidi_bench.Traces.{HasReset, IsFirstReset}
use Rattle.vidi_commands.specs.trace_commands.Bursts.{trace_limit, text_limit, axi_reason, broken_reason, Bursts, Grouped, GroupedFiles}
use Rattle.vidi_commands.specs.trace_commands.Bursts.{IsFit, IsNoAxi, IsUnbound, IsUnfit, Porting}
use Rattle.vidi_laws.proofs.OneEnding.{Same, Meet, Apart, One, one-said, one-reading, one-step-by, step-meets}
use Rattle.vidi_laws.proofs.OneTraces.{no_trace-apart, one-decoding, one-reset, reset-apart}

-- ---- reasons
-- a word's file is refused for one reason
one-refusal : (word : Word) (r q : Reason) (a b : Status) (x y : List ℕ) → q ≡ r → IsRefusal word r a x → IsRefusal word q b y → Same a b x y
one-refusal word r q a b x y same s t =
    one-said (Refused word r) (reason_line word r) a b x y s (subst (λ (k : Reason). IsRefusal word k b y) same t)

-- a text says one line
line-same : (read : Result Said ℕ) (e f : AxiError) (r q : Reason) → Answers read (Err e) → Answers read (Err f) → axi_reason e ≡ Some r
    → axi_reason f ≡ Some q → q ≡ r
line-same read (errors.Line n) (errors.Line m) r q is is' names names' =
    let p : read ≡ Err n = is in
    let p' : read ≡ Err m = is' in
    let u : Some (reasons.AxiLine n) ≡ Some r = names in
    let u' : Some (reasons.AxiLine m) ≡ Some q = names' in
    cc
line-same read (errors.Port n) f r q is is' names names' = absurd is
line-same read errors.Memory f r q is is' names names' = let u : None ≡ Some r = names in cc
line-same read (errors.Line n) (errors.Port m) r q is is' names names' = absurd is'
line-same read (errors.Line n) errors.Memory r q is is' names names' = let u : None ≡ Some q = names' in cc

-- or something else
line-apart : (read : Result Said ℕ) (e : AxiError) (text : AxiText) (r : Reason) → Answers read (Err e) → axi_reason e ≡ Some r
    → Answers read (Ok text) → ⊥
line-apart read (errors.Line n) text r is names says = let p : read ≡ Err n = is in let q : read ≡ Ok (said text) = says in cc
line-apart read (errors.Port n) text r is names says = absurd is
line-apart read errors.Memory text r is names says = let u : None ≡ Some r = names in cc

text-same : (read : Result Said ℕ) (t u : AxiText) → Answers read (Ok t) → Answers read (Ok u) → said t ≡ said u
text-same read t u is is' = let p : read ≡ Ok (said t) = is in let q : read ≡ Ok (said u) = is' in cc

-- ---- the AXI file
one-no_axi : (bytes : List ℕ) → One (IsNoAxi bytes)
one-no_axi bytes a b x y (e, is, (r, names, s)) (f, is', (q, names', s')) =
    one-refusal words.Axi r q a b x y (line-same _ e f r q is is' names names') s s'

no_axi-apart : (bytes : List ℕ) → Apart (IsNoAxi bytes) (λ (text : AxiText). ReadsAxi bytes (Ok text))
no_axi-apart bytes a x text (e, is, (r, names, s)) says = line-apart _ e text r is names says

-- ---- files that say the same, over channels
module _ (t u : AxiText) (channels : List Channel) (same : said t ≡ said u) where
  faults-same : port_faults t.beat channels t.lines ≡ port_faults u.beat channels u.lines
  faults-same = ap (λ (k : Said). port_faults k.beat channels k.lines) same

  unbound-meet : Meet Same (IsUnbound t channels) (IsUnbound u channels)
  unbound-meet a b x y (e, is, (r, names, s)) (f, is', (q, names', s')) =
      let p : first (port_faults t.beat channels t.lines) ≡ Some e = is in
      let p' : first (port_faults u.beat channels u.lines) ≡ Some f = is' in
      let one : e ≡ f = some_same e f (sym p ∙ ap (λ (fs : List AxiError). first fs) faults-same ∙ p') in
      one-refusal words.Axi r q a b x y (some_same q r (sym names' ∙ ap axi_reason (sym one) ∙ names)) s s'

  unbound-apart : Apart (IsUnbound t channels) (λ (axi : Axi). IsBound u channels axi)
  unbound-apart a x axi (e, is, rest) bound =
      let p : first (port_faults t.beat channels t.lines) ≡ Some e = is in
      let none : None ≡ Some e = sym (ap (λ (fs : List AxiError). first fs) (faults-same ∙ bound.fits)) ∙ p in
      cc

  one-bound : (m n : Axi) → IsBound t channels m → IsBound u channels n → m ≡ n
  one-bound m n is is' = is.axi_is ∙ ap (λ (k : Said). axi_from k.beat (ends_of channels k.lines)) same ∙ sym is'.axi_is

one-porting : (bytes : List ℕ) (channels : List Channel) (Next : Axi → Ending) → ((axi : Axi) → One (Next axi)) → One (Porting bytes channels Next)
one-porting bytes channels Next one = step-meets Same (IsNoAxi bytes) (IsNoAxi bytes) (λ (t : AxiText). ReadsAxi bytes (Ok t))
    (λ (t : AxiText). ReadsAxi bytes (Ok t)) _ _ (one-no_axi bytes) (no_axi-apart bytes) (no_axi-apart bytes)
    (λ t u is is'. let same = text-same _ t u is is' in
    step-meets Same (IsUnbound t channels) (IsUnbound u channels) (λ (axi : Axi). IsBound t channels axi)
    (λ (axi : Axi). IsBound u channels axi) Next Next (unbound-meet t u channels same) (unbound-apart t u channels same)
    (unbound-apart u t channels (sym same))
    (λ m n bound bound'. subst (λ (k : Axi). Meet Same (Next m) (Next k)) (one-bound t u channels same m n bound bound') (one m)))

-- ---- the rules
none-broken : (t : Trace) (axi : Axi) (r : Reason) → faults axi t ≡ []
    → option_map (broken_reason t.channels) (first (faults axi t)) ≡ Some r → ⊥
none-broken t axi r none is =
    let no : None ≡ Some r = sym (ap (λ (fs : List Broken). option_map (broken_reason t.channels) (first fs)) none) ∙ is in cc

one-grouped : (t : Trace) (axi : Axi) → One (Grouped t axi)
one-grouped t axi a b x y (inl (r, is, s)) (inl (q, is', s')) =
    one-refusal words.Trace r q a b x y (some_same q r (sym is' ∙ is)) s s'
one-grouped t axi a b x y (inl (r, is, s)) (inr (none, s')) = absurd (none-broken t axi r none is)
one-grouped t axi a b x y (inr (none, s)) (inl (q, is', s')) = absurd (none-broken t axi q none is')
one-grouped t axi a b x y (inr (none, s)) (inr (none', s')) = one-said Done (burst_text (bursts axi t)) a b x y s s'

-- ---- the trace
module _ (reading : OneReading) (place : OnePlace) where
  one-unfit : (trace : List ℕ) → One (IsUnfit trace)
  one-unfit trace = one-decoding reading place words.Trace trace (λ (t : Trace). HasReset words.Trace t.packets)
      (λ t. one-reset words.Trace t.packets)

  unfit-apart : (trace : List ℕ) → Apart (IsUnfit trace) (IsFit trace)
  unfit-apart trace a x t (inl bad) (code, none) = no_trace-apart words.Trace trace a x t bad code
  unfit-apart trace a x t (inr (u, code', (n, is, s))) (code, none) =
      reset-apart t.packets n none (subst (λ (k : Trace). IsFirstReset k.packets n) (reading trace u t code' code) is)

  one-grouped_files : (trace axi : List ℕ) → One (GroupedFiles trace axi)
  one-grouped_files trace axi = one-step-by Same (IsUnfit trace) (IsFit trace) (λ (t : Trace). Porting axi t.channels (Grouped t))
      (one-unfit trace) (λ t u fit fit'. reading trace t u fit.0 fit'.0) (unfit-apart trace)
      (λ t _. one-porting axi t.channels (Grouped t) (one-grouped t))

  pub one_bursts : (trace axi : List ℕ) (files : Files) → One (Bursts trace axi (Some files) (λ _. ⊥))
  one_bursts trace axi files = one-reading trace_limit words.Trace trace files
      (λ bytes. Reading text_limit words.Axi axi (Some files) (λ _. ⊥) (GroupedFiles bytes))
      (λ bytes. one-reading text_limit words.Axi axi files (GroupedFiles bytes) (one-grouped_files bytes))
