-- `sample`: one answer.
use Rattle.std.proofs.Common.{◌≡◌, ℕ, List, ◌++◌, Option, None, Some, length, inl, inr, sym, ap, subst, ◌∙◌}
use Rattle.vidi_commands.specs.trace_model.declared.row.Row.{Row}
use Rattle.vidi_commands.specs.trace_model.declared.trace.Trace.{Trace}
use Rattle.vidi_commands.specs.trace_model.Recording.{trace_of}
use Rattle.vidi_commands.specs.trace_code.Encoding.{encode}
use Rattle.vidi_commands.specs.trace_compare.Findings.{findings}
use Rattle.vidi_commands.specs.chan_map.declared.pins.Map.{Map}
use Rattle.vidi_commands.specs.replay_run.declared.outcome.ReplayOutcome.{ReplayOutcome}
use Rattle.vidi_commands.specs.replay_run.declared.outcome.ReplayOutcome.TheVariants as outcomes
use Rattle.vidi_commands.specs.sample_gen.declared.files.Sample.{Sample}
use Rattle.vidi_commands.specs.sample_gen.Sample.{sample}
use Rattle.vidi_commands.specs.env_script.declared.stalls.Stalls.{Stalls}
use Rattle.vidi_commands.specs.vidi_recorder.Course.{Course, IsTheRunOf}
use Rattle.vidi_commands.specs.vidi_bench.declared.bench.Bench.{Bench}
use Rattle.vidi_commands.specs.vidi_bench.declared.device.Device.{Device}
use Rattle.vidi_commands.specs.sample_command.declared.sampling.Figures.{Figures}
use Rattle.vidi_commands.specs.vidi_bench.vidi_answer.declared.status.Status.{Status}
use Rattle.vidi_commands.specs.vidi_bench.vidi_answer.declared.status.Status.TheVariants.{Done, Diverged}
use Rattle.vidi_commands.specs.run_commands.Records.{IsRecorded}
use Rattle.vidi_commands.specs.sample_command.Said.{diverged_text, sample_line}
use Rattle.vidi_commands.specs.sample_command.Samples.{figures, sample_cycles, IsReplayableTexts, IsRunOfTexts, IsSampleReplay, IsSampleSaid, IsSampleVerdict}
use Rattle.vidi_commands.specs.sample_command.Samples.{IsTraced, IsUntraced, Samples, SamplesFiles, SamplesReplay}
use Rattle.vidi_laws.proofs.OneEnding.{Apart, One, OneBy, one-said, one-step-by}
use Rattle.vidi_laws.proofs.OneCheck.{Alike, alike}
use Rattle.vidi_laws.proofs.SameBench.{BenchLaws, same-bench}
use Rattle.vidi_laws.proofs.SameDevice.{SameDevice, same-device}
use Rattle.vidi_laws.proofs.SameRecord as records
use Rattle.vidi_laws.proofs.SameReplay as replays
use Rattle.vidi_laws.proofs.SameReplay.{ReplayLaws}

no-stop : (channel : ℕ) → None ≡ Some channel → ⊥
no-stop channel e = cc

-- ---- recording
module _ (laws : BenchLaws) (design m script stalls : List ℕ) where
  record SameRun (b c : Bench) (rows others : List Row) (stop end : Option ℕ) : Type 0 where
    same_rows : others ≡ rows
    same_stop : end ≡ stop
    same_map : b.device.map ≡ c.device.map

  same-run : (b c : Bench) (p q : Stalls) (rows others : List Row) (stop end : Option ℕ)
      → IsRunOfTexts design m script stalls b p rows stop → IsRunOfTexts design m script stalls c q others end
      → SameRun b c rows others stop end
  same-run b c p q rows others stop end x y =
      let same = same-bench laws design m script b c x.bench y.bench in
      let plans = records.one-plan_of laws stalls p q x.planned y.planned in
      let theirs = records.course-beside laws (λ (w : Course). IsTheRunOf w others end) b c p q same plans y.run in
      let one = records.run-once laws b c p same x.bench.plays.2 rows others stop end x.run theirs in
      record { same_rows = one.0; same_stop = one.1; same_map = same.device.map }

  one-untraced : OneBy Alike (IsUntraced design m script stalls)
  one-untraced a b x y (inl u) (inl v) = records.refused-planned laws design m script stalls a b x y u v
  one-untraced a b x y (inl u) (inr (c, q, rows, channel, is, said)) =
      absurd (records.refused-apart laws design m script stalls c q is.bench is.planned is.holds a x u)
  one-untraced a b x y (inr (c, q, rows, channel, is, said)) (inl v) =
      absurd (records.refused-apart laws design m script stalls c q is.bench is.planned is.holds b y v)
  one-untraced a b x y (inr (c, p, rows, channel, is, said)) (inr (e, q, others, other, is', said')) =
      let one = same-run c e p q rows others (Some channel) (Some other) is is' in
      let told = subst (λ (k : Map). IsRecorded k.channels rows (Some channel) b y) (sym one.same_map)
      (subst (λ (o : Option ℕ). IsRecorded e.device.map.channels rows o b y) one.same_stop
      (subst (λ (rs : List Row). IsRecorded e.device.map.channels rs (Some other) b y) one.same_rows said')) in
      alike a b x y (records.recorded-once c.device.map.channels rows (Some channel) a b x y said told)

  one-traced : (bytes others : List ℕ) → IsTraced design m script stalls bytes → IsTraced design m script stalls others → bytes ≡ others
  one-traced bytes others (b, p, rows, is, e) (c, q, rows', is', e') =
      let one = same-run b c p q rows rows' None None is is' in
      e ∙ ap (λ (k : Map). encode (trace_of k.channels rows)) one.same_map
      ∙ ap (λ (rs : List Row). encode (trace_of c.device.map.channels rs)) (sym one.same_rows) ∙ sym e'

  traced-apart : Apart (IsUntraced design m script stalls) (IsTraced design m script stalls)
  traced-apart a x bytes (inl u) (b, p, rows, is, e) =
      records.refused-apart laws design m script stalls b p is.bench is.planned is.holds a x u
  traced-apart a x bytes (inr (c, q, rows, channel, is, said)) (b, p, others, is', e) =
      no-stop channel (same-run c b q p rows others (Some channel) None is is').same_stop

-- ---- replaying
one-sample_verdict : (line : List ℕ) (t u : Trace) → One (IsSampleVerdict line t u)
one-sample_verdict line t u a b x y (inl (none, s)) (inl (none', s')) = one-said Done line a b x y s s'
one-sample_verdict line t u a b x y (inl (none, s)) (inr (some, s')) = absurd (some none)
one-sample_verdict line t u a b x y (inr (some, s)) (inl (none, s')) = absurd (some none)
one-sample_verdict line t u a b x y (inr (some, s)) (inr (some', s')) =
    one-said Diverged (line ++ diverged_text (findings t u) t.channels) a b x y s s'

one-sample_said : (k : Figures) (t u : Trace) (o : ReplayOutcome) → One (IsSampleSaid k t u o)
one-sample_said k t u (outcomes.Ended cycles) a b x y v w =
    one-sample_verdict (sample_line k (length t.packets) cycles) t u a b x y v w
one-sample_said k t u (outcomes.Short helds events) a b x y v w =
    replays.said-once t u sample_cycles (outcomes.Short helds events) a b x y v w
one-sample_said k t u (outcomes.Unstable channel cycle) a b x y v w =
    replays.said-once t u sample_cycles (outcomes.Unstable channel cycle) a b x y v w

-- the replay of a map's design
abbrev ReplayOn : Figures → Device → Map → Trace → Status → List ℕ → Type 0
ReplayOn k v m t a x = IsSampleReplay k (replays.with_map v m) t a x

module _ (laws : ReplayLaws) (k : Figures) (design m bytes : List ℕ) where
  replay-once : (v w : Device) (t : Trace) → SameDevice v w → IsReplayableTexts design m bytes v t → (a b : Status) (x y : List ℕ)
      → IsSampleReplay k v t a x → ReplayOn k w v.map t b y → Alike a b x y
  replay-once v w t same is a b x y (rows, outcome, ends, said) (others, other, ends', said') =
      let channels = v.map.channels in
      let one = replays.ends-once laws v w t same (replays.fits t bytes channels is.encodes is.same) sample_cycles rows others outcome other
      ends ends' in
      let told = subst (λ (o : ReplayOutcome). IsSampleSaid k t (trace_of channels rows) o b y) one.1
      (subst (λ (rs : List Row). IsSampleSaid k t (trace_of channels rs) other b y) one.0 said') in
      alike a b x y (one-sample_said k t (trace_of channels rows) outcome a b x y said told)

  one-samples_replay : OneBy Alike (SamplesReplay k design m bytes)
  one-samples_replay a b x y (inl u) (inl v) = replays.one-refused_replay laws design m bytes a b x y u v
  one-samples_replay a b x y (inl u) (inr (w, t, is, replayed)) =
      absurd (replays.refused-apart laws design m bytes w t is.device is.encodes is.same a x u)
  one-samples_replay a b x y (inr (w, t, is, replayed)) (inl v) =
      absurd (replays.refused-apart laws design m bytes w t is.device is.encodes is.same b y v)
  one-samples_replay a b x y (inr (v, t, is, replayed)) (inr (w, u, is', replayed')) =
      let same = same-device laws.devices design m v w is.device is'.device in
      let trace : t ≡ u = laws.reading bytes t u is.encodes is'.encodes in
      replay-once v w t same is a b x y replayed
      (subst (λ (j : Trace). ReplayOn k w v.map j b y) (sym trace)
      (subst (λ (j : Map). ReplayOn k w j u b y) (sym same.map) replayed'))

-- ---- the command
one-files : BenchLaws → ReplayLaws → (n : ℕ) (s : Sample) → OneBy Alike (SamplesFiles n s)
one-files benches laws n s = one-step-by Alike (IsUntraced s.design s.map s.script s.stalls) (IsTraced s.design s.map s.script s.stalls)
    (SamplesReplay (figures n s) s.design s.map) (one-untraced benches s.design s.map s.script s.stalls)
    (one-traced benches s.design s.map s.script s.stalls) (traced-apart benches s.design s.map s.script s.stalls)
    (λ bytes _. one-samples_replay laws (figures n s) s.design s.map bytes)

pub one_sample : BenchLaws → ReplayLaws → (n : ℕ) → OneBy Alike (Samples n)
one_sample benches laws n = one-files benches laws n (sample n)
