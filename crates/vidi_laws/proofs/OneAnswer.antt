-- Of a shelf that tells its files, with no failed read, two answers that are earned are one.
use Rattle.std.proofs.Common.{◌≡◌, ℕ, Bool, List, Option, Some, inl, inr, sym, subst, ◌∙◌}
use Rattle.vidi_commands.specs.trace_code.Decoding.{OnePlace, OneReading}
use Rattle.vidi_commands.specs.trace_code.Salvage.{OneSalvage}
use Rattle.vidi_commands.specs.trace_commands.trace_edit.Laws.{OneMove}
use Rattle.vidi_commands.specs.trace_v2.OldDecoding.{OneOldPlace, OneOldReading, OneOldSalvage}
use Rattle.vidi_commands.specs.vidi_io.Shelf.{Files, HasStarted}
use Rattle.vidi_commands.specs.vidi_bench.vidi_answer.declared.status.Status.{Status}
use Rattle.vidi_commands.specs.Command.{Command, Dump, Check, Run, Record, Replay, Compare, Salvage, Migrate, Bursts, Move, Wrap, Sample}
use Rattle.vidi_commands.specs.Answer.{Does}
use Rattle.vidi_laws.specs.OneAnswer.{OneAnswer}
use Rattle.vidi_laws.proofs.OneCommand.{one_command}
use Rattle.vidi_laws.proofs.OneDump.{one_dump}
use Rattle.vidi_laws.proofs.OneCompare.{one_compare}
use Rattle.vidi_laws.proofs.OneCheck.{Alike, one_check}
use Rattle.vidi_laws.proofs.OneBursts.{one_bursts}
use Rattle.vidi_laws.proofs.OneMigrated.{one_migrated}
use Rattle.vidi_laws.proofs.OneMoved.{one_moved}
use Rattle.vidi_laws.proofs.OneSalvaged.{one_salvaged}
use Rattle.vidi_laws.proofs.SameBench.{BenchLaws}
use Rattle.vidi_laws.proofs.SameRun.{one_run}
use Rattle.vidi_laws.proofs.SameRecord.{one_record}
use Rattle.vidi_laws.proofs.SameWrap.{one_wrap}
use Rattle.vidi_laws.proofs.SameReplay.{ReplayLaws, one_replay}
use Rattle.vidi_laws.proofs.SameSample.{one_sample}

abbrev SameLeft : Status → Status → List ℕ → List ℕ → Option Files → Option Files → Type 0
SameLeft a b x y left right = (a ≡ b) × (x ≡ y) × (left ≡ right)

abbrev AlikeLeft : Status → Status → List ℕ → List ℕ → Option Files → Option Files → Type 0
AlikeLeft a b x y left right = Alike a b x y × (left ≡ right)

kept : (files : Files) (a b : Status) (x y : List ℕ) (left right : Option Files) → Alike a b x y → left ≡ Some files → right ≡ Some files
    → AlikeLeft a b x y left right
kept files a b x y left right same l r = (same, l ∙ sym r)

all-same : (a b : Status) (x y : List ℕ) (left right : Option Files) → SameLeft a b x y left right → AlikeLeft a b x y left right
all-same a b x y left right (s, t, l) = (inr (s, t), l)

-- the laws on which this rests
pub record Laws : Type 0 where
  pub reading : OneReading
  pub place : OnePlace
  pub salvage : OneSalvage
  pub old_reading : OneOldReading
  pub old_place : OneOldPlace
  pub old_salvage : OneOldSalvage
  pub move : OneMove
  pub benches : BenchLaws
  pub replays : ReplayLaws

one_deed : Laws → (c : Command) → (files : Files) (P Q : Bool → Type 0) (a b : Status) (x y : List ℕ) (left right : Option Files)
    → Does c (Some files) (λ _. ⊥) P a x left → Does c (Some files) (λ _. ⊥) Q b y right → AlikeLeft a b x y left right
one_deed laws (Dump trace) files P Q a b x y left right (d, (l, _)) (e, (r, _)) =
    kept files a b x y left right (inr (one_dump laws.reading laws.place trace files a b x y d e)) l r
one_deed laws (Run design map script) files P Q a b x y left right (d, (l, _)) (e, (r, _)) =
    kept files a b x y left right (one_run laws.benches design map script files a b x y d e) l r
one_deed laws (Record design map script stalls trace) files P Q a b x y left right d e =
    one_record laws.benches design map script stalls trace files P Q a b x y left right d e
one_deed laws (Replay design map trace n out) files P Q a b x y left right d e =
    one_replay laws.replays design map trace n out files P Q a b x y left right d e
one_deed laws (Check design top) files P Q a b x y left right (d, (l, _)) (e, (r, _)) =
    kept files a b x y left right (one_check laws.benches.devices.texts design top files a b x y d e) l r
one_deed laws (Compare trace other) files P Q a b x y left right (d, (l, _)) (e, (r, _)) =
    kept files a b x y left right (inr (one_compare laws.reading laws.place trace other files a b x y d e)) l r
one_deed laws (Salvage trace out) files P Q a b x y left right d e =
    all-same a b x y left right (one_salvaged laws.salvage laws.old_salvage trace out files P Q a b x y left right d e)
one_deed laws (Migrate trace out) files P Q a b x y left right d e =
    all-same a b x y left right (one_migrated laws.old_reading laws.old_place trace out files P Q a b x y left right d e)
one_deed laws (Bursts trace axi) files P Q a b x y left right (d, (l, _)) (e, (r, _)) =
    kept files a b x y left right (inr (one_bursts laws.reading laws.place trace axi files a b x y d e)) l r
one_deed laws (Move trace wish out) files P Q a b x y left right d e =
    all-same a b x y left right (one_moved laws.reading laws.place laws.move trace wish out files P Q a b x y left right d e)
one_deed laws (Wrap design map out) files P Q a b x y left right d e =
    one_wrap laws.benches.devices design map out files P Q a b x y left right d e
one_deed laws (Sample number) files P Q a b x y left right (d, (l, _)) (e, (r, _)) =
    kept files a b x y left right (one_sample laws.benches laws.replays number a b x y d e) l r

pub one_answer_lem : Laws → OneAnswer
one_answer_lem laws words files before now first last a b x y left right (inr (inl (said, _))) _ = inl said.0
one_answer_lem laws words files before now first last a b x y left right _ (inr (inl (said, _))) = inr (inl said.0)
one_answer_lem laws words files before now first last a b x y left right (inl (none, s, (l, _))) (inl (none', s', (r, _))) =
    inr (inr (inr (s.0 ∙ sym s'.0, s.1 ∙ sym s'.1), l ∙ sym r))
one_answer_lem laws words files before now first last a b x y left right (inl (none, s, l)) (inr (inr (c, given, d))) = absurd (none c given)
one_answer_lem laws words files before now first last a b x y left right (inr (inr (c, given, d))) (inl (none, s, r)) = absurd (none c given)
one_answer_lem laws words files before now first last a b x y left right (inr (inr (c, given, d))) (inr (inr (k, given', e))) =
    let same = one_command words k c given' given in
    inr (inr (one_deed laws c files (HasStarted before now) (HasStarted first last) a b x y left right d
    (subst (λ (m : Command). Does m (Some files) (λ _. ⊥) (HasStarted first last) b y right) same e)))
