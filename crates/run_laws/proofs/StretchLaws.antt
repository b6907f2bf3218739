-- Runs and replays in stretches: what holds of each stretch holds of all.
use Rattle.std.proofs.Common.{◌≡◌, ℕ, zero, suc, ◌+◌, ◌<◌, ◌≤◌, nat_lt, not, Bool, true, false, List, [], ◌∷◌, ◌++◌, Some, All, drop, length, slice_get, take}
use Rattle.std.proofs.Common.{inl, inr, ⊎_elim, refl, sym, subst, ◌∙◌, arith}
use Rattle.std.proofs.lemmas.Bool.{cases_lt, false≢true}
use Rattle.std.proofs.lemmas.List.Elements.{All-append, All-cons, All-from_get_or, All-head, All-nil, All-tail}
use Rattle.std.proofs.lemmas.Option.{same_Some, slice_get-get_or}
use Rattle.run_model.specs.vidi_bits.Findings.{is_nil}
use Rattle.run_model.specs.trace_model.declared.channel.Channel.{Channel}
use Rattle.run_model.specs.trace_model.declared.event.Kind.TheVariants.{End}
use Rattle.run_model.specs.trace_model.declared.packet.Packet.{Packet}
use Rattle.run_model.specs.trace_model.declared.row.Offers.{Offers}
use Rattle.run_model.specs.trace_model.declared.row.Row.{Row}
use Rattle.run_model.specs.trace_model.Packet.{count, does}
use Rattle.run_model.specs.trace_model.Row.{AreRows, IsOver}
use Rattle.run_model.proofs.trace_model_lemmas.CountingLemmas.{nth-below}
use Rattle.net_design.specs.declared.design.Design.{Design}
use Rattle.run_model.specs.chan_map.declared.pins.Map.{Map}
use Rattle.run_model.specs.Held.{awaits}
use Rattle.run_model.specs.Laws.{ContentsFit, IsFirstOpen, IsReady, OffersFit, OneOfLength}
use Rattle.run_model.specs.Replay.{done, HasEnded, IsEpochRow, IsReplayStretch}
use Rattle.run_model.specs.Run.{IsStretchRow}
use Rattle.run_laws.specs.StretchLaws.{Behind, GatesBehind, NoCircleInStretches, OneOfRows, OneReplayInStretches}
use Rattle.run_laws.specs.StretchLaws.{OneRunInStretches, OrderInStretches, ReplayStretchesKeepContents, RunStretchesKeepContents}
use Rattle.run_model.specs.Stretches.{AreReplayed, AreRun, AreStretches, IsEpochReplay, IsRunBehind, IsTurned, Turns}
use Rattle.run_model.specs.Stretches.{TurnsEpoch, and_stretch, offers_behind, rows_of}
use Rattle.run_laws.proofs.Chaining.{Follows, each-follows, one-of_rows, same-of}
use Rattle.run_model.proofs.Circle.{no-circle_in_epoch}
use Rattle.run_model.proofs.Deciding.{Decides, done-or-not, ended-or-not}
use Rattle.run_model.proofs.EventPlaces.{awaits-none}
use Rattle.run_model.proofs.PlayedLaws.{played-front}
use Rattle.run_model.proofs.ReplayLaws.{epoch-keeps_contents, one-epoch_replay, order-in_epoch}
use Rattle.run_model.proofs.RunLaws.{GatesAreFixed, one-of_length, stretch-keeps_contents}
use Rattle.run_model.proofs.Stops.{plan-fixes}

-- ---- runs
pub all-over : (channels : List Channel) (rows : List Row) → AreRows channels rows → All (IsOver channels) rows
all-over channels [] are = All-nil (IsOver channels)
all-over channels (row ∷ rows) are = All-from_get_or (IsOver channels) (row ∷ rows) row
    (λ i l. (are i _ (slice_get-get_or (row ∷ rows) i row l)).0)

told : (b : Bool) → Decides (b ≡ true)
told true = inl refl
told false = inr (λ e. false≢true e)

module _ (d : Design) (m : Map) (offers : List Row → Offers) (gates : List (List Row) → List Row → ℕ → Type 0) (turns : List Row → Bool) where
  abbrev pub Here : List (List Row) → List Row → Type 0
  Here past rows = IsRunBehind d m offers gates past rows

  abbrev pub Over : List (List Row) → Type 0
  Over past = All (All (IsOver m.channels)) past

  pub further-run : (past : List (List Row)) (rows : List Row) → Over past → IsTurned Here (Turns turns) past rows → Over (and_stretch past rows)
  further-run past rows over turned = All-append (All (IsOver m.channels)) past (rows ∷ []) over
      (All-cons (All (IsOver m.channels)) rows [] (all-over m.channels rows turned.is.marked) (All-nil (All (IsOver m.channels))))

  pub run-front : (past : List (List Row)) (rows : List Row) (k : ℕ) → Here past rows → Here past (take k rows)
  run-front past rows k run =
      played-front d m (IsStretchRow (not (is_nil past)) m.channels (offers_behind offers past) (gates past)) rows k run

  -- under any relation of gates
  module _ (ready : IsReady d m) (fit : Behind m.channels (λ past. OffersFit m.channels (offers_behind offers past)))
      (fixed : Behind m.channels (λ past. GatesAreFixed m.channels (gates past))) where
    pub one-here : (past : List (List Row)) → Over past → (n : ℕ) → OneOfLength (Here past) n
    one-here past over n =
        one-of_length (not (is_nil past)) d m ready (offers_behind offers past) (fit past over) (gates past) (fixed past over) n

    pub one-run_by : (n : ℕ) → OneOfRows (AreRun d m offers gates turns) n
    one-run_by n = one-of_rows Here (Turns turns) and_stretch Over further-run (λ past over. same-of (one-here past over)) run-front
        (λ past over k. (one-here past over k).0) (λ past rows. told (turns (rows_of past ++ rows))) [] (All-nil (All (IsOver m.channels))) n

  each-run : (ss : List (List Row)) → AreRun d m offers gates turns ss → (k : ℕ) (rows : List Row) → slice_get ss k ≡ Some rows
      → Follows Here (Turns turns) and_stretch Over further-run rows
  each-run ss are k rows at = each-follows Here (Turns turns) and_stretch Over further-run
      [] (All-nil (All (IsOver m.channels))) ss are k rows at

pub one-run_in_stretches : OneRunInStretches
one-run_in_stretches d m ready offers fit plan fits turns n =
    one-run_by d m offers (GatesBehind plan) turns ready fit (λ past over. plan-fixes m.channels (plan past) (fits past over)) n

pub run-stretches_keep_contents : RunStretchesKeepContents
run-stretches_keep_contents d m offers stay plan up turns ss are k rows at stable =
    let f = each-run d m offers (GatesBehind plan) turns ss are k rows at in
    stretch-keeps_contents (not (is_nil f.so_far)) d m (offers_behind offers f.so_far) (plan f.so_far) rows (stay f.so_far f.fine)
    (up f.so_far f.fine) f.is stable

-- ---- replays
module _ (d : Design) (m : Map) where
  -- there is an epoch, and what is recorded in each fits
  record AreFit (epochs : List (List Packet)) : Type 0 where
    some : 0 < length epochs
    fit : All (ContentsFit m.channels) epochs

  further-replay : (n : ℕ) (epochs : List (List Packet)) (rows : List Row) → AreFit epochs → IsTurned (IsEpochReplay d m n) (TurnsEpoch m.channels) epochs rows
      → AreFit (drop 1 epochs)
  further-replay n [] rows fit turned = absurd turned.is
  further-replay n (e ∷ []) rows fit turned = absurd turned.turns
  further-replay n (e ∷ f ∷ es) rows fit turned =
      record { some = omega arith; fit = All-tail (ContentsFit m.channels) e (f ∷ es) fit.fit }

  one-epoch : (all : ℕ) → IsReady d m → (epochs : List (List Packet)) → AreFit epochs → (n : ℕ) → OneOfLength (IsEpochReplay d m all epochs) n
  one-epoch all ready [] fit n = (let some = fit.some in absurd (omega (arith, some)))
  one-epoch all ready (e ∷ es) fit n =
      one-epoch_replay (nat_lt (suc (length es)) all) d m ready e (All-head (ContentsFit m.channels) e es fit.fit) n

  epoch-front : (all : ℕ) (epochs : List (List Packet)) (rows : List Row) (k : ℕ) → IsEpochReplay d m all epochs rows
      → IsEpochReplay d m all epochs (take k rows)
  epoch-front all [] rows k is = absurd is
  epoch-front all (e ∷ es) rows k is = played-front d m (IsEpochRow (nat_lt (suc (length es)) all) m.channels e) rows k is

  turns-or-not : (epochs : List (List Packet)) (rows : List Row) → Decides (TurnsEpoch m.channels epochs rows)
  turns-or-not [] rows = inr (λ h. h)
  turns-or-not (e ∷ []) rows = inr (λ h. h)
  turns-or-not (e ∷ f ∷ es) rows = done-or-not m.channels e rows

  one-replay_by : IsReady d m → (epochs : List (List Packet)) → AreFit epochs → (n : ℕ) → OneOfRows (AreReplayed d m epochs) n
  one-replay_by ready epochs fit n = one-of_rows (IsEpochReplay d m (length epochs)) (TurnsEpoch m.channels) (λ left rows. drop 1 left) AreFit
      (further-replay (length epochs)) (λ left fits. same-of (one-epoch (length epochs) ready left fits)) (epoch-front (length epochs))
      (λ left fits k. (one-epoch (length epochs) ready left fits k).0) turns-or-not epochs fit n

  -- ---- epoch by epoch, of `all`
  abbrev Epochs : ℕ → List (List Packet) → List (List Row) → Type 0
  Epochs all epochs ss = AreStretches (IsEpochReplay d m all) (TurnsEpoch m.channels) (λ left rows. drop 1 left) epochs ss

  fewer : (all : ℕ) (epochs : List (List Packet)) (ss : List (List Row)) → Epochs all epochs ss → length ss ≤ length epochs
  fewer all epochs [] are = absurd are
  fewer all [] (s ∷ []) are = absurd are.0
  fewer all (e ∷ es) (s ∷ []) are = omega arith
  fewer all [] (s ∷ t ∷ ss) are = absurd are.0.is
  fewer all (e ∷ es) (s ∷ t ∷ ss) are = let l = fewer all es (t ∷ ss) are.2 in omega (arith, l)

  -- a stretch is a replay of its epoch
  record IsOfEpoch (epochs : List (List Packet)) (k : ℕ) (rows : List Row) : Type 0 where
    packets : List Packet
    at : slice_get epochs k ≡ Some packets
    later : Bool
    replay : IsReplayStretch later d m packets rows

  of-epoch : (all : ℕ) (epochs : List (List Packet)) (ss : List (List Row)) → Epochs all epochs ss → (k : ℕ) (rows : List Row)
      → slice_get ss k ≡ Some rows → IsOfEpoch epochs k rows
  of-epoch all epochs [] are k rows at = absurd are
  of-epoch all [] (s ∷ []) are k rows at = absurd are.0
  of-epoch all [] (s ∷ t ∷ ss) are k rows at = absurd are.0.is
  of-epoch all (e ∷ es) (s ∷ []) are zero rows at = record {
    packets = e;
    at = refl;
    later = nat_lt (suc (length es)) all;
    replay = subst (IsReplayStretch (nat_lt (suc (length es)) all) d m e) (same_Some s rows at) are.0;
  }
  of-epoch all (e ∷ es) (s ∷ []) are (suc k) rows at = absurd (cc)
  of-epoch all (e ∷ es) (s ∷ t ∷ ss) are zero rows at = record {
    packets = e;
    at = refl;
    later = nat_lt (suc (length es)) all;
    replay = subst (IsReplayStretch (nat_lt (suc (length es)) all) d m e) (same_Some s rows at) are.0.is;
  }
  of-epoch all (e ∷ es) (s ∷ t ∷ ss) are (suc k) rows at =
      let r = of-epoch all es (t ∷ ss) are.2 k rows at in
      record { packets = r.packets; at = r.at; later = r.later; replay = r.replay }

pub one-replay_in_stretches : OneReplayInStretches
one-replay_in_stretches d m ready epochs some fit n = one-replay_by d m ready epochs (record { some = some; fit = fit }) n

pub replay-stretches_keep_contents : ReplayStretchesKeepContents
replay-stretches_keep_contents d m epochs ss are k rows at stable =
    let r = of-epoch d m (length epochs) epochs ss are k rows at in epoch-keeps_contents r.later d m r.packets rows r.replay stable

pub order-in_stretches : OrderInStretches
order-in_stretches d m epochs ss are = (
  fewer d m (length epochs) epochs ss are,
  λ k rows at stable.
      (let r = of-epoch d m (length epochs) epochs ss are k rows at in (r.packets, r.at, order-in_epoch r.later d m r.packets rows r.replay stable)),
)

-- ---- no circle
-- a trace that has ended has no packet that isn't shown whole
none-open : (n : ℕ) (packets : List Packet) (rows : List Row) → HasEnded n packets rows → (p : ℕ) → IsFirstOpen n packets rows p → ⊥
none-open n packets rows ended p first = first.unshown (λ kind c packet l at passes.
    (let here = nth-below (does kind c) packets _ p packet (record { at = at; passes = passes; before = refl }) in
    let all = ended kind c l in
    omega (arith, here, all)))

covered : (channels : List Channel) (packets : List Packet) (rows : List Row) → HasEnded (length channels) packets rows
    → awaits channels (done rows) (λ c. count End c packets) ≡ []
covered channels packets rows ended =
    awaits-none channels (done rows) (λ c. count End c packets) 0 (λ i l. ended End (0 + i) (omega (arith, l)))

pub no-circle_in_stretches : NoCircleInStretches
no-circle_in_stretches d m epochs ss are e packets rows last well none stable going =
    let r = of-epoch d m (length epochs) epochs ss are e rows last.here in
    let replay : IsReplayStretch r.later d m packets rows =
    subst (λ ps. IsReplayStretch r.later d m ps rows) (same_Some r.packets packets (sym r.at ∙ last.epoch)) r.replay in
    let most = fewer d m (length epochs) epochs ss are in
    let number = last.number in
    ⊎_elim
    (λ (ended : HasEnded (length m.channels) packets rows). (
      inr (record {
        next = ⊎_elim (λ (l : suc e < length epochs). l)
            (λ (l : length epochs ≤ suc e). absurd (going (omega (arith, l, most, number), ended))) (cases_lt (suc e) (length epochs));
        shown = ended;
        free = covered m.channels packets rows ended;
      }),
      λ p first. absurd (none-open (length m.channels) packets rows ended p first),
    ))
    (λ (goes : HasEnded (length m.channels) packets rows → ⊥).
    (let free = no-circle_in_epoch r.later d m packets rows well none replay stable goes in (inl free.0, free.1)))
    (ended-or-not (length m.channels) packets rows)
