-- `replay`: one answer, which leaves one trace.
use Rattle.std.proofs.Common.{◌≡◌, ◌≢◌, ℕ, Bool, List, Option, Some, inl, inr, ◌++◌, ◌∷◌, [], drop, length, sym, ap, subst, ◌∙◌}
use Rattle.std.specs.Prelude.{slice_get}
use Rattle.vidi_commands.specs.trace_model.declared.channel.Channel.{Channel}
use Rattle.vidi_commands.specs.trace_model.declared.packet.Packet.{Packet}
use Rattle.vidi_commands.specs.trace_model.declared.row.Row.{Row}
use Rattle.vidi_commands.specs.trace_model.declared.trace.Trace.{Trace}
use Rattle.vidi_commands.specs.trace_model.Recording.{trace_of}
use Rattle.vidi_commands.specs.trace_code.Decoding.{OnePlace, OneReading}
use Rattle.vidi_commands.specs.trace_code.Encoding.{encode, Encodes}
use Rattle.net_design.specs.declared.design.Design.{Design}
use Rattle.net_design.specs.Lawful.{IsLawful}
use Rattle.vidi_commands.specs.chan_map.declared.pins.Map.{Map}
use Rattle.vidi_commands.specs.run_model.Alike.{AreAlike}
use Rattle.vidi_commands.specs.run_model.AlikeLaws.{DrivenAlike}
use Rattle.vidi_commands.specs.run_model.Laws.{ContentsFit}
use Rattle.vidi_commands.specs.run_model.Stretches.{and_stretch, AreStretches, IsEpochReplay, TurnsEpoch}
use Rattle.vidi_commands.specs.replay_run.declared.outcome.ReplayOutcome.{ReplayOutcome}
use Rattle.vidi_commands.specs.replay_run.declared.outcome.ReplayOutcome.TheVariants as outcomes
use Rattle.vidi_commands.specs.replay_run.Laws.{OneOutcome}
use Rattle.vidi_commands.specs.replay_run.Ended.{AreTraceReplay}
use Rattle.vidi_commands.specs.replay_run.Epochs.{epochs}
use Rattle.vidi_commands.specs.replay_run.Replaying.{EndsAs}
use Rattle.vidi_commands.specs.replay_run.run_stage.Stretching.{all_rows}
use Rattle.vidi_commands.specs.vidi_io.Shelf.{Files, holding}
use Rattle.vidi_commands.specs.report_text.Short.{short_lines}
use Rattle.vidi_commands.specs.report_text.declared.reason.Word.TheVariants as words
use Rattle.vidi_commands.specs.vidi_bench.declared.device.Device.{Device}
use Rattle.vidi_commands.specs.vidi_bench.vidi_answer.declared.status.Status.{Status}
use Rattle.vidi_commands.specs.vidi_bench.vidi_answer.declared.status.Status.TheVariants.{Short, Unstable}
use Rattle.vidi_commands.specs.vidi_bench.Design.{text_limit}
use Rattle.vidi_commands.specs.vidi_bench.Devices.{IsDevice}
use Rattle.vidi_commands.specs.vidi_bench.Reading.{Reading}
use Rattle.vidi_commands.specs.vidi_bench.Steps.{Ending}
use Rattle.vidi_commands.specs.vidi_bench.Traces.{HasOtherChannels}
use Rattle.vidi_commands.specs.replay_command.Replays.{IsReplayable, IsReplaySaid, IsTheReplay, IsUnreplayed, RefusedReplay, RefusedTrace, Replays}
use Rattle.vidi_commands.specs.replay_command.Replays.{ReplaysTrace}
use Rattle.vidi_commands.specs.replay_command.Said.{replayed_line, unstable_line}
use Rattle.vidi_commands.specs.trace_commands.Traces.{trace_limit}
use Rattle.vidi_laws.proofs.OneEnding.{One, OneBy, one-said, one-read, one-reading-by, reading-apart}
use Rattle.vidi_laws.proofs.OneCheck.{Alike, alike}
use Rattle.vidi_laws.proofs.OneTraces.{no_trace-apart, one-decoding, one-other, one-verdict}
use Rattle.vidi_laws.proofs.SameDevice.{DeviceLaws, SameDevice, one-wiring, same-device, wiring-apart}
use Rattle.vidi_laws.proofs.SameRecord.{LeftAlike}

-- the laws on which this rests
pub record ReplayLaws : Type 0 where
  pub devices : DeviceLaws
  pub reading : OneReading
  pub place : OnePlace
  pub driven : DrivenAlike
  pub outcome : OneOutcome

-- ---- the replays of designs that are alike
module _ (law : DrivenAlike) (d e : Design) (lawful : IsLawful d) (same : AreAlike d e) (m : Map) where
  stretch-too : (all : ℕ) (epochs : List (List Packet)) (rows : List Row) → IsEpochReplay e m all epochs rows → IsEpochReplay d m all epochs rows
  stretch-too all [] rows is = absurd is
  stretch-too all (packets ∷ epochs) rows is =
      record { marked = is.marked; driven = (law d e lawful same m rows).1 is.driven; ruled = is.ruled }

  -- epoch by epoch, of `all`
  epochs-too : (all : ℕ) (epochs : List (List Packet)) (ss : List (List Row))
      → AreStretches (IsEpochReplay e m all) (TurnsEpoch m.channels) (λ left rows. drop 1 left) epochs ss
      → AreStretches (IsEpochReplay d m all) (TurnsEpoch m.channels) (λ left rows. drop 1 left) epochs ss
  epochs-too all epochs [] are = are
  epochs-too all epochs (rows ∷ []) are = (stretch-too all epochs rows are.0, are.1)
  epochs-too all epochs (rows ∷ more ∷ rest) are = (
    record {
      is = stretch-too all epochs rows are.0.is;
      some = are.0.some;
      turns = are.0.turns;
      unturned = are.0.unturned;
    },
    are.1,
    epochs-too all (drop 1 epochs) (more ∷ rest) are.2,
  )

  module _ (packets : List Packet) where
    played-too : (ss : List (List Row)) → AreTraceReplay e m packets ss → AreTraceReplay d m packets ss
    played-too ss are = epochs-too (length (epochs packets)) (epochs packets) ss are

    ends-too : (n : ℕ) (past : List (List Row)) (here : List Row) (o : ReplayOutcome) → EndsAs e m packets n past here o
        → EndsAs d m packets n past here o
    ends-too n past here (outcomes.Ended cycles) (x, long) = (
      record {
        played = played-too (and_stretch past here) x.played;
        stable = x.stable;
        within = x.within;
        ended = x.ended;
        shortest = x.shortest;
      },
      long,
    )
    ends-too n past here (outcomes.Short helds events) (x, held_are, waits_are) = (
      record {
        played = played-too (and_stretch past here) x.played;
        stable = x.stable;
        all = x.all;
        going = x.going;
        not_ended = x.not_ended;
      },
      held_are,
      waits_are,
    )
    ends-too n past here (outcomes.Unstable channel cycle) (x, long) = (
      record {
        stops = record {
          next = x.stops.next;
          played = played-too (and_stretch past (here ++ x.stops.next ∷ [])) x.stops.played;
          before = x.stops.before;
          stable = x.stops.stable;
          unstable = x.stops.unstable;
        };
        within = x.within;
        going = x.going;
        not_ended = x.not_ended;
      },
      long,
    )

-- the same stretches have the same rows
pub same-rows : (past before : List (List Row)) (here there rows others : List Row) → past ≡ before → here ≡ there
    → all_rows past here ≡ rows → all_rows before there ≡ others → rows ≡ others
same-rows past before here there rows others first last rows_are others_are =
    sym rows_are ∙ ap (λ (ss : List (List Row)). all_rows ss here) first ∙ ap (all_rows before) last ∙ others_are

-- ---- what is said
pub said-once : (t u : Trace) (n : ℕ) (o : ReplayOutcome) → One (IsReplaySaid t u n o)
said-once t u n (outcomes.Ended cycles) a b x y v w = one-verdict (replayed_line cycles) t u a b x y v w
said-once t u n (outcomes.Short helds events) a b x y v w =
    one-said (Short helds events) (short_lines helds events n t.channels) a b x y v w
said-once t u n (outcomes.Unstable channel cycle) a b x y v w =
    one-said (Unstable channel cycle) (unstable_line t.channels channel cycle) a b x y v w

-- the design of a device with another map
abbrev pub with_map : Device → Map → Device
with_map v m = record { design = v.design; order = v.order; map = m }

pub fits : (t : Trace) (bytes : List ℕ) (channels : List Channel) → Encodes t bytes → t.channels ≡ channels → ContentsFit channels t.packets
fits t bytes channels encodes same = subst (λ (cs : List Channel). ContentsFit cs t.packets) same encodes.0.well_formed.packets

-- ---- why a trace isn't replayed
other-apart : (channels others : List Channel) (at : ℕ) → others ≡ channels → slice_get channels at ≢ slice_get others at → ⊥
other-apart channels others at same other = other (ap (λ (cs : List Channel). slice_get cs at) (sym same))

-- it has other channels
abbrev IsUnfit : List Channel → Trace → Ending
IsUnfit channels t = HasOtherChannels words.Trace channels t.channels

unfit-apart : (channels : List Channel) (t : Trace) → t.channels ≡ channels → (a : Status) (x : List ℕ) → IsUnfit channels t a x → ⊥
unfit-apart channels t same a x (at, front, other, s) = other-apart channels t.channels at same other

module _ (laws : ReplayLaws) where
  -- ---- what ends the command before anything is replayed
  one-refused_trace : (bytes : List ℕ) (m : Map) → OneBy Alike (RefusedTrace bytes m)
  one-refused_trace bytes m a b x y u v = alike a b x y
      (one-decoding laws.reading laws.place words.Trace bytes (IsUnfit m.channels) (λ t. one-other words.Trace m.channels t.channels) a b x y u v)

  pub one-refused_replay : (design m trace : List ℕ) → OneBy Alike (RefusedReplay design m trace)
  one-refused_replay design m trace = one-wiring laws.devices (RefusedTrace trace) (one-refused_trace trace) design m

  unreplayed : (design m trace : List ℕ) (files : Files) → OneBy Alike (IsUnreplayed design m trace (Some files) (λ _. ⊥))
  unreplayed design m trace files = one-reading-by Alike alike text_limit words.Design design files
      (λ d. Reading text_limit words.Map m (Some files) (λ _. ⊥) (λ k.
      Reading trace_limit words.Trace trace (Some files) (λ _. ⊥) (RefusedReplay d k)))
      (λ d. one-reading-by Alike alike text_limit words.Map m files
      (λ k. Reading trace_limit words.Trace trace (Some files) (λ _. ⊥) (RefusedReplay d k))
      (λ k. one-reading-by Alike alike trace_limit words.Trace trace files (RefusedReplay d k) (one-refused_replay d k)))

  -- ---- which isn't there where something is replayed
  trace-apart : (bytes : List ℕ) (m : Map) (t : Trace) → Encodes t bytes → t.channels ≡ m.channels
      → (a : Status) (x : List ℕ) → RefusedTrace bytes m a x → ⊥
  trace-apart bytes m t encodes same a x (inl no_trace) = no_trace-apart words.Trace bytes a x t no_trace encodes
  trace-apart bytes m t encodes same a x (inr (u, encodes', unfit)) = unfit-apart m.channels t same a x
      (subst (λ (k : Trace). IsUnfit m.channels k a x) (laws.reading bytes u t encodes' encodes) unfit)

  pub refused-apart : (design m trace : List ℕ) (v : Device) (t : Trace) → IsDevice design m v → Encodes t trace
      → t.channels ≡ v.map.channels → (a : Status) (x : List ℕ) → RefusedReplay design m trace a x → ⊥
  refused-apart design m trace v t device encodes same a x =
      wiring-apart laws.devices design m v device (RefusedTrace trace) a x (trace-apart trace v.map t encodes same a x)

  module _ (design m trace : List ℕ) (files : Files) (v : Device) (t : Trace) (is : IsReplayable design m trace (Some files) v t)
      (a : Status) (x : List ℕ) where
    replay-apart : RefusedReplay is.design_text is.map_text is.trace_bytes a x → ⊥
    replay-apart = refused-apart is.design_text is.map_text is.trace_bytes v t is.device is.encodes is.same a x

    unreplayed-apart : IsUnreplayed design m trace (Some files) (λ _. ⊥) a x → ⊥
    unreplayed-apart = reading-apart text_limit words.Design design files
        (λ d. Reading text_limit words.Map m (Some files) (λ _. ⊥) (λ k.
        Reading trace_limit words.Trace trace (Some files) (λ _. ⊥) (RefusedReplay d k))) is.design_text is.design_read a x
        (reading-apart text_limit words.Map m files
        (λ k. Reading trace_limit words.Trace trace (Some files) (λ _. ⊥) (RefusedReplay is.design_text k)) is.map_text is.map_read a x
        (reading-apart trace_limit words.Trace trace files (RefusedReplay is.design_text is.map_text) is.trace_bytes is.trace_read a x
        replay-apart))

  -- ---- what is replayed
  -- what the same files say twice
  replayable-once : (design m trace : List ℕ) (files : Files) (v w : Device) (t u : Trace)
      → IsReplayable design m trace (Some files) v t → IsReplayable design m trace (Some files) w u → SameDevice v w × (t ≡ u)
  replayable-once design m trace files v w t u x y =
      let d = one-read text_limit design files y.design_text x.design_text y.design_read x.design_read in
      let n = one-read text_limit m files y.map_text x.map_text y.map_read x.map_read in
      let b = one-read trace_limit trace files y.trace_bytes x.trace_bytes y.trace_read x.trace_read in
      let device : IsDevice x.design_text x.map_text w =
      subst (λ (text : List ℕ). IsDevice x.design_text text w) n (subst (λ (text : List ℕ). IsDevice text y.map_text w) d y.device) in
      let encodes = subst (λ (bytes : List ℕ). Encodes u bytes) b y.encodes in (
        same-device laws.devices x.design_text x.map_text v w x.device device,
        laws.reading x.trace_bytes t u x.encodes encodes,
      )

  pub ends-once : (v w : Device) (t : Trace) → SameDevice v w → ContentsFit v.map.channels t.packets → (n : ℕ) (rows others : List Row)
      (outcome other : ReplayOutcome) → IsTheReplay v t n rows outcome → IsTheReplay (with_map w v.map) t n others other
      → (others ≡ rows) × (other ≡ outcome)
  ends-once v w t same fit n rows others outcome other x y =
      let theirs = ends-too laws.driven v.design w.design same.ready.lawful same.designs v.map t.packets n y.past y.here other y.ends in
      let one = (laws.outcome v.design v.map same.ready t.packets fit n).1 y.past x.past y.here x.here other outcome theirs x.ends in
      (same-rows y.past x.past y.here x.here others rows one.0 one.1 y.rows_are x.rows_are, one.2)

  leaves-once : (v w : Device) (t : Trace) → SameDevice v w → ContentsFit v.map.channels t.packets → (n : ℕ) (out : List ℕ) (files : Files)
      (P Q : Bool → Type 0) (a b : Status) (x y : List ℕ) (left right : Option Files)
      → ReplaysTrace v t n out (Some files) P a x left → ReplaysTrace (with_map w v.map) t n out (Some files) Q b y right
      → LeftAlike a b x y left right
  leaves-once v w t same fit n out files P Q a b x y left right (rows, outcome, ends, said, (leaves, _))
      (others, other, ends', said', (leaves', _)) =
      let channels = v.map.channels in
      let one = ends-once v w t same fit n rows others outcome other ends ends' in
      let told = subst (λ (o : ReplayOutcome). IsReplaySaid t (trace_of channels rows) n o b y) one.1
      (subst (λ (rs : List Row). IsReplaySaid t (trace_of channels rs) n other b y) one.0 said') in (
        alike a b x y (said-once t (trace_of channels rows) n outcome a b x y said told),
        leaves ∙ ap (λ (rs : List Row). holding (Some files) out (encode (trace_of channels rs))) (sym one.0) ∙ sym leaves',
      )

  replays-once : (v w : Device) (t u : Trace) → SameDevice v w → t ≡ u → ContentsFit v.map.channels t.packets → (n : ℕ) (out : List ℕ)
      (files : Files) (P Q : Bool → Type 0) (a b : Status) (x y : List ℕ) (left right : Option Files)
      → ReplaysTrace v t n out (Some files) P a x left → ReplaysTrace w u n out (Some files) Q b y right → LeftAlike a b x y left right
  replays-once v w t u same trace fit n out files P Q a b x y left right replays replays' =
      leaves-once v w t same fit n out files P Q a b x y left right replays
      (subst (λ (k : Trace). ReplaysTrace (with_map w v.map) k n out (Some files) Q b y right) (sym trace)
      (subst (λ (k : Map). ReplaysTrace (with_map w k) u n out (Some files) Q b y right) (sym same.map) replays'))

  pub one_replay : (design m trace : List ℕ) (n : ℕ) (out : List ℕ) (files : Files) (P Q : Bool → Type 0) (a b : Status) (x y : List ℕ)
      (left right : Option Files) → Replays design m trace n out (Some files) (λ _. ⊥) P a x left
      → Replays design m trace n out (Some files) (λ _. ⊥) Q b y right → LeftAlike a b x y left right
  one_replay design m trace n out files P Q a b x y left right (inl (u, (l, _))) (inl (v, (r, _))) =
      (unreplayed design m trace files a b x y u v, l ∙ sym r)
  one_replay design m trace n out files P Q a b x y left right (inl (u, l)) (inr (w, t, replayable, replays)) =
      absurd (unreplayed-apart design m trace files w t replayable a x u)
  one_replay design m trace n out files P Q a b x y left right (inr (v, t, replayable, replays)) (inl (u, r)) =
      absurd (unreplayed-apart design m trace files v t replayable b y u)
  one_replay design m trace n out files P Q a b x y left right (inr (v, t, replayable, replays)) (inr (w, u, replayable', replays')) =
      let same = replayable-once design m trace files v w t u replayable replayable' in
      replays-once v w t u same.0 same.1
      (fits t replayable.trace_bytes v.map.channels replayable.encodes replayable.same) n out files P Q a b x y left right replays replays'
