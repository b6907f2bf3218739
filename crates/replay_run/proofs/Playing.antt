-- The player of a replay, over plain values.
use Rattle.std.proofs.Common.{◌≡◌, ℕ, ◌+◌, ◌-◌, ◌*◌, ◌^◌, ◌<◌, ◌≤◌, ◌&&◌, ◌==◌, Bool, true, false, not, cond, List, [], ◌∷◌, ◌++◌, Option, Some, None}
use Rattle.std.proofs.Common.{length, take, slice_get, refl, ap, sym, subst, ◌∙◌, append_assoc, arith, ⊎_elim}
use Rattle.std.proofs.Math.Logic.{∥∥₁_elim, ∥∥₁_map}
use Rattle.std.proofs.Props.{props}
use Rattle.std.specs.Int.{bit_at}
use Rattle.std.specs.Prelude.{◌↔◌, get_or}
use Rattle.std.proofs.lemmas.Bool.{cases_eq, false≢true}
use Rattle.std.proofs.lemmas.List.{take_all}
use Rattle.std.proofs.lemmas.Nat.Bits.{bit_at-zero}
use Rattle.std.proofs.lemmas.Option.{same_Some, slice_get_cases, slice_get_read, slice_get_within}
use Rattle.trace_code.specs.vidi_bits.Number.{has}
use Rattle.trace_code.specs.trace_model.declared.channel.Channel.{Channel}
use Rattle.trace_code.specs.trace_model.declared.channel.Dir.TheVariants.{Inward}
use Rattle.trace_code.specs.trace_model.declared.event.Kind.TheVariants.{Start, End, Reset}
use Rattle.trace_code.specs.trace_model.declared.packet.Packet.{Packet}
use Rattle.trace_code.specs.trace_model.declared.row.Row.{Row}
use Rattle.trace_code.specs.trace_model.declared.trace.Trace.{Trace}
use Rattle.trace_code.specs.trace_model.Epoch.{epoch, resets}
use Rattle.trace_code.specs.trace_model.Packet.{count}
use Rattle.trace_code.specs.trace_model.Recording.{row_does, shown}
use Rattle.trace_code.specs.trace_model.Row.{flies_after, is_in_flight, row_before}
use Rattle.trace_code.specs.Encoding.{Encodes}
use Rattle.trace_code.proofs.trace_model_lemmas.CountingLemmas.{count-push}
use Rattle.trace_code.proofs.trace_model_lemmas.MaskLemmas.{cond-has}
use Rattle.trace_code.proofs.trace_model_lemmas.RowLaws.{counted}
use Rattle.trace_code.proofs.Readings.{one_reading}
use Rattle.net_design.specs.declared.design.Design.{Design}
use Rattle.net_design.specs.declared.values.Values.{Values}
use Rattle.run_stage.specs.chan_map.declared.pins.Map.{Map}
use Rattle.run_stage.specs.chan_monitor.vidi_bits.Findings.{is_nil}
use Rattle.run_stage.specs.chan_replayer.Shell.{IsRunning}
use Rattle.run_stage.specs.run_model.Held.{flies}
use Rattle.run_stage.specs.run_model.Played.{AreStable, IsPlayed, StopsBefore}
use Rattle.run_stage.specs.run_model.Replay.{done, HasEnded, IsReplayStretch}
use Rattle.run_stage.specs.run_model.Stretches.{IsTurned, IsUnturned, and_stretch, rows_of}
use Rattle.run_stage.specs.Playing.{Begins, IsLast}
use Rattle.run_stage.specs.declared.ending.Ending.{Ending}
use Rattle.run_stage.specs.declared.ending.Ending.TheVariants.{Done, Unstable, Whole}
use Rattle.run_stage.specs.Stretching.{all_rows, ArePlayed, AreRuledStretches, CameBehind, HaveCome, PlayStretches, StopIn}
use Rattle.run_stage.proofs.chan_replayer_lemmas.FedOffers.{other-bit, top-bit}
use Rattle.run_stage.proofs.run_model_lemmas.ReplayLaws.{replay-keeps}
use Rattle.run_stage.proofs.run_model_lemmas.Stays.{keeps-in-flight}
use Rattle.run_stage.proofs.Stretching.{all-longer}
use Rattle.replay_run.specs.declared.feeder.Feeder.{Feeder}
use Rattle.replay_run.specs.Behind.{IsDone, IsShownOf}
use Rattle.replay_run.specs.Ended.{AreTraceReplay, HasEndedIn, IsGoingOn}
use Rattle.replay_run.specs.Standing.{epoch_rule, AreKept, IsAt, IsNextRow, IsTurn, PlaysTo, SaysEnded, StandsBehind, TurnsBehind}
use Rattle.replay_run.proofs.Epochs.{epoch-plain}
use Rattle.replay_run.proofs.Replays.{stops-behind, trace-replay}

-- ---- a shell that was reset
pub has-begun : (m given : Map) (was runs : Design → Values → List Row → Type 0) → given ≡ m → ∥ IsRunning was ∥₁
    → ((d : Design) (s : Values) (rows : List Row) → was d s rows → Begins d given runs) → ∥ ((d : Design) × Begins d m runs) ∥₁
has-begun m given was runs same running first = ∥∥₁_map {B = (d : Design) × Begins d m runs} running
    (λ (r : IsRunning was). (r.0, subst (λ (n : Map). Begins r.0 n runs) same (first r.0 r.1 r.2 r.3)))

-- ---- the one trace of its bytes
pub at-trace : (first feeder : Feeder) (past : List (List Row)) (here : List Row) → StandsBehind first feeder past here → (t : Trace)
    → Encodes t first.bytes.now → IsAt t past here feeder
at-trace first feeder past here stands t encodes =
    subst (λ (u : Trace). IsAt u past here feeder) (one_reading first.bytes.now stands.trace t stands.encodes encodes) stands.at

-- ---- what is shown of an epoch
pub flight-last : (o : Option Row) (last : Row) (c : ℕ) → IsLast o last → is_in_flight last c ≡ flies_after o c
flight-last None last c e =
    let none : has last.valids c ≡ false = ap (λ m. has m c) e ∙ ap (λ k. k == 1) (bit_at-zero c) in
    ap (λ b. (b && has last.gates c) && not ((b && has last.gates c) && has last.readies c)) none
flight-last (Some b) last c e = ap (λ (r : Row). is_in_flight r c) e

-- a stretch of a replay of these packets, of some design
abbrev pub SomeStretch : Bool → Map → List Packet → List Row → Type 0
SomeStretch later m packets rows = ∥ ((d : Design) × IsReplayStretch later d m packets rows) ∥₁

module _ (later : Bool) (m : Map) (packets : List Packet) (rows : List Row) (last : Row) (some : SomeStretch later m packets rows)
    (stable : AreStable m.channels rows) (last_is : IsLast (row_before rows (length rows)) last) where
  balance-of : (d : Design) → IsReplayStretch later d m packets rows → (c : ℕ) → shown Start c rows ≡ done rows c + cond (is_in_flight last c) 1 0
  balance-of d replay c =
      let keeps = keeps-in-flight m.channels rows (replay-keeps later d m packets rows replay stable) in
      let even : shown Start c rows ≡ shown End c rows + cond (flies rows c) 1 0 =
      subst (λ (rs : List Row). shown Start c rs ≡ shown End c rs + cond (flies rows c) 1 0) (take_all (length rows) rows (omega arith))
      (counted m.channels rows replay.marked keeps (length rows) (omega arith) c) in
      even ∙ ap (λ b. done rows c + cond b 1 0) (sym (flight-last (row_before rows (length rows)) last c last_is))

  pub balance : (c : ℕ) → shown Start c rows ≡ done rows c + cond (is_in_flight last c) 1 0
  balance c = ∥∥₁_elim some (hlevel props) (λ (x : (d : Design) × IsReplayStretch later d m packets rows). balance-of x.0 x.1 c)

  abbrev AllShown : ℕ → Type 0
  AllShown n = (c : ℕ) → c < n → IsDone packets (done rows) last c

  by-kind : (n : ℕ) → resets packets ≡ 0 → AllShown n → HasEnded n packets rows
  by-kind n plain all Start c l = let b = balance c in let s = (all c l).starts in omega (arith, b, s)
  by-kind n plain all End c l = (all c l).ends
  by-kind n plain all Reset c l = omega (arith, plain)

  ended-when : (n : ℕ) → resets packets ≡ 0 → AllShown n ↔ HasEnded n packets rows
  ended-when n plain = (
    by-kind n plain,
    λ (h : HasEnded n packets rows). (λ c l. record { ends = h End c l; starts = let b = balance c in let s = h Start c l in omega (arith, b, s) }),
  )

  -- the reset behind it may come
  module _ (inward : ℕ) (inward-is : (c : ℕ) (x : Channel) → slice_get m.channels c ≡ Some x → (has inward c ≡ true) ↔ (x.dir ≡ Inward)) where
    pub done-shown : (n : ℕ) → n ≡ length m.channels → ((c : ℕ) → c < n → IsShownOf inward packets (done rows) last c)
        → (c : ℕ) (x : Channel) → slice_get m.channels c ≡ Some x
        → (count End c packets ≤ done rows c) × (x.dir ≡ Inward → count Start c packets ≤ shown Start c rows)
    done-shown n many all c x at =
        let w = slice_get_within m.channels c x at in
        let is = all c (omega (arith, w, many)) in (
          is.ends,
          λ dir. (let b = balance c in let s = is.starts ((inward-is c x at).1 dir) in omega (arith, b, s)),
        )

    pub shown-done : (n : ℕ) → n ≡ length m.channels
        → ((c : ℕ) (x : Channel) → slice_get m.channels c ≡ Some x
        → (count End c packets ≤ done rows c) × (x.dir ≡ Inward → count Start c packets ≤ shown Start c rows))
        → (c : ℕ) → c < n → IsShownOf inward packets (done rows) last c
    shown-done n many all c l = ⊎_elim
        (λ (h : (x : Channel) × (c < length m.channels) × (slice_get m.channels c ≡ Some x) × (get_or m.channels c x ≡ x)).
        (let is = all c h.0 h.2 in
        record { ends = is.0; starts = λ up. (let b = balance c in let s = is.1 ((inward-is c h.0 h.2).0 up) in omega (arith, b, s)) }))
        (λ (h : (length m.channels ≤ c) × (slice_get m.channels c ≡ None)). absurd (let past = h.0 in omega (arith, past, l, many)))
        (slice_get_cases m.channels c).1

-- ---- of the stretches and the rows since
module _ (m : Map) (packets : List Packet) (past : List (List Row)) (here : List Row) (last : Row)
    (some : SomeStretch (not (is_nil past)) m (epoch (length past) packets) here) (stable : AreStable m.channels here)
    (last_is : IsLast (row_before here (length here)) last) (number : ℕ) (number-is : number ≡ length past) (r : Bool) where
  here-epoch : epoch number packets ≡ epoch (length past) packets
  here-epoch = ap (λ e. epoch e packets) number-is

  pub ended-now : (n : ℕ)
      → ((r ≡ true) ↔ ((number ≡ resets packets) × ((c : ℕ) → c < n → IsDone (epoch number packets) (done here) last c)))
      → (r ≡ true) ↔ HasEndedIn n packets past here
  ended-now n says =
      let when = ended-when (not (is_nil past)) m (epoch (length past) packets) here last some stable last_is n (epoch-plain (length past) packets) in (
        λ e. (let h = says.0 e in
            record {
              last = sym number-is ∙ h.0;
              ended = when.0 (λ c l. subst (λ ps. IsDone ps (done here) last c) here-epoch (h.1 c l));
            }),
        λ (h : HasEndedIn n packets past here).
            says.1 (number-is ∙ h.last, λ c l. subst (λ ps. IsDone ps (done here) last c) (sym here-epoch) (when.1 h.ended c l)),
      )

  pub turns-now : (n inward : ℕ) → n ≡ length m.channels
      → ((c : ℕ) (x : Channel) → slice_get m.channels c ≡ Some x → (has inward c ≡ true) ↔ (x.dir ≡ Inward))
      → ((r ≡ true) ↔ ((number < resets packets) × ((c : ℕ) → c < n → IsShownOf inward (epoch number packets) (done here) last c)))
      → (r ≡ true) ↔ TurnsBehind m.channels packets past here
  turns-now n inward many inward-is says = (
    λ e. (let h = says.0 e in
        let below = h.0 in (
          omega (arith, below, number-is),
          done-shown (not (is_nil past)) m (epoch (length past) packets) here last some stable last_is inward inward-is n many
              (λ c l. subst (λ ps. IsShownOf inward ps (done here) last c) here-epoch (h.1 c l)),
        )),
    λ (h : TurnsBehind m.channels packets past here).
        (let below = h.0 in
        says.1 (
          omega (arith, below, number-is),
          λ c l. subst (λ ps. IsShownOf inward ps (done here) last c) (sym here-epoch)
              (shown-done (not (is_nil past)) m (epoch (length past) packets) here last some stable last_is inward inward-is n many h.1 c l),
        )),
  )

-- ---- the rows of one trace
module _ (first : Feeder) (m : Map) (same : first.map.now ≡ m) (t : Trace) (encodes : Encodes t first.bytes.now) where
  abbrev pub played-of : (d : Design) (past : List (List Row)) (rows : List Row) → IsPlayed d m (IsNextRow first past) rows
      → IsPlayed d m (epoch_rule m.channels t.packets past) rows
  played-of d past rows played = record {
    marked = played.marked;
    driven = played.driven;
    ruled = λ n row at. subst (λ (b : Map). epoch_rule b.channels t.packets past (take n rows) row) same (played.ruled n row at t encodes);
  }

  pub turn-of : (past : List (List Row)) (here : List Row) → IsTurn first past here → TurnsBehind m.channels t.packets past here
  turn-of past here h = subst (λ (b : Map). TurnsBehind b.channels t.packets past here) same (h t encodes)

  pub turn-back : (past : List (List Row)) (here : List Row) → TurnsBehind m.channels t.packets past here → IsTurn first past here
  turn-back past here h u reads =
      subst (λ (v : Trace). TurnsBehind first.map.now.channels v.packets past here) (one_reading first.bytes.now t u encodes reads)
      (subst (λ (b : Map). TurnsBehind b.channels t.packets past here) (sym same) h)

  pub unturned-of : (past : List (List Row)) (here : List Row) → IsUnturned (IsTurn first) past here
      → IsUnturned (TurnsBehind m.channels t.packets) past here
  unturned-of past here un k some l h = un k some l (turn-back past (take k here) h)

  abbrev pub are-played-of : (d : Design) (past : List (List Row)) (here : List Row) → ArePlayed d m (IsNextRow first) (IsTurn first) past here
      → ArePlayed d m (epoch_rule m.channels t.packets) (TurnsBehind m.channels t.packets) past here
  are-played-of d past here are = record {
    before = λ k rows at. (let b = are.before k rows at in
        record {
          is = played-of d (take k past) rows b.is;
          some = b.some;
          turns = turn-of (take k past) rows b.turns;
          unturned = unturned-of (take k past) rows b.unturned;
        });
    last = played-of d past here are.last;
    unturned = unturned-of past here are.unturned;
  }

  pub some-stretch : (past : List (List Row)) (here : List Row) → AreRuledStretches m (IsNextRow first) (IsTurn first) past here
      → SomeStretch (not (is_nil past)) m (epoch (length past) t.packets) here
  some-stretch past here ruled = ∥∥₁_map {B = (d : Design) × IsReplayStretch (not (is_nil past)) d m (epoch (length past) t.packets) here} ruled.played
      (λ (x : (d : Design) × ArePlayed d m (IsNextRow first) (IsTurn first) past here). (x.0, played-of x.0 past here x.1.last))

  pub plays-of : (d : Design) (runs : Design → Values → List (List Row) → List Row → Type 0) (last : Row) (past : List (List Row)) (here : List Row)
      → PlayStretches d m (IsNextRow first) (IsTurn first) runs last past here
      → PlayStretches d m (epoch_rule m.channels t.packets) (TurnsBehind m.channels t.packets) runs last past here
  plays-of d runs last past here at = record {
    played = are-played-of d past here at.played;
    at = at.at;
    stable = at.stable;
    last_is = at.last_is;
  }

  pub stops-of : (d : Design) (past : List (List Row)) (here : List Row) (c : ℕ) → StopsBefore d m (IsNextRow first past) here c
      → StopsBefore d m (epoch_rule m.channels t.packets past) here c
  stops-of d past here c stops = record {
    next = stops.next;
    played = played-of d past (here ++ stops.next ∷ []) stops.played;
    stable = stops.stable;
    unstable = stops.unstable;
  }

  pub says-here : (past : List (List Row)) (here : List Row) (b : Bool) → SaysEnded first past here b
      → (b ≡ true) ↔ HasEndedIn (length m.channels) t.packets past here
  says-here past here b says = subst (λ (a : Map). (b ≡ true) ↔ HasEndedIn (length a.channels) t.packets past here) same (says t encodes)

  pub not-ended : (past : List (List Row)) (here : List Row) → SaysEnded first past here false → ¬ HasEndedIn (length m.channels) t.packets past here
  not-ended past here says h = false≢true ((says-here past here false says).1 h)

  pub going : (n : ℕ) (past : List (List Row)) (here : List Row) → HaveCome (SaysEnded first) n past here
      → IsGoingOn (length m.channels) t.packets past here
  going n past here come = record {
    going = λ k l asked. not-ended past (take k here) (come.going k l asked);
    before = λ i rows at k l asked. not-ended (take i past) (take k rows) (come.before i rows at k l asked);
  }

  -- how it ends
  module _ (d : Design) (runs : Design → Values → List (List Row) → List Row → Type 0) (last : Row) (n : ℕ) (past : List (List Row)) (here : List Row)
      (come : HaveCome (SaysEnded first) n past here) (at : PlayStretches d m (IsNextRow first) (IsTurn first) runs last past here) where
    replay-so_far : AreTraceReplay d m t.packets (and_stretch past here)
    replay-so_far = trace-replay d m t.packets past here (are-played-of d past here at.played) come.asked

    pub plays-to : (ending : Ending) → CameBehind (SaysEnded first) n past here ending
        → StopIn d m (IsNextRow first) (IsTurn first) past here ending → PlaysTo d m t.packets n past here ending
    plays-to Whole came stops = record {
      played = replay-so_far;
      stable = at.stable;
      all = came.0;
      going = going n past here come;
      not_ended = not-ended past here came.1;
    }
    plays-to (Done cycles) came stops = (
      record {
        played = replay-so_far;
        stable = at.stable;
        within = come.within;
        ended = (says-here past here true came.1).0 refl;
        shortest = going n past here come;
      },
      sym came.0,
    )
    plays-to (Unstable channel cycle) came stops = (
      record {
        stops = stops-behind d m t.packets past here (are-played-of d past here at.played) channel at.stable.before
            (stops-of d past here channel stops.0) (λ some turns. stops.1 some (turn-back past here turns));
        within = came.1;
        going = going n past here come;
        not_ended = not-ended past here came.2;
      },
      sym came.0,
    )

-- ---- one row more
pub done-push : (rows : List Row) (row : Row) (ends : ℕ) → ends ≡ row.ends → (λ (c : ℕ). done rows c + bit_at ends c) ≡ done (rows ++ row ∷ [])
done-push rows row ends e = λ i c. one c i
  where
    one : (c : ℕ) → done rows c + bit_at ends c ≡ done (rows ++ row ∷ []) c
    one c = ap (λ k. done rows c + bit_at k c) e ∙ ap (λ k. done rows c + k) (sym (cond-has row.ends c)) ∙ sym (count-push (row_does End c) rows row)

-- what is kept, on the map's channels
pub kept-here : (first feeder : Feeder) (past : List (List Row)) (here : List Row) → StandsBehind first feeder past here
    → AreKept feeder.map.now.channels (first.cycles - length (all_rows past here)) past here feeder
kept-here first feeder past here is =
    subst (λ (m : Map). AreKept m.channels (first.cycles - length (all_rows past here)) past here feeder) (sym is.map) is.kept

-- room for the rows that are left
pub room-left : (most : ℕ) (past : List (List Row)) (here : List Row) (row : Row) → length (all_rows past here) < most
    → most - length (all_rows past here) ≡ (most - length (all_rows past (here ++ row ∷ []))) + 1
room-left most past here row l = let e = all-longer past here row in omega (arith, l, e)

-- the mask of inward channels, one channel longer
pub inward-more : (channels : List Channel) (c mask new : ℕ) (y : Channel) (r : Bool) → mask < 2 ^ c → c < length channels → y ≡ get_or channels c y
    → new ≡ cond r 1 0 * 2 ^ c + mask → ((r ≡ true) ↔ (y.dir ≡ Inward))
    → ((d : ℕ) (x : Channel) → d < c → slice_get channels d ≡ Some x → (has mask d ≡ true) ↔ (x.dir ≡ Inward))
    → (d : ℕ) (x : Channel) → d < c + 1 → slice_get channels d ≡ Some x → (has new d ≡ true) ↔ (x.dir ≡ Inward)
inward-more channels c mask new y r small l is e says each d x below at = ⊎_elim
    (λ (here : d ≡ c).
    let own : y ≡ x = same_Some y x (sym (slice_get_read channels (length channels) c y refl l is) ∙ ap (slice_get channels) (sym here) ∙ at) in
    let bit : has new d ≡ r = ap (λ m. has m d) e ∙ ap (λ i. has (cond r 1 0 * 2 ^ c + mask) i) here ∙ top-bit r c mask small in (
      λ up. ap (λ (z : Channel). z.dir) (sym own) ∙ says.0 (sym bit ∙ up),
      λ dir. bit ∙ says.1 (ap (λ (z : Channel). z.dir) own ∙ dir),
    ))
    (λ (ne : d ≡ c → ⊥).
    let bit : has new d ≡ has mask d = ap (λ m. has m d) e ∙ other-bit r c mask d small ne in
    let was = each d x (omega (arith, below, ne)) at in (
      λ up. was.0 (sym bit ∙ up),
      λ dir. bit ∙ was.1 dir,
    ))
    (cases_eq d c)

-- a reset may come: told by the cursors
pub turn-said : (first feeder : Feeder) (past : List (List Row)) (here : List Row) (last : Row) → (stands : StandsBehind first feeder past here)
    → AreRuledStretches first.map.now (IsNextRow first) (IsTurn first) past here → IsLast (row_before here (length here)) last → (r : Bool)
    → ((r ≡ true) ↔ ((feeder.cursors.epoch < resets stands.trace.packets) × ((c : ℕ) → c < length stands.trace.channels
    → IsShownOf feeder.inward (epoch feeder.cursors.epoch stands.trace.packets) (done here) last c)))
    → (r ≡ true) ↔ TurnsBehind first.map.now.channels stands.trace.packets past here
turn-said first feeder past here last stands ruled last_is r says =
    turns-now first.map.now stands.trace.packets past here last (some-stretch first first.map.now refl stands.trace stands.encodes past here ruled)
    ruled.stable.last last_is feeder.cursors.epoch stands.at.epoch_is r (length stands.trace.channels) feeder.inward
    (ap length stands.at.same ∙ ap (λ (m : Map). length m.channels) stands.map) stands.kept.inward says
