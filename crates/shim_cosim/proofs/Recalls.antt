-- What the calls of a shell over the top that replays leave, where their slices are those of the shell.
use Rattle.std.proofs.Common.{◌≡◌, ℕ, ◌+◌, ◌≤◌, Bool, List, [], ◌++◌, Option, Some, None, length, take, refl, sym, ap, subst, ◌∙◌, arith}
use Rattle.std.specs.Prelude.{MatchOption}
use Rattle.std.specs.List.{refill}
use Rattle.std.proofs.lemmas.List.{length-take-le, take_at}
use Rattle.net_design.specs.declared.design.Design.{Design}
use Rattle.net_design.specs.declared.values.Values.{Values}
use Rattle.net_design.specs.Lawful.{IsState}
use Rattle.net_design.specs.Pins.{outputs}
use Rattle.net_design.specs.Settled.{IsSettled, initial}
use Rattle.replay_run.specs.trace_model.declared.row.Row.{Row}
use Rattle.replay_run.specs.trace_model.declared.packet.TheConstants.{MOST_CYCLES}
use Rattle.replay_run.specs.trace_model.Row.{IsOver}
use Rattle.replay_run.specs.chan_map.declared.pins.Map.{Map}
use Rattle.replay_run.specs.chan_map.declared.pins.Reset.{Reset}
use Rattle.replay_run.specs.run_model.Step.{IsAfter, IsFirst}
use Rattle.replay_run.proofs.chan_monitor_lemmas.RowOfCycle.{refill-is}
use Rattle.replay_run.specs.chan_replayer.declared.feed.Feed.{Feed}
use Rattle.replay_run.specs.chan_replayer.Feed.{IsFeedOver}
use Rattle.replay_run.specs.chan_replayer.Shell.{IsRunning, IsShown}
use Rattle.shim_cosim.specs.Rewrapped.{inputs_count, feed_inputs, replay_row, flight_of}
use Rattle.shim_cosim.specs.Replaying.{IsReplaying, IsReplayed}
use Rattle.shim_cosim.proofs.Rerun.{driven_on, running_on, shown, known_over, reset_on, running_again}

-- how many cycles the reset has
cycles_in : (o : Option Reset) → (n : ℕ) × MatchOption o (n ≡ 0) (λ (r : Reset). n ≡ r.cycles)
cycles_in None = (0, refl)
cycles_in (Some r) = (r.cycles, refl)

-- the shell's pins are lent and filled again
module _ (whole e : Design) (state u : Values) (a : Map) (first : ℕ) (pins lent now resets xs : List ℕ) (flight cycles : ℕ) where
  pub still_runs : (d : Design) (s : Values) (rows : List Row) → e ≡ whole → u ≡ state → lent ≡ pins → now ≡ take first lent ++ xs
      → length now ≡ length lent → IsReplaying whole state a first pins resets flight cycles d s rows
      → IsReplaying e u a first (refill (length pins) pins now) resets flight cycles d s rows
  still_runs d s rows same kept is made long on =
      let n : length now ≡ length pins = long ∙ ap length is in
      let all : refill (length pins) pins now ≡ now = refill-is pins now n in
      driven_on whole e state u a first pins (refill (length pins) pins now) resets xs flight cycles same kept
      (all ∙ made ∙ ap (λ ps. take first ps ++ xs) is) (ap length all ∙ n) d s rows on

  pub still_running : e ≡ whole → u ≡ state → lent ≡ pins → now ≡ take first lent ++ xs → length now ≡ length lent
      → ∥ IsRunning (IsReplaying whole state a first pins resets flight cycles) ∥₁
      → ∥ IsRunning (IsReplaying e u a first (refill (length pins) pins now) resets flight cycles) ∥₁
  still_running same kept is made long known =
      let n : length now ≡ length pins = long ∙ ap length is in
      let all : refill (length pins) pins now ≡ now = refill-is pins now n in
      running_on whole e state u a first pins (refill (length pins) pins now) resets xs flight cycles same kept
      (all ∙ made ∙ ap (λ ps. take first ps ++ xs) is) (ap length all ∙ n) known

pub row_shown : (whole e : Design) (state : Values) (a : Map) (first : ℕ) (pins lent now resets : List ℕ) (flight cycles : ℕ) (d : Design)
    (s : Values) (rows : List Row) → cycles ≤ MOST_CYCLES → IsState whole state → lent ≡ pins → e ≡ whole → (v : Values)
    → IsSettled whole state now v → (feed : Feed) → IsFeedOver a.channels feed → now ≡ take first lent ++ feed_inputs a.channels feed
    → (fresh : Bool) (row : Row) → row ≡ replay_row a.channels fresh flight feed (outputs e v)
    → IsReplaying whole state a first pins resets flight cycles d s rows → IsShown d a s rows feed row
row_shown whole e state a first pins lent now resets flight cycles d s rows few is same e_is v settled feed over made fresh row filled on =
    subst (λ (r : Row). IsShown d a s rows feed r) (sym (filled ∙ ap (λ z. replay_row a.channels fresh flight feed (outputs z v)) e_is))
    (shown on few is feed over (made ∙ ap (λ ps. take first ps ++ feed_inputs a.channels feed) same) settled fresh)

pub row_over : (whole e : Design) (state : Values) (a : Map) (first : ℕ) (pins lent now resets : List ℕ) (flight cycles : ℕ)
    → cycles ≤ MOST_CYCLES → IsState whole state → lent ≡ pins → e ≡ whole → (v : Values)
    → IsSettled whole state now v → (feed : Feed) → IsFeedOver a.channels feed → now ≡ take first lent ++ feed_inputs a.channels feed
    → (fresh : Bool) (row : Row) → row ≡ replay_row a.channels fresh flight feed (outputs e v)
    → ∥ IsRunning (IsReplaying whole state a first pins resets flight cycles) ∥₁ → IsOver a.channels row
row_over whole e state a first pins lent now resets flight cycles few is same e_is v settled feed over made fresh row filled known =
    subst (IsOver a.channels) (sym (filled ∙ ap (λ z. replay_row a.channels fresh flight feed (outputs z v)) e_is))
    (known_over whole state a first pins resets flight cycles known few is now v feed over
    (made ∙ ap (λ ps. take first ps ++ feed_inputs a.channels feed) same) settled fresh)

pub is_replayed : (whole e : Design) (state u : Values) (a : Map) (first : ℕ) (pins lent now inputs : List ℕ) (flight : ℕ)
    → length pins ≡ first + inputs_count a.channels → lent ≡ pins → e ≡ whole → u ≡ state → inputs ≡ now → length now ≡ length lent
    → (v : Values) → IsSettled whole state now v → (feed : Feed) → IsFeedOver a.channels feed
    → now ≡ take first lent ++ feed_inputs a.channels feed → (fresh : Bool) (row : Row) → row ≡ replay_row a.channels fresh flight feed (outputs e v)
    → (next : ℕ) → next ≡ flight_of (length a.channels) row
    → IsReplayed e u inputs v a first (refill (length pins) pins now) flight (Some next) row
is_replayed whole e state u a first pins lent now inputs flight count same e_is u_is in_is long v settled feed over made fresh row filled next after =
    let xs = feed_inputs a.channels feed in
    let n : length now ≡ length pins = long ∙ ap length same in
    let all : refill (length pins) pins now ≡ now = refill-is pins now n in
    let there : now ≡ take first pins ++ xs = made ∙ ap (λ ps. take first ps ++ xs) same in
    let front : take first (refill (length pins) pins now) ≡ take first pins =
    ap (take first) (all ∙ there) ∙ take_at (take first pins) xs first (length-take-le first pins (omega (arith, count))) in
    record {
      feed = feed;
      over = over;
      entered = in_is ∙ there ∙ ap (λ ps. ps ++ xs) (sym front);
      settled =
          subst (λ z. IsSettled z u inputs v) (sym e_is)
          (subst (λ z. IsSettled whole z inputs v) (sym u_is) (subst (λ z. IsSettled whole state z v) (sym in_is) settled));
      shows = filled ∙ ap (λ b. replay_row a.channels b flight feed (outputs e v)) (sym (ap (λ (r : Row). r.fresh) filled));
      after = ap Some after;
    }

pub reset_runs : (whole e : Design) (state u : Values) (a : Map) (first : ℕ) (pins resets lent : List ℕ) (flight cycles : ℕ) (d : Design)
    (s : Values) (rows : List Row) → lent ≡ resets → e ≡ whole
    → ((n : ℕ) → MatchOption a.reset (n ≡ 0) (λ (r : Reset). n ≡ r.cycles) → IsAfter whole lent n (initial whole) u)
    → IsReplaying whole state a first pins resets flight cycles d s rows
    → (start : Values) × IsFirst d a start × IsReplaying e u a first pins resets 0 0 d start []
reset_runs whole e state u a first pins resets lent flight cycles d s rows same e_is goes on =
    let k = cycles_in a.reset in
    reset_on whole e state u a first pins resets flight cycles k.0 e_is k.1
    (subst (λ ps. IsAfter whole ps k.0 (initial whole) u) same (goes k.0 k.1)) d s rows on

pub reset_running : (whole e : Design) (state u : Values) (a : Map) (first : ℕ) (pins resets lent : List ℕ) (flight cycles : ℕ)
    → lent ≡ resets → e ≡ whole
    → ((n : ℕ) → MatchOption a.reset (n ≡ 0) (λ (r : Reset). n ≡ r.cycles) → IsAfter whole lent n (initial whole) u)
    → ∥ IsRunning (IsReplaying whole state a first pins resets flight cycles) ∥₁ → ∥ IsRunning (IsReplaying e u a first pins resets 0 0) ∥₁
reset_running whole e state u a first pins resets lent flight cycles same e_is goes known =
    let k = cycles_in a.reset in
    running_again whole e state u a first pins resets flight cycles k.0 e_is k.1
    (subst (λ ps. IsAfter whole ps k.0 (initial whole) u) same (goes k.0 k.1)) known
