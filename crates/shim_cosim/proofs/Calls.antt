-- What the calls of a shell over the top that records leave, where their slices are those of the shell.
use Rattle.std.proofs.Common.{◌≡◌, ℕ, ◌+◌, ◌<◌, ◌^◌, true, false, List, ◌++◌, Option, Some, None, length, take, replicate}
use Rattle.std.proofs.Common.{refl, sym, ap, subst, ◌∙◌, arith}
use Rattle.std.specs.Prelude.{MatchOption}
use Rattle.std.specs.List.{refill}
use Rattle.vlog_tree.specs.Tree.{FileOf}
use Rattle.net_design.specs.declared.design.Design.{Design}
use Rattle.net_design.specs.declared.values.Values.{Values}
use Rattle.net_design.specs.Lawful.{IsState}
use Rattle.net_design.specs.Pins.{outputs}
use Rattle.net_design.specs.Settled.{IsSettled, initial}
use Rattle.replay_run.specs.trace_model.declared.channel.Channel.{Channel}
use Rattle.replay_run.specs.trace_model.declared.row.Offers.{Offers}
use Rattle.replay_run.specs.trace_model.declared.row.Row.{Row}
use Rattle.replay_run.specs.trace_model.Row.{AreOffers}
use Rattle.replay_run.specs.chan_map.declared.pins.Map.{Map}
use Rattle.replay_run.specs.chan_map.declared.pins.Reset.{Reset}
use Rattle.replay_run.specs.run_model.Offers.{AreZeroWhileDown}
use Rattle.replay_run.specs.run_model.Step.{IsAfter, IsFirst}
use Rattle.replay_run.specs.chan_monitor.Entering.{offered}
use Rattle.replay_run.specs.chan_monitor.Shell.{IsRunning, IsShown}
use Rattle.replay_run.proofs.chan_monitor_lemmas.RowOfCycle.{refill-is}
use Rattle.std.proofs.lemmas.List.{length-take-le, take_at}
use Rattle.shim_gen.specs.shim_trees.RecordTop.{record_name}
use Rattle.shim_gen.specs.shim_trees.Wrapped.{ports_in, module_named}
use Rattle.shim_cosim.specs.Top.{IsTopDesign, IsWrapOf}
use Rattle.shim_cosim.specs.Held.{held_inputs}
use Rattle.shim_cosim.specs.Recorded.{inputs_count, row_inputs, IsMadeRow}
use Rattle.shim_cosim.specs.Recording.{IsRecording, IsRecorded}
use Rattle.shim_cosim.proofs.Shells.{driven_on, cycled, restarted, begun, runs_on}

-- how many cycles the reset has
cycles_in : (o : Option Reset) → (n : ℕ) × MatchOption o (n ≡ 0) (λ (r : Reset). n ≡ r.cycles)
cycles_in None = (0, refl)
cycles_in (Some r) = (r.cycles, refl)

-- the shell's pins are lent and filled again
module _ (whole e : Design) (state u : Values) (a : Map) (first : ℕ) (pins lent now resets xs : List ℕ) where
  pub still_runs : (d : Design) (s : Values) (before : Option Row) → e ≡ whole → u ≡ state → lent ≡ pins → now ≡ take first lent ++ xs
      → length now ≡ length lent → IsRecording whole state a first pins resets d s before
      → IsRecording e u a first (refill (length pins) pins now) resets d s before
  still_runs d s before same kept is made long on =
      let n : length now ≡ length pins = long ∙ ap length is in
      let all : refill (length pins) pins now ≡ now = refill-is pins now n in
      driven_on on e u xs (refill (length pins) pins now) same kept (all ∙ made ∙ ap (λ ps. take first ps ++ xs) is) (ap length all ∙ n)

  pub still_running : e ≡ whole → u ≡ state → lent ≡ pins → now ≡ take first lent ++ xs → length now ≡ length lent
      → ∥ IsRunning (IsRecording whole state a first pins resets) ∥₁ → ∥ IsRunning (IsRecording e u a first (refill (length pins) pins now) resets) ∥₁
  still_running same kept is made long known =
      runs_on (IsRecording whole state a first pins resets) (IsRecording e u a first (refill (length pins) pins now) resets)
      (λ d s before on. (d, s, before, still_runs d s before same kept is made long on)) known

pub row_shown : (whole e : Design) (state : Values) (a : Map) (first : ℕ) (pins lent now resets : List ℕ) (d : Design) (s : Values)
    (before : Option Row) → IsState whole state → lent ≡ pins → e ≡ whole → (v : Values) → IsSettled whole state now v → (offers : Offers)
    (gates : ℕ) → AreOffers a.channels offers → AreZeroWhileDown a.channels offers → gates < 2 ^ length a.channels
    → now ≡ take first lent ++ row_inputs a.channels (offered gates offers) → (row : Row)
    → IsMadeRow a.channels offers gates (outputs e v) row → IsRecording whole state a first pins resets d s before
    → IsShown d a s before offers gates row
row_shown whole e state a first pins lent now resets d s before is same e_is v settled offers gates are zeros below made row filled on =
    (cycled on is settled offers gates are zeros below (made ∙ ap (λ ps. take first ps ++ row_inputs a.channels (offered gates offers)) same)
    row (subst (λ z. IsMadeRow a.channels offers gates (outputs z v) row) e_is filled)).shown

pub is_recorded : (whole e : Design) (state u : Values) (a : Map) (first : ℕ) (pins lent now inputs : List ℕ)
    → length pins ≡ first + inputs_count a.channels → lent ≡ pins → e ≡ whole → u ≡ state → inputs ≡ now → length now ≡ length lent
    → (v : Values) → IsSettled whole state now v → (offers : Offers) (gates : ℕ) → AreOffers a.channels offers
    → AreZeroWhileDown a.channels offers → gates < 2 ^ length a.channels → now ≡ take first lent ++ row_inputs a.channels (offered gates offers)
    → (row : Row) → IsMadeRow a.channels offers gates (outputs e v) row
    → IsRecorded e u inputs v a first (refill (length pins) pins now) row
is_recorded whole e state u a first pins lent now inputs count same e_is u_is in_is long v settled offers gates are zeros below made row filled =
    let xs = row_inputs a.channels (offered gates offers) in
    let n : length now ≡ length pins = long ∙ ap length same in
    let all : refill (length pins) pins now ≡ now = refill-is pins now n in
    let there : now ≡ take first pins ++ xs = made ∙ ap (λ ps. take first ps ++ xs) same in
    let front : take first (refill (length pins) pins now) ≡ take first pins =
    ap (take first) (all ∙ there) ∙ take_at (take first pins) xs first (length-take-le first pins (omega (arith, count))) in
    record {
      offers = offers;
      gates = gates;
      are = are;
      zeros = zeros;
      below = below;
      entered = in_is ∙ there ∙ ap (λ ps. ps ++ xs) (sym front);
      settled =
          subst (λ z. IsSettled z u inputs v) (sym e_is)
          (subst (λ z. IsSettled whole z inputs v) (sym u_is) (subst (λ z. IsSettled whole state z v) (sym in_is) settled));
      made = filled;
    }

pub reset_runs : (whole e : Design) (state u : Values) (a : Map) (first : ℕ) (pins resets lent : List ℕ) (d : Design) (s : Values)
    (before : Option Row) → lent ≡ resets → e ≡ whole
    → ((n : ℕ) → MatchOption a.reset (n ≡ 0) (λ (r : Reset). n ≡ r.cycles) → IsAfter whole lent n (initial whole) u)
    → IsRecording whole state a first pins resets d s before
    → (start : Values) × IsFirst d a start × IsRecording e u a first pins resets d start None
reset_runs whole e state u a first pins resets lent d s before same e_is goes on =
    let k = cycles_in a.reset in
    restarted on k.0 k.1 e u e_is (subst (λ ps. IsAfter whole ps k.0 (initial whole) u) same (goes k.0 k.1))

-- a new one, whose channels are lent
pub new_runs : {w f : FileOf ℕ} {a : Map} {d : Design} (h : IsWrapOf w f a d) {whole : Design} (top : IsTopDesign w record_name whole)
    (channels : List Channel) (state : Values) (first : ℕ) (pins resets fixed others : List ℕ) → channels ≡ a.channels
    → state ≡ initial whole → first ≡ length fixed → fixed ≡ held_inputs a false (ports_in (module_named w.modules a.top))
    → pins ≡ fixed ++ replicate (inputs_count channels) 0 → others ≡ held_inputs a true (ports_in (module_named w.modules a.top))
    → resets ≡ others ++ replicate (inputs_count channels) 0 → IsRecording whole state a first pins resets d (initial d) None
new_runs {w} {f} {a} {d} h {whole} top channels state first pins resets fixed others same e count are all is rest =
    begun h top state first pins resets fixed e count are
    (all ∙ ap (λ (xs : List Channel). fixed ++ replicate (inputs_count xs) 0) same)
    (rest ∙ ap (λ (xs : List Channel). others ++ replicate (inputs_count xs) 0) same
    ∙ ap (λ (xs : List ℕ). xs ++ replicate (inputs_count a.channels) 0) is)
