-- A wrapped design that runs behind its replayers: what is known of it, and how it goes on.
use Rattle.std.proofs.Common.{◌≡◌, ℕ, ◌+◌, ◌<◌, ◌≤◌, ◌&&◌, not, Bool, true, false, List, [], ◌∷◌, ◌++◌, length}
use Rattle.std.proofs.Common.{Option, Some, refl, sym, ap, ◌∙◌, subst, arith, take, drop, replicate, ⊎_elim, if◌then◌else◌}
use Rattle.std.specs.Prelude.{MatchOption}
use Rattle.std.specs.List.{find, refill}
use Rattle.std.specs.Str.{bytes_eq}
use Rattle.std.proofs.Math.Logic.{∥∥₁_elim, ∥∥₁_map}
use Rattle.std.proofs.Props.{props}
use Rattle.std.proofs.lemmas.Bool.{cases_lt}
use Rattle.std.proofs.lemmas.List.{length_push, length-take-le, length-append, length-replicate, take_at, take-append-le, take_all}
use Rattle.std.proofs.lemmas.Option.{same_Some}
use Rattle.net_sim.specs.vidi_bits.Number.{has}
use Rattle.net_sim.proofs.vidi_bits_lemmas.BitLemmas.{has-above}
use Rattle.vlog_tree.specs.Tree.{ModuleOf, FileOf}
use Rattle.net_design.specs.declared.design.Design.{Design}
use Rattle.net_design.specs.declared.values.Values.{Values}
use Rattle.net_design.specs.Lawful.{IsState}
use Rattle.net_design.specs.Pins.{outputs, FitPins}
use Rattle.net_design.specs.Pins as pins
use Rattle.net_design.specs.Settled.{initial, next, IsSettled}
use Rattle.replay_run.specs.trace_model.declared.channel.Channel.{Channel}
use Rattle.replay_run.specs.trace_model.declared.row.Row.{Row}
use Rattle.replay_run.specs.trace_model.declared.packet.TheConstants.{MOST_CYCLES}
use Rattle.replay_run.specs.trace_model.Row.{row_before, flies_after, is_in_flight, IsOver}
use Rattle.replay_run.proofs.trace_model_lemmas.ContentsLemmas.{fit_prop}
use Rattle.replay_run.proofs.trace_model_lemmas.RowLemmas.{before-last}
use Rattle.net_sim.proofs.net_order_lemmas.OneMap.{has_one_map}
use Rattle.vlog_design.proofs.flat_parts_lemmas.Found.{no_twice}
use Rattle.replay_run.specs.chan_map.declared.pins.Map.{Map}
use Rattle.replay_run.specs.run_model.Played.{all_up}
use Rattle.replay_run.specs.run_model.Step.{IsAfter, IsFirst, IsStep}
use Rattle.replay_run.proofs.run_model_lemmas.PlayedLaws.{ports-are_nets}
use Rattle.replay_run.proofs.run_model_lemmas.Contents.{has-all, has-mask, mask-below}
use Rattle.replay_run.specs.chan_replayer.declared.feed.Feed.{Feed}
use Rattle.replay_run.specs.chan_replayer.Feed.{IsFeedOver}
use Rattle.replay_run.specs.chan_replayer.Shell.{GoesTo, IsRunning, IsShown}
use Rattle.vlog_design.specs.flat_parts.Meaning.{state_of}
use Rattle.shim_gen.specs.shim_trees.ReplayTop.{replay_name}
use Rattle.shim_gen.specs.shim_trees.Wrapped.{shims, ports_in, module_named, wrapped}
use Rattle.shim_step.specs.Wrapped.{IsWrapped, Counts}
use Rattle.shim_step.proofs.Files.{top_first}
use Rattle.shim_step.specs.Recording.{own_state}
use Rattle.shim_cosim.specs.Top.{IsRound, IsTopDesign, IsWrapOf}
use Rattle.shim_cosim.specs.Held.{held_inputs}
use Rattle.shim_cosim.specs.Rewrapped.{inputs_count, outputs_count, feed_inputs, replay_row, flight_of, AreSmallNeeds}
use Rattle.shim_cosim.specs.Replaying.{IsReplaying, IsReplayed}
use Rattle.shim_cosim.proofs.ReplayCycle as cycle

-- ---- what is known, where some design runs inside
over_prop : (a : Map) (row : Row) → IsProp (IsOver a.channels row)
over_prop a row = hlevel (props, fit_prop)

module _ (whole : Design) (state : Values) (a : Map) (first : ℕ) (now resets : List ℕ) (flight cycles : ℕ)
    (known : ∥ IsRunning (IsReplaying whole state a first now resets flight cycles) ∥₁) where
  abbrev Runs : Type 0
  Runs = IsRunning (IsReplaying whole state a first now resets flight cycles)

  pub known_few : length a.channels ≤ 128
  known_few = ∥∥₁_elim known (hlevel props) (λ (r : Runs). (let f = r.3.round.wrap.mapped.table.few in omega (arith, f)))

  pub known_long : length now ≡ first + inputs_count a.channels
  known_long = ∥∥₁_elim known (hlevel props) (λ (r : Runs). r.3.held.long)

  pub known_fit : (feed : Feed) → IsFeedOver a.channels feed → AreSmallNeeds a.channels feed → (xs : List ℕ)
      → xs ≡ take first now ++ feed_inputs a.channels feed → FitPins whole xs
  known_fit feed over small xs e =
      ∥∥₁_elim known (hlevel props) (λ (r : Runs).
      subst (FitPins whole) (sym (e ∙ ap (λ ys. ys ++ feed_inputs a.channels feed) r.3.held.held))
      (cycle.fed_pins_fit r.3.round feed over small))

  pub known_resets : FitPins whole resets
  known_resets =
      ∥∥₁_elim known (hlevel props) (λ (r : Runs). subst (FitPins whole) (sym r.3.held.reset) (cycle.reset_pins_fit r.3.round))

  pub known_many : pins.output_count whole ≡ outputs_count a.channels
  known_many = ∥∥₁_elim known (hlevel props) (λ (r : Runs). cycle.outputs_many r.3.round)

  pub known_shown : IsState whole state → (inputs : List ℕ) (v : Values) → IsSettled whole state inputs v
      → length (outputs whole v) ≡ outputs_count a.channels
  known_shown is_state inputs v settled =
      ∥∥₁_elim known (hlevel props) (λ (r : Runs).
      (cycle.outputs_are r.3.round r.3.full r.3.narrow r.3.state_is is_state settled).long)

-- ---- the row of a cycle
module _ {whole : Design} {state : Values} {a : Map} {first : ℕ} {now resets : List ℕ} {flight cycles : ℕ} {d : Design} {s : Values}
    {rows : List Row} (is : IsReplaying whole state a first now resets flight cycles d s rows) (few : cycles ≤ MOST_CYCLES)
    (is_state : IsState whole state) {inputs : List ℕ} {v : Values} (feed : Feed) (over : IsFeedOver a.channels feed)
    (entered : inputs ≡ take first now ++ feed_inputs a.channels feed) (settled : IsSettled whole state inputs v) where
  short : length rows ≤ MOST_CYCLES
  short = (let m = is.many in omega (arith, m, few))

  entered_is : inputs ≡ held_inputs a false is.tree.ports ++ feed_inputs a.channels feed
  entered_is = entered ∙ ap (λ ys. ys ++ feed_inputs a.channels feed) is.held.held

  pub shown : (fresh : Bool) → IsShown d a s rows feed (replay_row a.channels fresh flight feed (outputs whole v))
  shown fresh =
      subst (λ (t : Values). IsShown d a t rows feed (replay_row a.channels fresh flight feed (outputs whole v))) is.own
      (cycle.shown is.round is.full is.narrow is.state_is is_state settled rows short is.counts feed over entered_is flight is.flies fresh)

pub known_over : (whole : Design) (state : Values) (a : Map) (first : ℕ) (now resets : List ℕ) (flight cycles : ℕ)
    → ∥ IsRunning (IsReplaying whole state a first now resets flight cycles) ∥₁ → cycles ≤ MOST_CYCLES → IsState whole state
    → (inputs : List ℕ) (v : Values)
    (feed : Feed) → IsFeedOver a.channels feed → inputs ≡ take first now ++ feed_inputs a.channels feed → IsSettled whole state inputs v
    → (fresh : Bool) → IsOver a.channels (replay_row a.channels fresh flight feed (outputs whole v))
known_over whole state a first now resets flight cycles known few is_state inputs v feed over entered settled fresh =
    ∥∥₁_elim known (over_prop a (replay_row a.channels fresh flight feed (outputs whole v)))
    (λ (r : IsRunning (IsReplaying whole state a first now resets flight cycles)). (shown r.3 few is_state feed over entered settled fresh).over)

-- ---- a cycle that is driven
pub refill_is : {X : Type 0} (xs ys : List X) → length ys ≡ length xs → refill (length xs) xs ys ≡ ys
refill_is xs ys e =
    take-append-le (length xs) ys (drop (length ys) xs) (omega (arith, e))
    ∙ take_all (length xs) ys (omega (arith, e))

-- the first inputs stay
front_stays : (first : ℕ) (now new xs : List ℕ) (count : ℕ) → length now ≡ first + count → new ≡ take first now ++ xs → take first new ≡ take first now
front_stays first now new xs count long e =
    ap (take first) e ∙ take_at (take first now) xs first (length-take-le first now (omega (arith, long)))

pub driven_on : (whole later : Design) (state same : Values) (a : Map) (first : ℕ) (now new resets xs : List ℕ) (flight cycles : ℕ)
    → later ≡ whole → same ≡ state → new ≡ take first now ++ xs → length new ≡ length now → (d : Design) (s : Values) (rows : List Row)
    → IsReplaying whole state a first now resets flight cycles d s rows → IsReplaying later same a first new resets flight cycles d s rows
driven_on whole later state same a first now new resets xs flight cycles e f n long d s rows is = record {
  file = is.file;
  tree = is.tree;
  round = subst (λ (u : Design). IsRound replay_name u is.file a is.tree d) (sym e) is.round;
  held = record {
    held = front_stays first now new xs (inputs_count a.channels) is.held.long n ∙ is.held.held;
    long = long ∙ is.held.long;
    reset = is.held.reset;
  };
  full = is.full;
  narrow = is.narrow;
  state_is = ap (λ (u : Design). state_of u is.full) e ∙ is.state_is ∙ sym f;
  own = is.own;
  counts = is.counts;
  flies = is.flies;
  many = is.many;
}

pub running_on : (whole later : Design) (state same : Values) (a : Map) (first : ℕ) (now new resets xs : List ℕ) (flight cycles : ℕ)
    → later ≡ whole → same ≡ state → new ≡ take first now ++ xs → length new ≡ length now
    → ∥ IsRunning (IsReplaying whole state a first now resets flight cycles) ∥₁
    → ∥ IsRunning (IsReplaying later same a first new resets flight cycles) ∥₁
running_on whole later state same a first now new resets xs flight cycles e f n long known =
    ∥∥₁_map known (λ (r : IsRunning (IsReplaying whole state a first now resets flight cycles)).
    (r.0, r.1, r.2, driven_on whole later state same a first now new resets xs flight cycles e f n long r.0 r.1 r.2 r.3))

-- ---- the channels in flight
all_up_bit : (v g r : Bool) → g ≡ true → (v && not r) ≡ ((v && g) && not ((v && g) && r))
all_up_bit true true true e = refl
all_up_bit true true false e = refl
all_up_bit false true r e = refl
all_up_bit true false r e = (cc)
all_up_bit false false r e = refl

none_up : (v g r : Bool) → v ≡ false → false ≡ ((v && g) && not ((v && g) && r))
none_up true g r e = (cc)
none_up false g r e = refl

pub flight_after : (a : Map) (row : Row) → IsOver a.channels row → row.gates ≡ all_up a.channels → (c : ℕ)
    → has (flight_of (length a.channels) row) c ≡ is_in_flight row c
flight_after a row over gates c =
    let n = length a.channels in
    ⊎_elim
    (λ (l : c < n).
    has-mask (λ c. has row.valids c && not (has row.readies c)) n c l
    ∙ all_up_bit (has row.valids c) (has row.gates c) (has row.readies c) (ap (λ m. has m c) gates ∙ has-all n c l))
    (λ (l : n ≤ c).
    has-above (flight_of n row) n c (mask-below (λ c. has row.valids c && not (has row.readies c)) n) l
    ∙ none_up (has row.valids c) (has row.gates c) (has row.readies c) (has-above row.valids n c over.valids l))
    (cases_lt c n)

-- ---- the clock
pub clocked_on : (whole later : Design) (state after v : Values) (inputs : List ℕ) (a : Map) (first : ℕ) (now resets : List ℕ)
    (flight cycles new more : ℕ) (last : Option ℕ) (row : Row) → later ≡ whole → cycles ≤ MOST_CYCLES → IsState whole state
    → IsReplayed whole state inputs v a first now flight last row → last ≡ Some new → after ≡ next whole v state → more ≡ cycles + 1
    → (d : Design) (s : Values) (rows : List Row) → IsReplaying whole state a first now resets flight cycles d s rows
    → GoesTo (λ e t us. IsReplaying later after a first now resets new more e t us) d a s rows row
clocked_on whole later state after v inputs a first now resets flight cycles new more last row e few is_state driven l n m d s rows is =
    let feed = driven.feed in
    let entered = entered_is is few is_state feed driven.over driven.entered driven.settled in
    let goes = cycle.goes_on is.round is.full is.narrow is.state_is is_state driven.settled in
    let step = cycle.stepped is.round is.full is.narrow is.state_is is_state driven.settled rows
    (short is few is_state feed driven.over driven.entered driven.settled) is.counts feed driven.over entered flight is.flies row.fresh in
    let row_shown : IsShown d a s rows feed row =
    subst (λ (r : Row). IsShown d a s rows feed r) (sym driven.shows) (shown is few is_state feed driven.over driven.entered driven.settled row.fresh) in
    let so : IsStep d a s row (own_state d goes.full) =
    subst (λ (t : Values). IsStep d a t row (own_state d goes.full)) is.own
    (subst (λ (r : Row). IsStep d a (own_state d is.full) r (own_state d goes.full)) (sym driven.shows) step.0) in
    let flying : new ≡ flight_of (length a.channels) row =
    same_Some new (flight_of (length a.channels) row) (sym l ∙ driven.after) in (
      own_state d goes.full,
      so,
      record {
        file = is.file;
        tree = is.tree;
        round = subst (λ (u : Design). IsRound replay_name u is.file a is.tree d) (sym e) is.round;
        held = is.held;
        full = goes.full;
        narrow = goes.narrow;
        state_is = ap (λ (u : Design). state_of u goes.full) e ∙ goes.is ∙ sym n;
        own = refl;
        counts = subst (λ (r : Row). Counts a (rows ++ r ∷ []) goes.full) (sym driven.shows) step.1;
        flies = λ c.
            ap (λ f. has f c) flying ∙ flight_after a row row_shown.over row_shown.gates_are c
            ∙ ap (λ b. flies_after b c) (sym (before-last rows row));
        many = (let p = length_push rows row in let q = is.many in omega (arith, p, q, m));
      },
    )

-- ---- a reset
none_flies : (c : ℕ) → has 0 c ≡ flies_after (row_before [] 0) c
none_flies c = has-above 0 0 c (omega arith) (omega arith)

pub reset_on : (whole later : Design) (state after : Values) (a : Map) (first : ℕ) (now resets : List ℕ) (flight cycles many : ℕ)
    → later ≡ whole → MatchOption a.reset (many ≡ 0) (λ r. many ≡ r.cycles) → IsAfter whole resets many (initial whole) after
    → (d : Design) (s : Values) (rows : List Row) → IsReplaying whole state a first now resets flight cycles d s rows
    → (t : Values) × IsFirst d a t × IsReplaying later after a first now resets 0 0 d t []
reset_on whole later state after a first now resets flight cycles many e m goes d s rows is =
    let b = (cycle.all_reset is.round many after (subst (λ ps. IsAfter whole ps many (initial whole) after) is.held.reset goes)).0 in (
      own_state d b.full,
      cycle.first is.round many m (own_state d b.full) b.after,
      record {
        file = is.file;
        tree = is.tree;
        round = subst (λ (u : Design). IsRound replay_name u is.file a is.tree d) (sym e) is.round;
        held = is.held;
        full = b.full;
        narrow = b.narrow;
        state_is = ap (λ (u : Design). state_of u b.full) e ∙ b.is;
        own = refl;
        counts = b.counts;
        flies = none_flies;
        many = refl;
      },
    )

pub running_again : (whole later : Design) (state after : Values) (a : Map) (first : ℕ) (now resets : List ℕ) (flight cycles many : ℕ)
    → later ≡ whole → MatchOption a.reset (many ≡ 0) (λ r. many ≡ r.cycles) → IsAfter whole resets many (initial whole) after
    → ∥ IsRunning (IsReplaying whole state a first now resets flight cycles) ∥₁ → ∥ IsRunning (IsReplaying later after a first now resets 0 0) ∥₁
running_again whole later state after a first now resets flight cycles many e m goes known =
    ∥∥₁_map known (λ (r : IsRunning (IsReplaying whole state a first now resets flight cycles)).
    (let n = reset_on whole later state after a first now resets flight cycles many e m goes r.0 r.1 r.2 r.3 in (r.0, n.0, [], n.2)))

pub running_clocked : (whole later : Design) (state after v : Values) (inputs : List ℕ) (a : Map) (first : ℕ) (now resets : List ℕ)
    (flight cycles new more : ℕ) (last : Option ℕ) (row : Row) → later ≡ whole → cycles ≤ MOST_CYCLES → IsState whole state
    → IsReplayed whole state inputs v a first now flight last row → last ≡ Some new → after ≡ next whole v state → more ≡ cycles + 1
    → ∥ IsRunning (IsReplaying whole state a first now resets flight cycles) ∥₁
    → ∥ IsRunning (IsReplaying later after a first now resets new more) ∥₁
running_clocked whole later state after v inputs a first now resets flight cycles new more last row e few is_state driven l n m known =
    ∥∥₁_map known (λ (r : IsRunning (IsReplaying whole state a first now resets flight cycles)).
    (let g = clocked_on whole later state after v inputs a first now resets flight cycles new more last row e few is_state driven l n m r.0 r.1 r.2 r.3 in
    (r.0, g.0, r.2 ++ row ∷ [], g.2)))

-- ---- a new one
find_if : {X : Type 0} (b : Bool) (z x : X) (o p : Option X) → (o ≡ Some x → p ≡ Some x) → (if b then Some z else o) ≡ Some x
    → (if b then Some z else p) ≡ Some x
find_if true z x o p more h = h
find_if false z x o p more h = more h

find_left : {X : Type 0} (test : X → Bool) (xs ys : List X) (x : X) → find test xs ≡ Some x → find test (xs ++ ys) ≡ Some x
find_left test [] ys x e = absurd (cc)
find_left test (z ∷ xs) ys x e = find_if (test z) z x (find test xs) (find test (xs ++ ys)) (find_left test xs ys x) e

module _ {w f : FileOf ℕ} {a : Map} {d : Design} (h : IsWrapOf w f a d) {whole : Design} (top : IsTopDesign w replay_name whole) where
  there : IsTopDesign (wrapped f a) replay_name whole
  there = subst (λ z. IsTopDesign z replay_name whole) h.tree top

  wrap : IsWrapped f a h.design.top d
  wrap = record {
    top = h.design.named;
    built = h.design.built;
    means = h.design.means;
    lawful = h.design.lawful;
    mapped = h.mapped;
    once = no_twice (wrapped f a) replay_name there.clear.0;
  }

  round : IsRound replay_name whole f a h.design.top d
  round = record {
    wrap = wrap;
    mapped = record {
      one_map = has_one_map d h.design.lawful h.order.0 h.order.1;
      nets = ports-are_nets d h.design.lawful;
      mapped = h.mapped;
    };
    top = there;
  }

  ports_same : ports_in (module_named w.modules a.top) ≡ h.design.top.ports
  ports_same =
      let first = top_first f a.top h.design.top h.design.named in
      ap (λ z. ports_in (module_named z.modules a.top)) h.tree
      ∙ ap ports_in (find_left (λ (x : ModuleOf ℕ). bytes_eq a.top x.name) f.modules (shims a (ports_in (module_named f.modules a.top)))
      h.design.top first.found)

  pub begun : (state : Values) (first : ℕ) (now resets held : List ℕ) → state ≡ initial whole → first ≡ length held
      → held ≡ held_inputs a false (ports_in (module_named w.modules a.top)) → now ≡ held ++ replicate (inputs_count a.channels) 0
      → resets ≡ held_inputs a true (ports_in (module_named w.modules a.top)) ++ replicate (inputs_count a.channels) 0
      → IsReplaying whole state a first now resets 0 0 d (initial d) []
  begun state first now resets held e count are all others =
      let b = cycle.begun round [] in
      record {
        file = f;
        tree = h.design.top;
        round = round;
        held = record {
          held = ap (take first) all ∙ take_at held (replicate (inputs_count a.channels) 0) first (sym count) ∙ are
              ∙ ap (held_inputs a false) ports_same;
          long = ap length all ∙ length-append held (replicate (inputs_count a.channels) 0)
              ∙ (let z = length-replicate {A = ℕ} (inputs_count a.channels) 0 in
              let k : length held + length (replicate (inputs_count a.channels) 0) ≡ first + inputs_count a.channels = omega (arith, z, count) in k);
          reset = others ∙ ap (λ ps. held_inputs a true ps ++ replicate (inputs_count a.channels) 0) ports_same;
        };
        full = b.full;
        narrow = b.narrow;
        state_is = b.is ∙ sym e;
        own = b.after;
        counts = b.counts;
        flies = none_flies;
        many = refl;
      }

-- a new one, whose channels are lent
pub new_runs : {w f : FileOf ℕ} {a : Map} {d : Design} (h : IsWrapOf w f a d) {whole : Design} (top : IsTopDesign w replay_name whole)
    (channels : List Channel) (state : Values) (first : ℕ) (now resets held others : List ℕ) → channels ≡ a.channels
    → state ≡ initial whole → first ≡ length held → held ≡ held_inputs a false (ports_in (module_named w.modules a.top))
    → now ≡ held ++ replicate (inputs_count channels) 0 → others ≡ held_inputs a true (ports_in (module_named w.modules a.top))
    → resets ≡ others ++ replicate (inputs_count channels) 0 → IsReplaying whole state a first now resets 0 0 d (initial d) []
new_runs {w} {f} {a} {d} h {whole} top channels state first now resets held others same e count are all is rest =
    begun h top state first now resets held e count are
    (all ∙ ap (λ (xs : List Channel). held ++ replicate (inputs_count xs) 0) same)
    (rest ∙ ap (λ (xs : List Channel). others ++ replicate (inputs_count xs) 0) same
    ∙ ap (λ (xs : List ℕ). xs ++ replicate (inputs_count a.channels) 0) is)
