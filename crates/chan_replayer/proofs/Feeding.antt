-- A shell behind replayers does a replay's rows.
use Rattle.std.proofs.Common.{◌≡◌, ℕ, zero, suc, ◌+◌, ◌^◌, ◌<◌, Bool, true, false, cond, List, [], ◌∷◌, ◌++◌, Option, None, Some, length, replicate, slice_get, get_or}
use Rattle.std.proofs.Common.{refl, sym, ap, subst, ◌∙◌, arith, ⊎_elim}
use Rattle.std.specs.Int.{bit_at}
use Rattle.std.specs.Prelude.{◌↔◌}
use Rattle.std.proofs.Math.Logic.{∥∥₁_elim, ∥∥₁_map}
use Rattle.std.proofs.Props.{props}
use Rattle.std.proofs.lemmas.Nat.{pow_pos}
use Rattle.std.proofs.lemmas.Bool.{cases_Bool, cond-true, cond-false}
use Rattle.vec_clock.specs.trace_model.declared.channel.Channel.{Channel}
use Rattle.vec_clock.specs.trace_model.declared.channel.Dir.{Dir}
use Rattle.vec_clock.specs.trace_model.declared.channel.Dir.TheVariants.{Inward, Outward}
use Rattle.vec_clock.specs.trace_model.declared.event.Kind.TheVariants.{End}
use Rattle.vec_clock.specs.trace_model.declared.row.Offers.{Offers}
use Rattle.vec_clock.specs.trace_model.declared.row.Row.{Row}
use Rattle.vec_clock.specs.vidi_bits.Number.{has}
use Rattle.vec_clock.specs.trace_model.Recording.{row_does}
use Rattle.vec_clock.specs.trace_model.Row.{content_at, row_before, IsOver}
use Rattle.vec_clock.proofs.trace_model_lemmas.CountingLemmas.{count-push}
use Rattle.vec_clock.proofs.trace_model_lemmas.ContentsLemmas.{fit_prop}
use Rattle.vec_clock.proofs.trace_model_lemmas.RowLemmas.{before-last}
use Rattle.vec_clock.proofs.trace_model_lemmas.MaskLemmas.{cond-has}
use Rattle.net_design.specs.declared.design.Design.{Design}
use Rattle.net_design.specs.declared.values.Values.{Values}
use Rattle.chan_monitor.specs.chan_map.declared.pins.Map.{Map}
use Rattle.chan_monitor.specs.Shell as shells
use Rattle.chan_monitor.specs.run_model.Offers.{no_content, CarriesOn}
use Rattle.chan_monitor.specs.run_model.Played.{all_up}
use Rattle.chan_monitor.specs.run_model.Replay.{done}
use Rattle.chan_monitor.specs.run_model.Step.{IsFirst, IsStep}
use Rattle.chan_replayer.specs.declared.feed.Feed.{Feed}
use Rattle.chan_replayer.specs.Fed.{AreFed, IsFedAround, IsFresh}
use Rattle.chan_replayer.specs.Feed.{IsFedOn, IsUp}
use Rattle.chan_replayer.specs.Shell.{GoesTo, IsRunning, IsShown}

-- ---- what is merely known
over_prop : (channels : List Channel) (row : Row) → IsProp (IsOver channels row)
over_prop channels row = hlevel (props, fit_prop)

pub over : (m given : Map) (runs : Design → Values → Option Row → Type 0) (offers : Offers) (gates : ℕ) (row : Row) → given ≡ m
    → ∥ shells.IsRunning runs ∥₁
    → ((d : Design) (s : Values) (before : Option Row) → runs d s before → shells.IsShown d given s before offers gates row)
    → IsOver m.channels row
over m given runs offers gates row same running shown =
    ∥∥₁_elim running (over_prop m.channels row) (λ (r : shells.IsRunning runs).
    subst (λ (b : Map). IsOver b.channels row) same (shown r.0 r.1 r.2 r.3).over)

-- ---- the gates
pub gates-below : (channels : List Channel) (gates : ℕ) → gates ≡ all_up channels → gates < 2 ^ length channels
gates-below channels gates is = let some = pow_pos (length channels) in omega (arith, is, some)

-- ---- before the first row
pub none-yet : (n : ℕ) (have : List ℕ) → have ≡ replicate n 0 → (c : ℕ) → get_or have c 0 ≡ 0
none-yet n have zeros c = ap (λ (xs : List ℕ). get_or xs c 0) zeros ∙ none n c
  where
    none : (n c : ℕ) → get_or (replicate {A = ℕ} n 0) c 0 ≡ 0
    none zero c = refl
    none (suc n) zero = refl
    none (suc n) (suc c) = none n c

pub fed-first : (runs : Design → Values → Option Row → Type 0) (n : ℕ) (have : List ℕ) (d : Design) (s : Values) → have ≡ replicate n 0
    → runs d s None → IsFedAround runs have d s []
fed-first runs n have d s zeros on = record {
  on = on;
  counts = λ c l. none-yet n have zeros c;
}

-- ---- what is offered
up-same : (n : ℕ) (feed : Feed) (have more : ℕ → ℕ) (c : ℕ) → ((d : ℕ) → d < n → have d ≡ more d) → IsUp n feed have c ↔ IsUp n feed more c
up-same n feed have more c same = (
  λ (u : IsUp n feed have c). (u.0, λ d l. (let e = same d l in let b = u.1 d l in omega (arith, e, b))),
  λ (u : IsUp n feed more c). (u.0, λ d l. (let e = same d l in let b = u.1 d l in omega (arith, e, b))),
)

along : {P : Type 0} (a b : Bool) → b ≡ a → ((a ≡ true) ↔ P) → (b ≡ true) ↔ P
along a b e p = (λ t. p.0 (sym e ∙ t), λ q. e ∙ p.1 q)

then : {P Q : Type 0} (a : Bool) → ((a ≡ true) ↔ P) → (P ↔ Q) → (a ≡ true) ↔ Q
then a p q = (λ t. q.0 (p.0 t), λ z. p.1 (q.1 z))

content-is : (channels : List Channel) (offers : Offers) (feed : Feed) (row : Row) (c : ℕ) → has row.valids c ≡ has offers.valids c
    → content_at channels row.contents c ≡ cond (has offers.valids c) (content_at channels offers.contents c) (no_content channels c)
    → (has offers.valids c ≡ true → content_at channels offers.contents c ≡ content_at channels feed.contents c)
    → content_at channels row.contents c ≡ cond (has row.valids c) (content_at channels feed.contents c) (no_content channels c)
content-is channels offers feed row c v is same = ⊎_elim
    (λ (t : has offers.valids c ≡ true).
    is ∙ cond-true (has offers.valids c) (content_at channels offers.contents c) (no_content channels c) t ∙ same t
    ∙ sym (cond-true (has row.valids c) (content_at channels feed.contents c) (no_content channels c) (v ∙ t)))
    (λ (f : has offers.valids c ≡ false).
    is ∙ cond-false (has offers.valids c) (content_at channels offers.contents c) (no_content channels c) f
    ∙ sym (cond-false (has row.valids c) (content_at channels feed.contents c) (no_content channels c) (v ∙ f)))
    (cases_Bool (has offers.valids c))

fed-on : (channels : List Channel) (offers : Offers) (feed : Feed) (have more : ℕ → ℕ) (row : Row) (c : ℕ) (x : Channel) (dir : Dir)
    → slice_get channels c ≡ Some x → x.dir ≡ dir → ((d : ℕ) → d < length channels → have d ≡ more d) → AreFed channels have feed offers
    → CarriesOn channels offers row c dir → IsFedOn channels feed more row c dir
fed-on channels offers feed have more row c x Inward at dir same fed carried = (
  then (has row.valids c) (along (has offers.valids c) (has row.valids c) carried.0 (fed.valid c x at dir))
      (up-same (length channels) feed have more c same),
  content-is channels offers feed row c carried.0 carried.1 (fed.content c x at dir),
)
fed-on channels offers feed have more row c x Outward at dir same fed carried =
    then (has row.readies c) (along (has offers.readies c) (has row.readies c) carried (fed.ready c x at dir))
    (up-same (length channels) feed have more c same)

pub shown : (d : Design) (m given : Map) (s : Values) (rows : List Row) (runs : Design → Values → Option Row → Type 0) (have : List ℕ)
    (feed : Feed) (offers : Offers) (gates : ℕ) (row : Row) → given ≡ m → length have ≡ length m.channels → gates ≡ all_up m.channels
    → AreFed m.channels (λ c. get_or have c 0) feed offers → IsFedAround runs have d s rows
    → shells.IsShown d given s (row_before rows (length rows)) offers gates row → IsShown d m s rows feed row
shown d m given s rows runs have feed offers gates row same long up fed around is0 =
    let is : shells.IsShown d m s (row_before rows (length rows)) offers gates row =
    subst (λ (b : Map). shells.IsShown d b s (row_before rows (length rows)) offers gates row) same is0 in
    record {
      over = is.over;
      marked = is.marked;
      fed = λ c x at. fed-on m.channels offers feed (λ k. get_or have k 0) (done rows) row c x x.dir at refl
          (λ k l. around.counts k (omega (arith, long, l))) fed (is.carries c x at);
      gates_are = is.gates_are ∙ up;
      after = is.after;
      step = is.step;
    }

-- ---- the next cycle
pub next : (d : Design) (m given : Map) (s : Values) (rows : List Row) (row : Row) (runs after_runs : Design → Values → Option Row → Type 0)
    (have new : List ℕ) (ends : ℕ) → given ≡ m → IsFedAround runs have d s rows → ends ≡ row.ends → length new ≡ length have
    → ((c : ℕ) → c < length have → get_or new c 0 ≡ get_or have c 0 + bit_at ends c)
    → ((after : Values) × IsStep d given s row after × after_runs d after (Some row)) → GoesTo (IsFedAround after_runs new) d m s rows row
next d m given s rows row runs after_runs have new ends same around e long each (after, step, on) = (
  after,
  subst (λ (b : Map). IsStep d b s row after) same step,
  record {
    on = subst (after_runs d after) (sym (before-last rows row)) on;
    counts = λ c l.
        (each c (omega (arith, long, l)) ∙ ap (λ k. k + bit_at ends c) (around.counts c (omega (arith, long, l)))
        ∙ ap (λ k. done rows c + bit_at k c) e ∙ ap (λ k. done rows c + k) (sym (cond-has row.ends c))
        ∙ sym (count-push (row_does End c) rows row));
  },
)

-- ---- that it runs
pub running-new : (runs : Design → Values → Option Row → Type 0) (n : ℕ) (have : List ℕ) → have ≡ replicate n 0 → ∥ IsFresh runs ∥₁
    → ∥ IsRunning (IsFedAround runs have) ∥₁
running-new runs n have zeros fresh =
    ∥∥₁_map fresh (λ (r : IsFresh runs). (r.0, r.1, [], fed-first runs n have r.0 r.1 zeros r.2))

pub running-first : (m : Map) (runs first_runs : Design → Values → Option Row → Type 0) (n : ℕ) (have zeroed : List ℕ)
    → zeroed ≡ replicate n 0
    → ((d : Design) (s : Values) (before : Option Row) → runs d s before → (first : Values) × IsFirst d m first × first_runs d first None)
    → ∥ IsRunning (IsFedAround runs have) ∥₁ → ∥ IsRunning (IsFedAround first_runs zeroed) ∥₁
running-first m runs first_runs n have zeroed zeros begins known =
    ∥∥₁_map known (λ (r : IsRunning (IsFedAround runs have)).
    (let first = begins r.0 r.1 (row_before r.2 (length r.2)) r.3.on in
    (r.0, first.0, [], fed-first first_runs n zeroed r.0 first.0 zeros first.2)))

pub running-shown : (runs shown_runs : Design → Values → Option Row → Type 0) (have : List ℕ)
    → ((d : Design) (s : Values) (before : Option Row) → runs d s before → shown_runs d s before)
    → ∥ IsRunning (IsFedAround runs have) ∥₁ → ∥ IsRunning (IsFedAround shown_runs have) ∥₁
running-shown runs shown_runs have goes_on known =
    ∥∥₁_map known (λ (r : IsRunning (IsFedAround runs have)).
    (r.0, r.1, r.2, record { on = goes_on r.0 r.1 (row_before r.2 (length r.2)) r.3.on; counts = r.3.counts }))

pub running-next : (m given : Map) (row : Row) (runs after_runs : Design → Values → Option Row → Type 0) (have new : List ℕ) (ends : ℕ)
    → given ≡ m → ends ≡ row.ends → length new ≡ length have
    → ((c : ℕ) → c < length have → get_or new c 0 ≡ get_or have c 0 + bit_at ends c)
    → ((d : Design) (s : Values) (before : Option Row) → runs d s before
    → (after : Values) × IsStep d given s row after × after_runs d after (Some row))
    → ∥ IsRunning (IsFedAround runs have) ∥₁ → ∥ IsRunning (IsFedAround after_runs new) ∥₁
running-next m given row runs after_runs have new ends same e long each steps known =
    ∥∥₁_map known (λ (r : IsRunning (IsFedAround runs have)).
    (let gone : GoesTo (IsFedAround after_runs new) r.0 m r.1 r.2 row =
    next r.0 m given r.1 r.2 row runs after_runs have new ends same r.3 e long each
    (steps r.0 r.1 (row_before r.2 (length r.2)) r.3.on) in
    (r.0, gone.0, r.2 ++ row ∷ [], gone.2)))
