-- Places that stand for rows, from one row to the next.
use Rattle.std.proofs.Common.{◌≡◌, ℕ, zero, suc, ◌+◌, ◌-◌, ◌<◌, ◌≤◌, ◌⊎◌, true, false, List, [], ◌∷◌, ◌++◌, length, get_or, set}
use Rattle.std.proofs.Common.{Some, None, refl, sym, ap, subst, ◌∙◌, arith, inl, inr, leb, ltb, length-append, replicate, take}
use Rattle.std.proofs.Common.{drop, append-nil}
use Rattle.std.specs.Prelude.{slice_get}
use Rattle.std.proofs.lemmas.Bool.{cases_lt}
use Rattle.std.proofs.lemmas.List.{get_or-replicate, length-replicate, get_or_read, get_or_past, drop_all, take_all}
use Rattle.std.proofs.lemmas.Option.{slice_get_within, slice_get_past, slice_get_cases}
use Rattle.run_model.specs.vidi_bits.Number.{has}
use Rattle.run_model.proofs.trace_model_lemmas.RowLaws.{flag}
use Rattle.run_model.specs.trace_model.declared.channel.Channel.{Channel}
use Rattle.run_model.specs.trace_model.declared.row.Row.{Row}
use Rattle.env_script.specs.declared.script.Step.{Step}
use Rattle.env_script.specs.declared.script.Step.TheVariants.{Send, Take, TakeAll, Wait, After}
use Rattle.env_script.specs.declared.script.Script.{Script}
use Rattle.env_script.specs.Fits.{steps_of, StepFits, FitsChannels}
use Rattle.env_script.specs.declared.place.Place.{Place}
use Rattle.env_script.specs.Offer.{EndsAreCompletions}
use Rattle.env_script.specs.ScriptOffer.{completions, is_over, first_cycle, reach_next, reach}
use Rattle.env_script.specs.Places.{AreCounts, IsAt, Waited, IsMoved, ArePlaces, StandsFor, over_now, ReadsWithin, AllReadWithin}
use Rattle.env_script.proofs.Counting.{first_hit, split, front, push, over_front}
use Rattle.env_script.proofs.Reach.{reach_by, reach_front}

-- ---- a step is over by the counts where it is over by the rows

more_than : (a b d : ℕ) → b ≡ a + d → ltb a b ≡ leb 1 d
more_than a b d e = grind arith

as_many : (n a b d : ℕ) → b ≡ a + d → leb n (b - a) ≡ leb n d
as_many n a b d e = let same : b - a ≡ d = omega arith in ap (leb n) same

as_long : (n q cycle : ℕ) → q ≤ cycle → leb n (cycle - q) ≡ leb (q + n) cycle
as_long n q cycle le = grind arith

over_by : (rows : List Row) (done : List ℕ) (c cycle : ℕ) (step : Step) (place : Place) → AreCounts rows done cycle → c < length done
    → ReadsWithin (length done) step → place.reached ≤ length rows
    → get_or done c 0 ≡ place.before + completions rows c place.reached (length rows)
    → over_now done c cycle step place ≡ is_over rows c step place.reached (length rows)
over_by rows done c cycle (Send content) place counts within reads by e = more_than place.before (get_or done c 0) _ e
over_by rows done c cycle (Take n) place counts within reads by e = as_many n place.before (get_or done c 0) _ e
over_by rows done c cycle TakeAll place counts within reads by e = refl
over_by rows done c cycle (Wait n) place counts within reads by e =
    as_long n place.reached cycle (omega (arith, by, counts.cycle_is)) ∙ ap (leb (place.reached + n)) counts.cycle_is
over_by rows done c cycle (After x n) place counts within reads by e = ap (leb n) (counts.each x reads)

pub over_is : (rows : List Row) (done : List ℕ) (c cycle : ℕ) (steps : List Step) (step : Step) (place : Place)
    → AreCounts rows done cycle → c < length done → ReadsWithin (length done) step
    → IsAt rows c steps place → over_now done c cycle step place ≡ is_over rows c step place.reached (length rows)
over_is rows done c cycle steps step place counts within reads at =
    over_by rows done c cycle step place counts within reads (reach_by rows c steps place.step place.reached at.reached)
    (counts.each c within ∙ split rows c place.reached (length rows) (reach_by rows c steps place.step place.reached at.reached)
    ∙ ap (λ n. n + completions rows c place.reached (length rows)) (sym at.before))

-- ---- the turn of the loop over steps

pub stays_at : (rows : List Row) (done : List ℕ) (c cycle : ℕ) (steps : List Step) (step : Step) (place : Place)
    → AreCounts rows done cycle → c < length done → ReadsWithin (length done) step
    → slice_get steps place.step ≡ Some step → over_now done c cycle step place ≡ false
    → IsAt rows c steps place → Waited rows c steps place cycle → IsMoved rows c steps cycle place
stays_at rows done c cycle steps step place counts within reads here unended at waited = record {
  at = at;
  waited = λ x is u from below.
      let same : step ≡ x = cc in
      elim (cases_lt u cycle) [
        | inl lt ↦ waited x is u from lt
        | inr ge ↦ let now : u ≡ length rows = omega (arith, counts.cycle_is) in
            ap (is_over rows c x place.reached) now
            ∙ ap (λ (y : Step). is_over rows c y place.reached (length rows)) (sym same)
            ∙ sym (over_is rows done c cycle steps step place counts within reads at) ∙ unended
      ];
}

pub goes_on : (rows : List Row) (done : List ℕ) (c cycle : ℕ) (steps : List Step) (step : Step) (place next : Place)
    → AreCounts rows done cycle → c < length done → ReadsWithin (length done) step
    → slice_get steps place.step ≡ Some step → over_now done c cycle step place ≡ true
    → next.step ≡ place.step + 1 → next.reached ≡ cycle → next.before ≡ get_or done c 0
    → IsAt rows c steps place → Waited rows c steps place cycle → IsAt rows c steps next × Waited rows c steps next cycle
goes_on rows done c cycle steps step place next counts within reads here over step_is reached_is before_is at waited =
    let q = place.reached in
    let by = reach_by rows c steps place.step q at.reached in
    let index : next.step ≡ suc place.step = omega (arith, step_is) in
    let now : next.reached ≡ length rows = reached_is ∙ counts.cycle_is in
    let hit : first_cycle (is_over rows c step q) q (suc (length rows) - q) ≡ Some (length rows) =
    first_hit (is_over rows c step q) q (suc (length rows) - q) (length rows)
    record {
      from = by;
      passes = sym (over_is rows done c cycle steps step place counts within reads at) ∙ over;
      first = λ u from below. waited step here u from (omega (arith, below, counts.cycle_is));
    } (omega (arith, by)) in (
      record {
        within = omega (arith, slice_get_within steps place.step step here, step_is);
        reached = ap (reach rows c steps) index ∙ ap (λ o. reach_next rows c o (reach rows c steps place.step)) here
            ∙ ap (reach_next rows c (Some step)) at.reached ∙ hit ∙ ap Some (sym now);
        before = before_is ∙ counts.each c within ∙ ap (completions rows c 0) (sym now);
      },
      λ x is u from below. absurd (omega (arith, reached_is)),
    )

pub ends_at : (rows : List Row) (c cycle : ℕ) (steps : List Step) (place : Place) → length steps ≤ place.step
    → IsAt rows c steps place → IsMoved rows c steps cycle place
ends_at rows c cycle steps place past at = record {
  at = at;
  waited = λ x is u from below. let off : None ≡ Some x = sym (slice_get_past steps place.step past) ∙ is in absurd (cc);
}

-- ---- the turn of the loop over channels

-- the steps of a channel, as they are read
pub steps_are : (script : Script) (lists : List (List Step)) (c : ℕ) (x steps : List Step) → lists ≡ script.steps → c < length lists
    → x ≡ get_or lists c x → steps ≡ x → steps ≡ steps_of script c
steps_are script lists c x steps lists_are within is steps_is =
    steps_is ∙ get_or_read lists c x within is [] ∙ ap (λ (xs : List (List Step)). get_or xs c []) lists_are

-- a step that waits for a channel waits for one that is there
reads_one : (channels : List Channel) (channel : Channel) (step : Step) → StepFits channels channel step
    → ReadsWithin (length channels) step
reads_one channels channel (Send content) fits = tt
reads_one channels channel (Take n) fits = tt
reads_one channels channel TakeAll fits = tt
reads_one channels channel (Wait n) fits = tt
reads_one channels channel (After x n) fits = fits.0

pub reads_all : (channels : List Channel) (script : Script) (n : ℕ) → FitsChannels channels script → length channels ≡ n
    → (c : ℕ) → AllReadWithin n (steps_of script c)
reads_all channels script n fits same c j step at = elim (slice_get_cases channels c).1 [
  | inl here ↦ let channel = here.0 in let is : slice_get channels c ≡ Some channel = here.2 in
      subst (λ m. ReadsWithin m step) same (reads_one channels channel step (fits.fits c channel is j step at))
  | inr past ↦ let none : steps_of script c ≡ [] = get_or_past script.steps c [] (omega (arith, past.0, fits.lists)) in
      let off : None ≡ Some step = ap (λ (xs : List Step). slice_get xs j) (sym none) ∙ at in absurd (cc)
]

set_at : {A : Type 0} (xs : List A) (i k : ℕ) (v x : A) → slice_get (set xs i v) k ≡ Some x
    → ((k ≡ i) × (v ≡ x)) ⊎ ((k ≡ i → ⊥) × (slice_get xs k ≡ Some x))
set_at [] i k v x e = let off : None ≡ Some x = e in absurd (cc)
set_at (y ∷ xs) zero zero v x e = inl (refl, cc)
set_at (y ∷ xs) zero (suc k) v x e = inr (λ same. absurd (omega arith), e)
set_at (y ∷ xs) (suc i) zero v x e = inr (λ same. absurd (omega arith), e)
set_at (y ∷ xs) (suc i) (suc k) v x e = elim (set_at xs i k v x e) [
  | inl both ↦ inl (ap suc both.0, both.1)
  | inr old ↦ inr (λ same. old.0 (omega arith), old.1)
]

-- the places below c have moved
pub record HaveMoved (rows : List Row) (script : Script) (places : List Place) (cycle c : ℕ) : Type 0 where
  pub are : ArePlaces rows script places cycle
  pub below : (k : ℕ) (place : Place) → k < c → slice_get places k ≡ Some place → Waited rows k (steps_of script k) place (cycle + 1)

pub none_moved : (rows : List Row) (script : Script) (places : List Place) (cycle : ℕ) → ArePlaces rows script places cycle
    → HaveMoved rows script places cycle 0
none_moved rows script places cycle are = record { are = are; below = λ k place lt at. absurd (omega arith) }

sooner : (rows : List Row) (c cycle : ℕ) (steps : List Step) (place : Place) → Waited rows c steps place (cycle + 1)
    → Waited rows c steps place cycle
sooner rows c cycle steps place waited = λ x is u from below. waited x is u from (omega arith)

at_same : (rows : List Row) (script : Script) (c k cycle : ℕ) (v place : Place) → k ≡ c → v ≡ place
    → IsMoved rows c (steps_of script c) cycle v → IsMoved rows k (steps_of script k) cycle place
at_same rows script c k cycle v place same is moved =
    subst (λ n. IsMoved rows n (steps_of script n) cycle place) (sym same) (subst (IsMoved rows c (steps_of script c) cycle) is moved)

pub moved_more : (rows : List Row) (script : Script) (places : List Place) (cycle c : ℕ) (v : Place)
    → HaveMoved rows script places cycle c
    → IsMoved rows c (steps_of script c) cycle v → HaveMoved rows script (set places c v) cycle (c + 1)
moved_more rows script places cycle c v have moved = record {
  are = record {
    at = λ k place e. elim (set_at places c k v place e) [
      | inl same ↦ (at_same rows script c k cycle v place same.0 same.1 moved).at
      | inr old ↦ have.are.at k place old.1
    ];
    waited = λ k place e. elim (set_at places c k v place e) [
      | inl same ↦ sooner rows k cycle (steps_of script k) place (at_same rows script c k cycle v place same.0 same.1 moved).waited
      | inr old ↦ have.are.waited k place old.1
    ];
  };
  below = λ k place lt e. elim (set_at places c k v place e) [
    | inl same ↦ (at_same rows script c k cycle v place same.0 same.1 moved).waited
    | inr old ↦ elim (cases_lt k c) [
      | inl less ↦ have.below k place less old.1
      | inr ge ↦ absurd (old.0 (omega arith))
    ]
  ];
}

pub all_moved : (rows : List Row) (script : Script) (places : List Place) (cycle c : ℕ) → length places ≤ c
    → HaveMoved rows script places cycle c → ArePlaces rows script places (cycle + 1)
all_moved rows script places cycle c past have = record {
  at = have.are.at;
  waited = λ k place e. have.below k place (omega (arith, slice_get_within places k place e)) e;
}

-- ---- one row more

at_later : (rows : List Row) (row : Row) (c : ℕ) (steps : List Step) (place : Place) → IsAt rows c steps place
    → IsAt (rows ++ row ∷ []) c steps place
at_later rows row c steps place at = record {
  within = at.within;
  reached = reach_front rows row c steps place.step place.reached at.reached;
  before = at.before
      ∙ sym (front rows (row ∷ []) c 0 place.reached (reach_by rows c steps place.step place.reached at.reached));
}

places_later : (rows : List Row) (row : Row) (script : Script) (places : List Place) (cycle : ℕ) → cycle ≡ length rows
    → ArePlaces rows script places (cycle + 1) → ArePlaces (rows ++ row ∷ []) script places (cycle + 1)
places_later rows row script places cycle now are = record {
  at = λ c place e. at_later rows row c (steps_of script c) place (are.at c place e);
  waited = λ c place e step is u from below.
      over_front rows (row ∷ []) c step place.reached u (omega (arith, below, now)) ∙ are.waited c place e step is u from below;
}

counts_later : (rows : List Row) (row : Row) (done more : List ℕ) (cycle : ℕ) → AreCounts rows done cycle → EndsAreCompletions row
    → length more ≡ length done
    → ((c : ℕ) → c < length done → get_or more c 0 ≡ get_or done c 0 + flag (has row.ends c))
    → AreCounts (rows ++ row ∷ []) more (cycle + 1)
counts_later rows row done more cycle counts ends same grown = record {
  cycle_is = omega (arith, counts.cycle_is, length-append rows (row ∷ []));
  each = λ x within.
      let old : x < length done = omega (arith, within, same) in
      grown x old ∙ ap (λ n. n + flag (has row.ends x)) (counts.each x old)
      ∙ ap (λ b. completions rows x 0 (length rows) + flag b) (ends x) ∙ sym (push rows row x);
}

pub stands_later : (rows : List Row) (row : Row) (script : Script) (places moved : List Place) (done more : List ℕ) (cycle next : ℕ)
    → EndsAreCompletions row → next ≡ cycle + 1 → length more ≡ length done
    → ((c : ℕ) → c < length done → get_or more c 0 ≡ get_or done c 0 + flag (has row.ends c))
    → ((xs : List Row) → AreCounts xs more next → ArePlaces xs script places next → ArePlaces xs script moved (next + 1))
    → StandsFor script places done cycle rows → StandsFor script moved more next (rows ++ row ∷ [])
stands_later rows row script places moved done more cycle next ends next_is same grown moves stands =
    let counts : AreCounts (rows ++ row ∷ []) more next =
    subst (AreCounts (rows ++ row ∷ []) more) (sym next_is) (counts_later rows row done more cycle stands.counts ends same grown) in
    record {
      counts = counts;
      places_are = moves (rows ++ row ∷ []) counts
          (subst (ArePlaces (rows ++ row ∷ []) script places) (sym next_is)
          (places_later rows row script places cycle stands.counts.cycle_is stands.places_are));
    }

-- ---- no row

repeated : {A : Type 0} (n k : ℕ) (a x : A) → slice_get (replicate n a) k ≡ Some x → a ≡ x
repeated zero k a x e = let off : None ≡ Some x = e in absurd (cc)
repeated (suc n) zero a x e = cc
repeated (suc n) (suc k) a x e = repeated n k a x e

first_is_at : (c : ℕ) (steps : List Step) (place : Place) → place.step ≡ 0 → place.reached ≡ 0 → place.before ≡ 0 → IsAt [] c steps place
first_is_at c steps place step reached before = record {
  within = omega (arith, step);
  reached = ap (reach [] c steps) step ∙ ap Some (sym reached);
  before = before ∙ ap (completions [] c 0) (sym reached);
}

pub stands_first : (script : Script) (places moved : List Place) (done : List ℕ) (first : Place) (n m : ℕ) → first.step ≡ 0
    → first.reached ≡ 0 → first.before ≡ 0
    → places ≡ replicate n first → done ≡ replicate m 0
    → ((xs : List Row) → AreCounts xs done 0 → ArePlaces xs script places 0 → ArePlaces xs script moved (0 + 1))
    → StandsFor script moved done 0 []
stands_first script places moved done first n m step reached before places_are done_is moves =
    let counts : AreCounts [] done 0 = record {
      cycle_is = refl;
      each = λ x within.
          ap (λ (xs : List ℕ). get_or xs x 0) done_is
          ∙ get_or-replicate m x 0 0 (omega (arith, within, ap length done_is, length-replicate {A = ℕ} m 0));
    } in
    let same : (c : ℕ) (place : Place) → slice_get places c ≡ Some place → first ≡ place =
    λ c place e. repeated n c first place (ap (λ (xs : List Place). slice_get xs c) (sym places_are) ∙ e) in
    record {
      counts = counts;
      places_are = moves [] counts
          record {
            at = λ c place e. subst (IsAt [] c (steps_of script c)) (same c place e)
                (first_is_at c (steps_of script c) first step reached before);
            waited = λ c place e x is u from below. absurd (omega (arith, below));
          };
    }

-- ---- what is written back into a vector

pub refilled : {A : Type 0} (xs new : List A) (n : ℕ) → n ≡ length xs → length new ≡ length xs
    → take n (new ++ drop (length new) xs) ≡ new
refilled xs new n n_is same =
    ap (λ ys. take n (new ++ ys)) (drop_all (length new) xs (omega arith)) ∙ ap (take n) (append-nil new) ∙ take_all n new (omega arith)

pub committed : (rows : List Row) (row : Row) (script : Script) (places lent_places moved final : List Place)
    (done lent_done counted more kept : List ℕ) (cycle : ℕ) → EndsAreCompletions row
    → lent_places ≡ places → lent_done ≡ done → length counted ≡ length lent_done
    → ((k : ℕ) → k < length lent_done → get_or counted k 0 ≡ get_or lent_done k 0 + flag (has row.ends k))
    → more ≡ counted → kept ≡ counted → final ≡ moved
    → ((xs : List Row) → AreCounts xs more (cycle + 1) → ArePlaces xs script lent_places (cycle + 1)
    → ArePlaces xs script moved (cycle + 1 + 1))
    → StandsFor script places done cycle rows → StandsFor script final kept (cycle + 1) (rows ++ row ∷ [])
committed rows row script places lent_places moved final done lent_done counted more kept cycle ends places_are done_is same grown more_is
    kept_is final_is moves stands =
    let lent : StandsFor script lent_places lent_done cycle rows =
    subst (λ (d : List ℕ). StandsFor script lent_places d cycle rows) (sym done_is)
    (subst (λ (ps : List Place). StandsFor script ps done cycle rows) (sym places_are) stands) in
    let all : (k : ℕ) → k < length lent_done → get_or more k 0 ≡ get_or lent_done k 0 + flag (has row.ends k) =
    λ k within. ap (λ (xs : List ℕ). get_or xs k 0) more_is ∙ grown k within in
    let base = stands_later rows row script lent_places moved lent_done more cycle (cycle + 1) ends refl (ap length more_is ∙ same) all
    moves lent in
    subst (λ (ps : List Place). StandsFor script ps kept (cycle + 1) (rows ++ row ∷ [])) (sym final_is)
    (subst (λ (d : List ℕ). StandsFor script moved d (cycle + 1) (rows ++ row ∷ [])) (more_is ∙ sym kept_is) base)

pub started : (script : Script) (lent_places moved final : List Place) (done kept : List ℕ) (n m : ℕ)
    → lent_places ≡ replicate n (record { step = 0; reached = 0; before = 0 })
    → done ≡ replicate m 0 → kept ≡ done → final ≡ moved
    → ((xs : List Row) → AreCounts xs done 0 → ArePlaces xs script lent_places 0 → ArePlaces xs script moved (0 + 1))
    → StandsFor script final kept 0 []
started script lent_places moved final done kept n m places_are done_is kept_is final_is moves =
    let first : Place = record { step = 0; reached = 0; before = 0 } in
    subst (λ (ps : List Place). StandsFor script ps kept 0 []) (sym final_is)
    (subst (λ (d : List ℕ). StandsFor script moved d 0 []) (sym kept_is)
    (stands_first script lent_places moved done first n m refl refl refl places_are done_is moves))

-- a channel that isn't there has no step
pub no_step : (script : Script) (c j : ℕ) → None ≡ slice_get script.steps c → None ≡ slice_get (steps_of script c) j
no_step script c j none = elim (slice_get_cases script.steps c).1 [
  | inl here ↦ let off : None ≡ Some here.0 = none ∙ here.2 in absurd (cc)
  | inr past ↦ ap (λ (xs : List Step). slice_get xs j) (sym (get_or_past script.steps c [] past.0))
]
