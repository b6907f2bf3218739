-- A run of n cycles ends in one way.
use Rattle.std.proofs.Common.{◌≡◌, ℕ, ◌<◌, ◌≤◌, List, [], ◌∷◌, ◌++◌, Option, None, Some, length, take, slice_get}
use Rattle.std.proofs.Common.{refl, ap, sym, subst, ◌∙◌, arith, ⊎_elim}
use Rattle.std.proofs.lemmas.Bool.{cases_lt}
use Rattle.std.proofs.lemmas.List.{take_at, length-take-le, length_push}
use Rattle.chan_map.specs.trace_model.declared.channel.Channel.{Channel}
use Rattle.chan_map.specs.trace_model.declared.row.Offers.{Offers}
use Rattle.chan_map.specs.trace_model.declared.row.Row.{Row}
use Rattle.chan_map.specs.trace_model.Row.{row_before, AreRows}
use Rattle.chan_map.specs.trace_model.Stability.{IsLowestUnstable}
use Rattle.chan_map.proofs.trace_model_lemmas.CountingLemmas.{slice_get-take}
use Rattle.net_design.specs.declared.design.Design.{Design}
use Rattle.chan_map.specs.declared.pins.Map.{Map}
use Rattle.run_model.specs.Laws.{IsReady, GatesOf}
use Rattle.run_model.specs.Played.{AreStable, StopsBefore}
use Rattle.run_model.specs.Run.{IsRun, IsRunRow, IsTheRun}
use Rattle.run_model.proofs.PlayedLaws.{Determines, one-list_of_rows, row-before_take, played-front}
use Rattle.run_model.proofs.RowParts.{carried}
use Rattle.run_model.proofs.Unstable.{lowest-one}
use Rattle.run_model.specs.AlikeLaws.{OneEnd}

-- after rows over the channels there is at most one mask of gates
abbrev pub FixGates : List Channel → (List Row → ℕ → Type 0) → Type 0
FixGates channels gates = (before : List Row) → AreRows channels before → (a b : ℕ) → gates before a → gates before b → a ≡ b

-- ---- the first rows
-- the rows of a run, with what is said of them
pub the-run : (d : Design) (m : Map) (offers : List Row → Offers) (gates : List Row → ℕ → Type 0) (n : ℕ) (a : List Row)
    (stop : Option ℕ) → IsTheRun d m offers gates n a stop → IsRun d m offers gates a × AreStable m.channels a × (length a ≤ n)
the-run d m offers gates n a None (run, stable, e) = (run, stable, omega (arith, e))
the-run d m offers gates n a (Some c) (stops, l) = (
  subst (IsRun d m offers gates) (take_at a (stops.next ∷ []) (length a) refl)
      (played-front d m (IsRunRow m.channels offers gates) (a ++ stops.next ∷ []) (length a) stops.played),
  stops.stable,
  omega (arith, l),
)

module _ (d : Design) (m : Map) (ready : IsReady d m) (offers : List Row → Offers) (gates : List Row → ℕ → Type 0)
    (fix : FixGates m.channels gates) where
  abbrev Runs : List Row → Type 0
  Runs rows = IsRun d m offers gates rows

  determines : Determines m.channels (IsRunRow m.channels offers gates)
  determines before a b are oa ob ra rb =
      (ra.2 ∙ sym rb.2, carried m.channels (offers before) a b (fix before are a.gates b.gates ra.1 rb.1) ra.0 rb.0)

  same-rows : (a b : List Row) → Runs a → Runs b → length a ≡ length b → a ≡ b
  same-rows a b ra rb e =
      one-list_of_rows d m ready.lawful ready.one_map ready.mapped (IsRunRow m.channels offers gates) determines a b ra rb e

  front-of : (a b : List Row) → Runs a → Runs b → length a ≤ length b → take (length a) b ≡ a
  front-of a b ra rb l = same-rows (take (length a) b) a
      (played-front d m (IsRunRow m.channels offers gates) b (length a) rb) ra (length-take-le (length a) b l)

  -- stable rows aren't longer than those before which a run stops
  no-longer : (a b : List Row) (c : ℕ) → Runs a → AreStable m.channels a → StopsBefore d m (IsRunRow m.channels offers gates) b c
      → length a ≤ length b
  no-longer a b c run stable stops = ⊎_elim
      (λ (h : length b < length a).
      let more = b ++ stops.next ∷ [] in
      let long = length_push b stops.next in
      let longer : length more ≤ length a = omega (arith, h, long) in
      let is : take (length more) a ≡ more = front-of more a stops.played run longer in
      let u = stops.unstable in
      absurd (stable (length b) u.before u.now
      (sym (row-before_take a (length more) (length b) (omega (arith, long)))
      ∙ ap (λ (rs : List Row). row_before rs (length b)) is ∙ u.before_is)
      (sym (slice_get-take (length more) a (length b) (omega (arith, long)))
      ∙ ap (λ (rs : List Row). slice_get rs (length b)) is ∙ u.now_is) c u.lowest.0))
      (λ (h : length a ≤ length b). h)
      (cases_lt (length b) (length a))

  one-row : (a : List Row) (c k : ℕ) → StopsBefore d m (IsRunRow m.channels offers gates) a c
      → StopsBefore d m (IsRunRow m.channels offers gates) a k → c ≡ k
  one-row a c k x y =
      let long = length_push a x.next in
      let long' = length_push a y.next in
      let same : a ++ x.next ∷ [] ≡ a ++ y.next ∷ [] =
      same-rows (a ++ x.next ∷ []) (a ++ y.next ∷ []) x.played y.played (omega (arith, long, long')) in
      let u = x.unstable in
      let w = y.unstable in
      let before : u.before ≡ w.before =
      some-same u.before w.before (sym u.before_is ∙ ap (λ (rs : List Row). row_before rs (length a)) same ∙ w.before_is) in
      let now : u.now ≡ w.now =
      some-same u.now w.now (sym u.now_is ∙ ap (λ (rs : List Row). slice_get rs (length a)) same ∙ w.now_is) in
      lowest-one m.channels w.before w.now c k
      (subst (λ (r : Row). IsLowestUnstable m.channels r w.now (Some c)) before
      (subst (λ (r : Row). IsLowestUnstable m.channels u.before r (Some c)) now u.lowest)) w.lowest
    where
      some-same : (r s : Row) → Some r ≡ Some s → r ≡ s
      some-same r s e = cc

  pub one-end_of : (n : ℕ) (a b : List Row) (i j : Option ℕ) → IsTheRun d m offers gates n a i → IsTheRun d m offers gates n b j
      → (a ≡ b) × (i ≡ j)
  one-end_of n a b None None (ra, sa, la) (rb, sb, lb) = (same-rows a b ra rb (la ∙ sym lb), refl)
  one-end_of n a b None (Some c) (ra, sa, la) (stops, l) =
      let most = no-longer a b c ra sa stops in absurd (omega (arith, la, l, most))
  one-end_of n a b (Some c) None (stops, l) (rb, sb, lb) =
      let most = no-longer b a c rb sb stops in absurd (omega (arith, lb, l, most))
  one-end_of n a b (Some c) (Some k) (x, l) (y, l') =
      let ra = the-run d m offers gates n a (Some c) (x, l) in
      let rb = the-run d m offers gates n b (Some k) (y, l') in
      let most = no-longer a b k ra.0 ra.1 y in
      let least = no-longer b a c rb.0 rb.1 x in
      let same : a ≡ b = same-rows a b ra.0 rb.0 (omega (arith, most, least)) in (
        same,
        ap Some (one-row b c k (subst (λ (rs : List Row). StopsBefore d m (IsRunRow m.channels offers gates) rs c) same x) y),
      )

pub one-end : OneEnd
one-end d m ready offers plan n a b i j x y =
    one-end_of d m ready offers (GatesOf plan) (λ before are g h p q. p ∙ sym q) n a b i j x y
