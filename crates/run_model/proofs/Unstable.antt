-- Whether a row is unstable, and on which channel first; and where a list of rows has its first unstable row.
use Rattle.std.proofs.Common.{◌≡◌, ◌⊎◌, ℕ, zero, suc, ◌+◌, ◌<◌, ◌≤◌, true, false, List, [], ◌∷◌, ◌++◌, Option, None, Some, inl, inr}
use Rattle.std.proofs.Common.{length, take, slice_get, refl, ap, sym, subst, ◌∙◌, arith, ⊎_elim}
use Rattle.std.specs.Str.{bytes_eq}
use Rattle.std.proofs.lemmas.Bool.{cases_Bool, cases_lt, false≢true}
use Rattle.std.proofs.lemmas.List.{length-take-le, take_all}
use Rattle.std.proofs.lemmas.Option.{slice_get_within, same_Some}
use Rattle.std.proofs.lemmas.Slice.Eq.{bytes_eq-Decides}
use Rattle.chan_map.specs.vidi_bits.Number.{has}
use Rattle.chan_map.specs.trace_model.declared.channel.Channel.{Channel}
use Rattle.chan_map.specs.trace_model.declared.channel.Dir.{Dir}
use Rattle.chan_map.specs.trace_model.declared.channel.Dir.TheVariants.{Inward, Outward}
use Rattle.chan_map.specs.trace_model.declared.row.Row.{Row}
use Rattle.chan_map.specs.trace_model.Row.{content_at, row_before}
use Rattle.chan_map.specs.trace_model.Stability.{waits as waits_on, IsLowestUnstable, IsUnstable}
use Rattle.chan_map.proofs.trace_model_lemmas.CountingLemmas.{slice_get-last, slice_get-take, take-suc_get}
use Rattle.net_design.specs.declared.design.Design.{Design}
use Rattle.chan_map.specs.declared.pins.Map.{Map}
use Rattle.run_model.specs.Played.{AreStable, IsPlayed, StopsBefore}
use Rattle.run_model.proofs.Deciding.{Least, NoneBelow, least-or-none}
use Rattle.run_model.proofs.PlayedLaws.{played-front, row-before_take}

-- ---- the lowest unstable channel
same-or-not : (xs ys : List ℕ) → (xs ≡ ys) ⊎ (xs ≡ ys → ⊥)
same-or-not xs ys = ⊎_elim
    (λ (t : bytes_eq xs ys ≡ true). inl ((bytes_eq-Decides xs ys).0 t))
    (λ (f : bytes_eq xs ys ≡ false). inr (λ e. false≢true (sym f ∙ (bytes_eq-Decides xs ys).1 e)))
    (cases_Bool (bytes_eq xs ys))

module _ (channels : List Channel) (before now : Row) where
  abbrev Breaks : ℕ → Type 0
  Breaks c = IsUnstable channels before now c

  outward-or-not : (c : ℕ) (x : Channel) → slice_get channels c ≡ Some x → (dir : Dir) → x.dir ≡ dir → (x.dir ≡ Outward) ⊎ (Breaks c → ⊥)
  outward-or-not c x at Inward is = inr (λ u. inward-not (sym is ∙ ap (λ (y : Channel). y.dir) (same_Some x u.channel (sym at ∙ u.at)) ∙ u.outward))
    where
      inward-not : Inward ≡ Outward → ⊥
      inward-not e = cc
  outward-or-not c x at Outward is = inl is

  broken-or-not : (c : ℕ) (x : Channel) → slice_get channels c ≡ Some x → x.dir ≡ Outward → Breaks c ⊎ (Breaks c → ⊥)
  broken-or-not c x at dir = ⊎_elim
      (λ (w : waits_on before c ≡ true). ⊎_elim
      (λ (f : has now.valids c ≡ false). inl (record { channel = x; at = at; outward = dir; waited = w; broken = inl f }))
      (λ (t : has now.valids c ≡ true). ⊎_elim
      (λ (same : content_at channels now.contents c ≡ content_at channels before.contents c).
      inr (λ u. ⊎_elim (λ f. false≢true (sym f ∙ t)) (λ other. other same) u.broken))
      (λ (other : content_at channels now.contents c ≡ content_at channels before.contents c → ⊥).
      inl (record { channel = x; at = at; outward = dir; waited = w; broken = inr other }))
      (same-or-not (content_at channels now.contents c) (content_at channels before.contents c)))
      (⊎_elim (λ (t : has now.valids c ≡ true). inr t) (λ (f : has now.valids c ≡ false). inl f) (cases_Bool (has now.valids c))))
      (λ (f : waits_on before c ≡ false). inr (λ u. false≢true (sym f ∙ u.waited)))
      (cases_Bool (waits_on before c))

  breaks-or-not : (c : ℕ) (o : Option Channel) → slice_get channels c ≡ o → Breaks c ⊎ (Breaks c → ⊥)
  breaks-or-not c None at = inr (λ u. none-some u.channel (sym at ∙ u.at))
    where
      none-some : (x : Channel) → None ≡ Some x → ⊥
      none-some x e = cc
  breaks-or-not c (Some x) at = ⊎_elim (λ dir. broken-or-not c x at dir) (λ none. inr none) (outward-or-not c x at x.dir refl)

  pub lowest : (o : Option ℕ) × IsLowestUnstable channels before now o
  lowest = ⊎_elim
      (λ (low : Least Breaks (length channels)). (Some low.number, (low.passes, low.least)))
      (λ (none : NoneBelow Breaks (length channels)). (None, λ c u. none c (slice_get_within channels c u.channel u.at) u))
      (least-or-none Breaks (λ c. breaks-or-not c (slice_get channels c) refl) (length channels))

pub lowest-one : (channels : List Channel) (before now : Row) (c d : ℕ) → IsLowestUnstable channels before now (Some c)
    → IsLowestUnstable channels before now (Some d) → c ≡ d
lowest-one channels before now c d (is, least) (is', least') = ⊎_elim
    (λ (l : c < d). absurd (least' c l is))
    (λ (g : d ≤ c). ⊎_elim
    (λ (l : d < c). absurd (least d l is'))
    (λ (h : c ≤ d). omega (arith, g, h))
    (cases_lt d c))
    (cases_lt c d)

-- ---- the first unstable row
pub row-at : (all : List Row) (k : ℕ) → k < length all → (row : Row) × (slice_get all k ≡ Some row)
row-at [] k l = absurd (omega (arith, l))
row-at (x ∷ all) zero l = (x, refl)
row-at (x ∷ all) (suc k) l = row-at all k (omega (arith, l))

-- a row more that doesn't break
pub stable-next : (channels : List Channel) (all : List Row) (k : ℕ) (row : Row) → k < length all → slice_get all k ≡ Some row
    → AreStable channels (take k all)
    → ((before : Row) → row_before all k ≡ Some before → (c : ℕ) → IsUnstable channels before row c → ⊥)
    → AreStable channels (take (suc k) all)
stable-next channels all k row l at stable none t before now b is c bad = ⊎_elim
    (λ (less : t < k). stable t before now
    (row-before_take all k t (omega (arith, less)) ∙ sym (row-before_take all (suc k) t (omega (arith, less))) ∙ b)
    (slice_get-take k all t less ∙ sym (slice_get-take (suc k) all t (omega (arith, less))) ∙ is) c bad)
    (λ (most : k ≤ t). here most (slice_get_within (take (suc k) all) t now is))
    (cases_lt t k)
  where
    here : k ≤ t → t < length (take (suc k) all) → ⊥
    here most within =
        let long = length-take-le (suc k) all (omega (arith, l)) in
        let e : t ≡ k = omega (arith, most, within, long) in
        let same : now ≡ row = same_Some now row
        (sym is ∙ slice_get-take (suc k) all t (omega (arith, within, long)) ∙ ap (slice_get all) e ∙ at) in
        none before (sym (row-before_take all (suc k) k (omega arith)) ∙ sym (ap (row_before (take (suc k) all)) e) ∙ b) c
        (subst (λ (r : Row). IsUnstable channels before r c) same bad)

-- rows that end before one that breaks
pub stops-here : (d : Design) (m : Map) (rule : List Row → Row → Type 0) (all : List Row) → IsPlayed d m rule all → (k : ℕ)
    (row before : Row) (c : ℕ) → k < length all → slice_get all k ≡ Some row → row_before all k ≡ Some before
    → IsLowestUnstable m.channels before row (Some c) → AreStable m.channels (take k all) → StopsBefore d m rule (take k all) c
stops-here d m rule all played k row before c l at was low stable =
    let long = length-take-le k all (omega (arith, l)) in
    let more = take-suc_get all k row at in
    record {
      next = row;
      played = subst (IsPlayed d m rule) more (played-front d m rule all (suc k) played);
      stable = stable;
      unstable = record {
        before = before;
        now = row;
        before_is = ap (row_before (take k all ++ row ∷ [])) long ∙ ap (λ (rs : List Row). row_before rs k) (sym more)
            ∙ row-before_take all (suc k) k (omega arith) ∙ was;
        now_is = slice_get-last (take k all) row;
        lowest = low;
      };
    }

module _ (d : Design) (m : Map) (rule : List Row → Row → Type 0) (all : List Row) (played : IsPlayed d m rule all) where
  -- the rows before the first unstable one
  pub record Stop : Type 0 where
    pub place : ℕ
    pub channel : ℕ
    pub within : place < length all
    pub stops : StopsBefore d m rule (take place all) channel

  module _ (k : ℕ) (row : Row) (l : k < length all) (at : slice_get all k ≡ Some row) (stable : AreStable m.channels (take k all))
      (next : AreStable m.channels (take (suc k) all) → AreStable m.channels all ⊎ Stop) where
    goes-on : ((before : Row) → row_before all k ≡ Some before → (c : ℕ) → IsUnstable m.channels before row c → ⊥)
        → AreStable m.channels all ⊎ Stop
    goes-on none = next (stable-next m.channels all k row l at stable none)

    by-lowest : (before : Row) → row_before all k ≡ Some before → ((o : Option ℕ) × IsLowestUnstable m.channels before row o)
        → AreStable m.channels all ⊎ Stop
    by-lowest before was (None, none) = goes-on (λ b e c bad.
        none c (subst (λ (r : Row). IsUnstable m.channels r row c) (same_Some b before (sym e ∙ was)) bad))
    by-lowest before was (Some c, low) = inr (record {
      place = k;
      channel = c;
      within = l;
      stops = stops-here d m rule all played k row before c l at was low stable;
    })

    by-before : (o : Option Row) → row_before all k ≡ o → AreStable m.channels all ⊎ Stop
    by-before None was = goes-on (λ b e c bad. (let f : None ≡ Some b = sym was ∙ e in absurd (cc)))
    by-before (Some before) was = by-lowest before was (lowest m.channels before row)

  found-from : (left k : ℕ) → k + left ≡ length all → AreStable m.channels (take k all) → AreStable m.channels all ⊎ Stop
  found-from zero k sum stable = inl (subst (AreStable m.channels) (take_all k all (omega (arith, sum))) stable)
  found-from (suc left) k sum stable =
      let r = row-at all k (omega (arith, sum)) in
      by-before k r.0 (omega (arith, sum)) r.1 stable (found-from left (suc k) (omega (arith, sum))) (row_before all k) refl

  pub stable-or-stops : AreStable m.channels all ⊎ Stop
  stable-or-stops = found-from (length all) 0 (omega arith) (λ t before now b is. absurd (cc))
