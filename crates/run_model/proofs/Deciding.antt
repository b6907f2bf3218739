-- What can be told: whether a trace has ended, whether an epoch is done, and the least number of those that pass.
use Rattle.std.proofs.Common.{◌≡◌, ◌⊎◌, ℕ, zero, suc, ◌<◌, ◌≤◌, List, [], ◌∷◌, Some, slice_get, inl, inr, ⊎_elim, refl, sym, subst}
use Rattle.std.proofs.Common.{◌∙◌, arith}
use Rattle.std.proofs.lemmas.Bool.{cases_lt}
use Rattle.std.proofs.lemmas.Option.{same_Some}
use Rattle.chan_map.specs.trace_model.declared.channel.Channel.{Channel}
use Rattle.chan_map.specs.trace_model.declared.channel.Dir.{Dir}
use Rattle.chan_map.specs.trace_model.declared.channel.Dir.TheVariants.{Inward, Outward}
use Rattle.chan_map.specs.trace_model.declared.event.Kind.{Kind}
use Rattle.chan_map.specs.trace_model.declared.event.Kind.TheVariants.{Start, End, Reset}
use Rattle.chan_map.specs.trace_model.declared.packet.Packet.{Packet}
use Rattle.chan_map.specs.trace_model.declared.row.Row.{Row}
use Rattle.chan_map.specs.trace_model.Clock.{Covers}
use Rattle.chan_map.specs.trace_model.Packet.{count}
use Rattle.chan_map.specs.trace_model.Recording.{shown}
use Rattle.run_model.specs.Replay.{done, HasEnded}
use Rattle.run_model.specs.Stretches.{IsDone}
use Rattle.run_model.proofs.EventPlaces.{covers-or-not}

abbrev pub Decides : Type 0 → Type 0
Decides A = A ⊎ (A → ⊥)

-- ---- the least number
pub record Least (P : ℕ → Type 0) (n : ℕ) : Type 0 where
  pub number : ℕ
  pub below : number < n
  pub passes : P number
  pub least : (j : ℕ) → j < number → P j → ⊥

abbrev pub NoneBelow : (ℕ → Type 0) → ℕ → Type 0
NoneBelow P n = (j : ℕ) → j < n → P j → ⊥

-- of the numbers below n
pub least-or-none : (P : ℕ → Type 0) → ((k : ℕ) → Decides (P k)) → (n : ℕ) → Least P n ⊎ NoneBelow P n
least-or-none P tell zero = inr (λ j l. absurd (omega (arith, l)))
least-or-none P tell (suc n) = ⊎_elim
    (λ (low : Least P n). inl (record {
      number = low.number;
      below = (let l = low.below in omega (arith, l));
      passes = low.passes;
      least = low.least;
    }))
    (λ (none : NoneBelow P n). ⊎_elim
    (λ (h : P n). inl (record { number = n; below = omega arith; passes = h; least = none }))
    (λ (fails : P n → ⊥). inr (λ j l. ⊎_elim (none j)
    (λ (most : n ≤ j). subst (λ k. P k → ⊥) (let e : n ≡ j = omega (arith, l, most) in e) fails) (cases_lt j n)))
    (tell n))
    (least-or-none P tell n)

-- ---- whether a trace has ended
le-or-not : (x y : ℕ) → Decides (x ≤ y)
le-or-not x y = ⊎_elim (λ (h : y < x). inr (λ l. absurd (omega (arith, h, l)))) (λ (h : x ≤ y). inl h) (cases_lt y x)

both-or-not : {A B : Type 0} → Decides A → Decides B → Decides (A × B)
both-or-not (inl a) (inl b) = inl (a, b)
both-or-not (inl a) (inr none) = inr (λ h. none h.1)
both-or-not (inr none) b = inr (λ h. none h.0)

abbrev HasAll : ℕ → List Packet → List Row → Kind → Type 0
HasAll n packets rows kind = Covers n (λ c. shown kind c rows) (λ c. count kind c packets)

pub ended-or-not : (n : ℕ) (packets : List Packet) (rows : List Row) → Decides (HasEnded n packets rows)
ended-or-not n packets rows = ⊎_elim (λ h. inl (each h.0 h.1.0 h.1.1)) (λ none. inr (λ h. none (h Start, (h End, h Reset))))
    (both-or-not (of-kind Start) (both-or-not (of-kind End) (of-kind Reset)))
  where
    of-kind : (kind : Kind) → Decides (HasAll n packets rows kind)
    of-kind kind = covers-or-not n (λ c. shown kind c rows) (λ c. count kind c packets)

    each : HasAll n packets rows Start → HasAll n packets rows End → HasAll n packets rows Reset → HasEnded n packets rows
    each s e r Start = s
    each s e r End = e
    each s e r Reset = r

-- ---- whether an epoch is done
at-each : (P : ℕ → Channel → Type 0) → ((c : ℕ) (x : Channel) → Decides (P c x)) → (channels : List Channel)
    → Decides ((c : ℕ) (x : Channel) → slice_get channels c ≡ Some x → P c x)
at-each P tell [] = inl (λ c x at. absurd (cc))
at-each P tell (y ∷ ys) = ⊎_elim (λ h. inl (both h.0 h.1)) (λ none. inr (λ h. none (h 0 y refl, λ c x at. h (suc c) x at)))
    (both-or-not (tell 0 y) (at-each (λ c x. P (suc c) x) (λ c x. tell (suc c) x) ys))
  where
    both : P 0 y → ((c : ℕ) (x : Channel) → slice_get ys c ≡ Some x → P (suc c) x)
        → (c : ℕ) (x : Channel) → slice_get (y ∷ ys) c ≡ Some x → P c x
    both first rest zero x at = subst (P 0) (same_Some y x at) first
    both first rest (suc c) x at = rest c x at

if-inward : (A : Type 0) → Decides A → (x : Channel) (dir : Dir) → x.dir ≡ dir → Decides (x.dir ≡ Inward → A)
if-inward A (inl a) x dir is = inl (λ inward. a)
if-inward A (inr none) x Inward is = inr (λ h. none (h is))
if-inward A (inr none) x Outward is = inl (λ inward. absurd (let e = sym is ∙ inward in cc))

pub done-or-not : (channels : List Channel) (packets : List Packet) (rows : List Row) → Decides (IsDone channels packets rows)
done-or-not channels packets rows = at-each
    (λ c x. (count End c packets ≤ done rows c) × (x.dir ≡ Inward → count Start c packets ≤ shown Start c rows))
    (λ c x. both-or-not (le-or-not (count End c packets) (done rows c))
    (if-inward (count Start c packets ≤ shown Start c rows) (le-or-not (count Start c packets) (shown Start c rows)) x x.dir refl))
    channels
