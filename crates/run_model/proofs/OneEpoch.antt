-- Without resets all rows are one stretch, and all packets one epoch.
use Rattle.std.proofs.Common.{◌≡◌, ℕ, suc, Bool, true, false, cond, List, [], ◌∷◌, ◌++◌, Some, All, take}
use Rattle.std.proofs.Common.{slice_get, count_by, refl, ap, sym, subst, ◌∙◌, append_assoc, arith}
use Rattle.std.specs.List.{fold}
use Rattle.std.proofs.lemmas.List.{append-nil}
use Rattle.std.proofs.lemmas.List.Elements.{All-nil, All-cons}
use Rattle.chan_map.specs.trace_model.declared.channel.Channel.{Channel}
use Rattle.chan_map.specs.trace_model.declared.packet.Packet.{Packet}
use Rattle.chan_map.specs.trace_model.declared.row.Row.{Row}
use Rattle.chan_map.specs.trace_model.declared.trace.Trace.{Trace}
use Rattle.chan_map.specs.trace_model.Epoch.{resets, stretch}
use Rattle.chan_map.specs.trace_model.Laws.{AreStretches, KeepsInFlight}
use Rattle.chan_map.specs.trace_model.Row.{AreRows}
use Rattle.chan_map.specs.trace_model.Trace.{Alternates, IsWellFormed}
use Rattle.chan_map.proofs.trace_model_lemmas.CountingLemmas.{count-cons}
use Rattle.chan_map.proofs.trace_model_lemmas.EpochLemmas.{epoch-all}
use Rattle.run_model.proofs.PlayedLaws.{front-at, row-before_take, rows-front}

-- ---- rows
abbrev pub NoneFresh : List Row → Type 0
NoneFresh rows = (t : ℕ) (row : Row) → slice_get rows t ≡ Some row → row.fresh ≡ false

-- no row but the first one
abbrev pub NoneFreshBehind : List Row → Type 0
NoneFreshBehind rows = (t : ℕ) (row : Row) → slice_get rows (suc t) ≡ Some row → row.fresh ≡ false

stretch-behind : (here rows : List Row) → NoneFresh rows
    → fold (λ here (row : Row). cond row.fresh (row ∷ []) (here ++ row ∷ [])) here rows ≡ here ++ rows
stretch-behind here [] none = sym (append-nil here)
stretch-behind here (row ∷ rows) none =
    ap (λ b. fold (λ here (row : Row). cond row.fresh (row ∷ []) (here ++ row ∷ [])) (cond b (row ∷ []) (here ++ row ∷ [])) rows)
    (none 0 row refl)
    ∙ stretch-behind (here ++ row ∷ []) rows (λ t r at. none (suc t) r at)
    ∙ append_assoc here (row ∷ []) rows

first-alone : (b : Bool) (row : Row) → cond b (row ∷ []) ([] ++ row ∷ []) ≡ row ∷ []
first-alone true row = refl
first-alone false row = refl

stretch-all : (rows : List Row) → NoneFreshBehind rows → stretch rows ≡ rows
unfolding stretch
stretch-all [] none = refl
stretch-all (row ∷ rows) none =
    ap (λ here. fold (λ here (row : Row). cond row.fresh (row ∷ []) (here ++ row ∷ [])) here rows) (first-alone row.fresh row)
    ∙ stretch-behind (row ∷ []) rows (λ t r at. none t r at)

flight-front : (rows : List Row) (k : ℕ) → KeepsInFlight rows → KeepsInFlight (take k rows)
flight-front rows k keeps t before row b at =
    let f = front-at rows k t row at in
    keeps t before row (sym (row-before_take rows k t (let l = f.0 in omega (arith, l))) ∙ b) f.1

pub one-stretch : (channels : List Channel) (rows : List Row) → NoneFreshBehind rows → AreRows channels rows → KeepsInFlight rows
    → AreStretches channels rows
one-stretch channels rows none are keeps k l =
    let whole : stretch (take k rows) ≡ take k rows = stretch-all (take k rows) (λ t row at. none t row (front-at rows k (suc t) row at).1) in (
      subst (AreRows channels) (sym whole) (rows-front channels rows k are),
      subst KeepsInFlight (sym whole) (flight-front rows k keeps),
    )

-- ---- packets
none-pass : {X : Type 0} (test : X → Bool) (xs : List X) → count_by test xs ≡ 0 → All (λ x. test x ≡ false) xs
none-pass test [] none = All-nil (λ x. test x ≡ false)
none-pass test (x ∷ xs) none =
    let sum = count-cons test x xs in
    All-cons (λ y. test y ≡ false) x xs (fails (test x) (omega (arith, sum, none))) (none-pass test xs (omega (arith, sum, none)))
  where
    fails : (b : Bool) → cond {A = ℕ} b 1 0 ≡ 0 → b ≡ false
    fails true h = absurd (omega (arith, h))
    fails false h = refl

pub none-reset : (packets : List Packet) → resets packets ≡ 0 → All (λ (p : Packet). p.reset ≡ false) packets
none-reset packets none = none-pass (λ (p : Packet). p.reset) packets none

pub one-epoch : (t : Trace) → IsWellFormed t → resets t.packets ≡ 0 → Alternates t.packets
one-epoch t well none = subst Alternates (epoch-all t.packets (none-reset t.packets none)) (well.alternate 0)
