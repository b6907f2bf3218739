-- What a simulator keeps.
use Rattle.std.proofs.Common.{Bool, true, false, IsTrue, if◌then◌else◌, refl}
use Rattle.std.proofs.Common.{◌≡◌, ℕ, List, [], All}
use Rattle.std.proofs.Common.{arith, ◌+◌, length, take, reverse, ap, sym, subst, ◌∙◌}
use Rattle.std.proofs.Math.Logic.{∥∥₁_elim}
use Rattle.std.proofs.Props.{props}
use Rattle.net_design.specs.declared.act.Timing.TheVariants.{Nonblocking}
use Rattle.net_design.specs.declared.design.Design.{Design}
use Rattle.net_design.specs.declared.values.Values.{Values}
use Rattle.net_design.specs.Settled.{IsSettled, word_count, clocked, next}
use Rattle.net_design.specs.Lawful.{IsLawful, IsState}
use Rattle.net_design.specs.Pins.{FitPins}
use Rattle.net_order.specs.Order.{IsOrder}
use Rattle.net_order.specs.Run.{entered, settled_by}
use Rattle.net_order.proofs.Known.{known_settled, known_only, known_next}
use Rattle.net_instr.specs.declared.instr.Step.{Step}
use Rattle.net_instr.specs.declared.instr.Step.TheVariants.{Number, Copy, Slice, And, Or, Xor, Add, Subtract, Less, Equal, LogicalNot}
use Rattle.net_instr.specs.declared.instr.Step.TheVariants.{Unary, Binary, Choose, Join, Repeat, Select, Word}
use Rattle.net_instr.specs.declared.instr.Instr.{Instr}
use Rattle.net_instr.specs.declared.instr.Instr.TheVariants.{Do, Put, PutFrom, PutWord, PutWordFrom, SkipIfZero, Skip}
use Rattle.net_instr.specs.Machine.{IsStep, IsInstr, AreBelow, exec}
use Rattle.net_instr.specs.Layout.{IsReady, Moves}
use Rattle.net_instr.proofs.Whole.{safe_reverse}
use Rattle.net_instr.proofs.Views.{same_shown, same_state}
use Rattle.net_sim.specs.Slots.{widths_of, span_of, shown_in, state_in, settling_code, clocking_code, copied}
use Rattle.net_sim.proofs.SlotLaws.{Settles, settling_safe, clocking_safe, settled_slots, clocked_slots}

-- ---- facts with one proof at most
step_prop : (x : Step) → IsProp (IsStep x)
step_prop (Number n) = hlevel props
step_prop (Copy a) = hlevel props
step_prop (Slice a low w) = hlevel props
step_prop (And a b) = hlevel props
step_prop (Or a b) = hlevel props
step_prop (Xor a b) = hlevel props
step_prop (Add a b w) = hlevel props
step_prop (Subtract a b w) = hlevel props
step_prop (Less a b) = hlevel props
step_prop (Equal a b) = hlevel props
step_prop (LogicalNot a) = hlevel props
step_prop (Unary op a w) = hlevel props
step_prop (Binary op a b w) = hlevel props
step_prop (Choose c a b) = hlevel props
step_prop (Join high low x y) = hlevel props
step_prop (Repeat n a w) = hlevel props
step_prop (Select a i w) = hlevel props
step_prop (Word first length i) = hlevel props

instr_prop : (i : Instr) → IsProp (IsInstr i)
instr_prop (Do to step) = step_prop step
instr_prop (Put to low w a rest) = hlevel props
instr_prop (PutFrom to low size i w a rest) = hlevel props
instr_prop (PutWord first length i low w a rest) = hlevel props
instr_prop (PutWordFrom first length i size j w a rest) = hlevel props
instr_prop (SkipIfZero c n) = hlevel props
instr_prop (Skip n) = hlevel props

pub safe_prop : (code : List Instr) → IsProp (All (λ (i : Instr). IsInstr i) code)
safe_prop code = hlevel (props, instr_prop)

settles_prop : (d : Design) (order s pins u : List ℕ) → IsProp (Settles d order s pins u)
settles_prop d order s pins u = hlevel props

moves_prop : (d : Design) (s u : List ℕ)
    → IsProp (Moves (widths_of d) (word_count d) Nonblocking (clocked d (shown_in d s)) s u)
moves_prop d s u = hlevel props

-- ---- what is known where it is known that a design is lawful
module _ (d : Design) (law : ∥ IsLawful d ∥₁) where
  pub known_settling : (order : List ℕ) → All (λ (i : Instr). IsInstr i) (reverse (settling_code d order))
  known_settling order = ∥∥₁_elim law (safe_prop (reverse (settling_code d order)))
      (λ l. safe_reverse (settling_code d order) (settling_safe d l order))

  pub known_clocking : All (λ (i : Instr). IsInstr i) (reverse (clocking_code d))
  known_clocking = ∥∥₁_elim law (safe_prop (reverse (clocking_code d))) (λ l. safe_reverse (clocking_code d) (clocking_safe d l []))

  pub known_settles : (order s pins : List ℕ) → IsReady (widths_of d) (word_count d) s → IsState d (state_in d s) → FitPins d pins
      → ∥ AreBelow (length s) (settling_code d order) ∥₁
      → Settles d order s pins (exec (reverse (settling_code d order)) 0 (entered d.ports pins (copied (span_of d) s)))
  known_settles order s pins r is fit i =
      let u = exec (reverse (settling_code d order)) 0 (entered d.ports pins (copied (span_of d) s)) in
      let p = settles_prop d order s pins u in
      ∥∥₁_elim law p (λ l. ∥∥₁_elim i p (λ b. settled_slots d l order s pins r is fit b))

  pub known_clocks : (s : List ℕ) → IsReady (widths_of d) (word_count d) s → ∥ AreBelow (length s) (clocking_code d) ∥₁
      → Moves (widths_of d) (word_count d) Nonblocking (clocked d (shown_in d s)) s (exec (reverse (clocking_code d)) 0 s)
  known_clocks s r i =
      let p = moves_prop d s (exec (reverse (clocking_code d)) 0 s) in
      ∥∥₁_elim law p (λ l. ∥∥₁_elim i p (λ b. clocked_slots d l [] s r b))

module _ (d : Design) (law : ∥ IsLawful d ∥₁) (order : List ℕ) (o : ∥ IsOrder d order ∥₁) (s : Values) (pins : List ℕ)
    (state : IsState d s) (fit : FitPins d pins) (shown : Values) (e : shown ≡ settled_by d order s pins) where
  pub shown_settled : IsSettled d s pins shown
  shown_settled = subst (IsSettled d s pins) (sym e) (known_settled d law order o s pins state fit)

-- slots after settling
module _ (d : Design) (law : ∥ IsLawful d ∥₁) (order : List ℕ) (o : ∥ IsOrder d order ∥₁) (slots pins new : List ℕ)
    (ready : IsReady (widths_of d) (word_count d) slots) (state : IsState d (state_in d slots)) (fit : FitPins d pins)
    (below : ∥ AreBelow (length slots) (settling_code d order) ∥₁)
    (e : new ≡ exec (reverse (settling_code d order)) 0 (entered d.ports pins (copied (span_of d) slots))) where
  pub after_settling : Settles d order slots pins new
  after_settling = subst (Settles d order slots pins) (sym e) (known_settles d law order slots pins ready state fit below)

  pub new_settled : IsSettled d (state_in d new) pins (shown_in d new)
  new_settled =
      subst (λ (v : Values). IsSettled d v pins (shown_in d new)) (sym after_settling.moves)
      (shown_settled d law order o (state_in d slots) pins state fit (shown_in d new) after_settling.shows)

  pub new_only : (v : Values) → IsSettled d (state_in d new) pins v → v ≡ shown_in d new
  new_only v h =
      known_only d law order o (state_in d slots) pins state fit v (subst (λ (w : Values). IsSettled d w pins v) after_settling.moves h)
      ∙ sym after_settling.shows

  pub new_shown : shown_in d new ≡ settled_by d order (state_in d new) pins
  new_shown = after_settling.shows ∙ ap (λ (v : Values). settled_by d order v pins) (sym after_settling.moves)

  pub new_state : IsState d (state_in d new)
  new_state = subst (IsState d) (sym after_settling.moves) state

  pub new_below : (code : List Instr) → ∥ AreBelow (length slots) code ∥₁ → ∥ AreBelow (length new) code ∥₁
  new_below code h = subst (λ n. ∥ AreBelow n code ∥₁) (sym after_settling.long) h

-- slots after the clocked blocks
module _ (d : Design) (law : ∥ IsLawful d ∥₁) (slots new : List ℕ) (ready : IsReady (widths_of d) (word_count d) slots)
    (below : ∥ AreBelow (length slots) (clocking_code d) ∥₁) (e : new ≡ exec (reverse (clocking_code d)) 0 slots) where
  pub after_clock : Moves (widths_of d) (word_count d) Nonblocking (clocked d (shown_in d slots)) slots new
  after_clock = subst (Moves (widths_of d) (word_count d) Nonblocking (clocked d (shown_in d slots)) slots) (sym e)
      (known_clocks d law slots ready below)

-- settled again, or already
module _ (d : Design) (law : ∥ IsLawful d ∥₁) (order slots pins : List ℕ)
    (ready : IsReady (widths_of d) (word_count d) slots) (state : IsState d (state_in d slots)) (fit : FitPins d pins)
    (below : ∥ AreBelow (length slots) (settling_code d order) ∥₁) where
  pub again : (fresh : Bool) (new : List ℕ) → (IsTrue fresh → shown_in d slots ≡ settled_by d order (state_in d slots) pins)
      → new ≡ (if fresh then slots else exec (reverse (settling_code d order)) 0 (entered d.ports pins (copied (span_of d) slots)))
      → Settles d order slots pins new
  again true new h e =
      subst (Settles d order slots pins) (sym e) (record { shows = h refl; moves = refl; long = refl; ready = ready })
  again false new h e = subst (Settles d order slots pins) (sym e) (known_settles d law order slots pins ready state fit below)

-- slots after a clock
module _ (d : Design) (law : ∥ IsLawful d ∥₁) (order : List ℕ) (o : ∥ IsOrder d order ∥₁) (slots pins mid new : List ℕ)
    (state : IsState d (state_in d slots)) (fit : FitPins d pins) (below : ∥ AreBelow (length slots) (clocking_code d) ∥₁)
    (f : Settles d order slots pins mid) (e : new ≡ exec (reverse (clocking_code d)) 0 mid) where
  pub clock_moves : Moves (widths_of d) (word_count d) Nonblocking (clocked d (shown_in d mid)) mid new
  clock_moves = after_clock d law mid new f.ready (subst (λ n. ∥ AreBelow n (clocking_code d) ∥₁) (sym f.long) below) e

  pub clock_long : length new ≡ length slots
  clock_long = clock_moves.long ∙ f.long

  clock_state : state_in d new ≡ next d (shown_in d mid) (state_in d slots)
  clock_state = clock_moves.moves ∙ ap (next d (shown_in d mid)) f.moves

  pub clock_is : IsState d (state_in d new)
  clock_is = subst (IsState d) (sym clock_state) (known_next d law (shown_in d mid) (state_in d slots) state)

  pub clock_next : (v : Values) → IsSettled d (state_in d slots) pins v → state_in d new ≡ next d v (state_in d slots)
  clock_next v h =
      clock_state
      ∙ ap (λ (w : Values). next d w (state_in d slots))
      (f.shows ∙ sym (known_only d law order o (state_in d slots) pins state fit v h))

  -- a clock that changed no number
  module _ (same : take (span_of d + span_of d) new ≡ take (span_of d + span_of d) mid) where
    shown_stays : shown_in d new ≡ shown_in d mid
    shown_stays = same_shown (widths_of d) (word_count d) (span_of d + span_of d) mid new (omega arith) same

    state_stays : state_in d new ≡ state_in d mid
    state_stays = same_state (widths_of d) (word_count d) (span_of d + span_of d) mid new (omega arith) same

    pub stays_settled : shown_in d new ≡ settled_by d order (state_in d new) pins
    stays_settled =
        shown_stays ∙ f.shows ∙ ap (λ (v : Values). settled_by d order v pins) (sym (state_stays ∙ f.moves))

    pub stays_next : next d (shown_in d new) (state_in d new) ≡ state_in d new
    stays_next =
        ap (λ (v : Values). next d v (state_in d new)) shown_stays ∙ ap (next d (shown_in d mid)) state_stays ∙ sym clock_moves.moves

-- where nothing changes, the next state is the state
module _ (d : Design) (law : ∥ IsLawful d ∥₁) (order : List ℕ) (o : ∥ IsOrder d order ∥₁) (slots pins : List ℕ)
    (state : IsState d (state_in d slots)) (fit : FitPins d pins) where
  pub still_next : shown_in d slots ≡ settled_by d order (state_in d slots) pins
      → next d (shown_in d slots) (state_in d slots) ≡ state_in d slots
      → (v : Values) → IsSettled d (state_in d slots) pins v → state_in d slots ≡ next d v (state_in d slots)
  still_next e n v h =
      sym n ∙ ap (λ (w : Values). next d w (state_in d slots)) (e ∙ sym (known_only d law order o (state_in d slots) pins state fit v h))
