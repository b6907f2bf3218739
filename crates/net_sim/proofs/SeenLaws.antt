-- What is seen in a simulator's slots, where nets that only copy another are read in its place.
use Rattle.std.proofs.Common.{◌≡◌, ℕ, ◌+◌, ◌-◌, ◌<◌, ◌≤◌, Bool, true, false, if◌then◌else◌, List, ◌++◌, All, map, length, length-append, take, drop, reverse, replicate}
use Rattle.std.proofs.Common.{slice_index, ⊎_elim, ap, sym, subst, ◌∙◌, arith}
use Rattle.std.proofs.Math.Logic.{∥∥₁_elim}
use Rattle.std.proofs.Props.{props}
use Rattle.std.proofs.lemmas.Bool.{cases_lt}
use Rattle.std.proofs.lemmas.List.{length-drop, length-map, length-take-le, length-replicate}
use Rattle.std.proofs.lemmas.List.{get_or-drop, get_or-take, get_or-replicate}
use Rattle.std.proofs.lemmas.Grind.{same_number_lists}
use Rattle.net_order.proofs.Entered.{entered_long}
use Rattle.net_design.specs.declared.design.Net.{Net}
use Rattle.net_design.specs.declared.design.Port.{Port}
use Rattle.net_design.specs.declared.design.Design.{Design}
use Rattle.net_order.specs.Run.{entered}
use Rattle.net_instr.specs.declared.instr.Instr.{Instr}
use Rattle.net_instr.specs.Machine.{exec, IsInstr}
use Rattle.net_instr.specs.InPlace.{place, through, IsInPlace}
use Rattle.net_instr.specs.Needs.{IsEnough}
use Rattle.net_instr.proofs.InPlaceLaws.{at_net, at_rest, seen_at, seen_long}
use Rattle.net_sim.specs.Slots.{span_of, settling_code, clocking_code, copied}
use Rattle.net_sim.proofs.SlotLaws.{copied_long}
use Rattle.net_sim.proofs.SimLaws.{safe_prop}

-- ---- behind the nets slots are seen where they stand
pub drop_seen : (ps s : List ℕ) (k : ℕ) → length ps ≤ k → length ps ≤ length s → drop k (through ps s) ≡ drop k s
drop_seen ps s k l h =
    same_number_lists (drop k (through ps s)) (drop k s)
    (length-drop k (through ps s) ∙ ap (λ n. n - k) (seen_long ps s h) ∙ sym (length-drop k s))
    (λ i m.
    get_or-drop k (through ps s) i 0 ∙ seen_at ps s (k + i) h ∙ ap (slice_index s) (at_rest ps (k + i) (omega (arith, l)))
    ∙ sym (get_or-drop k s i 0))

pub copied_seen : (ps s : List ℕ) (k : ℕ) → length ps ≤ k → length ps ≤ length s → copied k (through ps s) ≡ copied k s
copied_seen ps s k l h = ap (λ (xs : List ℕ). take k xs ++ xs) (drop_seen ps s k l h)

module _ (ps : List ℕ) (below : (i : ℕ) → i < length ps → slice_index ps i < length ps) where
  place_below : (k i : ℕ) → length ps ≤ k → i < k → place ps i < k
  place_below k i l h = ⊎_elim
      (λ (a : i < length ps). let b = below i a in let e = at_net ps i a in omega (arith, b, e, l))
      (λ (b : length ps ≤ i). let e = at_rest ps i b in omega (arith, e, h))
      (cases_lt i (length ps))

  pub front_seen : (u s : List ℕ) (k : ℕ) → length ps ≤ k → k ≤ length u → k ≤ length s → take k u ≡ take k s
      → take k (through ps u) ≡ take k (through ps s)
  front_seen u s k l f g e =
      let lu : length ps ≤ length u = omega (arith, l, f) in
      let ls : length ps ≤ length s = omega (arith, l, g) in
      let nu : length (take k (through ps u)) ≡ k = length-take-le k (through ps u) (let h = seen_long ps u lu in omega (arith, h, f)) in
      let ns : length (take k (through ps s)) ≡ k = length-take-le k (through ps s) (let h = seen_long ps s ls in omega (arith, h, g)) in
      same_number_lists (take k (through ps u)) (take k (through ps s)) (nu ∙ sym ns) (λ i m.
      let here : i < k = omega (arith, m, nu) in
      let there = place_below k i l here in
      get_or-take k (through ps u) i 0 here ∙ seen_at ps u i lu ∙ sym (get_or-take k u (place ps i) 0 there)
      ∙ ap (λ (xs : List ℕ). slice_index xs (place ps i)) e ∙ get_or-take k s (place ps i) 0 there ∙ sym (seen_at ps s i ls)
      ∙ sym (get_or-take k (through ps s) i 0 here))

  pub zeros_seen : (count : ℕ) → length ps ≤ count → through ps (replicate count 0) ≡ replicate count 0
  zeros_seen count l =
      let zeros : List ℕ = replicate count 0 in
      let n : length zeros ≡ count = length-replicate {A = ℕ} count 0 in
      let h : length ps ≤ length zeros = omega (arith, l, n) in
      let long = seen_long ps zeros h in
      same_number_lists (through ps zeros) zeros long (λ i m.
      let here : i < count = omega (arith, m, long, n) in
      seen_at ps zeros i h
      ∙ get_or-replicate count (place ps i) 0 0 (place_below count i l here) ∙ sym (get_or-replicate count i 0 0 here))

-- ---- a design's slots
module _ (d : Design) (order ps : List ℕ) (settles clocks : List Instr)
    (placed : ∥ IsInPlace (length d.nets) (reverse (settling_code d order)) (reverse (clocking_code d)) ps settles clocks ∥₁) where
  pub places_long : length ps ≡ length d.nets
  places_long = ∥∥₁_elim placed (hlevel props) (λ p. p.long)

  pub places_below : (i : ℕ) → i < length ps → slice_index ps i < length ps
  places_below = ∥∥₁_elim placed (hlevel props) (λ p i l. let n = p.long in let b = p.below i (omega (arith, l, n)) in omega (arith, b, n))

  pub settles_safe : All (λ (i : Instr). IsInstr i) settles
  settles_safe = ∥∥₁_elim placed (safe_prop settles) (λ p. p.settles_safe)

  pub clocks_safe : All (λ (i : Instr). IsInstr i) clocks
  clocks_safe = ∥∥₁_elim placed (safe_prop clocks) (λ p. p.clocks_safe)

  settles_seen : (s : List ℕ) → length ps ≤ length s → through ps (exec settles 0 s) ≡ exec (reverse (settling_code d order)) 0 s
  settles_seen s l = ∥∥₁_elim placed (hlevel props) (λ p. p.settled s (let n = p.long in omega (arith, l, n)))

  clocks_seen : (s : List ℕ) → length ps ≤ length s → through ps (exec clocks 0 s) ≡ exec (reverse (clocking_code d)) 0 (through ps s)
  clocks_seen s l = ∥∥₁_elim placed (hlevel props) (λ p. p.clocked s (let n = p.long in omega (arith, l, n)))

  pub few_places : length ps ≤ span_of d
  few_places =
      let n = places_long in
      let w = length-map d.nets (λ (x : Net). x.width) in
      omega (arith, n, w)

  -- what is copied is enough, so what holds of code that needs no more holds at the places
  pub seen_enough : (ms : List ℕ) (first : ℕ) (code : List Instr) (ports : List Port) (new : List ℕ) (f : List ℕ → List ℕ)
      → ∥ IsEnough ps settles ms ∥₁ → first ≡ length d.nets → code ≡ settles → ports ≡ d.ports → length d.ports ≤ length d.nets
      → ((qs : List ℕ) → length qs ≡ first → length ports ≤ first → IsEnough qs code ms → through qs new ≡ f qs)
      → through ps new ≡ f ps
  seen_enough ms first code ports new f enough e c p few g =
      ∥∥₁_elim enough (hlevel props) (λ h.
      g ps (let n = places_long in omega (arith, n, e)) (let n = ap (λ (qs : List Port). length qs) p in omega (arith, n, e, few))
      (subst (λ (xs : List Instr). IsEnough ps xs ms) (sym c) h))

  pub copied_within : (ms : List ℕ) (first : ℕ) → ∥ IsEnough ps settles ms ∥₁ → first ≡ length d.nets → All (λ m. m < first) ms
  copied_within ms first enough e =
      ∥∥₁_elim enough (hlevel props) (λ h k x l. let w = h.within k x l in let n = places_long in omega (arith, w, n, e))

  pub words_within : (first span : ℕ) → first ≡ length d.nets → span ≡ span_of d → first ≤ span
  words_within first span e k = let few = few_places in let n = places_long in omega (arith, few, n, e, k)

  -- slots that settled, as they are seen
  pub seen_settled : (slots pins given new : List ℕ) (code : List Instr) (ports : List Port) (span : ℕ)
      → code ≡ settles → ports ≡ d.ports → given ≡ pins → span ≡ span_of d → span_of d + span_of d ≤ length slots
      → through ps new ≡ through ps (exec code 0 (entered ports given (copied span slots)))
      → through ps new ≡ exec (reverse (settling_code d order)) 0 (entered d.ports pins (copied (span_of d) (through ps slots)))
  seen_settled slots pins given new code ports span c p g k long e =
      let few = few_places in
      let here : length ps ≤ length slots = omega (arith, few, long) in
      let x : List ℕ = entered d.ports pins (copied (span_of d) slots) in
      let lx : length x ≡ length slots = entered_long d.ports pins (copied (span_of d) slots) ∙ copied_long (span_of d) slots long in
      e ∙ ap (through ps) (ap (λ (xs : List Instr). exec xs 0 (entered ports given (copied span slots))) c
      ∙ ap (λ (qs : List Port). exec settles 0 (entered qs given (copied span slots))) p
      ∙ ap (λ (xs : List ℕ). exec settles 0 (entered d.ports xs (copied span slots))) g
      ∙ ap (λ j. exec settles 0 (entered d.ports pins (copied j slots))) k)
      ∙ settles_seen x (omega (arith, here, lx))
      ∙ ap (λ (xs : List ℕ). exec (reverse (settling_code d order)) 0 (entered d.ports pins xs))
      (sym (copied_seen ps slots (span_of d) few here))

  -- the same, unless that was done
  pub seen_again : (fresh : Bool) (slots pins given new : List ℕ) (code : List Instr) (ports : List Port) (span : ℕ)
      → code ≡ settles → ports ≡ d.ports → given ≡ pins → span ≡ span_of d → span_of d + span_of d ≤ length slots
      → through ps new ≡ (if fresh then through ps slots else through ps (exec code 0 (entered ports given (copied span slots))))
      → through ps new
      ≡ (if fresh then through ps slots
      else exec (reverse (settling_code d order)) 0 (entered d.ports pins (copied (span_of d) (through ps slots))))
  seen_again true slots pins given new code ports span c p g k long e = e
  seen_again false slots pins given new code ports span c p g k long e = seen_settled slots pins given new code ports span c p g k long e

  -- slots that were clocked, as they are seen
  pub seen_clocked : (mid new : List ℕ) (code : List Instr) → code ≡ clocks → length ps ≤ length mid → new ≡ exec code 0 mid
      → through ps new ≡ exec (reverse (clocking_code d)) 0 (through ps mid)
  seen_clocked mid new code c l e =
      ap (through ps) (e ∙ ap (λ (xs : List Instr). exec xs 0 mid) c) ∙ clocks_seen mid l

  -- slots that were loaded, as they are seen
  pub seen_state : (first new : List ℕ) → length ps ≤ length new → take (span_of d) (drop (span_of d) new) ≡ first
      → take (span_of d) (drop (span_of d) (through ps new)) ≡ first
  seen_state first new l e = ap (take (span_of d)) (drop_seen ps new (span_of d) few_places l) ∙ e

  pub seen_front : (u s : List ℕ) → span_of d ≤ length u → span_of d ≤ length s → take (span_of d) u ≡ take (span_of d) s
      → take (span_of d) (through ps u) ≡ take (span_of d) (through ps s)
  seen_front u s f g e = front_seen ps places_below u s (span_of d) few_places f g e

  pub seen_both : (u s : List ℕ) (both : ℕ) → both ≡ span_of d + span_of d → both ≤ length u → both ≤ length s → take both u ≡ take both s
      → take (span_of d + span_of d) (through ps u) ≡ take (span_of d + span_of d) (through ps s)
  seen_both u s both b f g e =
      subst (λ k. take k (through ps u) ≡ take k (through ps s)) b
      (front_seen ps places_below u s both (let few = few_places in omega (arith, few, b)) f g e)

  pub seen_zeros : (count : ℕ) → span_of d ≤ count → through ps (replicate count 0) ≡ replicate count 0
  seen_zeros count l = let few = few_places in zeros_seen ps places_below count (omega (arith, few, l))

  -- there are as many slots as are seen
  pub slots_long : (s : List ℕ) → span_of d + span_of d ≤ length (through ps s) → span_of d + span_of d ≤ length s
  slots_long s l =
      let few = few_places in
      let a = length-append (map (slice_index s) ps) (drop (length ps) s) in
      let m = length-map ps (slice_index s) in
      let r = length-drop (length ps) s in
      omega (arith, few, a, m, r, l)

  pub mid_long : (mid slots : List ℕ) → length (through ps mid) ≡ length slots → span_of d + span_of d ≤ length slots
      → length ps ≤ length mid
  mid_long mid slots e l =
      let few = few_places in
      let long = slots_long mid (omega (arith, e, l)) in
      omega (arith, few, long)
