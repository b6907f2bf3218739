-- The state shown as far as code needs it, and slots that stay as they are.
use Rattle.std.proofs.Common.{◌≡◌, ℕ, zero, suc, ◌+◌, ◌<◌, ◌≤◌, Bool, true, false, not, IsTrue, if◌then◌else◌, List, [], ◌∷◌, All, length, get_or, drop}
use Rattle.std.proofs.Common.{slice_index, ⊎_elim, refl, ap, sym, subst, ◌∙◌, arith}
use Rattle.std.proofs.lemmas.Bool.{cases_lt}
use Rattle.std.proofs.lemmas.List.{get_or-drop, get_or-take}
use Rattle.net_design.specs.declared.design.Port.{Port}
use Rattle.net_order.specs.Run.{enters, entered}
use Rattle.net_order.proofs.Entered.{entered_long}
use Rattle.net_instr.specs.declared.instr.Instr.{Instr}
use Rattle.net_instr.specs.Machine.{exec}
use Rattle.net_instr.specs.InPlace.{through}
use Rattle.net_instr.specs.Needs.{IsEnough}
use Rattle.net_instr.proofs.NeedLaws.{drop_same, same_drop}
use Rattle.net_sim.specs.Slots.{copied, AreShown}
use Rattle.net_sim.proofs.SlotLaws.{copied_front, copied_back, copied_long, entered_drop}

-- pins are entered in each slot alike
entered_same : (ports : List Port) (pins xs ys : List ℕ) (k : ℕ) → length xs ≡ length ys → slice_index xs k ≡ slice_index ys k
    → slice_index (entered ports pins xs) k ≡ slice_index (entered ports pins ys) k
entered_same [] pins xs ys k l e = e
entered_same (p ∷ ports) pins [] [] k l e = refl
entered_same (p ∷ ports) pins [] (y ∷ ys) k l e = absurd (omega (arith, l))
entered_same (p ∷ ports) pins (x ∷ xs) [] k l e = absurd (omega (arith, l))
entered_same (p ∷ ports) pins (x ∷ xs) (y ∷ ys) zero l e = ap (λ n. if enters p then slice_index pins 0 else n) e
entered_same (p ∷ ports) pins (x ∷ xs) (y ∷ ys) (suc k) l e =
    entered_same ports (if enters p then drop 1 pins else pins) xs ys k (omega (arith, l)) e

copied_at : (span : ℕ) (s : List ℕ) (k : ℕ) → span + span ≤ length s → k < span
    → slice_index (copied span s) k ≡ slice_index s (span + k)
copied_at span s k l h =
    sym (get_or-take span (copied span s) k 0 h) ∙ ap (λ (xs : List ℕ). slice_index xs k) (copied_front span s l)
    ∙ get_or-take span (drop span s) k 0 h ∙ get_or-drop span s k 0

-- what is shown of the state is enough
pub shown_enough : (ps ms : List ℕ) (code : List Instr) (first span : ℕ) (ports : List Port) (pins old mid : List ℕ)
    → AreShown ms first span old mid → span + span ≤ length old → first ≤ span → All (λ m. m < first) ms
    → length ps ≡ first → length ports ≤ first → IsEnough ps code ms
    → through ps (exec code 0 (entered ports pins mid)) ≡ through ps (exec code 0 (entered ports pins (copied span old)))
shown_enough ps ms code first span ports pins old mid a long few within lp some e =
    let whole : List ℕ = copied span old in
    let lc : length whole ≡ length old = copied_long span old long in
    let lm : length mid ≡ length whole = a.long ∙ sym lc in
    let lx = entered_long ports pins mid in
    let ly = entered_long ports pins whole in
    let rest : drop first mid ≡ drop first whole = same_drop first mid whole lm (λ k l. ⊎_elim
    (λ (x : k < span). a.words k l x ∙ sym (copied_at span old k long x))
    (λ (y : span ≤ k). a.behind k y ∙ sym (drop_same span whole old (copied_back span old long) k y)) (cases_lt k span)) in
    e.same (entered ports pins mid) (entered ports pins whole) (lx ∙ lm ∙ sym ly) (let h = a.long in omega (arith, lx, h, lp, few, long))
    (subst (λ n. drop n (entered ports pins mid) ≡ drop n (entered ports pins whole)) (sym lp)
    (entered_drop ports pins first mid some ∙ rest ∙ sym (entered_drop ports pins first whole some)))
    (λ k d h.
    let inside : get_or ms k d < span = (let w = within k d h in omega (arith, w, few)) in
    entered_same ports pins mid whole (get_or ms k d) lm (a.nets k d h ∙ sym (copied_at span old (get_or ms k d) long inside)))

pub not_true : (b : Bool) → IsTrue (not b) → b ≡ false
not_true true h = absurd cc
not_true false h = refl

-- nets first, words then
pub shown_both : (ms given : List ℕ) (first span : ℕ) (old a b w new : List ℕ) → given ≡ ms → a ≡ old → new ≡ w → length w ≡ length a
    → All (λ m. m < first) ms → All (λ m. slice_index b m ≡ slice_index a (span + m)) given
    → ((k : ℕ) → span ≤ k → slice_index b k ≡ slice_index a k)
    → ((k : ℕ) → first ≤ k → k < span → slice_index w k ≡ slice_index b (span + k))
    → ((k : ℕ) → k < first → slice_index w k ≡ slice_index b k)
    → ((k : ℕ) → span ≤ k → slice_index w k ≡ slice_index b k)
    → AreShown ms first span old new
shown_both ms given first span old a b w new eg ea ew long within nets back words front behind =
    let shown = subst (λ (xs : List ℕ). All (λ m. slice_index b m ≡ slice_index a (span + m)) xs) eg nets in
    subst (λ (xs : List ℕ). AreShown ms first span xs new) ea (subst (λ (xs : List ℕ). AreShown ms first span a xs) (sym ew) (record {
      nets = λ k d h. front (get_or ms k d) (within k d h) ∙ shown k d h;
      words = λ k l h. words k l h ∙ back (span + k) (omega arith);
      behind = λ k l. behind k l ∙ back k l;
      long = long;
    }))
