-- Code that is pushed part by part, from the last part to the first.
use Rattle.std.proofs.Common.{◌≡◌, ℕ, zero, suc, ◌+◌, ◌-◌, ◌<◌, ◌≤◌, List, [], ◌∷◌, ◌++◌, length, get_or, drop, ap, sym, subst, ◌∙◌}
use Rattle.std.proofs.Common.{append_assoc, arith}
use Rattle.std.proofs.lemmas.List.{get_or_default}
use Rattle.std.proofs.lemmas.List.Sums.{sum_by-cons}
use Rattle.net_design.specs.declared.act.Guard.{Guard}
use Rattle.net_design.specs.declared.act.Place.{Place}
use Rattle.net_design.specs.Updates.{place_width, target_width}
use Rattle.net_design.proofs.UpdateLaws.{from_here}
use Rattle.net_instr.specs.declared.instr.Instr.{Instr}
use Rattle.net_instr.specs.declared.instr.Instr.TheVariants.{SkipIfZero, Skip}
use Rattle.net_instr.specs.Machine.{IsBelow, AreBelow}
use Rattle.net_instr.specs.Layout.{base}
use Rattle.net_instr.specs.Expressions.{slot}
use Rattle.net_instr.specs.Statements.{choice, index_slots, all_slots, place_index, index_code}
use Rattle.net_instr.specs.Statements.{place_store, stores, test_code, block_code, guard_code}

pub before_here : {X : Type 0} (xs : List X) (i : ℕ) (x : X) → 0 < i → i ≤ length xs → x ≡ get_or xs (i - 1) x
    → drop (i - 1) xs ≡ x ∷ drop i xs
before_here xs i x some l e =
    let up : i - 1 + 1 ≡ i = omega (arith, some) in
    from_here xs (i - 1) x (omega (arith, some, l)) e ∙ ap (λ k. x ∷ drop k xs) up

pub slots_drop : (k : ℕ) (ps : List Place) → all_slots (drop k ps) ≤ all_slots ps
slots_drop zero ps = omega arith
slots_drop (suc k) [] = omega arith
slots_drop (suc k) (p ∷ ps) = let h = slots_drop k ps in omega (arith, h)

pub width_drop : (k : ℕ) (ps : List Place) → target_width (drop k ps) ≤ target_width ps
width_drop zero ps = omega arith
width_drop (suc k) [] = omega arith
width_drop (suc k) (p ∷ ps) = let h = width_drop k ps in let e = sum_by-cons place_width p ps in omega (arith, h, e)

-- slots that are left before those of a place
pub slots_left : (ps : List Place) (i : ℕ) (p : Place) (t start end : ℕ) → 0 < i → i ≤ length ps → p ≡ get_or ps (i - 1) p
    → t + all_slots (drop i ps) ≡ end → end ≡ start + all_slots ps → index_slots p ≤ t
slots_left ps i p t start end some l e f g =
    let here = ap all_slots (before_here ps i p some l e) in
    let most = slots_drop (i - 1) ps in
    omega (arith, here, most, f, g)

pub slots_next : (ps : List Place) (i : ℕ) (p : Place) (t r end : ℕ) → 0 < i → i ≤ length ps → p ≡ get_or ps (i - 1) p
    → r ≡ index_slots p → r ≤ t → t + all_slots (drop i ps) ≡ end → t - r + all_slots (drop (i - 1) ps) ≡ end
slots_next ps i p t r end some l e is few f =
    let here = ap all_slots (before_here ps i p some l e) in
    omega (arith, here, is, few, f)

pub index_step : (widths : List ℕ) (W : ℕ) (ps : List Place) (i : ℕ) (p : Place) (t r : ℕ) (code new first : List Instr) → 0 < i
    → i ≤ length ps → p ≡ get_or ps (i - 1) p → r ≡ index_slots p → r ≤ t → code ≡ first ++ index_code widths W (drop i ps) t
    → new ≡ code ++ place_index widths W p (t - r) → new ≡ first ++ index_code widths W (drop (i - 1) ps) (t - r)
index_step widths W ps i p t r code new first some l e is few f g =
    let up : t ≡ t - r + index_slots p = omega (arith, is, few) in
    g ∙ ap (λ c. c ++ place_index widths W p (t - r)) (f ∙ ap (λ k. first ++ index_code widths W (drop i ps) k) up)
    ∙ append_assoc first (index_code widths W (drop i ps) (t - r + index_slots p)) (place_index widths W p (t - r))
    ∙ ap (λ qs. first ++ index_code widths W qs (t - r)) (sym (before_here ps i p some l e))

pub store_step : (widths : List ℕ) (W o : ℕ) (ps : List Place) (i : ℕ) (p : Place) (t r rest : ℕ) (code new first : List Instr) → 0 < i
    → i ≤ length ps → p ≡ get_or ps (i - 1) p → r ≡ index_slots p → r ≤ t → rest ≡ target_width (drop i ps)
    → code ≡ first ++ stores widths W o (drop i ps) t
    → new ≡ code ++ place_store widths W o p (t - r) rest → new ≡ first ++ stores widths W o (drop (i - 1) ps) (t - r)
store_step widths W o ps i p t r rest code new first some l e is few h f g =
    let up : t ≡ t - r + index_slots p = omega (arith, is, few) in
    g ∙ ap (λ n. code ++ place_store widths W o p (t - r) n) h
    ∙ ap (λ c. c ++ place_store widths W o p (t - r) (target_width (drop i ps))) (f ∙ ap (λ k. first ++ stores widths W o (drop i ps) k) up)
    ∙ append_assoc first (stores widths W o (drop i ps) (t - r + index_slots p)) (place_store widths W o p (t - r) (target_width
    (drop i ps)))
    ∙ ap (λ qs. first ++ stores widths W o qs (t - r)) (sym (before_here ps i p some l e))

pub width_next : (ps : List Place) (i : ℕ) (p : Place) (rest w : ℕ) → 0 < i → i ≤ length ps → p ≡ get_or ps (i - 1) p
    → rest ≡ target_width (drop i ps) → w ≡ place_width p → rest + w ≡ target_width (drop (i - 1) ps)
width_next ps i p rest w some l e h is =
    let sum = ap target_width (before_here ps i p some l e) ∙ sum_by-cons place_width p (drop i ps) in
    omega (arith, sum, h, is)

-- one more guard in front of others, whose code is zs
pub guard_parts : (c : ℕ) (front zs xs test : List Instr)
    → (front ++ (zs ++ (Skip (length zs) ∷ []))) ++ (xs ++ (SkipIfZero c (length xs + 1) ∷ test)) ≡ front ++ (choice c xs zs ++ test)
guard_parts c front zs xs test =
    let s : Instr = SkipIfZero c (length xs + 1) in
    let k : Instr = Skip (length zs) in
    append_assoc front (zs ++ (k ∷ [])) (xs ++ (s ∷ test))
    ∙ ap (λ l. front ++ l)
    (append_assoc zs (k ∷ []) (xs ++ (s ∷ test))
    ∙ ap (λ l. zs ++ (k ∷ l)) (sym (append_assoc xs (s ∷ []) test))
    ∙ sym (append_assoc zs (k ∷ (xs ++ (s ∷ []))) test))

pub guard_step : (widths : List ℕ) (W o : ℕ) (gs : List Guard) (i : ℕ) (g : Guard) (front ys one two three : List Instr) → 0 < i
    → i ≤ length gs → g ≡ get_or gs (i - 1) g
    → one ≡ front ++ (guard_code widths W o (drop i gs) ys ++ (Skip (length (guard_code widths W o (drop i gs) ys)) ∷ []))
    → two ≡ one ++ block_code widths W o g.body
    → three ≡ one ++ (block_code widths W o g.body ++ (SkipIfZero (slot widths g.condition (base widths W)) (length
    (block_code widths W o g.body) + 1)
    ∷ test_code widths W g.condition))
    → three ≡ front ++ guard_code widths W o (drop (i - 1) gs) ys
guard_step widths W o gs i g front ys one two three some l e f h k =
    let zs = guard_code widths W o (drop i gs) ys in
    let xs = block_code widths W o g.body in
    let c = slot widths g.condition (base widths W) in
    k ∙ ap (λ p. p ++ (xs ++ (SkipIfZero c (length xs + 1) ∷ test_code widths W g.condition))) f
    ∙ guard_parts c front zs xs (test_code widths W g.condition)
    ∙ ap (λ hs. front ++ guard_code widths W o hs ys) (sym (before_here gs i g some l e))

-- one more instruction that lies below a slot
pub below_here : (limit : ℕ) (code : List Instr) (k : ℕ) (d : Instr) → k < length code → IsBelow limit (get_or code k d)
    → AreBelow limit (drop (k + 1) code) → AreBelow limit (drop k code)
below_here limit code k d l h rest =
    subst (λ (xs : List Instr). AreBelow limit xs)
    (sym (from_here code k (get_or code k d) l (get_or_default code k d (get_or code k d) l))) (h, rest)
