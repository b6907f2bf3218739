-- The initial numbers of nets, entered register by register, from the last one to the first.
use Rattle.std.proofs.Common.{◌≡◌, ◌≢◌, ℕ, zero, suc, ◌+◌, ◌-◌, ◌<◌, ◌≤◌, List, [], ◌∷◌, map, drop, replicate, length, slice_set}
use Rattle.std.proofs.Common.{get_or, refl, ap, sym, ◌∙◌, if◌then◌else◌, arith}
use Rattle.std.proofs.lemmas.Bool.{eq-eqb, ne_eqb}
use Rattle.std.proofs.lemmas.List.{drop_more, set_past}
use Rattle.std.proofs.Math.Seq.{drop-length}
use Rattle.std.specs.List.{enumerate_from}
use Rattle.net_design.specs.declared.design.Net.{Net}
use Rattle.net_design.specs.declared.design.Register.{Register}
use Rattle.net_design.specs.Settled.{initial_number}

-- the numbers that these registers give to nets, the first of which has this place
abbrev pub numbers_from : List Register → ℕ → List Net → List ℕ
numbers_from rs start ns = map (λ (n : ℕ × Net). initial_number rs n.0) (enumerate_from start ns)

none_given : (start : ℕ) (ns : List Net) → replicate (length ns) 0 ≡ numbers_from [] start ns
none_given start [] = refl
none_given start (n ∷ ns) = ap (λ xs. 0 ∷ xs) (none_given (start + 1) ns)

pub none_entered : (rs : List Register) (ns : List Net) → replicate (length ns) 0 ≡ numbers_from (drop (length rs) rs) 0 ns
none_entered rs ns = none_given 0 ns ∙ ap (λ qs. numbers_from qs 0 ns) (sym (drop-length rs))

number_of : (r : Register) (rs : List Register) (m : ℕ) → r.net ≡ m → initial_number (r ∷ rs) m ≡ r.initial
number_of r rs m e = ap (λ b. if b then r.initial else initial_number rs m) (eq-eqb r.net m e)

number_else : (r : Register) (rs : List Register) (m : ℕ) → r.net ≢ m → initial_number (r ∷ rs) m ≡ initial_number rs m
number_else r rs m e = ap (λ b. if b then r.initial else initial_number rs m) (ne_eqb r.net m e)

-- nets behind that of a register
behind : (r : Register) (rs : List Register) (start : ℕ) (ns : List Net) → r.net < start
    → numbers_from rs start ns ≡ numbers_from (r ∷ rs) start ns
behind r rs start [] l = refl
behind r rs start (n ∷ ns) l =
    ap (λ x. x ∷ numbers_from rs (start + 1) ns) (sym (number_else r rs start (λ e. absurd (omega (arith, l, e)))))
    ∙ ap (λ xs. initial_number (r ∷ rs) start ∷ xs) (behind r rs (start + 1) ns (omega (arith, l)))

entered : (r : Register) (rs : List Register) (start : ℕ) (ns : List Net) (m : ℕ) → r.net ≡ start + m
    → slice_set (numbers_from rs start ns) m r.initial ≡ numbers_from (r ∷ rs) start ns
entered r rs start [] m e = refl
entered r rs start (n ∷ ns) zero e =
    ap (λ x. x ∷ numbers_from rs (start + 1) ns) (sym (number_of r rs start (omega (arith, e))))
    ∙ ap (λ xs. initial_number (r ∷ rs) start ∷ xs) (behind r rs (start + 1) ns (omega (arith, e)))
entered r rs start (n ∷ ns) (suc m) e =
    ap (λ x. x ∷ slice_set (numbers_from rs (start + 1) ns) m r.initial)
    (sym (number_else r rs start (λ e'. absurd (omega (arith, e, e')))))
    ∙ ap (λ xs. initial_number (r ∷ rs) start ∷ xs) (entered r rs (start + 1) ns m (omega (arith, e)))

here : (rs : List Register) (i : ℕ) (d : Register) → 0 < i → i ≤ length rs → drop (i - 1) rs ≡ get_or rs (i - 1) d ∷ drop i rs
here rs i d some l =
    drop_more rs (i - 1) d (omega (arith, some, l)) ∙ ap (λ k. get_or rs (i - 1) d ∷ drop k rs) (omega (arith, some))

-- register i - 1 is entered, whose net is there or isn't
pub register_step : (rs : List Register) (i : ℕ) (d : Register) (ns : List Net) (xs : List ℕ) → 0 < i → i ≤ length rs
    → xs ≡ numbers_from (drop i rs) 0 ns
    → slice_set xs (get_or rs (i - 1) d).net (get_or rs (i - 1) d).initial ≡ numbers_from (drop (i - 1) rs) 0 ns
register_step rs i d ns xs some l is =
    let r = get_or rs (i - 1) d in
    ap (λ ys. slice_set ys r.net r.initial) is ∙ entered r (drop i rs) 0 ns r.net (omega arith)
    ∙ ap (λ qs. numbers_from qs 0 ns) (sym (here rs i d some l))

pub no_net : (rs : List Register) (i : ℕ) (d : Register) (ns : List Net) (xs : List ℕ) → 0 < i → i ≤ length rs
    → xs ≡ numbers_from (drop i rs) 0 ns → length xs ≤ (get_or rs (i - 1) d).net → xs ≡ numbers_from (drop (i - 1) rs) 0 ns
no_net rs i d ns xs some l is past =
    let r = get_or rs (i - 1) d in
    sym (set_past xs r.net r.initial past) ∙ register_step rs i d ns xs some l is
