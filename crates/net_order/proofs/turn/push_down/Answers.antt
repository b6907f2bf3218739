use Rattle.std.proofs.Common.{◌≡◌, ℕ, suc, ◌+◌, ◌-◌, ◌<◌, List, [], ◌∷◌, ◌++◌, slice_index, refl, ap, sym, ◌∙◌, append_assoc, arith}
use Rattle.net_order.specs.Turn.{down}
use Rattle.net_order.proofs.turn.push_down.Goals as goal

-- one more number of the path goes to the end of the list
step : (path out new all : List ℕ) (low place x : ℕ) → low < place → x ≡ slice_index path (place - 1) → new ≡ out ++ x ∷ []
    → out ++ down path low (place - low) ≡ all → new ++ down path low (place - 1 - low) ≡ all
step path out new all low place x l is e h =
    let n = place - 1 - low in
    let count : place - low ≡ suc n = omega (arith, l) in
    let top : low + n ≡ place - 1 = omega (arith, l) in
    ap (λ z. z ++ down path low n) e
    ∙ append_assoc out (x ∷ []) (down path low n)
    ∙ ap (λ z. out ++ (z ∷ down path low n)) (is ∙ ap (slice_index path) (sym top))
    ∙ ap (λ k. out ++ down path low k) (sym count)
    ∙ h

pub loop-place-preserved : goal.loop-place-preserved
loop-place-preserved c = record {
  low = omega (arith, c.loop-place-test.true);
  high = omega (arith, c.loop-place.invariant.high);
  same = step c.args.path.now c.loop-place.out c.push.new.self _ c.args.low c.loop-place.place _ (omega (arith, c.loop-place-test.true))
      refl c.in_ok-push.ensures.ok c.loop-place.invariant.same;
}
