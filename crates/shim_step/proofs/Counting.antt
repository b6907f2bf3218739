-- The chain of comparisons and the counters of a replayer.
use Rattle.std.proofs.Common.{◌≡◌, ◌≢◌, ℕ, zero, suc, ◌+◌, ◌%◌, ◌/◌, ◌*◌, ◌<◌, ◌≤◌, ◌^◌, Bool, true, false, ◌&&◌, nat_le}
use Rattle.std.proofs.Common.{List, [], ◌∷◌, ◌++◌, refl, sym, ap, ◌∙◌, subst, arith, length, get_or, ⊎_elim, ◌↔◌}
use Rattle.std.specs.Prelude.{codes, max, bit_and}
use Rattle.std.proofs.lemmas.List.{get_or-set_same, get_or-set_other}
use Rattle.std.proofs.Math.Nat.{mod-eq_of_lt, div-eq_of_lt, mod-one}
use Rattle.std.proofs.lemmas.Bool.{cases_lt, and_parts, and_from}
use Rattle.std.proofs.lemmas.Bool.Decides.{nat_tests}
use Rattle.std.proofs.Math.ListN.{length-set}
use Rattle.net_order.specs.vidi_bits.Number.{put_of, truth}
use Rattle.vlog_tree.specs.declared.expr.BinaryOp.TheVariants.{GreaterOrEqual, Plus}
use Rattle.vlog_tree.specs.Tree.{ExprOf, BinaryExpr}
use Rattle.shim_trees.specs.vlog_size.Names.{Readable}
use Rattle.net_design.specs.declared.act.Timing.TheVariants.{Nonblocking}
use Rattle.net_design.specs.declared.values.Target.TheVariants as targets
use Rattle.net_design.specs.declared.values.Update.{Update}
use Rattle.net_design.specs.declared.values.Values.{Values}
use Rattle.net_design.specs.Updates.{apply, update, written_to}
use Rattle.flat_parts.specs.vlog_block.Value.{value, width_of}
use Rattle.flat_parts.specs.vlog_block.Targets.{target_width, target_updates}
use Rattle.flat_parts.specs.vlog_block.Updates.{stmts_updates}
use Rattle.shim_trees.specs.Pieces.{numbered, ident, net, target, both}
use Rattle.shim_trees.specs.Replayer.{covers, covering, counting}
use Rattle.shim_step.specs.Nets.{IsNet}
use Rattle.shim_step.proofs.Whole.{read_width, read_number, target_bits}
use Rattle.shim_step.proofs.Clocked.{one_update}

-- counters from i on have reached what is needed
abbrev pub reached : (ℕ → ℕ) → (ℕ → ℕ) → ℕ → ℕ → Bool → Bool
reached have need i zero b = b
reached have need i (suc count) b = reached have need (i + 1) count (b && nat_le (need i) (have i))

test_le : (a b : ℕ) → nat_le a b ≡ true → a ≤ b
test_le a b h = grind (arith, nat_tests)

le_test : (a b : ℕ) → a ≤ b → nat_le a b ≡ true
le_test a b h = grind (arith, nat_tests)

-- that is up exactly where b is and each counter covers
pub reached_is : (have need : ℕ → ℕ) (i count : ℕ) (b : Bool)
    → (reached have need i count b ≡ true) ↔ ((b ≡ true) × ((j : ℕ) → i ≤ j → j < i + count → need j ≤ have j))
reached_is have need i zero b = ((λ t. (t, λ j low high. absurd (omega (arith, low, high)))), (λ h. h.0))
reached_is have need i (suc count) b =
    let later = reached_is have need (i + 1) count (b && nat_le (need i) (have i)) in (
      (λ t.
          (let h = later.0 t in
          let parts = and_parts b (nat_le (need i) (have i)) h.0 in (
            parts.0,
            (λ j low high.
                ⊎_elim
                (λ (less : i < j). h.1 j (omega (arith, less)) (omega (arith, high)))
                (λ (more : j ≤ i).
                (let same : i ≡ j = omega (arith, low, more) in
                subst (λ k. need k ≤ have k) same (test_le (need i) (have i) parts.1)))
                (cases_lt i j)),
          ))),
      (λ h.
          later.1 (
            and_from b (nat_le (need i) (have i)) h.0 (le_test (need i) (have i) (h.1 i (omega arith) (omega arith))),
            (λ j low high. h.1 j (omega (arith, low)) (omega (arith, high))),
          )),
    )

module _ (r : Readable) (v : Values) (have need : ℕ → ℕ) (n : ℕ)
    (is_c : (i : ℕ) → i < n → IsNet r v (numbered (codes "c") i) 32 (have i))
    (is_n : (i : ℕ) → i < n → IsNet r v (numbered (codes "n") i) 32 (need i)) where
  and_flags : (a b : Bool) → bit_and (truth a) (truth b) ≡ truth (a && b)
  and_flags true true = refl
  and_flags true false = refl
  and_flags false true = refl
  and_flags false false = refl

  pub chain : (i count : ℕ) → i + count ≤ n → (e : ExprOf ℕ) (b : Bool) → ((m : ℕ) → value r v e m ≡ truth b)
      → (m : ℕ) → value r v (covering i count e) m ≡ truth (reached have need i count b)
  chain i zero within e b h m = h m
  chain i (suc count) within e b h m =
      let at : ExprOf ℕ = BinaryExpr (net (numbered (codes "c") i)) GreaterOrEqual (net (numbered (codes "n") i)) in
      let here : i < n = omega (arith, within) in
      chain (i + 1) count (omega (arith, within)) (both e (covers i)) (b && nat_le (need i) (have i))
      (λ k.
      let w : ℕ = max (width_of r (net (numbered (codes "c") i))) (width_of r (net (numbered (codes "n") i))) in
      ap (λ z. bit_and z (value r v at k)) (h k)
      ∙ ap (λ z. bit_and (truth b) (truth (nat_le (value r v (net (numbered (codes "n") i)) w) z)))
      (read_number r v (ident (numbered (codes "c") i)) 32 (have i) (is_c i here) w)
      ∙ ap (λ z. bit_and (truth b) (truth (nat_le z (have i))))
      (read_number r v (ident (numbered (codes "n") i)) 32 (need i) (is_n i here) w)
      ∙ and_flags b (nat_le (need i) (have i))) m

-- ---- the counters
module _ (r : Readable) (v : Values) (have : ℕ → ℕ) (ends : ℕ → Bool) (n : ℕ)
    (is_c : (i : ℕ) → i < n → IsNet r v (numbered (codes "c") i) 32 (have i))
    (is_d : (i : ℕ) → i < n → IsNet r v (numbered (codes "d") i) 1 (truth (ends i)))
    (place : ℕ → ℕ) (placed : (i : ℕ) (l : i < n) → (is_c i l).place ≡ place i) where
  -- the updates of counters from i on
  abbrev pub counted : ℕ → ℕ → List Update
  counted i zero = []
  counted i (suc count) = update (targets.Net (place i)) 0 32 ((have i + truth (ends i)) % 2 ^ 32) ∷ counted (i + 1) count

  width_sum : (i : ℕ) → i < n → max (target_width r (target (numbered (codes "c") i)))
      (width_of r (BinaryExpr (net (numbered (codes "c") i)) Plus (net (numbered (codes "d") i)))) ≡ 32
  width_sum i l =
      ap (λ z. max z (max (width_of r (net (numbered (codes "c") i))) (width_of r (net (numbered (codes "d") i)))))
      (target_bits r v (ident (numbered (codes "c") i)) 32 (have i) (is_c i l))
      ∙ ap (λ z. max 32 (max z (width_of r (net (numbered (codes "d") i)))))
      (read_width r v (ident (numbered (codes "c") i)) 32 (have i) (is_c i l))
      ∙ ap (λ z. max 32 (max 32 z)) (read_width r v (ident (numbered (codes "d") i)) 1 (truth (ends i)) (is_d i l))

  sum_is : (i : ℕ) → i < n
      → value r v (BinaryExpr (net (numbered (codes "c") i)) Plus (net (numbered (codes "d") i))) 32 ≡ (have i + truth (ends i)) % 2 ^ 32
  sum_is i l =
      ap (λ z. (z + value r v (net (numbered (codes "d") i)) 32) % 2 ^ 32)
      (read_number r v (ident (numbered (codes "c") i)) 32 (have i) (is_c i l) 32)
      ∙ ap (λ z. (have i + z) % 2 ^ 32) (read_number r v (ident (numbered (codes "d") i)) 1 (truth (ends i)) (is_d i l) 32)

  pub counts : (i count : ℕ) → i + count ≤ n → stmts_updates r Nonblocking (counting i count) v ≡ counted i count
  counts i zero within = refl
  counts i (suc count) within =
      let e : ExprOf ℕ = BinaryExpr (net (numbered (codes "c") i)) Plus (net (numbered (codes "d") i)) in
      let l : i < n = omega (arith, within) in
      ap (λ us. us ++ stmts_updates r Nonblocking (counting (i + 1) count) v)
      (ap (λ m. target_updates r v (target (numbered (codes "c") i)) (value r v e m)) (width_sum i l)
      ∙ ap (λ y. target_updates r v (target (numbered (codes "c") i)) y) (sum_is i l)
      ∙ one_update r v (numbered (codes "c") i) 32 (have i) (is_c i l) ((have i + truth (ends i)) % 2 ^ 32) (omega arith)
      ∙ ap (λ p. update (targets.Net p) 0 32 ((have i + truth (ends i)) % 2 ^ 32) ∷ []) (placed i l))
      ∙ ap (λ us. update (targets.Net (place i)) 0 32 ((have i + truth (ends i)) % 2 ^ 32) ∷ us) (counts (i + 1) count (omega (arith, within)))

  -- ---- what the updates leave
  module _ (apart : (i j : ℕ) → i < n → j < n → i ≢ j → place i ≢ place j) where
    kept : (i count : ℕ) → i + count ≤ n → (s : Values) (j : ℕ) → j < n → ((k : ℕ) → i ≤ k → k ≢ j)
        → get_or (apply (counted i count) s).nets (place j) 0 ≡ get_or s.nets (place j) 0
    kept i zero within s j l h = refl
    kept i (suc count) within s j l h =
        let u : Update = update (targets.Net (place i)) 0 32 ((have i + truth (ends i)) % 2 ^ 32) in
        kept (i + 1) count (omega (arith, within)) (written_to (targets.Net (place i)) u s) j l (λ k m. h k (omega (arith, m)))
        ∙ get_or-set_other s.nets (place i) (place j) (put_of (get_or s.nets (place i) 0) 0 32 ((have i + truth (ends i)) % 2 ^ 32)) 0
        (λ e. apart i j (omega (arith, within)) l (h i (omega arith)) (sym e))

    -- each counter counts once
    pub counter : (i count : ℕ) → i + count ≤ n → (s : Values) (j : ℕ) → i ≤ j → j < i + count → place j < length s.nets
        → get_or (apply (counted i count) s).nets (place j) 0
        ≡ put_of (get_or s.nets (place j) 0) 0 32 ((have j + truth (ends j)) % 2 ^ 32)
    counter i zero within s j low high there = absurd (omega (arith, low, high))
    counter i (suc count) within s j low high there =
        let x : ℕ = put_of (get_or s.nets (place i) 0) 0 32 ((have i + truth (ends i)) % 2 ^ 32) in
        let t : Values = written_to (targets.Net (place i)) (update (targets.Net (place i)) 0 32 ((have i + truth (ends i)) % 2 ^ 32)) s in
        ⊎_elim
        (λ (less : i < j).
        let other : place j ≢ place i =
        (λ e. apart i j (omega (arith, within)) (omega (arith, within, high)) (λ same. absurd (omega (arith, less, same))) (sym e)) in
        let long : length t.nets ≡ length s.nets = length-set s.nets (place i) x in
        counter (i + 1) count (omega (arith, within)) t j (omega (arith, less)) (omega (arith, high)) (omega (arith, long, there))
        ∙ ap (λ z. put_of z 0 32 ((have j + truth (ends j)) % 2 ^ 32)) (get_or-set_other s.nets (place i) (place j) x 0 other))
        (λ (more : j ≤ i).
        let same : i ≡ j = omega (arith, low, more) in
        let here : place i < length s.nets = subst (λ k. place k < length s.nets) (sym same) there in
        kept (i + 1) count (omega (arith, within)) t j (omega (arith, within, high)) (λ k l e. absurd (omega (arith, l, e, same)))
        ∙ subst (λ k. get_or t.nets (place k) 0 ≡ put_of (get_or s.nets (place k) 0) 0 32 ((have k + truth (ends k)) % 2 ^ 32)) same
        (get_or-set_same s.nets (place i) x 0 here))
        (cases_lt i j)

-- what is put into 32 bits is the sum, while it is small
pub put_small : (x y : ℕ) → x < 2 ^ 32 → y < 2 ^ 32 → put_of x 0 32 (y % 2 ^ 32) ≡ y
put_small x y a b =
    let high : x / 2 ^ 32 ≡ 0 = div-eq_of_lt a in
    let low : x % 2 ^ 0 ≡ 0 = mod-one x in
    let inner : y % 2 ^ 32 ≡ y = mod-eq_of_lt b in
    ap (λ z. ((z * 2 ^ 32 + y % 2 ^ 32 % 2 ^ 32) * 2 ^ 0 + x % 2 ^ 0) % 2 ^ 128) high
    ∙ ap (λ z. ((0 * 2 ^ 32 + y % 2 ^ 32 % 2 ^ 32) * 2 ^ 0 + z) % 2 ^ 128) low
    ∙ ap (λ z. ((0 * 2 ^ 32 + z % 2 ^ 32) * 2 ^ 0 + 0) % 2 ^ 128) inner
    ∙ ap (λ z. ((0 * 2 ^ 32 + z) * 2 ^ 0 + 0) % 2 ^ 128) inner
    ∙ (let same : (0 * 2 ^ 32 + y) * 2 ^ 0 + 0 ≡ y = omega arith in
    ap (λ z. z % 2 ^ 128) same ∙ mod-eq_of_lt (wide y b)) where
      wide : (y : ℕ) → y < 2 ^ 32 → y < 2 ^ 128
      wide y h = omega (arith, h)
