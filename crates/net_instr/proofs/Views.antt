-- The numbers of a design in the slots, where slots change.
use Rattle.std.proofs.Common.{◌≡◌, ℕ, ◌+◌, ◌<◌, ◌≤◌, List, length, take, drop, slice_index, ap}
use Rattle.std.proofs.Common.{sym, subst, ◌∙◌, arith}
use Rattle.std.proofs.lemmas.List.{take-take, get_or-take, get_or-drop, drop-take}
use Rattle.net_instr.specs.Layout.{view, span, base, shown, state, Fits, IsReady}

-- slots that are the same up to a place
pub kept : (j k : ℕ) (u w : List ℕ) → take j w ≡ take j u → k < j → slice_index w k ≡ slice_index u k
kept j k u w e l = sym (get_or-take j w k 0 l) ∙ ap (λ xs. slice_index xs k) e ∙ get_or-take j u k 0 l

pub kept_less : (i j : ℕ) (u w : List ℕ) → i ≤ j → take j w ≡ take j u → take i w ≡ take i u
kept_less i j u w l e = sym (take-take i j w l) ∙ ap (take i) e ∙ take-take i j u l

pub view_by : (n W : ℕ) (u w : List ℕ) → take (n + W) w ≡ take (n + W) u → view n W w ≡ view n W u
view_by n W u w e =
    ap (λ xs. record { nets = xs; words = drop n (take (n + W) w) }) (kept_less n (n + W) u w (omega arith) e)
    ∙ ap (λ xs. record { nets = take n u; words = drop n xs }) e

pub net_at : (n W m : ℕ) (s : List ℕ) → m < n → slice_index (view n W s).nets m ≡ slice_index s m
net_at n W m s l = get_or-take n s m 0 l

pub word_here : (n W k : ℕ) (s : List ℕ) → k < W → slice_index (view n W s).words k ≡ slice_index s (n + k)
word_here n W k s l = get_or-drop n (take (n + W) s) k 0 ∙ get_or-take (n + W) s (n + k) 0 (omega arith)

module _ (widths : List ℕ) (W : ℕ) where
  n : ℕ
  n = length widths

  pub same_shown : (k : ℕ) (u w : List ℕ) → span widths W ≤ k → take k w ≡ take k u → shown widths W w ≡ shown widths W u
  same_shown k u w l e = view_by (length widths) W u w (kept_less (span widths W) k u w l e)

  pub same_state : (k : ℕ) (u w : List ℕ) → base widths W ≤ k → take k w ≡ take k u → state widths W w ≡ state widths W u
  same_state k u w l e =
      let a = span widths W in
      view_by (length widths) W (drop a u) (drop a w)
      (sym (drop-take a a w) ∙ ap (drop a) (kept_less (a + a) k u w l e) ∙ drop-take a a u)

  pub same_ready : (k : ℕ) (u w : List ℕ) → base widths W ≤ k → take k w ≡ take k u → length w ≡ length u → IsReady widths W u
      → IsReady widths W w
  same_ready k u w l e long r =
      record {
        long = let h = r.long in omega (arith, h, long);
        shown_fits = subst (Fits widths W) (sym (same_shown k u w (omega (arith, l)) e)) r.shown_fits;
        state_fits = subst (Fits widths W) (sym (same_state k u w l e)) r.state_fits;
      }
