-- The initial state, loaded into slots.
use Rattle.std.proofs.Common.{◌≡◌, ℕ, ◌+◌, ◌^◌, ◌<◌, ◌≤◌, List, ◌++◌, length, length-append}
use Rattle.std.proofs.Common.{take, drop, replicate, slice_index, ap, sym, subst, ◌∙◌, arith}
use Rattle.std.proofs.Math.Seq.{take-append_seam, drop-append_seam}
use Rattle.std.proofs.lemmas.List.{length-map, take-take, get_or-take, get_or-replicate}
use Rattle.std.specs.List.{refill}
use Rattle.std.proofs.lemmas.List.{take-append-le, take_all}
use Rattle.std.proofs.lemmas.Nat.{pow_pos}
use Rattle.net_design.specs.declared.design.Net.{Net}
use Rattle.net_design.specs.declared.design.Design.{Design}
use Rattle.net_design.specs.declared.values.Values.{Values}
use Rattle.net_design.specs.Settled.{word_count, initial}
use Rattle.net_design.specs.Lawful.{IsLawful, IsState}
use Rattle.net_instr.specs.Layout.{view, IsReady, Fits}
use Rattle.net_instr.proofs.Views.{view_by}
use Rattle.net_order.proofs.Known.{known_initial}
use Rattle.net_sim.specs.Slots.{widths_of, span_of, shown_in, state_in}

view_of : (n W : ℕ) (v : Values) (s : List ℕ) → length v.nets ≡ n → take (n + W) s ≡ v.nets ++ v.words → view n W s ≡ v
view_of n W v s long e =
    let nets : take n s ≡ v.nets = sym (take-take n (n + W) s (omega arith)) ∙ ap (take n) e
    ∙ ap (λ k. take k (v.nets ++ v.words)) (sym long) ∙ take-append_seam v.nets v.words in
    let words : drop n (take (n + W) s) ≡ v.words = ap (drop n) e ∙ ap (λ k. drop k (v.nets ++ v.words)) (sym long)
    ∙ drop-append_seam v.nets v.words in
    ap (λ (xs : List ℕ). record { nets = xs; words = drop n (take (n + W) s) }) nets
    ∙ ap (λ (xs : List ℕ). record { nets = v.nets; words = xs }) words

module _ (d : Design) (law : ∥ IsLawful d ∥₁) where
  widths_long : length (widths_of d) ≡ length d.nets
  widths_long = length-map d.nets (λ (n : Net). n.width)

  pub loaded : (slots first : List ℕ) → first ≡ (initial d).nets ++ (initial d).words → take (span_of d) (drop (span_of d) slots) ≡ first
      → state_in d slots ≡ initial d
  loaded slots first e f =
      view_of (length (widths_of d)) (word_count d) (initial d) (drop (span_of d) slots)
      ((known_initial d law).nets.long ∙ sym widths_long) (f ∙ e)

  pub loaded_state : (slots : List ℕ) → state_in d slots ≡ initial d → IsState d (state_in d slots)
  loaded_state slots e = subst (IsState d) (sym e) (known_initial d law)

  state_fits : (v : Values) → IsState d v → Fits (widths_of d) (word_count d) v
  state_fits v is = λ m l. is.nets.each m

  -- after the load of slots that were ready
  pub load_ready : (old new : List ℕ) → IsReady (widths_of d) (word_count d) old → length new ≡ length old
      → take (span_of d) new ≡ take (span_of d) old → state_in d new ≡ initial d → IsReady (widths_of d) (word_count d) new
  load_ready old new r long front e =
      record {
        long = let h = r.long in omega (arith, h, long);
        shown_fits = subst (Fits (widths_of d) (word_count d))
            (sym (view_by (length (widths_of d)) (word_count d) old new front)) r.shown_fits;
        state_fits = state_fits (state_in d new) (loaded_state new e);
      }

  -- after the load of zeros
  pub first_ready : (count : ℕ) (new : List ℕ) → span_of d + span_of d ≤ count → length new ≡ count
      → take (span_of d) new ≡ take (span_of d) (replicate count 0) → state_in d new ≡ initial d
      → IsReady (widths_of d) (word_count d) new
  first_ready count new few long front e =
      record {
        long = omega (arith, few, long);
        shown_fits = λ m l.
            let here : slice_index (shown_in d new).nets m ≡ 0 =
            ap (λ (v : Values). slice_index v.nets m) (view_by (length (widths_of d)) (word_count d) (replicate count 0) new front)
            ∙ get_or-take (length (widths_of d)) (replicate count 0) m 0 l
            ∙ get_or-replicate count m 0 0 (omega (arith, l, few)) in
            subst (λ x. x < 2 ^ slice_index (widths_of d) m) (sym here) (pow_pos (slice_index (widths_of d) m));
        state_fits = state_fits (state_in d new) (loaded_state new e);
      }

  pub first_long : length ((initial d).nets ++ (initial d).words) ≡ span_of d
  first_long =
      let nets = (known_initial d law).nets.long in
      let words = (known_initial d law).words in
      let n = widths_long in
      let sum = length-append (initial d).nets (initial d).words in
      omega (arith, nets, words, n, sum)

-- a list that was lent and came back as long
pub came_back : (xs ys : List ℕ) → length ys ≡ length xs → refill (length xs) xs ys ≡ ys
came_back xs ys e = take-append-le (length xs) ys (drop (length ys) xs) (omega (arith, e)) ∙ take_all (length xs) ys (omega (arith, e))
