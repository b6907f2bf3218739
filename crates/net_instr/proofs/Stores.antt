-- What is put into slots, as updates of the numbers that are read or of the state.
use Rattle.std.proofs.Common.{◌≡◌, ℕ, zero, suc, ◌+◌, ◌*◌, ◌/◌, ◌%◌, ◌^◌, ◌<◌, ◌≤◌}
use Rattle.std.proofs.Common.{List, [], ◌∷◌, ◌++◌, length, take, drop, slice_index, slice_set, refl, ap, sym, subst}
use Rattle.std.proofs.Common.{◌∙◌, arith}
use Rattle.std.proofs.Math.Pow.{pow_mono}
use Rattle.std.proofs.Math.Nat.{mod-eq_of_lt, div-eq_of_lt}
use Rattle.std.proofs.Math.Seq.{take-set-lt}
use Rattle.std.proofs.lemmas.List.{get_or-set_other, get_or-drop, length-set, take-set-le, drop-set-lt, drop-set-add}
use Rattle.std.proofs.lemmas.Nat.{pow_pos, mod_below}
use Rattle.net_design.proofs.vidi_bits_lemmas.BitLemmas.{put_fits}
use Rattle.net_design.specs.vidi_bits.Number.{put_of}
use Rattle.net_design.specs.declared.act.Timing.{Timing}
use Rattle.net_design.specs.declared.act.Timing.TheVariants.{Blocking, Nonblocking}
use Rattle.net_design.specs.declared.values.Target.TheVariants.{Net, Word}
use Rattle.net_design.specs.declared.values.Update.{Update}
use Rattle.net_design.specs.declared.values.Values.{Values}
use Rattle.net_design.specs.Updates.{update, seen}
use Rattle.net_design.proofs.UpdateLaws.{apply_both, seen_both}
use Rattle.net_instr.specs.Layout.{view, span, base, shown, state, Fits, IsReady, left, Moves}
use Rattle.net_instr.specs.Statements.{offset}
use Rattle.net_instr.proofs.Views.{net_at, word_here, view_by}

-- ---- numbers

put_none : (x m w : ℕ) → x / 2 ^ (0 + w) ≡ 0 → m < 2 ^ 128 → ((x / 2 ^ (0 + w) * 2 ^ w + m) * 2 ^ 0 + x % 2 ^ 0) % 2 ^ 128 ≡ m
put_none x m w z l =
    let one : (0 * 2 ^ w + m) * 2 ^ 0 + x % 2 ^ 0 ≡ m = omega arith in
    ap (λ q. ((q * 2 ^ w + m) * 2 ^ 0 + x % 2 ^ 0) % 2 ^ 128) z ∙ ap (λ y. y % 2 ^ 128) one ∙ mod-eq_of_lt l

-- all bits of a net replaced
pub put_whole : (x low w y : ℕ) → low ≡ 0 → x < 2 ^ w → w ≤ 128 → y % 2 ^ w ≡ put_of x low w y
put_whole x low w y e l h =
    let up : w ≡ 0 + w = omega arith in
    let few : x < 2 ^ (0 + w) = subst (λ k. x < 2 ^ k) up l in
    let wide : 2 ^ w ≤ 2 ^ 128 = pow_mono {i = w} {j = 128} h in
    let part : y % 2 ^ w < 2 ^ w = mod_below y (2 ^ w) (pow_pos w) in
    sym (put_none x (y % 2 ^ w) w (div-eq_of_lt few) (omega (arith, wide, part))) ∙ ap (λ k. put_of x k w y) (sym e)

-- ---- one slot set
fits_at : (xs : List ℕ) (m z j b : ℕ) → (j ≡ m → z < b) → slice_index xs j < b → slice_index (slice_set xs m z) j < b
fits_at [] zero z j b h l = l
fits_at [] (suc m) z j b h l = l
fits_at (x ∷ xs) zero z zero b h l = h refl
fits_at (x ∷ xs) zero z (suc j) b h l = l
fits_at (x ∷ xs) (suc m) z zero b h l = l
fits_at (x ∷ xs) (suc m) z (suc j) b h l = fits_at xs m z j b (λ e. h (ap suc e)) l

view_net : (n W m y : ℕ) (s : List ℕ) → m < n
    → view n W (slice_set s m y) ≡ record { nets = slice_set (view n W s).nets m y; words = (view n W s).words }
view_net n W m y s l =
    let words : drop n (take (n + W) (slice_set s m y)) ≡ drop n (take (n + W) s) =
    ap (drop n) (take-set-lt (n + W) s m y (omega (arith, l))) ∙ drop-set-lt n (take (n + W) s) m y l in
    ap (λ (xs : List ℕ). record { nets = xs; words = drop n (take (n + W) (slice_set s m y)) }) (take-set-lt n s m y l)
    ∙ ap (λ (xs : List ℕ). record { nets = slice_set (take n s) m y; words = xs }) words

view_word : (n W k y : ℕ) (s : List ℕ) → k < W
    → view n W (slice_set s (n + k) y) ≡ record { nets = (view n W s).nets; words = slice_set (view n W s).words k y }
view_word n W k y s l =
    let words : drop n (take (n + W) (slice_set s (n + k) y)) ≡ slice_set (drop n (take (n + W) s)) k y =
    ap (drop n) (take-set-lt (n + W) s (n + k) y (omega (arith, l))) ∙ drop-set-add n (take (n + W) s) k y in
    ap (λ (xs : List ℕ). record { nets = xs; words = drop n (take (n + W) (slice_set s (n + k) y)) }) (take-set-le n s (n + k) y
    (omega arith))
    ∙ ap (λ (xs : List ℕ). record { nets = take n s; words = xs }) words

view_past : (n W k y : ℕ) (s : List ℕ) → n + W ≤ k → view n W (slice_set s k y) ≡ view n W s
view_past n W k y s l = view_by n W s (slice_set s k y) (take-set-le (n + W) s k y l)

pub left_both : (t : Timing) (us ws : List Update) (v : Values) → left t (us ++ ws) v ≡ left t ws (left t us v)
left_both Blocking us ws v = refl
left_both Nonblocking us ws v = apply_both us ws v

module _ (widths : List ℕ) (W : ℕ) where
  -- free slots are the same
  abbrev pub Keeps : List ℕ → List ℕ → Type 0
  Keeps s u = (k : ℕ) → base widths W ≤ k → slice_index u k ≡ slice_index s k

  pub moves_nothing : (t : Timing) (s : List ℕ) → IsReady widths W s → Moves widths W t [] s s
  moves_nothing Blocking s r = record { shows = refl; moves = refl; long = refl; ready = r }
  moves_nothing Nonblocking s r = record { shows = refl; moves = refl; long = refl; ready = r }

  pub moves_then : (t : Timing) (us ws : List Update) (s u w : List ℕ) → Moves widths W t us s u → Moves widths W t ws u w
      → Moves widths W t (us ++ ws) s w
  moves_then t us ws s u w a b =
      record {
        shows = b.shows ∙ ap (seen t ws) a.shows ∙ sym (seen_both t us ws (shown widths W s));
        moves = b.moves ∙ ap (left t ws) a.moves ∙ sym (left_both t us ws (state widths W s));
        long = b.long ∙ a.long;
        ready = b.ready;
      }

  -- the same, from slots with the same numbers
  pub moves_from : (t : Timing) (us : List Update) (s u w : List ℕ) → shown widths W u ≡ shown widths W s
      → state widths W u ≡ state widths W s → length u ≡ length s → Moves widths W t us u w → Moves widths W t us s w
  moves_from t us s u w e f l m =
      record {
        shows = m.shows ∙ ap (seen t us) e;
        moves = m.moves ∙ ap (left t us) f;
        long = m.long ∙ l;
        ready = m.ready;
      }

  other_slot : (s : List ℕ) (to y k : ℕ) → to < base widths W → base widths W ≤ k → slice_index (slice_set s to y) k ≡ slice_index s k
  other_slot s to y k l h = get_or-set_other s to k y 0 (λ e. absurd (omega (arith, e, l, h)))

  -- the number of a net that is changed
  pub old_fits : (t : Timing) (s : List ℕ) (to m : ℕ) → to ≡ offset widths W t + m → m < length widths → IsReady widths W s
      → slice_index s to < 2 ^ slice_index widths m
  old_fits Blocking s to m e l r =
      let same : to ≡ m = omega (arith, e) in
      subst (λ x. x < 2 ^ slice_index widths m) (net_at (length widths) W m s l ∙ ap (slice_index s) (sym same)) (r.shown_fits m l)
  old_fits Nonblocking s to m e l r =
      subst (λ x. x < 2 ^ slice_index widths m)
      (net_at (length widths) W m (drop (span widths W) s) l ∙ get_or-drop (span widths W) s m 0 ∙ ap (slice_index s) (sym e))
      (r.state_fits m l)

  fits_set : (xs : List ℕ) (m z : ℕ) → z < 2 ^ slice_index widths m
      → ((j : ℕ) → j < length widths → slice_index xs j < 2 ^ slice_index widths j)
      → (j : ℕ) → j < length widths → slice_index (slice_set xs m z) j < 2 ^ slice_index widths j
  fits_set xs m z l f j h =
      fits_at xs m z j (2 ^ slice_index widths j) (λ e. subst (λ i. z < 2 ^ slice_index widths i) (sym e) l) (f j h)

  ready_by : (s u : List ℕ) → length u ≡ length s → IsReady widths W s → Fits widths W (shown widths W u) → Fits widths W (state widths W u)
      → IsReady widths W u
  ready_by s u long r f g = record { long = let h = r.long in omega (arith, h, long); shown_fits = f; state_fits = g }

  -- bits of a net
  pub put_net : (t : Timing) (s : List ℕ) (to m low w x y : ℕ) → to ≡ offset widths W t + m → m < length widths
      → y ≡ put_of (slice_index s to) low w x → low + w ≤ slice_index widths m → IsReady widths W s
      → Moves widths W t (update (Net m) low w x ∷ []) s (slice_set s to y)
  put_net Blocking s to m low w x y e l h c r =
      let n = length widths in
      let v = shown widths W s in
      let same : to ≡ m = omega (arith, e) in
      let is : y ≡ put_of (slice_index v.nets m) low w x = h ∙ ap (λ k. put_of (slice_index s k) low w x) same
      ∙ ap (λ z. put_of z low w x) (sym (net_at n W m s l)) in
      let shows : shown widths W (slice_set s to y) ≡ record {
        nets = slice_set v.nets m (put_of
            (slice_index v.nets m) low w x);
        words = v.words;
      } =
      ap (λ k. shown widths W (slice_set s k y)) same ∙ view_net n W m y s l
      ∙ ap (λ z. record { nets = slice_set v.nets m z; words = v.words }) is in
      let moves : state widths W (slice_set s to y) ≡ state widths W s =
      ap (view n W) (drop-set-lt (span widths W) s to y (omega (arith, same, l))) in
      let fits : put_of (slice_index v.nets m) low w x < 2 ^ slice_index widths m =
      put_fits (slice_index v.nets m) low w x (slice_index widths m) (r.shown_fits m l) c in
      record {
        shows = shows;
        moves = moves;
        long = length-set s to y;
        ready = ready_by s (slice_set s to y) (length-set s to y) r
            (subst (Fits widths W) (sym shows) (λ j i. fits_set v.nets m _ fits r.shown_fits j i))
            (subst (Fits widths W) (sym moves) r.state_fits);
      }
  put_net Nonblocking s to m low w x y e l h c r =
      let n = length widths in
      let a = span widths W in
      let v = state widths W s in
      let is : y ≡ put_of (slice_index v.nets m) low w x = h ∙ ap (λ k. put_of (slice_index s k) low w x) e
      ∙ ap (λ z. put_of z low w x) (sym (net_at n W m (drop a s) l ∙ get_or-drop a s m 0)) in
      let moves : state widths W (slice_set s to y) ≡ record {
        nets = slice_set v.nets m (put_of
            (slice_index v.nets m) low w x);
        words = v.words;
      } =
      ap (λ k. state widths W (slice_set s k y)) e ∙ ap (view n W) (drop-set-add a s m y) ∙ view_net n W m y (drop a s) l
      ∙ ap (λ z. record { nets = slice_set v.nets m z; words = v.words }) is in
      let shows : shown widths W (slice_set s to y) ≡ shown widths W s = view_past n W to y s (omega (arith, e)) in
      let fits : put_of (slice_index v.nets m) low w x < 2 ^ slice_index widths m =
      put_fits (slice_index v.nets m) low w x (slice_index widths m) (r.state_fits m l) c in
      record {
        shows = shows;
        moves = moves;
        long = length-set s to y;
        ready = ready_by s (slice_set s to y) (length-set s to y) r
            (subst (Fits widths W) (sym shows) r.shown_fits)
            (subst (Fits widths W) (sym moves) (λ j i. fits_set v.nets m _ fits r.state_fits j i));
      }

  -- bits of a word
  pub put_word : (t : Timing) (s : List ℕ) (to k low w x y : ℕ) → to ≡ offset widths W t + (length widths + k) → k < W
      → y ≡ put_of (slice_index s to) low w x → IsReady widths W s
      → Moves widths W t (update (Word k) low w x ∷ []) s (slice_set s to y)
  put_word Blocking s to k low w x y e l h r =
      let n = length widths in
      let v = shown widths W s in
      let same : to ≡ n + k = omega (arith, e) in
      let is : y ≡ put_of (slice_index v.words k) low w x = h ∙ ap (λ j. put_of (slice_index s j) low w x) same
      ∙ ap (λ z. put_of z low w x) (sym (word_here n W k s l)) in
      let shows : shown widths W (slice_set s to y) ≡ record {
        nets = v.nets;
        words = slice_set v.words k (put_of
            (slice_index v.words k) low w x);
      } =
      ap (λ j. shown widths W (slice_set s j y)) same ∙ view_word n W k y s l
      ∙ ap (λ z. record { nets = v.nets; words = slice_set v.words k z }) is in
      let moves : state widths W (slice_set s to y) ≡ state widths W s =
      ap (view n W) (drop-set-lt (span widths W) s to y (omega (arith, same, l))) in
      record {
        shows = shows;
        moves = moves;
        long = length-set s to y;
        ready = ready_by s (slice_set s to y) (length-set s to y) r
            (subst (Fits widths W) (sym shows) (λ j i. r.shown_fits j i))
            (subst (Fits widths W) (sym moves) r.state_fits);
      }
  put_word Nonblocking s to k low w x y e l h r =
      let n = length widths in
      let a = span widths W in
      let v = state widths W s in
      let is : y ≡ put_of (slice_index v.words k) low w x = h ∙ ap (λ j. put_of (slice_index s j) low w x) e
      ∙ ap (λ z. put_of z low w x) (sym (word_here n W k (drop a s) l ∙ get_or-drop a s (n + k) 0)) in
      let moves : state widths W (slice_set s to y) ≡ record {
        nets = v.nets;
        words = slice_set v.words k (put_of
            (slice_index v.words k) low w x);
      } =
      ap (λ j. state widths W (slice_set s j y)) e ∙ ap (view n W) (drop-set-add a s (n + k) y) ∙ view_word n W k y (drop a s) l
      ∙ ap (λ z. record { nets = v.nets; words = slice_set v.words k z }) is in
      let shows : shown widths W (slice_set s to y) ≡ shown widths W s = view_past n W to y s (omega (arith, e)) in
      record {
        shows = shows;
        moves = moves;
        long = length-set s to y;
        ready = ready_by s (slice_set s to y) (length-set s to y) r
            (subst (Fits widths W) (sym shows) r.shown_fits)
            (subst (Fits widths W) (sym moves) (λ j i. r.state_fits j i));
      }

  offset_below : (t : Timing) → offset widths W t ≤ span widths W
  offset_below Blocking = omega arith
  offset_below Nonblocking = omega arith

  pub net_keeps : (t : Timing) (s : List ℕ) (to m y : ℕ) → to ≡ offset widths W t + m → m < length widths → Keeps s (slice_set s to y)
  net_keeps t s to m y e l = λ k h. other_slot s to y k (let o = offset_below t in omega (arith, o, e, l)) h

  pub word_keeps : (t : Timing) (s : List ℕ) (to k y : ℕ) → to ≡ offset widths W t + (length widths + k) → k < W
      → Keeps s (slice_set s to y)
  word_keeps t s to k y e l = λ j h. other_slot s to y j (let o = offset_below t in omega (arith, o, e, l)) h
