-- The code of statements makes their updates.
use Rattle.std.proofs.Common.{◌≡◌, ℕ, ◌+◌, ◌^◌, ◌<◌, ◌==◌, ◌&&◌, not, Bool, true, false, if◌then◌else◌}
use Rattle.std.proofs.Common.{List, [], ◌∷◌, ◌++◌, append-nil, length, take, slice_index, slice_set, refl, ap, sym, subst, ◌∙◌, arith}
use Rattle.std.specs.List.{AllByRecursion}
use Rattle.std.proofs.Math.Nat.{div-one, mod-eq_of_lt}
use Rattle.std.proofs.lemmas.Bool.{eqb-true, and_parts}
use Rattle.net_design.proofs.vidi_bits_lemmas.Bools.{not_both}
use Rattle.net_design.specs.vidi_bits.Number.{put_of}
use Rattle.net_design.specs.declared.rhs.Span.{Span}
use Rattle.net_design.specs.declared.rhs.Rhs.{Rhs}
use Rattle.net_design.specs.declared.act.Place.{Place}
use Rattle.net_design.specs.declared.act.Place.TheVariants.{Bits, BitsFrom, Word, WordFrom}
use Rattle.net_design.specs.declared.act.Act.{Act, Set, Read, Branch', Row_of-Act, end_of-Act, more_of-Act, Row_of-Guard, end_of-Guard}
use Rattle.net_design.specs.declared.act.Act.{more_of-Guard}
use Rattle.net_design.specs.declared.act.Timing.{Timing}
use Rattle.net_design.specs.declared.values.Target.TheVariants.{Net}
use Rattle.net_design.specs.declared.values.Update.{Update}
use Rattle.net_design.specs.Value.{value}
use Rattle.net_design.specs.Sized.{IsGuardRow, IsActRow}
use Rattle.net_design.specs.Updates.{update, bit_updates, target_updates, seen, updates, guard_row, act_row, block_updates}
use Rattle.net_instr.specs.declared.instr.Instr.{Instr}
use Rattle.net_instr.specs.declared.instr.Instr.TheVariants.{Do, SkipIfZero, Skip}
use Rattle.net_instr.specs.Machine.{number_of, AreBelow}
use Rattle.net_instr.specs.Layout.{base, shown, state, IsReady, Moves}
use Rattle.net_instr.specs.Expressions.{is_whole, slot, step, below, IsThere, HasRoom, IsRhsThere}
use Rattle.net_instr.specs.Statements.{choice, within, offset, forced, index_code}
use Rattle.net_instr.specs.Statements.{stores, general_code, set_code, test_code, act_code, guard_row_code}
use Rattle.net_instr.specs.Statements.{act_row_code, block_code, IsPlaceThere, IsActThere, IsBlockThere}
use Rattle.net_instr.proofs.Running.{RunsTo, runs_nothing, runs_then, runs_do, runs_choice, first_below, last_below}
use Rattle.net_instr.proofs.Views.{kept, kept_less, same_shown, same_state, same_ready}
use Rattle.net_instr.proofs.Values.{lowered, operand}
use Rattle.net_instr.proofs.Within.{within_fits}
use Rattle.net_instr.proofs.Stores.{put_whole, moves_nothing, moves_then, moves_from, old_fits, put_net}
use Rattle.net_instr.proofs.Targets.{put_places, find_places, force_later}

module _ (widths : List ℕ) (W : ℕ) where
  -- the code does what updates say
  pub record Does (t : Timing) (code : List Instr) (us : List Update) (s : List ℕ) : Type 0 where
    pub after : List ℕ
    pub runs : RunsTo code s after
    pub moved : Moves widths W t us s after

  pub does_nothing : (t : Timing) (s : List ℕ) → IsReady widths W s → Does t [] [] s
  does_nothing t s r = record { after = s; runs = runs_nothing s; moved = moves_nothing widths W t s r }

  pub does_then : (t : Timing) (a b : List Instr) (us ws : List Update) (s : List ℕ) → (x : Does t a us s) → Does t b ws x.after
      → Does t (b ++ a) (us ++ ws) s
  does_then t a b us ws s x y =
      record {
        after = y.after;
        runs = runs_then a b s x.after y.after x.runs y.runs;
        moved = moves_then widths W t us ws s x.after y.after x.moved y.moved;
      }

  -- after code that changes free slots alone
  does_after : (t : Timing) (a b : List Instr) (us : List Update) (s u : List ℕ) → RunsTo a s u
      → take (base widths W) u ≡ take (base widths W) s
      → length u ≡ length s → Does t b us u → Does t (b ++ a) us s
  does_after t a b us s u f e long y =
      record {
        after = y.after;
        runs = runs_then a b s u y.after f y.runs;
        moved = moves_from widths W t us s u y.after (same_shown widths W (base widths W) s u (omega arith) e)
            (same_state widths W (base widths W) s u (omega arith) e) long y.moved;
      }

  general_right : (t : Timing) (target : List Place) (e : Rhs) (s : List ℕ) → AllByRecursion (IsPlaceThere widths W) target
      → IsRhsThere widths W e → AreBelow (length s) (general_code widths W (offset widths W t) target e) → IsReady widths W s
      → Does t (general_code widths W (offset widths W t) target e) (target_updates target (value e (shown widths W s))
      (shown widths W s)) s
  general_right t target e s h g i r =
      let b = base widths W in
      let x = value e (shown widths W s) in
      let put = stores widths W (offset widths W t) target (b + 1) in
      let find = index_code widths W target (b + 1) in
      let force = forced widths W e b in
      let rest = last_below (length s) put (find ++ force) i in
      let first = force_later widths W e b b s s g (omega arith) (omega arith) (last_below (length s) find force rest) r refl refl in
      let found = find_places widths W target b (b + 1) s first.after h (omega arith) (omega arith) (first_below
      (length s) find force rest) r
      first.keeps first.long in
      let same = kept_less b (b + 1) first.after found.after (omega arith) found.keeps ∙ first.keeps in
      let long = found.long ∙ first.long in
      let puts = put_places widths W t target (b + 1) x found.after (shown widths W s) h (omega arith) found.holds
      (kept (b + 1) b first.after found.after found.keeps (omega arith) ∙ first.holds)
      (same_ready widths W b s found.after (omega arith) same long r) in
      does_after t (find ++ force) put (target_updates target x (shown widths W s)) s found.after
      (runs_then force find s first.after found.after first.runs found.runs) same long
      (record { after = puts.after; runs = puts.runs; moved = puts.moved })

  some_bits : (b : Bool) (us : List Update) → not b ≡ true → (if b then [] else us) ≡ us
  some_bits true us h = absurd cc
  some_bits false us h = refl

  -- one whole net that takes an expression as it is
  direct_right : (t : Timing) (p : Span) (n : ℕ) (e : Rhs) (s : List ℕ) → IsPlaceThere widths W (Bits p n) → IsRhsThere widths W e
      → AreBelow (length s) (below widths e (base widths W)) → IsReady widths W s
      → (is_whole widths p && (not (p.width == 0) && within e p.width)) ≡ true
      → Does t (Do (offset widths W t + p.net) (step widths e (base widths W)) ∷ below widths e (base widths W))
      (target_updates (Bits p n ∷ []) (value e (shown widths W s)) (shown widths W s)) s
  direct_right t p n e s h g i r test =
      let b = base widths W in
      let v = shown widths W s in
      let x = value e v in
      let to = offset widths W t + p.net in
      let parts = and_parts (is_whole widths p) (not (p.width == 0) && within e p.width) test in
      let more = and_parts (not (p.width == 0)) (within e p.width) parts.1 in
      let whole = and_parts (p.low == 0) (p.width == slice_index widths p.net) parts.0 in
      let wide : p.width ≡ slice_index widths p.net = eqb-true _ _ whole.1 in
      let gives = lowered widths W e g b s (omega arith) i r in
      let u = gives.after in
      let ready = same_ready widths W b s u (omega arith) gives.keeps gives.long r in
      let old : slice_index u to < 2 ^ p.width = subst (λ w. slice_index u to < 2 ^ w) (sym wide)
      (old_fits widths W t u to p.net refl h.2.0 ready) in
      let fits : x < 2 ^ p.width = within_fits e p.width v more.1 in
      let number : number_of (step widths e b) u ≡ put_of (slice_index u to) p.low p.width x =
      gives.gives ∙ sym (mod-eq_of_lt fits)
      ∙ put_whole (slice_index u to) p.low p.width x (eqb-true _ _ whole.0) old (let a = h.1 in let c = h.0.1 in omega (arith, a, c)) in
      let moved = put_net widths W t u to p.net p.low p.width x (number_of (step widths e b) u) refl h.2.0 number h.2.1 ready in
      let us : List Update = update (Net p.net) p.low p.width x ∷ [] in
      let same : us ≡ target_updates (Bits p n ∷ []) x v =
      sym (some_bits (p.width == 0) us more.0) ∙ sym (append-nil (bit_updates (Net p.net) p.low p.width x))
      ∙ ap (λ y. bit_updates (Net p.net) p.low p.width y ++ []) (sym (div-one x)) in
      subst (λ ws. Does t (Do to (step widths e b) ∷ below widths e b) ws s) same
      (record {
        after = slice_set u to (number_of (step widths e b) u);
        runs = runs_do (below widths e b) to (step widths e b) s u gives.runs;
        moved = moves_from widths W t us s u _ (same_shown widths W b s u (omega arith) gives.keeps)
            (same_state widths W b s u (omega arith) gives.keeps) gives.long moved;
      })

  set_either : (t : Timing) (b : Bool) (xs ys : List Instr) (us : List Update) (s : List ℕ) → AreBelow (length s) (if b then xs else ys)
      → (b ≡ true → AreBelow (length s) xs → Does t xs us s) → (AreBelow (length s) ys → Does t ys us s)
      → Does t (if b then xs else ys) us s
  set_either t true xs ys us s i f g = f refl i
  set_either t false xs ys us s i f g = g i

  set_right : (t : Timing) (target : List Place) (e : Rhs) (s : List ℕ) → AllByRecursion (IsPlaceThere widths W) target
      → IsRhsThere widths W e → AreBelow (length s) (set_code widths W (offset widths W t) target e) → IsReady widths W s
      → Does t (set_code widths W (offset widths W t) target e) (target_updates target (value e (shown widths W s)) (shown widths W s)) s
  set_right t [] e s h g i r = general_right t [] e s h g i r
  set_right t (Bits p n ∷ []) e s h g i r =
      set_either t _ _ _ _ s i (λ test j. direct_right t p n e s h.0 g j.1 r test) (λ j. general_right t (Bits p n ∷ []) e s h g j r)
  set_right t (Bits p n ∷ q ∷ ps) e s h g i r = general_right t (Bits p n ∷ q ∷ ps) e s h g i r
  set_right t (BitsFrom p j w ∷ ps) e s h g i r = general_right t (BitsFrom p j w ∷ ps) e s h g i r
  set_right t (Word room j low w n ∷ ps) e s h g i r = general_right t (Word room j low w n ∷ ps) e s h g i r
  set_right t (WordFrom room j size k w ∷ ps) e s h g i r = general_right t (WordFrom room j size k w ∷ ps) e s h g i r

  -- ---- choices
  -- code that is right wherever the numbers of the design are these
  abbrev Anywhere : Timing → List Instr → List Update → List ℕ → Type 0
  Anywhere t code us s = (u : List ℕ) → shown widths W u ≡ shown widths W s → state widths W u ≡ state widths W s → length u ≡ length s
      → IsReady widths W u → Does t code us u

  does_either : (t : Timing) (b : Bool) (c : ℕ) (xs ys : List Instr) (us ws : List Update) (s : List ℕ) → (slice_index s c == 0) ≡ b
      → Does t ys us s → Does t xs ws s → Does t (choice c xs ys) (if b then us else ws) s
  does_either t true c xs ys us ws s e f g =
      record {
        after = f.after;
        runs = runs_choice c xs ys s f.after (λ h. f.runs) (λ h. absurd (not_both _ e h));
        moved = f.moved;
      }
  does_either t false c xs ys us ws s e f g =
      record {
        after = g.after;
        runs = runs_choice c xs ys s g.after (λ h. absurd (not_both _ h e)) (λ h. g.runs);
        moved = g.moved;
      }

  -- a test, then the choice
  does_test : (t : Timing) (c : Rhs) (xs ys : List Instr) (us ws : List Update) (s : List ℕ) → IsRhsThere widths W c
      → AreBelow (length s) (test_code widths W c) → IsReady widths W s → Anywhere t ys us s → Anywhere t xs ws s
      → Does t (choice (slot widths c (base widths W)) xs ys ++ test_code widths W c)
      (if value c (shown widths W s) == 0 then us else ws) s
  does_test t c xs ys us ws s h i r f g =
      let b = base widths W in
      let a = operand widths W c b s h (lowered widths W c h) (omega arith) i r in
      let u = a.after in
      let e = same_shown widths W b s u (omega arith) a.keeps in
      let k = same_state widths W b s u (omega arith) a.keeps in
      let ready = same_ready widths W b s u (omega arith) a.keeps a.long r in
      does_after t (test_code widths W c) (choice (slot widths c b) xs ys) _ s u a.runs a.keeps a.long
      (does_either t (value c (shown widths W s) == 0) (slot widths c b) xs ys us ws u (ap (λ x. x == 0) a.holds)
      (f u e k a.long ready) (g u e k a.long ready))

  choice_below : (limit c : ℕ) (xs ys : List Instr) → AreBelow limit (choice c xs ys) → AreBelow limit xs × AreBelow limit ys
  choice_below limit c xs ys i = (
    first_below limit xs (SkipIfZero c (length xs + 1) ∷ []) (last_below limit ys (Skip (length ys) ∷ (xs ++ (SkipIfZero c
        (length xs + 1) ∷ []))) i).1,
    first_below limit ys (Skip (length ys) ∷ (xs ++ (SkipIfZero c (length xs + 1) ∷ []))) i,
  )

  mutual
    pub act_right : (t : Timing) (a : Act) (s : List ℕ) → IsActThere widths W a
        → AreBelow (length s) (act_code widths W (offset widths W t) a)
        → IsReady widths W s → Does t (act_code widths W (offset widths W t) a) (updates t a (shown widths W s)) s
    act_right t (Set target e) s h i r = set_right t target e s h.1 h.2 i r
    act_right t (Read e) s h i r = does_nothing t s r
    act_right t (Branch' n guards m otherwise) s h i r =
        let ys = act_row_code widths W (offset widths W t) otherwise in
        guards_right t guards ys (act_row t otherwise (shown widths W s)) s h.0 i r
        (λ j u e k long ready. subst (λ v. Does t ys (act_row t otherwise v) u) e
        (row_right t otherwise u h.1 (subst (λ l. AreBelow l ys) (sym long) j) ready))

    guards_right : {n : _} → (t : Timing) (row : Row_of-Guard n) (ys : List Instr) (us : List Update) (s : List ℕ)
        → IsGuardRow (IsThere widths W) (HasRoom widths W) row → AreBelow (length s) (guard_row_code widths W (offset widths W t) row ys)
        → IsReady widths W s → (AreBelow (length s) ys → Anywhere t ys us s)
        → Does t (guard_row_code widths W (offset widths W t) row ys) (guard_row t row us (shown widths W s)) s
    guards_right t end_of-Guard ys us s h i r f = f i s refl refl refl r
    guards_right t (more_of-Guard c k body rest) ys us s h i r f =
        let o = offset widths W t in
        let xs = act_row_code widths W o body in
        let zs = guard_row_code widths W o rest ys in
        let test = slot widths c (base widths W) in
        let parts = choice_below (length s) test xs zs (first_below (length s) (choice test xs zs) (test_code widths W c) i) in
        does_test t c xs zs (guard_row t rest us (shown widths W s)) (act_row t body (shown widths W s)) s h.0.0
        (last_below (length s) (choice test xs zs) (test_code widths W c) i) r
        (λ u e g long ready. subst (λ v. Does t zs (guard_row t rest us v) u) e
        (guards_right t rest ys us u h.1 (subst (λ l. AreBelow l zs) (sym long) parts.1) ready
        (λ j w e' g' long' ready'. f (subst (λ l. AreBelow l ys) long j) w (e' ∙ e) (g' ∙ g) (long' ∙ long) ready')))
        (λ u e g long ready. subst (λ v. Does t xs (act_row t body v) u) e
        (row_right t body u h.0.1 (subst (λ l. AreBelow l xs) (sym long) parts.0) ready))

    row_right : {n : _} → (t : Timing) (row : Row_of-Act n) (s : List ℕ) → IsActRow (IsThere widths W) (HasRoom widths W) row
        → AreBelow (length s) (act_row_code widths W (offset widths W t) row) → IsReady widths W s
        → Does t (act_row_code widths W (offset widths W t) row) (act_row t row (shown widths W s)) s
    row_right t end_of-Act s h i r = does_nothing t s r
    row_right t (more_of-Act a rest) s h i r =
        let o = offset widths W t in
        let late = act_row_code widths W o rest in
        let early = act_code widths W o a in
        let x = act_right t a s h.0 (last_below (length s) late early i) r in
        let us = updates t a (shown widths W s) in
        let y = row_right t rest x.after h.1 (subst (λ l. AreBelow l late) (sym x.moved.long) (first_below
        (length s) late early i)) x.moved.ready in
        does_then t early late us (act_row t rest (seen t us (shown widths W s))) s x
        (subst (λ v. Does t late (act_row t rest v) x.after) x.moved.shows y)

  pub block_right : (t : Timing) (acts : List Act) (s : List ℕ) → IsBlockThere widths W acts
      → AreBelow (length s) (block_code widths W (offset widths W t) acts) → IsReady widths W s
      → Does t (block_code widths W (offset widths W t) acts) (block_updates t acts (shown widths W s)) s
  block_right t [] s h i r = does_nothing t s r
  block_right t (a ∷ rest) s h i r =
      let o = offset widths W t in
      let late = block_code widths W o rest in
      let early = act_code widths W o a in
      let x = act_right t a s h.0 (last_below (length s) late early i) r in
      let us = updates t a (shown widths W s) in
      let y = block_right t rest x.after h.1 (subst (λ l. AreBelow l late) (sym x.moved.long) (first_below
      (length s) late early i)) x.moved.ready in
      does_then t early late us (block_updates t rest (seen t us (shown widths W s))) s x
      (subst (λ v. Does t late (block_updates t rest v) x.after) x.moved.shows y)
