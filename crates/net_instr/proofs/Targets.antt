-- The code of targets makes their updates.
use Rattle.std.proofs.Common.{◌≡◌, ℕ, ◌+◌, ◌-◌, ◌/◌, ◌%◌, ◌^◌, ◌<◌, ◌≤◌, ◌==◌, min, nat_lt, Bool, true, false, if◌then◌else◌}
use Rattle.std.proofs.Common.{List, [], ◌∷◌, ◌++◌, length, take, slice_index, refl, ap, sym, subst, ◌∙◌, arith}
use Rattle.std.specs.List.{AllByRecursion}
use Rattle.std.proofs.lemmas.Bool.{eqb-true, ltb-true, and_parts}
use Rattle.net_design.specs.declared.rhs.Span.{Span}
use Rattle.net_design.specs.declared.rhs.Room.{Room}
use Rattle.net_design.specs.declared.rhs.Rhs.{Rhs}
use Rattle.net_design.specs.declared.act.Place.{Place}
use Rattle.net_design.specs.declared.act.Place.TheVariants.{Bits, BitsFrom, Word, WordFrom}
use Rattle.net_design.specs.declared.act.Timing.{Timing}
use Rattle.net_design.specs.declared.values.Target.TheVariants.{Net, Word as WordTarget}
use Rattle.net_design.specs.declared.values.Update.{Update}
use Rattle.net_design.specs.declared.values.Values.{Values}
use Rattle.net_design.specs.Value.{value}
use Rattle.net_design.specs.Updates.{update, bit_updates, part_updates, word_updates, place_updates, target_width, target_updates}
use Rattle.net_instr.specs.declared.instr.Step.TheVariants as S
use Rattle.net_instr.specs.declared.instr.Instr.{Instr}
use Rattle.net_instr.specs.declared.instr.Instr.TheVariants.{Do, Put, PutFrom, PutWord, PutWordFrom}
use Rattle.net_instr.specs.Machine.{changed, skips, AreBelow}
use Rattle.net_instr.specs.Layout.{base, shown, IsReady, Moves}
use Rattle.net_instr.specs.Expressions.{is_whole, step, below, IsRhsThere}
use Rattle.net_instr.specs.Statements.{offset, index_slots, forced, place_index, index_code, place_store, stores, IsPlaceThere}
use Rattle.net_instr.proofs.Running.{RunsTo, runs_nothing, runs_one, runs_then, first_below, last_below}
use Rattle.net_instr.proofs.Views.{kept, kept_less, same_shown, same_ready}
use Rattle.net_instr.proofs.Values.{Leaves, pushed, lowered}
use Rattle.net_instr.proofs.Stores.{put_whole, Keeps, moves_nothing, moves_then, old_fits, put_net, put_word, net_keeps, word_keeps}

-- a choice that is made in both lists
module _ (widths : List ℕ) (W : ℕ) where
  -- the code puts what updates say, and keeps the free slots
  pub record Puts (t : Timing) (code : List Instr) (us : List Update) (s : List ℕ) : Type 0 where
    pub after : List ℕ
    pub runs : RunsTo code s after
    pub moved : Moves widths W t us s after
    pub keeps : Keeps widths W s after

  puts_nothing : (t : Timing) (s : List ℕ) → IsReady widths W s → Puts t [] [] s
  puts_nothing t s r = record { after = s; runs = runs_nothing s; moved = moves_nothing widths W t s r; keeps = λ k h. refl }

  puts_one : (t : Timing) (i : Instr) (us : List Update) (s : List ℕ) → skips i s ≡ 0 → Moves widths W t us s (changed i s)
      → Keeps widths W s (changed i s) → Puts t (i ∷ []) us s
  puts_one t i us s z m k = record { after = changed i s; runs = runs_one i s z; moved = m; keeps = k }

  puts_then : (t : Timing) (a b : List Instr) (us ws : List Update) (s : List ℕ) → (x : Puts t a us s) → Puts t b ws x.after
      → Puts t (b ++ a) (us ++ ws) s
  puts_then t a b us ws s x y =
      record {
        after = y.after;
        runs = runs_then a b s x.after y.after x.runs y.runs;
        moved = moves_then widths W t us ws s x.after y.after x.moved y.moved;
        keeps = λ k h. y.keeps k h ∙ x.keeps k h;
      }

  -- an instruction that puts something where a test holds
  moves_if : (t : Timing) (b : Bool) (us : List Update) (s u : List ℕ) → IsReady widths W s → (b ≡ true → Moves widths W t us s u)
      → Moves widths W t (if b then us else []) s (if b then u else s)
  moves_if t true us s u r f = f refl
  moves_if t false us s u r f = moves_nothing widths W t s r

  keeps_if : (b : Bool) (s u : List ℕ) → (b ≡ true → Keeps widths W s u) → Keeps widths W s (if b then u else s)
  keeps_if true s u f = f refl
  keeps_if false s u f = λ k h. refl

  -- a place without bits
  puts_some : (t : Timing) (b : Bool) (i : Instr) (us : List Update) (s : List ℕ) → IsReady widths W s → (b ≡ true → us ≡ [])
      → (b ≡ false → Puts t (i ∷ []) us s) → Puts t (if b then [] else i ∷ []) us s
  puts_some t true i us s r f g = subst (λ ws. Puts t [] ws s) (sym (f refl)) (puts_nothing t s r)
  puts_some t false i us s r f g = g refl

  puts_either : (t : Timing) (b : Bool) (i j : Instr) (us : List Update) (s : List ℕ) → (b ≡ true → Puts t (i ∷ []) us s)
      → (b ≡ false → Puts t (j ∷ []) us s) → Puts t ((if b then i else j) ∷ []) us s
  puts_either t true i j us s f g = f refl
  puts_either t false i j us s f g = g refl

  chosen : (b : Bool) (xs ys : List Update) → b ≡ true → (if b then xs else ys) ≡ xs
  chosen b xs ys h = ap (λ c. if c then xs else ys) h

  other : (b : Bool) (xs ys : List Update) → b ≡ false → (if b then xs else ys) ≡ ys
  other b xs ys h = ap (λ c. if c then xs else ys) h

  same_or : (b : Bool) (xs : List Update) → xs ≡ [] → (if b then xs else []) ≡ []
  same_or true xs h = h
  same_or false xs h = refl

  -- the number that is assigned stands in the first free slot
  assigned : List ℕ → ℕ
  assigned s = slice_index s (base widths W)

  net_place : (t : Timing) (p : Span) (rest : ℕ) (s : List ℕ) → p.net < length widths → p.low + p.width ≤ slice_index widths p.net
      → p.width ≤ 128 → IsReady widths W s
      → Puts t ((if is_whole widths p then Do (offset widths W t + p.net) (S.Slice (base widths W) rest p.width)
      else Put (offset widths W t + p.net) p.low p.width (base widths W) rest) ∷ [])
      (update (Net p.net) p.low p.width (slice_index s (base widths W) / 2 ^ rest) ∷ []) s
  net_place t p rest s l c few r =
      let to = offset widths W t + p.net in
      let x = slice_index s (base widths W) / 2 ^ rest in
      let us : List Update = update (Net p.net) p.low p.width x ∷ [] in
      puts_either t (is_whole widths p) _ _ us s
      (λ h.
      let parts = and_parts (p.low == 0) (p.width == slice_index widths p.net) h in
      let wide : p.width ≡ slice_index widths p.net = eqb-true _ _ parts.1 in
      let old : slice_index s to < 2 ^ p.width = subst (λ w. slice_index s to < 2 ^ w) (sym wide)
      (old_fits widths W t s to p.net refl l r) in
      puts_one t (Do to (S.Slice (base widths W) rest p.width)) us s refl
      (put_net widths W t s to p.net p.low p.width x (x % 2 ^ p.width) refl l
      (put_whole (slice_index s to) p.low p.width x (eqb-true _ _ parts.0) old few) c r)
      (net_keeps widths W t s to p.net _ refl l))
      (λ h. puts_one t (Put to p.low p.width (base widths W) rest) us s refl
      (put_net widths W t s to p.net p.low p.width x _ refl l refl c r) (net_keeps widths W t s to p.net _ refl l))

  bits_place : (t : Timing) (p : Span) (rest : ℕ) (s : List ℕ) → p.net < length widths → p.low + p.width ≤ slice_index widths p.net
      → p.width ≤ 128 → IsReady widths W s
      → Puts t (if p.width == 0 then [] else (if is_whole widths p then Do (offset widths W t + p.net) (S.Slice
      (base widths W) rest p.width)
      else Put (offset widths W t + p.net) p.low p.width (base widths W) rest) ∷ [])
      (bit_updates (Net p.net) p.low p.width (slice_index s (base widths W) / 2 ^ rest)) s
  bits_place t p rest s l c few r =
      let us : List Update = update (Net p.net) p.low p.width (slice_index s (base widths W) / 2 ^ rest) ∷ [] in
      let i : Instr = if is_whole widths p then Do (offset widths W t + p.net) (S.Slice (base widths W) rest p.width)
      else Put (offset widths W t + p.net) p.low p.width (base widths W) rest in
      puts_some t (p.width == 0) i _ s r (chosen (p.width == 0) [] us)
      (λ h. subst (λ ws. Puts t (i ∷ []) ws s) (sym (other (p.width == 0) [] us h)) (net_place t p rest s l c few r))

  part_place : (t : Timing) (p : Span) (at w rest : ℕ) (s : List ℕ) → p.net < length widths → p.low + p.width ≤ slice_index widths p.net
      → IsReady widths W s
      → Puts t (PutFrom (offset widths W t + p.net) p.low p.width at w (base widths W) rest ∷ [])
      (part_updates (Net p.net) p.low p.width (slice_index s at) w (slice_index s (base widths W) / 2 ^ rest)) s
  part_place t p at w rest s l c r =
      let to = offset widths W t + p.net in
      let i = slice_index s at in
      let x = slice_index s (base widths W) / 2 ^ rest in
      let b = nat_lt i p.width in
      puts_one t (PutFrom to p.low p.width at w (base widths W) rest) _ s refl
      (moves_if t b _ s _ r (λ h.
      let inside : i < p.width = ltb-true _ _ h in
      put_net widths W t s to p.net (p.low + i) (min w (p.width - i)) x _ refl l refl (omega (arith, inside, c)) r))
      (keeps_if b s _ (λ h. net_keeps widths W t s to p.net _ refl l))

  word_place : (t : Timing) (room : Room) (at low w rest : ℕ) (s : List ℕ) → room.first + room.length ≤ W → IsReady widths W s
      → Puts t (if w == 0 then [] else PutWord (offset widths W t + length widths + room.first) room.length at low w
      (base widths W) rest ∷ [])
      (word_updates room (slice_index s at) (λ target. bit_updates target low w (slice_index s (base widths W) / 2 ^ rest))) s
  word_place t room at low w rest s l r =
      let first = offset widths W t + length widths + room.first in
      let i = slice_index s at in
      let x = slice_index s (base widths W) / 2 ^ rest in
      let b = nat_lt i room.length in
      let us : List Update = update (WordTarget (room.first + i)) low w x ∷ [] in
      puts_some t (w == 0) _ _ s r
      (λ h. same_or b _ (chosen (w == 0) [] us h))
      (λ h. subst (λ ws. Puts t (PutWord first room.length at low w (base widths W) rest ∷ []) (if b then ws else []) s)
      (sym (other (w == 0) [] us h))
      (puts_one t (PutWord first room.length at low w (base widths W) rest) _ s refl
      (moves_if t b us s _ r (λ g.
      let inside : i < room.length = ltb-true _ _ g in
      put_word widths W t s (first + i) (room.first + i) low w x _ (omega arith) (omega (arith, inside, l)) refl r))
      (keeps_if b s _ (λ g.
      let inside : i < room.length = ltb-true _ _ g in
      word_keeps widths W t s (first + i) (room.first + i) _ (omega arith) (omega (arith, inside, l))))))

  word_part : (t : Timing) (room : Room) (at size from w rest : ℕ) (s : List ℕ) → room.first + room.length ≤ W → IsReady widths W s
      → Puts t (PutWordFrom (offset widths W t + length widths + room.first) room.length at size from w (base widths W) rest ∷ [])
      (word_updates room (slice_index s at) (λ target. part_updates target 0 size (slice_index s from) w (slice_index s
      (base widths W) / 2 ^ rest))) s
  word_part t room at size from w rest s l r =
      let first = offset widths W t + length widths + room.first in
      let i = slice_index s at in
      let j = slice_index s from in
      let x = slice_index s (base widths W) / 2 ^ rest in
      puts_one t (PutWordFrom first room.length at size from w (base widths W) rest) _ s refl
      (moves_if t (nat_lt i room.length) _ s _ r (λ g.
      let inside : i < room.length = ltb-true _ _ g in
      moves_if t (nat_lt j size) _ s _ r (λ h.
      put_word widths W t s (first + i) (room.first + i) (0 + j) (min w (size - j)) x _ (omega arith)
      (omega (arith, inside, l)) refl r)))
      (keeps_if (nat_lt i room.length) s _ (λ g.
      let inside : i < room.length = ltb-true _ _ g in
      keeps_if (nat_lt j size) s _ (λ h.
      word_keeps widths W t s (first + i) (room.first + i) _ (omega arith) (omega (arith, inside, l)))))

  -- ---- places, whose indexes stand in slots
  abbrev pub HoldsPlace : Place → ℕ → Values → List ℕ → Type 0
  HoldsPlace (Bits p n) t v u = Unit {0}
  HoldsPlace (BitsFrom p i w) t v u = slice_index u t ≡ value i v
  HoldsPlace (Word room i low w n) t v u = slice_index u t ≡ value i v
  HoldsPlace (WordFrom room i size j w) t v u = (slice_index u t ≡ value i v) × (slice_index u (t + 1) ≡ value j v)

  abbrev pub Holds : List Place → ℕ → Values → List ℕ → Type 0
  Holds [] t v u = Unit {0}
  Holds (p ∷ ps) t v u = HoldsPlace p t v u × Holds ps (t + index_slots p) v u

  place_later : (p : Place) (t : ℕ) (v : Values) (u w : List ℕ)
      → ((k : ℕ) → t ≤ k → k < t + index_slots p → slice_index w k ≡ slice_index u k) → HoldsPlace p t v u → HoldsPlace p t v w
  place_later (Bits p n) t v u w f h = tt
  place_later (BitsFrom p i width) t v u w f h = f t (omega arith) (omega arith) ∙ h
  place_later (Word room i low width n) t v u w f h = f t (omega arith) (omega arith) ∙ h
  place_later (WordFrom room i size j width) t v u w f h =
      (f t (omega arith) (omega arith) ∙ h.0, f (t + 1) (omega arith) (omega arith) ∙ h.1)

  holds_later : (ps : List Place) (t : ℕ) (v : Values) (u w : List ℕ) → base widths W ≤ t → Keeps widths W u w → Holds ps t v u
      → Holds ps t v w
  holds_later [] t v u w l f h = tt
  holds_later (p ∷ ps) t v u w l f h = (
    place_later p t v u w (λ k i j. f k (omega (arith, l, i))) h.0,
    holds_later ps (t + index_slots p) v u w (omega (arith, l)) f h.1,
  )

  put_place : (t : Timing) (p : Place) (k rest x : ℕ) (s : List ℕ) (v : Values) → IsPlaceThere widths W p → HoldsPlace p k v s
      → slice_index s (base widths W) ≡ x → IsReady widths W s
      → Puts t (place_store widths W (offset widths W t) p k rest) (place_updates p (x / 2 ^ rest) v) s
  put_place t (Bits p n) k rest x s v h is e r =
      subst (λ y. Puts t (place_store widths W (offset widths W t) (Bits p n) k rest) (bit_updates (Net p.net) p.low p.width
      (y / 2 ^ rest)) s) e
      (bits_place t p rest s h.2.0 h.2.1 (let a = h.1 in let b = h.0.1 in omega (arith, a, b)) r)
  put_place t (BitsFrom p i w) k rest x s v h is e r =
      subst (λ y. Puts t (place_store widths W (offset widths W t) (BitsFrom p i w) k rest)
      (part_updates (Net p.net) p.low p.width (value i v) w (y / 2 ^ rest)) s) e
      (subst (λ y. Puts t (place_store widths W (offset widths W t) (BitsFrom p i w) k rest)
      (part_updates (Net p.net) p.low p.width y w (slice_index s (base widths W) / 2 ^ rest)) s) is
      (part_place t p k w rest s h.2.0 h.2.1 r))
  put_place t (Word room i low w n) k rest x s v h is e r =
      subst (λ y. Puts t (place_store widths W (offset widths W t) (Word room i low w n) k rest)
      (word_updates room (value i v) (λ target. bit_updates target low w (y / 2 ^ rest))) s) e
      (subst (λ y. Puts t (place_store widths W (offset widths W t) (Word room i low w n) k rest)
      (word_updates room y (λ target. bit_updates target low w (slice_index s (base widths W) / 2 ^ rest))) s) is
      (word_place t room k low w rest s h.2.0 r))
  put_place t (WordFrom room i size j w) k rest x s v h is e r =
      subst (λ y. Puts t (place_store widths W (offset widths W t) (WordFrom room i size j w) k rest)
      (word_updates room (value i v) (λ target. part_updates target 0 size (value j v) w (y / 2 ^ rest))) s) e
      (subst (λ y. Puts t (place_store widths W (offset widths W t) (WordFrom room i size j w) k rest)
      (word_updates room y (λ target. part_updates target 0 size (value j v) w (slice_index s (base widths W) / 2 ^ rest))) s) is.0
      (subst (λ y. Puts t (place_store widths W (offset widths W t) (WordFrom room i size j w) k rest)
      (word_updates room (slice_index s k) (λ target. part_updates target 0 size y w (slice_index s (base widths W) / 2 ^ rest))) s) is.1
      (word_part t room k size (k + 1) w rest s h.2.0 r)))

  pub put_places : (t : Timing) (ps : List Place) (k x : ℕ) (s : List ℕ) (v : Values) → AllByRecursion (IsPlaceThere widths W) ps
      → base widths W + 1 ≤ k → Holds ps k v s → slice_index s (base widths W) ≡ x → IsReady widths W s
      → Puts t (stores widths W (offset widths W t) ps k) (target_updates ps x v) s
  put_places t [] k x s v h l is e r = puts_nothing t s r
  put_places t (p ∷ ps) k x s v h l is e r =
      let a = put_place t p k (target_width ps) x s v h.0 is.0 e r in
      let next = k + index_slots p in
      puts_then t (place_store widths W (offset widths W t) p k (target_width ps)) (stores widths W (offset widths W t) ps next)
      (place_updates p (x / 2 ^ target_width ps) v) (target_updates ps x v) s a
      (put_places t ps next x a.after v h.1 (omega (arith, l))
      (holds_later ps next v s a.after (omega (arith, l)) a.keeps is.1)
      (a.keeps (base widths W) (omega arith) ∙ e) a.moved.ready)

  -- ---- indexes
  pub record Finds (P : List ℕ → Type 0) (t : ℕ) (code : List Instr) (s : List ℕ) : Type 0 where
    pub after : List ℕ
    pub runs : RunsTo code s after
    pub keeps : take t after ≡ take t s
    pub long : length after ≡ length s
    pub holds : P after

  -- an expression put into a slot, at slots that kept the numbers of the design
  pub force_later : (e : Rhs) (t k : ℕ) (s u : List ℕ) → IsRhsThere widths W e → base widths W ≤ t → t ≤ k
      → AreBelow (length s) (forced widths W e k) → IsReady widths W s → take t u ≡ take t s → length u ≡ length s
      → Leaves k (forced widths W e k) k (value e (shown widths W s)) u
  force_later e t k s u h l m i r same long =
      subst (λ v. Leaves k (forced widths W e k) k (value e v) u)
      (same_shown widths W t s u (omega (arith, l)) same)
      (pushed k (below widths e k) (step widths e k) (value e (shown widths W u)) u (subst (λ j. k < j) (sym long) i.0)
      (lowered widths W e h k u (omega (arith, l, m)) (subst (λ j. AreBelow j (below widths e k)) (sym long) i.1)
      (same_ready widths W t s u l same long r)))

  find_one : (P : List ℕ → Type 0) (e : Rhs) (t k : ℕ) (s u : List ℕ) → Leaves k (forced widths W e k) k (value e (shown widths W s)) u
      → ((w : List ℕ) → slice_index w k ≡ value e (shown widths W s) → P w) → Finds P k (forced widths W e k) u
  find_one P e t k s u a f = record { after = a.after; runs = a.runs; keeps = a.keeps; long = a.long; holds = f a.after a.holds }

  find_place : (p : Place) (t k : ℕ) (s u : List ℕ) → IsPlaceThere widths W p → base widths W ≤ t → t ≤ k
      → AreBelow (length s) (place_index widths W p k) → IsReady widths W s → take t u ≡ take t s → length u ≡ length s
      → Finds (HoldsPlace p k (shown widths W s)) k (place_index widths W p k) u
  find_place (Bits p n) t k s u h l m i r same long = record { after = u; runs = runs_nothing u; keeps = refl; long = refl; holds = tt }
  find_place (BitsFrom p e w) t k s u h l m i r same long =
      find_one _ e t k s u (force_later e t k s u h.3 l m i r same long) (λ x g. g)
  find_place (Word room e low w n) t k s u h l m i r same long =
      find_one _ e t k s u (force_later e t k s u h.3 l m i r same long) (λ x g. g)
  find_place (WordFrom room e size f w) t k s u h l m i r same long =
      let a = force_later e t k s u h.3 l m (last_below (length s) (forced widths W f (k + 1)) (forced widths W e k) i) r same long in
      let v = shown widths W s in
      let b = force_later f t (k + 1) s a.after h.4 l (omega (arith, m))
      (first_below (length s) (forced widths W f (k + 1)) (forced widths W e k) i) r
      (kept_less t k u a.after m a.keeps ∙ same) (a.long ∙ long) in
      record {
        after = b.after;
        runs = runs_then (forced widths W e k) (forced widths W f (k + 1)) u a.after b.after a.runs b.runs;
        keeps = kept_less k (k + 1) a.after b.after (omega arith) b.keeps ∙ a.keeps;
        long = b.long ∙ a.long;
        holds = (kept (k + 1) k a.after b.after b.keeps (omega arith) ∙ a.holds, b.holds);
      }

  pub find_places : (ps : List Place) (t k : ℕ) (s u : List ℕ) → AllByRecursion (IsPlaceThere widths W) ps → base widths W ≤ t → t ≤ k
      → AreBelow (length s) (index_code widths W ps k) → IsReady widths W s → take t u ≡ take t s → length u ≡ length s
      → Finds (Holds ps k (shown widths W s)) k (index_code widths W ps k) u
  find_places [] t k s u h l m i r same long = record { after = u; runs = runs_nothing u; keeps = refl; long = refl; holds = tt }
  find_places (p ∷ ps) t k s u h l m i r same long =
      let next = k + index_slots p in
      let v = shown widths W s in
      let late = index_code widths W ps next in
      let early = place_index widths W p k in
      let a = find_place p t k s u h.0 l m (last_below (length s) late early i) r same long in
      let b = find_places ps t next s a.after h.1 l (omega (arith, m)) (first_below (length s) late early i) r
      (kept_less t k u a.after m a.keeps ∙ same) (a.long ∙ long) in
      record {
        after = b.after;
        runs = runs_then early late u a.after b.after a.runs b.runs;
        keeps = kept_less k next a.after b.after (omega arith) b.keeps ∙ a.keeps;
        long = b.long ∙ a.long;
        holds = (place_later p k v a.after b.after (λ j x y. kept next j a.after b.after b.keeps y) a.holds, b.holds);
      }
