-- Numbers of expressions at widths that are large enough.
use Rattle.std.proofs.Common.{◌≡◌, ℕ, ◌+◌, ◌≤◌, ◌<◌, Bool, true, false, ◌&&◌, ◌||◌, not, nat_le, min, max, if◌then◌else◌}
use Rattle.std.proofs.Common.{Option, None, Some, List, ◌∷◌, refl, ap, sym, ◌∙◌, arith}
use Rattle.std.proofs.lemmas.Grind.{common_steps}
use Rattle.std.proofs.lemmas.Bool.{and_from}
use Rattle.vlog_tree.proofs.vidi_bits_lemmas.Bools.{never}
use Rattle.vlog_tree.specs.vidi_bits.Number.{side_by_side}
use Rattle.vlog_tree.specs.declared.expr.BinaryOp.{BinaryOp}
use Rattle.vlog_tree.specs.declared.expr.UnaryOp.{UnaryOp}
use Rattle.vlog_size.specs.declared.facts.Facts.{Facts}
use Rattle.vlog_size.specs.declared.evaluated.Evaluated.{Evaluated}
use Rattle.vlog_size.specs.declared.evaluated.Operands.{Operands}
use Rattle.vlog_size.specs.declared.evaluated.Gathered.{Gathered}
use Rattle.vlog_size.specs.declared.operators.Kind.{Kind}
use Rattle.vlog_size.specs.declared.operators.Kind.TheVariants.{Sum, Comparison, Logic, Shift}
use Rattle.vlog_size.specs.Limits.{TOP}
use Rattle.vlog_size.specs.Literal.{is_lawful}
use Rattle.vlog_size.specs.Operators.{unary_value, binary_value}
use Rattle.vlog_size.specs.Size.{Sizes, own, own_width, shared_width, at_width, assigned_width, of_one, of_two, wide_value, narrow_value}
use Rattle.vlog_size.specs.Size.{binary_width, compared, operated, chosen_value, join_with, joined, joined_at, concat_value, all_constant}
use Rattle.vlog_size.specs.Size.{total_width, of_concat, repeat_value}
use Rattle.vlog_size.specs.Facts.{Shows, ShowsAt, ShowsBoth, ShowsOperands, ShowsRest, ShowsGathered, ShowsAll, operated_width}
use Rattle.vlog_size.proofs.Repeats.{value_capped}

-- ---- lawful widths
past : (w : ℕ) → 128 < w → is_lawful w ≡ false
past w h = grind arith

few : (w : ℕ) → is_lawful w ≡ true → w ≤ 128
few w l = grind arith

-- what is made of a lawful width
abbrev pub lawfully : (ℕ → Option ℕ) → ℕ → Option ℕ
lawfully F w = if is_lawful w then F w else None

there : (l : Bool) (x : Option ℕ) → l ≡ true → (if l then x else None) ≡ x
there true x h = refl
there false x h = (cc)

gone : (l : Bool) (x : Option ℕ) → l ≡ false → (if l then x else None) ≡ None
gone true x h = (cc)
gone false x h = refl

alike_at : (F : ℕ → Option ℕ) (h v w : ℕ) (b : Bool) → nat_le w 128 ≡ b → v ≡ min w TOP → lawfully F (max h v) ≡ lawfully F (max h w)
alike_at F h v w true s e = let same : v ≡ w = grind arith in ap (λ (u : ℕ). lawfully F (max h u)) same
alike_at F h v w false s e =
    let far : 128 < max h w = grind arith in
    let other : 128 < max h v = grind arith in
    gone (is_lawful (max h v)) (F (max h v)) (past (max h v) other) ∙ sym (gone (is_lawful (max h w)) (F (max h w)) (past (max h w) far))

-- a width that is no more than the largest number makes what the width itself makes
alike : (F : ℕ → Option ℕ) (h v w : ℕ) → v ≡ min w TOP → lawfully F (max h v) ≡ lawfully F (max h w)
alike F h v w e = alike_at F h v w (nat_le w 128) refl e

zero_max : (w : ℕ) → max 0 w ≡ w
zero_max w = omega arith

alike_own : (F : ℕ → Option ℕ) (v w : ℕ) → v ≡ min w TOP → lawfully F v ≡ lawfully F w
alike_own F v w e = ap (lawfully F) (sym (zero_max v)) ∙ (alike F 0 v w e ∙ ap (lawfully F) (zero_max w))

turned : (h a b : ℕ) → max h (max a b) ≡ max (max h a) b
turned h a b = omega arith

swapped : (h a b : ℕ) → max (max h a) b ≡ max (max h b) a
swapped h a b = omega arith

alike_both : (F : ℕ → Option ℕ) (h u v a b : ℕ) → u ≡ min a TOP → v ≡ min b TOP
    → lawfully F (max h (max u v)) ≡ lawfully F (max h (max a b))
alike_both F h u v a b d e =
    ap (lawfully F) (turned h u v)
    ∙ (alike F (max h u) v b e
    ∙ (ap (lawfully F) (swapped h u b)
    ∙ (alike F (max h b) u a d
    ∙ ap (lawfully F) (swapped h b a ∙ sym (turned h a b)))))

same_lawful : (h v w : ℕ) (b : Bool) → nat_le w 128 ≡ b → v ≡ min w TOP → is_lawful (max h v) ≡ is_lawful (max h w)
same_lawful h v w true s e = let same : v ≡ w = grind arith in ap (λ (u : ℕ). is_lawful (max h u)) same
same_lawful h v w false s e =
    let far : 128 < max h w = grind arith in
    let other : 128 < max h v = grind arith in
    past (max h v) other ∙ sym (past (max h w) far)

-- ---- the number at a width that is large enough
gated : (c l : Bool) (n : Option ℕ) (value : ℕ → Option ℕ) (w : ℕ) → (c ≡ true → l ≡ true → n ≡ value w)
    → (if c && l then n else None) ≡ at_width value (if c && l then Some w else None)
gated true true n value w h = h refl refl
gated true false n value w h = refl
gated false l n value w h = refl

pub shown_at : (h : ℕ) (f : Facts) (n value : Option ℕ) (e : Sizes) → Shows f e
    → (e.constant ≡ true → is_lawful (max h e.width) ≡ true → n ≡ e.value (max h e.width))
    → value ≡ (if f.constant && is_lawful (max h f.width) then n else None)
    → ShowsAt h (record { facts = f; value = value }) e
shown_at h f n value e s same is = record {
  facts = s;
  value = is ∙ (ap (λ (c : Bool). if c && is_lawful (max h f.width) then n else None) s.constant
      ∙ (ap (λ (b : Bool). if e.constant && b then n else None) (same_lawful h f.width e.width (nat_le e.width 128) refl s.width)
      ∙ gated e.constant (is_lawful (max h e.width)) n e.value (max h e.width) same));
}

taken : (c l : Bool) (value : ℕ → Option ℕ) (w : ℕ) → c ≡ true → l ≡ true → at_width value (if c && l then Some w else None) ≡ value w
taken true true value w h k = refl
taken true false value w h k = (cc)
taken false l value w h k = (cc)

value_at : (h : ℕ) (f : Evaluated) (e : Sizes) → ShowsAt h f e → e.constant ≡ true → is_lawful (max h e.width) ≡ true
    → f.value ≡ e.value (max h e.width)
value_at h f e s c l = s.value ∙ taken e.constant (is_lawful (max h e.width)) e.value (max h e.width) c l

-- the same at a width that is written otherwise
value_of : (h w : ℕ) (f : Evaluated) (e : Sizes) → ShowsAt h f e → e.constant ≡ true → max h e.width ≡ w → is_lawful w ≡ true
    → f.value ≡ e.value w
value_of h w f e s c same l = value_at h f e s c (ap is_lawful same ∙ l) ∙ ap e.value same

own_reach : (f : Evaluated) (e : Sizes) → ShowsAt 0 f e
    → f.value ≡ at_width e.value (if e.constant && is_lawful e.width then Some e.width else None)
own_reach f e s = s.value ∙ ap (λ (w : ℕ). at_width e.value (if e.constant && is_lawful w then Some w else None)) (zero_max e.width)

pub own_at : (f : Evaluated) (e : Sizes) → ShowsAt 0 f e → f.value ≡ own e
unfolding own own_width
own_at f e s = own_reach f e s

-- ---- the same number for another width that is asked
unreached : (x y : ℕ) (b : Bool) → nat_le y 128 ≡ b → 128 < x → (y ≤ 128 → x ≡ y) → is_lawful y ≡ false
unreached x y true s far k =
    let within : y ≤ 128 = grind arith in
    let same : x ≡ y = k within in
    past y (omega arith)
unreached x y false s far k = past y (grind arith)

neither : (c l m : Bool) (x y : ℕ) → l ≡ false → m ≡ false → (if c && l then Some x else None) ≡ (if c && m then Some y else None)
neither c true m x y h k = (cc)
neither c false true x y h k = (cc)
neither true false false x y h k = refl
neither false false false x y h k = refl

reach_of : (c : Bool) (x y : ℕ) (b : Bool) → nat_le x 128 ≡ b → (x ≤ 128 → x ≡ y) → (y ≤ 128 → x ≡ y)
    → (if c && is_lawful x then Some x else None) ≡ (if c && is_lawful y then Some y else None)
reach_of c x y true s h k =
    let within : x ≤ 128 = grind arith in
    ap (λ (w : ℕ). if c && is_lawful w then Some w else None) (h within)
reach_of c x y false s h k =
    let far : 128 < x = grind arith in
    let other : is_lawful y ≡ false = unreached x y (nat_le y 128) refl far k in
    neither c (is_lawful x) (is_lawful y) x y (past x far) other

pub asked : (h k : ℕ) (f : Evaluated) (e : Sizes)
    → (max h e.width ≤ 128 → max h e.width ≡ max k e.width) → (max k e.width ≤ 128 → max h e.width ≡ max k e.width)
    → ShowsAt h f e → ShowsAt k f e
asked h k f e x y s = record {
  facts = s.facts;
  value = s.value ∙ ap (at_width e.value) (reach_of e.constant (max h e.width) (max k e.width) (nat_le (max h e.width) 128) refl x y);
}

-- ---- the larger of widths that are no more than the largest number
right_up : (wide v a b : ℕ) → v ≡ min a TOP → max (max wide v) b ≤ 128 → max (max wide v) b ≡ max (max wide a) b
right_up wide v a b e h = omega arith

right_down : (wide v a b : ℕ) → v ≡ min a TOP → max (max wide a) b ≤ 128 → max (max wide v) b ≡ max (max wide a) b
right_down wide v a b e h = omega arith

again_up : (wide u v a b : ℕ) → u ≡ min a TOP → v ≡ min b TOP → max wide u < v → max v a ≤ 128 → max v a ≡ max (max wide b) a
again_up wide u v a b d e over h = omega arith

again_down : (wide u v a b : ℕ) → u ≡ min a TOP → v ≡ min b TOP → max wide u < v → max (max wide b) a ≤ 128 → max v a ≡ max (max wide b) a
again_down wide u v a b d e over h = omega arith

kept_up : (wide u v a b : ℕ) → u ≡ min a TOP → v ≡ min b TOP → v ≤ max wide u → max wide a ≤ 128 → max wide a ≡ max (max wide b) a
kept_up wide u v a b d e within h = omega arith

kept_down : (wide u v a b : ℕ) → u ≡ min a TOP → v ≡ min b TOP → v ≤ max wide u → max (max wide b) a ≤ 128
    → max wide a ≡ max (max wide b) a
kept_down wide u v a b d e within h = omega arith

-- the right operand, taken at the left one's width no more than the largest number
pub right_asked : (wide v : ℕ) (f : Evaluated) (a b : Sizes) → v ≡ min a.width TOP → ShowsAt (max wide v) f b
    → ShowsAt (max wide a.width) f b
right_asked wide v f a b e s =
    asked (max wide v) (max wide a.width) f b (λ h. right_up wide v a.width b.width e h)
    (λ h. right_down wide v a.width b.width e h) s

-- the left operand once more, taken at the right one's width
pub left_again : (wide u v : ℕ) (f : Evaluated) (a b : Sizes) → u ≡ min a.width TOP → v ≡ min b.width TOP → max wide u < v
    → ShowsAt v f a → ShowsAt (max wide b.width) f a
left_again wide u v f a b d e over s =
    asked v (max wide b.width) f a (λ h. again_up wide u v a.width b.width d e over h)
    (λ h. again_down wide u v a.width b.width d e over h) s

-- the left operand as it was taken, where the right one isn't wider
pub left_kept : (wide u v : ℕ) (f : Evaluated) (a b : Sizes) → u ≡ min a.width TOP → v ≡ min b.width TOP → v ≤ max wide u
    → ShowsAt wide f a → ShowsAt (max wide b.width) f a
left_kept wide u v f a b d e within s =
    asked wide (max wide b.width) f a (λ h. kept_up wide u v a.width b.width d e within h)
    (λ h. kept_down wide u v a.width b.width d e within h) s

no_reach : (c : Bool) (x y : ℕ) (value : ℕ → Option ℕ) → c ≡ false
    → at_width value (if c && is_lawful x then Some x else None) ≡ at_width value (if c && is_lawful y then Some y else None)
no_reach true x y value h = (cc)
no_reach false x y value h = refl

-- one that isn't constant has no number anyway
pub left_free : (h k : ℕ) (f : Evaluated) (e : Sizes) → e.constant ≡ false → ShowsAt h f e → ShowsAt k f e
left_free h k f e c s = record {
  facts = s.facts;
  value = s.value ∙ no_reach e.constant (max h e.width) (max k e.width) e.value c;
}

not_both : (c w : Bool) → (not c || w) ≡ true → c ≡ true → w ≡ true
not_both true w h k = h
not_both false w h k = (cc)

enough_at : (wide : ℕ) (f g : Evaluated) (a b : Sizes) (c : Bool) → a.constant ≡ c
    → (not f.facts.constant || nat_le g.facts.width (max wide f.facts.width)) ≡ true
    → Shows g.facts b → ShowsAt wide f a → ShowsAt (max wide b.width) f a
enough_at wide f g a b false h enough t s = left_free wide (max wide b.width) f a h s
enough_at wide f g a b true h enough t s =
    let test : nat_le g.facts.width (max wide f.facts.width) ≡ true =
    not_both f.facts.constant (nat_le g.facts.width (max wide f.facts.width)) enough (s.facts.constant ∙ h) in
    let within : g.facts.width ≤ max wide f.facts.width = grind arith in
    left_kept wide f.facts.width g.facts.width f a b s.facts.width t.width within s

pub enough : (wide : ℕ) (f g : Evaluated) (a b : Sizes) → (not f.facts.constant || nat_le g.facts.width (max wide f.facts.width)) ≡ true
    → ShowsAt wide f a → ShowsAt (max wide f.facts.width) g b → ShowsBoth wide (record { left = f; right = g }) a b
enough wide f g a b test s t = (
  enough_at wide f g a b a.constant refl test t.facts s,
  right_asked wide f.facts.width g a b s.facts.width t,
)

wider_at : (c w : Bool) → (not c || w) ≡ false → w ≡ false
wider_at true w h = h
wider_at false w h = (cc)

pub not_enough : (wide : ℕ) (f g again : Evaluated) (a b : Sizes)
    → (not f.facts.constant || nat_le g.facts.width (max wide f.facts.width)) ≡ false
    → ShowsAt wide f a → ShowsAt (max wide f.facts.width) g b → ShowsAt g.facts.width again a
    → ShowsBoth wide (record { left = again; right = g }) a b
not_enough wide f g again a b test s t u =
    let not_within : nat_le g.facts.width (max wide f.facts.width) ≡ false =
    wider_at f.facts.constant (nat_le g.facts.width (max wide f.facts.width)) test in
    let over : max wide f.facts.width < g.facts.width = grind arith in (
      left_again wide f.facts.width g.facts.width again a b s.facts.width t.facts.width over u,
      right_asked wide f.facts.width g a b s.facts.width t,
    )

-- ---- an operator before an operand
abbrev pub unary_made : UnaryOp → Option ℕ → ℕ → Option ℕ
unary_made op o w = of_one (λ (m : ℕ). unary_value op m w) o

narrow_made : (op : UnaryOp) (value : ℕ → Option ℕ) (c l : Bool) (w : ℕ) (o : Option ℕ) → c ≡ true
    → o ≡ at_width value (if c && l then Some w else None)
    → (if l then unary_made op o w else None) ≡ narrow_value op value (if c && l then Some w else None)
narrow_made op value true true w o k h = ap (λ (x : Option ℕ). unary_made op x w) h
narrow_made op value true false w o k h = refl
narrow_made op value false l w o k h = (cc)

narrow_own : (op : UnaryOp) (f : Evaluated) (a : Sizes) → ShowsAt 0 f a → a.constant ≡ true
    → lawfully (unary_made op f.value) a.width ≡ narrow_value op a.value (own_width a)
unfolding own_width
narrow_own op f a s c = narrow_made op a.value a.constant (is_lawful a.width) a.width f.value c (own_reach f a s)

pub sign_value : (b : Bool) (op : UnaryOp) (h : ℕ) (f : Evaluated) (a : Sizes) (n : Option ℕ) → ShowsAt (if b then h else 0) f a
    → n ≡ lawfully (unary_made op f.value) (max (if b then h else 0) f.facts.width)
    → a.constant ≡ true → is_lawful (max h (if b then a.width else 1)) ≡ true
    → n ≡ (if b then wide_value op a.value (max h (if b then a.width else 1)) else narrow_value op a.value (own_width a))
sign_value true op h f a n s is c l =
    is ∙ (alike (unary_made op f.value) h f.facts.width a.width s.facts.width
    ∙ (there (is_lawful (max h a.width)) (unary_made op f.value (max h a.width)) l
    ∙ ap (λ (o : Option ℕ). unary_made op o (max h a.width)) (value_at h f a s c l)))
sign_value false op h f a n s is c l =
    is ∙ (alike (unary_made op f.value) 0 f.facts.width a.width s.facts.width
    ∙ (ap (lawfully (unary_made op f.value)) (zero_max a.width) ∙ narrow_own op f a s c))

-- ---- an operator between two operands
abbrev pub binary_made : BinaryOp → Option ℕ → Option ℕ → ℕ → Option ℕ
binary_made op x y w = of_two (λ (m n : ℕ). Some (binary_value op m n w)) x y

made_same : (op : BinaryOp) (w : ℕ) (x y p q : Option ℕ) → x ≡ p → y ≡ q → binary_made op x y w ≡ binary_made op p q w
made_same op w x y p q h k = ap (λ (o : Option ℕ). binary_made op o y w) h ∙ ap (λ (o : Option ℕ). binary_made op p o w) k

left_width : (h a b : ℕ) → max (max h b) a ≡ max h (max a b)
left_width h a b = omega arith

right_width : (h a b : ℕ) → max (max h a) b ≡ max h (max a b)
right_width h a b = omega arith

compared_made : (op : BinaryOp) (a b : ℕ → Option ℕ) (c l : Bool) (w : ℕ) (x y : Option ℕ) → c ≡ true → (l ≡ true → x ≡ a w)
    → (l ≡ true → y ≡ b w)
    → (if l then binary_made op x y w else None) ≡ compared op a b (if c && l then Some w else None)
compared_made op a b true true w x y k h i = made_same op w x y (a w) (b w) (h refl) (i refl)
compared_made op a b true false w x y k h i = refl
compared_made op a b false l w x y k h i = (cc)

comparison_made : (op : BinaryOp) (o : Operands) (a b : Sizes) → ShowsBoth 0 o a b → a.constant ≡ true → b.constant ≡ true
    → lawfully (binary_made op o.left.value o.right.value) (max a.width b.width) ≡ compared op a.value b.value (shared_width a b)
unfolding shared_width
comparison_made op o a b s c d =
    let w = max a.width b.width in
    compared_made op a.value b.value (a.constant && b.constant) (is_lawful w) w o.left.value o.right.value
    (and_from a.constant b.constant c d)
    (λ l. value_of (max 0 b.width) w o.left a s.0 c (left_width 0 a.width b.width ∙ zero_max w) l)
    (λ l. value_of (max 0 a.width) w o.right b s.1 d (right_width 0 a.width b.width ∙ zero_max w) l)

pub binary_same : (kind : Kind) (op : BinaryOp) (h : ℕ) (o : Operands) (a b : Sizes) (n : Option ℕ) → Shows o.left.facts a
    → Shows o.right.facts b
    → ShowsOperands kind h o a b
    → n ≡ lawfully (binary_made op o.left.value o.right.value) (operated_width kind h o.left.facts.width o.right.facts.width)
    → a.constant ≡ true → b.constant ≡ true → is_lawful (max h (binary_width kind a.width b.width)) ≡ true
    → n ≡ operated kind op a b (max h (binary_width kind a.width b.width))
binary_same Sum op h o a b n p q s is c d l =
    let w = max h (max a.width b.width) in
    is ∙ (alike_both (binary_made op o.left.value o.right.value) h o.left.facts.width o.right.facts.width a.width b.width p.width q.width
    ∙ (there (is_lawful w) (binary_made op o.left.value o.right.value w) l
    ∙ made_same op w o.left.value o.right.value (a.value w) (b.value w)
    (value_of (max h b.width) w o.left a s.0 c (left_width h a.width b.width) l)
    (value_of (max h a.width) w o.right b s.1 d (right_width h a.width b.width) l)))
binary_same Comparison op h o a b n p q s is c d l =
    let F = binary_made op o.left.value o.right.value in
    is ∙ (ap (lawfully F) (sym (zero_max (max o.left.facts.width o.right.facts.width)))
    ∙ (alike_both F 0 o.left.facts.width o.right.facts.width a.width b.width p.width q.width
    ∙ (ap (lawfully F) (zero_max (max a.width b.width)) ∙ comparison_made op o a b s c d)))
binary_same Logic op h o a b n p q s is c d l =
    is ∙ (there (is_lawful (max h 1)) (binary_made op o.left.value o.right.value (max h 1)) l
    ∙ made_same op (max h 1) o.left.value o.right.value (own a) (own b) (own_at o.left a s.0) (own_at o.right b s.1))
binary_same Shift op h o a b n p q s is c d l =
    is ∙ (alike (binary_made op o.left.value o.right.value) h o.left.facts.width a.width p.width
    ∙ (there (is_lawful (max h a.width)) (binary_made op o.left.value o.right.value (max h a.width)) l
    ∙ made_same op (max h a.width) o.left.value o.right.value (a.value (max h a.width)) (own b) (value_at h o.left a s.0 c l)
    (own_at o.right b s.1)))

pub left_facts : (kind : Kind) (h : ℕ) (o : Operands) (a b : Sizes) → ShowsOperands kind h o a b → Shows o.left.facts a
left_facts Sum h o a b s = s.0.facts
left_facts Comparison h o a b s = s.0.facts
left_facts Logic h o a b s = s.0.facts
left_facts Shift h o a b s = s.0.facts

pub right_facts : (kind : Kind) (h : ℕ) (o : Operands) (a b : Sizes) → ShowsOperands kind h o a b → Shows o.right.facts b
right_facts Sum h o a b s = s.1.facts
right_facts Comparison h o a b s = s.1.facts
right_facts Logic h o a b s = s.1.facts
right_facts Shift h o a b s = s.1.facts

-- ---- `?:`
pub choice_same : (h : ℕ) (f : Evaluated) (o : Operands) (c a b : Sizes) (n : Option ℕ) → ShowsAt 0 f c → ShowsBoth h o a b
    → n ≡ chosen_value f.value o.left.value o.right.value → a.constant ≡ true → b.constant ≡ true
    → is_lawful (max h (max a.width b.width)) ≡ true
    → n ≡ chosen_value (own c) (a.value (max h (max a.width b.width))) (b.value (max h (max a.width b.width)))
choice_same h f o c a b n r s is d e l =
    let w = max h (max a.width b.width) in
    is ∙ (ap (λ (x : Option ℕ). chosen_value x o.left.value o.right.value) (own_at f c r)
    ∙ (ap (λ (x : Option ℕ). chosen_value (own c) x o.right.value)
    (value_of (max h b.width) w o.left a s.0 d (left_width h a.width b.width) l)
    ∙ ap (λ (x : Option ℕ). chosen_value (own c) (a.value w) x)
    (value_of (max h a.width) w o.right b s.1 e (right_width h a.width b.width) l)))

-- ---- concatenations
abbrev pub part_made : ℕ → Option ℕ → Option ℕ → ℕ → Option ℕ
part_made before high low w = of_two (λ (m n : ℕ). Some (side_by_side m n before w)) high low

none_made : (before w : ℕ) (high low : Option ℕ) → low ≡ None → part_made before high low w ≡ None
none_made before w None low h = refl
none_made before w (Some a) None h = refl
none_made before w (Some a) (Some b) h = (cc)

join_made : (c l : Bool) (before w : ℕ) (high : Option ℕ) (p : Sizes) (low : Option ℕ)
    → low ≡ at_width p.value (if c && l then Some w else None)
    → (if l then part_made before high low w else None) ≡ join_with before high p (if c && l then Some w else None)
join_made true true before w high p low h = ap (λ (o : Option ℕ). part_made before high o w) h
join_made true false before w high p low h = refl
join_made false true before w high p low h = none_made before w high low h
join_made false false before w high p low h = refl

join_own : (before : ℕ) (high : Option ℕ) (f : Evaluated) (p : Sizes) → ShowsAt 0 f p
    → lawfully (part_made before high f.value) p.width ≡ join_with before high p (own_width p)
unfolding own_width
join_own before high f p s = join_made p.constant (is_lawful p.width) before p.width high p f.value (own_reach f p s)

sum_there : (sum total all : ℕ) → all ≤ 128 → min (sum + total) TOP ≡ min all TOP → sum + total ≡ all
sum_there sum total all h e = omega arith

next_made : (sum next width w rest all : ℕ) (high low number : Option ℕ) (p : Sizes) (f : Evaluated) → w ≡ p.width
    → ShowsAt 0 f p → all ≤ 128 → sum + (p.width + rest) ≡ all → next + rest ≡ all
    → (sum + f.facts.width ≤ 128 → number ≡ lawfully (part_made sum high f.value) f.facts.width)
    → (next ≡ sum + p.width) × (number ≡ join_with sum high p (own_width p))
next_made sum next width w rest all high low number p f i s h e k made =
    let same : f.facts.width ≡ p.width = omega (arith, s.facts.width) in
    let room : sum + f.facts.width ≤ 128 = omega arith in
    (omega arith, made room ∙ (ap (lawfully (part_made sum high f.value)) same ∙ join_own sum high f p s))

more_width : (p : Sizes) (ps : List Sizes) → total_width (p ∷ ps) ≡ p.width + total_width ps
more_width p ps = grind (arith, common_steps)

joined_next : (next sum : ℕ) (number high : Option ℕ) (p : Sizes) (rest : List Sizes) (all : Option ℕ) → next ≡ sum + p.width
    → number ≡ join_with sum high p (own_width p) → joined sum high (p ∷ rest) ≡ all → joined next number rest ≡ all
joined_next next sum number high p rest all h k whole =
    ap (λ (w : ℕ). joined w number rest) h ∙ (ap (λ (o : Option ℕ). joined (sum + p.width) o rest) k ∙ whole)

pub next_gathered : (g r : Gathered) (f : Evaluated) (p : Sizes) (rest all : List Sizes) → ShowsGathered g (p ∷ rest) all → ShowsAt 0 f p
    → ShowsRest r.parts rest all
    → (g.parts.sum + f.facts.width ≤ 128 → r.number ≡ lawfully (part_made g.parts.sum g.number f.value) f.facts.width)
    → ShowsGathered r rest all
next_gathered g r f p rest all h s parts made = record {
  parts = parts;
  number = λ t.
      let now : g.parts.sum + total_width (p ∷ rest) ≡ total_width all =
      sum_there g.parts.sum (total_width (p ∷ rest)) (total_width all) t h.parts.sum in
      let split : g.parts.sum + (p.width + total_width rest) ≡ total_width all =
      ap (λ (w : ℕ). g.parts.sum + w) (sym (more_width p rest)) ∙ now in
      let next : r.parts.sum + total_width rest ≡ total_width all =
      sum_there r.parts.sum (total_width rest) (total_width all) t parts.sum in
      let both = next_made g.parts.sum r.parts.sum 0 p.width (total_width rest) (total_width all) g.number None r.number
      p f refl s t split next made in
      joined_next r.parts.sum g.parts.sum r.number g.number p rest (joined 0 (Some 0) all) both.0 both.1 (h.number t);
}

concat_made : (all : List Sizes) (c l : Bool) (w : ℕ) (n : Option ℕ) → c ≡ true → (l ≡ true → n ≡ joined 0 (Some 0) all)
    → (if l then n else None) ≡ joined_at all (if c && l then Some w else None)
concat_made all true true w n k h = h refl
concat_made all true false w n k h = refl
concat_made all false l w n k h = (cc)

pub concat_same : (g : Gathered) (v : ℕ) (all : List Sizes) (n : Option ℕ) → ShowsAll g all → v ≡ min (total_width all) TOP
    → n ≡ (if is_lawful v then g.number else None) → all_constant all ≡ true → n ≡ concat_value all
concat_same g v all n s e is c =
    is ∙ (alike_own (λ (w : ℕ). g.number) v (total_width all) e
    ∙ concat_made all (all_constant all) (is_lawful (total_width all)) (total_width all) g.number c
    (λ l. s.none_left.number (few (total_width all) l)))

unit_made : (all : List Sizes) (c l : Bool) (w : ℕ)
    → at_width (λ (v : ℕ). joined_at all (if c && l then Some w else None)) (if c && l then Some w else None)
    ≡ joined_at all (if c && l then Some w else None)
unit_made all true true w = refl
unit_made all true false w = refl
unit_made all false l w = refl

unit_value : (u : Evaluated) (line : ℕ) (all : List Sizes) → ShowsAt 0 u (of_concat line all) → u.value ≡ concat_value all
unit_value u line all s =
    own_reach u (of_concat line all) s ∙ unit_made all (all_constant all) (is_lawful (total_width all)) (total_width all)

-- ---- replications
pub repeat_same : (many count : Option ℕ) (u : Evaluated) (line : ℕ) (all : List Sizes) (n : Option ℕ) → ShowsAt 0 u (of_concat line all)
    → many ≡ count → n ≡ repeat_value many u.facts.width u.value → n ≡ repeat_value count (total_width all) (concat_value all)
repeat_same many count u line all n s same is =
    is ∙ (value_capped many u.facts.width (total_width all) u.value s.facts.width
    ∙ (ap (λ (o : Option ℕ). repeat_value many (total_width all) o) (unit_value u line all s)
    ∙ ap (λ (k : Option ℕ). repeat_value k (total_width all) (concat_value all)) same))

-- ---- what is assigned
assigned_made : (c l m : Bool) (value : ℕ → Option ℕ) (w : ℕ) (x : Option ℕ) → (l ≡ true → m ≡ true)
    → x ≡ at_width value (if c && m then Some w else None)
    → (if l then x else None) ≡ at_width value (if c && l then Some w else None)
assigned_made true true true value w x i h = h
assigned_made true true false value w x i h = never _ (i refl)
assigned_made true false m value w x i h = refl
assigned_made false true m value w x i h = h
assigned_made false false m value w x i h = refl

larger : (w v : ℕ) → w ≤ 128 → is_lawful v ≡ true → is_lawful (max w v) ≡ true
larger w v h l = grind arith

pub assigned_same : (w : ℕ) (f : Evaluated) (e : Sizes) (n : Option ℕ) → w ≤ 128 → ShowsAt w f e
    → n ≡ (if is_lawful f.facts.width then f.value else None) → n ≡ at_width e.value (assigned_width w e)
assigned_same w f e n h s is =
    is ∙ (alike_own (λ (v : ℕ). f.value) f.facts.width e.width s.facts.width
    ∙ assigned_made e.constant (is_lawful e.width) (is_lawful (max w e.width)) e.value (max w e.width) f.value (larger w e.width h) s.value)
