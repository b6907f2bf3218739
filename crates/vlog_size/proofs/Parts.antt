-- Of parts without a fault: what a concatenation and a select make of their widths and numbers.
use Rattle.std.proofs.Common.{◌*◌, ◌%◌, ◌^◌, ◌<◌, zero, suc, add-one, subst}
use Rattle.std.proofs.Common.{◌≡◌, ◌≤◌, ◌+◌, arith, ℕ, Bool, true, false, ◌&&◌, not, if◌then◌else◌, Option, None, Some, is_none}
use Rattle.std.proofs.Common.{List, [], ◌∷◌, ◌++◌, refl}
use Rattle.std.proofs.lemmas.Bool.{and_from}
use Rattle.vlog_tree.proofs.vidi_bits_lemmas.Bools.{never, left_of, right_of, and_not_false}
use Rattle.vlog_tree.proofs.vidi_bits_lemmas.FindingLaws.{told_none}
use Rattle.vlog_tree.proofs.vidi_bits_lemmas.Lists.{nil_left, nil_right}
use Rattle.vlog_size.specs.declared.error.SizeError.TheVariants as error
use Rattle.vlog_size.specs.Literal.{is_lawful}
use Rattle.vlog_size.specs.Size.{Sizes, has_width, own_width, number, reaches, all_constant, all_lawful, total_width, sum_fault, unsized_part}
use Rattle.vlog_size.specs.Size.{parts_const_faults, parts_width_faults, joined, join_with, joined_at}
use Rattle.vlog_size.specs.Size.{is_too_large, times, repeat_width, repeat_value, count_fault, concat_value, of_repeat}
use Rattle.vlog_size.specs.Size.{of_concat, Bracket, NoBracket, Bit, Part, Indexed, part_width, part_const_faults, part_fault}
use Rattle.vlog_size.specs.Size.{part_width_faults, outside, too_large, wrong_order, is_wrong_order, is_wrong_part, bounds_width, or_zero}
use Rattle.vlog_size.proofs.Lists.{bounds_lawful}
use Rattle.vlog_tree.specs.vidi_bits.Number.{side_by_side, repeated}
use Rattle.vlog_tree.proofs.vidi_bits_lemmas.NumberLemmas.{repeated_fits}
use Rattle.vlog_size.proofs.Repeats.{lawful_unit}
use Rattle.vlog_size.proofs.Fits.{Below, below_none, below_some, wider, joined_fits}
use Rattle.vlog_size.proofs.Sized.{IsSized, Sized, sized_width, two_there, number_there}

-- ---- `{part, ..}`
pub record AreSized (ps : List Sizes) : Type 0 where
  pub lawful : all_lawful ps ≡ true
  pub known : all_constant ps ≡ true → (before : ℕ) (n : Option ℕ) → is_none n ≡ false → is_none (joined before n ps) ≡ false

abbrev pub AllSized : List Sizes → Type 0
AllSized ps = parts_const_faults ps ≡ [] → parts_width_faults ps ≡ [] → AreSized ps

pub none_sized : AllSized []
none_sized h k = record {
  lawful = refl;
  known = λ c w n there. there;
}

join_at : (w : ℕ) (n : Option ℕ) (p : Sizes) (c l : Bool) (v : ℕ) → c ≡ true → l ≡ true → is_none n ≡ false → is_none (p.value v) ≡ false
    → is_none (join_with w n p (if c && l then Some v else None)) ≡ false
join_at w n p true true v h k there known = two_there (λ (a b : ℕ). side_by_side a b w v) n (p.value v) there known
join_at w n p true false v h k there known = (cc)
join_at w n p false l v h k there known = (cc)

join_there : (w : ℕ) (n : Option ℕ) (p : Sizes) → IsSized p → p.constant ≡ true → is_none n ≡ false
    → is_none (join_with w n p (own_width p)) ≡ false
unfolding own_width
join_there w n p s c there = join_at w n p p.constant (is_lawful p.width) p.width c s.lawful there (s.known c p.width)

pub more_sized : (p : Sizes) (ps : List Sizes) → Sized p → AllSized ps → AllSized (p ∷ ps)
more_sized p ps head tail h k =
    let own : unsized_part p ++ p.const_faults ≡ [] = nil_left (unsized_part p ++ p.const_faults) (parts_const_faults ps) h in
    let s : IsSized p = head (nil_right (unsized_part p) p.const_faults own) (nil_left p.width_faults (parts_width_faults ps) k) in
    let rest : AreSized ps = tail (nil_right (unsized_part p ++ p.const_faults) (parts_const_faults ps) h)
    (nil_right p.width_faults (parts_width_faults ps) k) in
    record {
      lawful = and_from (has_width p) (all_lawful ps) (sized_width p s) rest.lawful;
      known = λ c w n there. rest.known (right_of p.constant (all_constant ps) c) (w + p.width) (join_with w n p (own_width p))
          (join_there w n p s (left_of p.constant (all_constant ps) c) there);
    }

concat_at : (ps : List Sizes) (c l : Bool) (w : ℕ) → c ≡ true → l ≡ true
    → ((w : ℕ) (n : Option ℕ) → is_none n ≡ false → is_none (joined w n ps) ≡ false)
    → is_none (joined_at ps (if c && l then Some w else None)) ≡ false
concat_at ps true true w h k known = known 0 (Some 0) refl
concat_at ps true false w h k known = (cc)
concat_at ps false l w h k known = (cc)

none_before : Below 0 (Some 0)
none_before = below_some 0 0 (omega arith)

all_fit : (ps : List Sizes) (v : ℕ) (b : Bool) → total_width ps ≤ v → Below v (joined_at ps (if b then Some (total_width ps) else None))
all_fit ps v true h = wider (0 + total_width ps) v (joined 0 (Some 0) ps) (omega arith) (joined_fits ps 0 (Some 0) none_before)
all_fit ps v false h = below_none v

pub concat_sized : (line : ℕ) (ps : List Sizes) → AllSized ps → Sized (of_concat line ps)
concat_sized line ps inner h k =
    let own : sum_fault line ps ≡ [] = nil_left (sum_fault line ps) (parts_width_faults ps) k in
    let s : AreSized ps = inner h (nil_right (sum_fault line ps) (parts_width_faults ps) k) in
    let fits : is_lawful (total_width ps) ≡ true = and_not_false (all_lawful ps) (is_lawful (total_width ps))
    (told_none (all_lawful ps && not (is_lawful (total_width ps))) (error.Width line (total_width ps)) own) s.lawful in
    record {
      lawful = fits;
      parts = s.lawful;
      fits = λ w h k. all_fit ps w (all_constant ps && is_lawful (total_width ps)) h;
      known = λ c w. concat_at ps (all_constant ps) (is_lawful (total_width ps)) (total_width ps) c fits (s.known c);
      whole = λ p. never (true ≡ false) p;
    }

-- ---- `{count{part, ..}}`
-- without a fault a constant position has a number
abbrev pub Known : Sizes → Type 0
Known e = e.const_faults ≡ [] → e.width_faults ≡ [] → is_none (number e) ≡ false

repeated_below : (n v w : ℕ) → repeated n v w < 2 ^ (n * w)
repeated_below zero v w = let none : zero * w ≡ 0 = omega arith in rw none (omega arith)
repeated_below (suc n) v w =
    let next : repeated n v w * 2 ^ w + v % 2 ^ w < 2 ^ ((n + 1) * w) = repeated_fits (repeated n v w) n v w (repeated_below n v w) in
    let P : ℕ → Type 0 = λ m. repeated n v w * 2 ^ w + v % 2 ^ w < 2 ^ (m * w) in
    subst P (add-one n) next

repeat_fit : (n : ℕ) (w v : ℕ) (b : Bool) (x : ℕ) → n * w ≤ v → Below v (if b then Some (repeated n x w) else None)
repeat_fit n w v true x h = wider (n * w) v (Some (repeated n x w)) h (below_some (n * w) (repeated n x w) (repeated_below n x w))
repeat_fit n w v false x h = below_none v

repeat_fits : (n : Option ℕ) (w v : ℕ) (o : Option ℕ) → repeat_width n w ≤ v → Below v (repeat_value n w o)
repeat_fits None w v o h = below_none v
repeat_fits (Some n) w v None h = below_none v
repeat_fits (Some n) w v (Some x) h = repeat_fit n w v (is_lawful (n * w)) x h

repeat_there : (n : Option ℕ) (w : ℕ) (o : Option ℕ) → is_none n ≡ false → is_lawful (repeat_width n w) ≡ true → is_none o ≡ false
    → is_none (repeat_value n w o) ≡ false
repeat_there None w o h l k = h
repeat_there (Some n) w None h l k = k
repeat_there (Some n) w (Some x) h l k = rw l refl

times_lawful : (line : ℕ) (n : Option ℕ) (ps : List Sizes) → is_none n ≡ false → all_lawful ps ≡ true → count_fault line n ps ≡ []
    → is_lawful (repeat_width n (total_width ps)) ≡ true
times_lawful line None ps h l k = (cc)
times_lawful line (Some n) ps h l k =
    and_not_false (all_lawful ps) (is_lawful (n * total_width ps))
    (told_none (all_lawful ps && not (is_lawful (n * total_width ps))) (error.Width line (n * total_width ps)) k) l

unit_lawful : (n : Option ℕ) (w : ℕ) → is_lawful (repeat_width n w) ≡ true → is_lawful w ≡ true
unit_lawful None w l = (cc)
unit_lawful (Some n) w l = lawful_unit n w l

not_large : (b : Bool) (o : Option ℕ) → b ≡ false → is_none o ≡ false → is_none (if b then None else o) ≡ false
not_large true o h k = (cc)
not_large false o h k = k

times_there : (c : Sizes) → too_large c ≡ [] → is_none (number c) ≡ false → is_none (times c) ≡ false
unfolding times
times_there c h k = not_large (is_too_large c) (number c) (told_none (is_too_large c) (error.Const c.line) h) k

pub repeat_sized : (line : ℕ) (c : Sizes) (ps : List Sizes) → Known c → AllSized ps → Sized (of_repeat line c ps)
repeat_sized line c ps count inner h k =
    let before = too_large c ++ c.const_faults in
    let own : before ≡ [] = nil_left before (parts_const_faults ps) h in
    let rest : c.width_faults ++ parts_width_faults ps ≡ [] =
    nil_right (count_fault line (times c) ps) (c.width_faults ++ parts_width_faults ps) k in
    let s : AreSized ps = inner (nil_right before (parts_const_faults ps) h) (nil_right c.width_faults (parts_width_faults ps) rest) in
    let there : is_none (times c) ≡ false =
    times_there c (nil_left (too_large c) c.const_faults own)
    (count (nil_right (too_large c) c.const_faults own) (nil_left c.width_faults (parts_width_faults ps) rest)) in
    let fits : is_lawful (repeat_width (times c) (total_width ps)) ≡ true =
    times_lawful line (times c) ps there s.lawful (nil_left (count_fault line (times c) ps) (c.width_faults ++ parts_width_faults ps) k) in
    record {
      lawful = fits;
      parts = s.lawful;
      fits = λ w h k. repeat_fits (times c) (total_width ps) w (concat_value ps) h;
      known = λ o w. repeat_there (times c) (total_width ps) (concat_value ps) there fits
          (concat_at ps (all_constant ps) (is_lawful (total_width ps)) (total_width ps) (right_of c.constant (all_constant ps) o)
          (unit_lawful (times c) (total_width ps) fits) (s.known (right_of c.constant (all_constant ps) o)));
      whole = λ p. never (true ≡ false) p;
    }

-- ---- the last bracket
pub known_sized : (e : Sizes) → Sized e → (e.const_faults ≡ [] → e.constant ≡ true) → Known e
known_sized e s c h k = number_there e (s h k) (c h) h k

abbrev pub BracketSized : Bracket → Type 0
BracketSized NoBracket = Unit {0}
BracketSized (Bit i) = Unit {0}
BracketSized (Part a b) = Known a × Known b
BracketSized (Indexed base width) = Known width

bounds_fit : (whole : ℕ) (a b : Option ℕ) → is_lawful whole ≡ true → is_none a ≡ false → is_none b ≡ false → reaches whole a ≡ false
    → is_wrong_order a b ≡ false → is_lawful (bounds_width a b) ≡ true
bounds_fit whole None b l h k i o = (cc)
bounds_fit whole (Some a) None l h k i o = (cc)
bounds_fit whole (Some a) (Some b) l h k i o = bounds_lawful a b whole l i o

part_fits : (whole : ℕ) (k : Option ℕ) → is_lawful whole ≡ true → is_none k ≡ false → is_wrong_part whole k ≡ false
    → is_lawful (or_zero k) ≡ true
part_fits whole None l h o = (cc)
part_fits whole (Some k) l h o = and_not_false (is_lawful whole) (is_lawful k) o l

in_reach : (limit : ℕ) (i : Sizes) → outside limit i ≡ [] → reaches limit (number i) ≡ false
in_reach limit i h = told_none (reaches limit (number i)) (error.Width i.line (or_zero (number i))) h

pub part_lawful : (line whole picked limit : ℕ) (b : Bracket) → BracketSized b → is_lawful whole ≡ true → is_lawful picked ≡ true
    → part_const_faults b ≡ [] → part_fault line whole b ≡ [] → part_width_faults whole limit b ≡ []
    → is_lawful (part_width whole picked b) ≡ true
part_lawful line whole picked limit NoBracket s l p h o k = l
part_lawful line whole picked limit (Bit i) s l p h o k = p
part_lawful line whole picked limit (Part a b) s l p h o k =
    let a_const : a.const_faults ≡ [] =
    nil_right (too_large a) a.const_faults (nil_left (too_large a ++ a.const_faults) (too_large b ++ b.const_faults) h) in
    let b_const : b.const_faults ≡ [] =
    nil_right (too_large b) b.const_faults (nil_right (too_large a ++ a.const_faults) (too_large b ++ b.const_faults) h) in
    let rest_a = wrong_order a b ++ a.width_faults in
    let at_a = outside whole a ++ rest_a in
    let at_b = outside whole b ++ b.width_faults in
    let a_all : at_a ≡ [] = nil_left at_a at_b k in
    let b_all : at_b ≡ [] = nil_right at_a at_b k in
    let a_rest : rest_a ≡ [] = nil_right (outside whole a) rest_a a_all in
    let order : is_wrong_order (number a) (number b) ≡ false =
    told_none (is_wrong_order (number a) (number b)) (error.Width a.line (or_zero (number b)))
    (nil_left (wrong_order a b) a.width_faults a_rest) in
    bounds_fit whole (number a) (number b) l
    (s.0 a_const (nil_right (wrong_order a b) a.width_faults a_rest))
    (s.1 b_const (nil_right (outside whole b) b.width_faults b_all))
    (in_reach whole a (nil_left (outside whole a) rest_a a_all))
    order
part_lawful line whole picked limit (Indexed base width) s l p h o k =
    part_fits whole (number width) l
    (s (nil_right (too_large width) width.const_faults (nil_right base.const_faults (too_large width ++ width.const_faults) h))
    (nil_right base.width_faults width.width_faults k))
    (told_none (is_wrong_part whole (number width)) (error.Width line (or_zero (number width))) o)
