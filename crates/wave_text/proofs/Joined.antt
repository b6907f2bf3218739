-- Words and lines, joined and taken apart again.
use Rattle.std.proofs.Common.{◌≡◌, ◌≢◌, ℕ, zero, suc, ◌+◌, ◌≤◌, ◌<◌, ◌&&◌, ◌==◌, ◌++◌, not, Bool, true, false, eqb, leb, cond, List, [], ◌∷◌, length, take, drop, refl, ap, sym, subst, ◌∙◌, arith}
use Rattle.std.proofs.Common.{append_assoc, append-nil, le-leb, leb-true, ne_eqb, eq-eqb, take_at}
use Rattle.std.specs.List.{list_all, before_first, after_first, position_or_len}
use Rattle.std.proofs.lemmas.Bool.{and_parts, and_from, cond-true, cond-false}
use Rattle.std.proofs.lemmas.List.Folds.{list_all-append}
use Rattle.vidi_lines.specs.Lines.{file_lines}
use Rattle.vidi_lines.proofs.Parts.{next_line, no_line}
use Rattle.wave_text.specs.Names.{but_last}
use Rattle.wave_text.specs.Reading.{is_space, first_line, behind_line}
use Rattle.wave_text.specs.Text.{line, text_of}

-- no blank, no newline, no control character
abbrev pub is_word : List ℕ → Bool
is_word text = list_all (λ b. leb 33 b) text

-- no newline
abbrev pub is_line : List ℕ → Bool
is_line text = list_all (λ b. leb 11 b) text

not-below : (low b c : ℕ) → c < low → leb low b ≡ true → eqb b c ≡ false
not-below low b c l h = ne_eqb b c (λ e. let g = leb-true low b h in let z : ⊥ = omega (arith, e, g, l) in z)

drop-past : (xs : List ℕ) (c : ℕ) (ys : List ℕ) → drop (suc (length xs)) (xs ++ c ∷ ys) ≡ ys
drop-past [] c ys = refl
drop-past (x ∷ xs) c ys = drop-past xs c ys

-- lists of bytes that are all above another
module _ (low c : ℕ) (small : c < low) where
  abbrev is : ℕ → Bool
  is b = b == c

  abbrev whole : List ℕ → Bool
  whole text = list_all (λ b. leb low b) text

  place-cut : (xs ys : List ℕ) → whole xs ≡ true → position_or_len is (xs ++ c ∷ ys) ≡ length xs
  place-cut [] ys h = ap (λ b. cond (not b) (1 + position_or_len is ys) 0) (eq-eqb c c refl)
  place-cut (x ∷ xs) ys h = let t = and_parts (leb low x) (whole xs) h in
      ap (λ b. cond (not b) (1 + position_or_len is (xs ++ c ∷ ys)) 0) (not-below low x c small t.0)
      ∙ (let more = place-cut xs ys t.1 in let z : 1 + position_or_len is (xs ++ c ∷ ys) ≡ suc (length xs) = omega (arith, more) in z)

  pub front-cut : (xs ys : List ℕ) → whole xs ≡ true → before_first is (xs ++ c ∷ ys) ≡ xs
  front-cut xs ys h = take_at xs (c ∷ ys) (position_or_len is (xs ++ c ∷ ys)) (sym (place-cut xs ys h))

  pub back-cut : (xs ys : List ℕ) → whole xs ≡ true → after_first is (xs ++ c ∷ ys) ≡ ys
  back-cut xs ys h = let at = place-cut xs ys h in
      ap (λ k. drop k (xs ++ c ∷ ys)) (let z : position_or_len is (xs ++ c ∷ ys) + 1 ≡ suc (length xs) = omega (arith, at) in z)
      ∙ drop-past xs c ys

abbrev pub are_words : List (List ℕ) → Bool
are_words ws = list_all is_word ws

-- ---- words
pub word-front : (w rest : List ℕ) → is_word w ≡ true → before_first is_space (w ++ 32 ∷ rest) ≡ w
word-front w rest h = front-cut 33 32 (omega arith) w rest h

pub word-back : (w rest : List ℕ) → is_word w ≡ true → after_first is_space (w ++ 32 ∷ rest) ≡ rest
word-back w rest h = back-cut 33 32 (omega arith) w rest h

pub looser : (xs : List ℕ) → is_word xs ≡ true → is_line xs ≡ true
looser [] h = refl
looser (x ∷ xs) h = let t = and_parts (leb 33 x) (is_word xs) h in
    and_from (leb 11 x) (is_line xs) (le-leb 11 x (let g = leb-true 33 x t.0 in omega (arith, g))) (looser xs t.1)

pub both-lines : (xs ys : List ℕ) → is_line xs ≡ true → is_line ys ≡ true → is_line (xs ++ ys) ≡ true
both-lines xs ys h k = list_all-append (λ b. leb 11 b) xs ys ∙ and_from (is_line xs) (is_line ys) h k

pub line-is : (w : List ℕ) (ws : List (List ℕ)) → are_words (w ∷ ws) ≡ true → is_line (line (w ∷ ws)) ≡ true
line-is w [] h = looser w (and_parts (is_word w) true h).0
line-is w (v ∷ ws) h = let t = and_parts (is_word w) (are_words (v ∷ ws)) h in
    both-lines w (32 ∷ line (v ∷ ws)) (looser w t.0) (line-is v ws t.1)

-- ---- lines
abbrev pub are_lines : List (List ℕ) → Bool
are_lines ls = list_all is_line ls

pub line-front : (l : List ℕ) (ls : List (List ℕ)) → is_line l ≡ true → first_line (text_of (l ∷ ls)) ≡ l
line-front l ls h = ap first_line (append_assoc l (10 ∷ []) (text_of ls)) ∙ front-cut 11 10 (omega arith) l (text_of ls) h

pub line-back : (l : List ℕ) (ls : List (List ℕ)) → is_line l ≡ true → behind_line (text_of (l ∷ ls)) ≡ text_of ls
line-back l ls h = ap behind_line (append_assoc l (10 ∷ []) (text_of ls)) ∙ back-cut 11 10 (omega arith) l (text_of ls) h

some-text : (l : List ℕ) (ls : List (List ℕ)) → text_of (l ∷ ls) ≢ []
some-text [] ls e = absurd (cc)
some-text (b ∷ l) ls e = absurd (cc)

-- the lines of a text are those that it was made of
pub lines-text : (ls : List (List ℕ)) → are_lines ls ≡ true → file_lines (text_of ls) ≡ ls
lines-text [] h = no_line
lines-text (l ∷ ls) h = let t = and_parts (is_line l) (are_lines ls) h in
    next_line (text_of (l ∷ ls)) (some-text l ls)
    ∙ ap (λ x. x ∷ file_lines (behind_line (text_of (l ∷ ls)))) (line-front l ls t.0)
    ∙ ap (λ xs. l ∷ file_lines xs) (line-back l ls t.0) ∙ ap (λ xs. l ∷ xs) (lines-text ls t.1)
