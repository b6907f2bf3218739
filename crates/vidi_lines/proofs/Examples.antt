-- The definitions on worked files and words.
use Rattle.std.specs.Prelude.{◌≡◌, [], ◌∷◌, ◌++◌, codes, Some, None, refl, ◌-◌, ◌^◌}
use Rattle.vidi_lines.specs.Lines.{file_lines, words_between, before_comment, bad_lines, is_bad}
use Rattle.vidi_lines.specs.Number.{number_of}

-- two newlines and a last byte that isn't one: three lines
pub three_lines : file_lines (codes "top p" ++ 10 ∷ 10 ∷ codes "x") ≡ codes "top p" ∷ [] ∷ codes "x" ∷ []
unfolding file_lines
three_lines = refl

pub one_line : file_lines (10 ∷ []) ≡ [] ∷ []
unfolding file_lines
one_line = refl

-- `tie`, a tab, `p`, a carriage return, a comment with the byte 200
pub words_before_comment : words_between (before_comment (codes "tie" ++ 9 ∷ codes "p" ++ 13 ∷ codes "#" ++ 200 ∷ [])) ≡ codes "tie"
    ∷ codes "p" ∷ []
unfolding words_between
words_before_comment = refl

-- the byte 128 on line 2
pub bad_second : bad_lines (codes "top p" ++ 10 ∷ 128 ∷ []) ≡ 2 ∷ []
unfolding file_lines is_bad
bad_second = refl

pub hexadecimal : number_of (codes "0xfF") ≡ Some 255
hexadecimal = refl

pub nothing_behind : number_of (codes "0x") ≡ None
nothing_behind = refl

pub largest : number_of (codes "340282366920938463463374607431768211455") ≡ Some (2 ^ 128 - 1)
largest = refl

pub too_large : number_of (codes "340282366920938463463374607431768211456") ≡ None
too_large = refl
