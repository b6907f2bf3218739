-- The AXI file on worked texts, found by hand.
use Rattle.std.specs.Prelude.{◌≡◌, ℕ, List, [], ◌∷◌, ◌++◌, codes, Some, None, Ok, Err, refl, false, true}
use Rattle.vidi_lines.specs.Lines.{file_lines, is_bad, words_between}
use Rattle.axi_burst.specs.declared.axi_text.Entry.TheVariants as E
use Rattle.axi_burst.specs.declared.axi_text.Role.TheVariants.{ReadAddress, ReadData}
use Rattle.axi_burst.specs.Forms.{keyword_of}
use Rattle.axi_burst.specs.Reading.{text_of, read_lines}

abbrev line : List ℕ → List ℕ
line text = text ++ 10 ∷ []

-- the file of a port without IDs that only reads
reads_alone : text_of (read_lines (line (codes "# reads") ++ line (codes "beat 4") ++ line (codes "ar ar none 0 none none none") ++ codes "r r none 0x1"))
    ≡ Ok (record {
      beat = 4;
      lines = record { line = 3; entry = E.Channel ReadAddress (codes "ar") (None ∷ Some 0 ∷ None ∷ None ∷ None ∷ []) }
          ∷ record { line = 4; entry = E.Channel ReadData (codes "r") (None ∷ Some 1 ∷ []) } ∷ [];
    })
unfolding file_lines is_bad words_between keyword_of
reads_alone = refl

-- `beat 3` at its line; a file without lines, and one without channels: the number behind the last line's
no_beat : text_of (read_lines (10 ∷ codes "beat 3")) ≡ Err 2
unfolding file_lines is_bad words_between keyword_of
no_beat = refl

no_lines : text_of (read_lines []) ≡ Err 1
unfolding file_lines is_bad words_between keyword_of
no_lines = refl

no_channels : text_of (read_lines (codes "beat 4")) ≡ Err 2
unfolding file_lines is_bad words_between keyword_of
no_channels = refl

-- `r` is missing; `ar` has no ADDR; `r` is said twice
half : text_of (read_lines (line (codes "beat 4") ++ codes "ar a none 0 none none none")) ≡ Err 3
unfolding file_lines is_bad words_between keyword_of
half = refl

no_addr : text_of (read_lines (line (codes "beat 4") ++ line (codes "ar a none none none none none") ++ codes "r r none none")) ≡ Err 2
unfolding file_lines is_bad words_between keyword_of
no_addr = refl

twice : text_of (read_lines (line (codes "beat 4") ++ line (codes "r r none none") ++ codes "r s none none")) ≡ Err 3
unfolding file_lines is_bad words_between keyword_of
twice = refl

-- `memory` has a form in any file, `data` in one with all five channels
memory : text_of (read_lines (line (codes "beat 4") ++ line (codes "memory 16") ++ line (codes "r r none none") ++ codes "ar a none 0 none none none"))
    ≡ Ok (record {
      beat = 4;
      lines = record { line = 2; entry = E.Memory 16 }
          ∷ record { line = 3; entry = E.Channel ReadData (codes "r") (None ∷ None ∷ []) }
          ∷ record { line = 4; entry = E.Channel ReadAddress (codes "a") (None ∷ Some 0 ∷ None ∷ None ∷ None ∷ []) } ∷ [];
    })
unfolding file_lines is_bad words_between keyword_of
memory = refl

too_many_words : text_of (read_lines (line (codes "beat 4") ++ codes "memory 65537")) ≡ Err 2
unfolding file_lines is_bad words_between keyword_of
too_many_words = refl

-- without the write channels, `data` is refused at its line, also where a bad line stands further down
no_writes : text_of (read_lines (line (codes "beat 4") ++ line (codes "data 0 1 0") ++ line (codes "ar a none 0 none none none")
    ++ line (codes "r r none none") ++ codes "x")) ≡ Err 2
unfolding file_lines is_bad words_between keyword_of
no_writes = refl

-- a line counts by its first word: with all five the first bad line is `aw`, behind `data`
five_words : text_of (read_lines (line (codes "beat 4") ++ line (codes "data 0 1 0") ++ line (codes "aw") ++ line (codes "w") ++ line (codes "b")
    ++ line (codes "ar") ++ codes "r")) ≡ Err 3
unfolding file_lines is_bad words_between keyword_of
five_words = refl
