-- The reasons of a design's text, E1 to E14 (this project's profile).
use Rattle.std.specs.Prelude.{ℕ, List, ◌++◌, codes, decimal}
use Rattle.vlog_elab.specs.declared.error.Big.{Big}
use Rattle.vlog_elab.specs.declared.error.Big.TheVariants.{Instances, Nets, Words}
use Rattle.report_text.specs.Text.{spaced}

abbrev pub big_text : Big → List ℕ
big_text Instances = codes "instances"
big_text Nets = codes "nets"
big_text Words = codes "words"

-- `E6 width line L got N`
abbrev pub width_text : ℕ → ℕ → List ℕ
width_text line got = (codes "E6 width line " ++ decimal line) ++ (codes " got " ++ decimal got)

-- `E8 drive X bit N drivers N`
abbrev pub drive_text : List ℕ → ℕ → ℕ → List ℕ
drive_text name bit drivers = (codes "E8 drive " ++ name) ++ ((codes " bit " ++ decimal bit) ++ (codes " drivers " ++ decimal drivers))

-- `E9 latch X line L`
abbrev pub latch_text : List ℕ → ℕ → List ℕ
latch_text name line = (codes "E9 latch " ++ name) ++ (codes " line " ++ decimal line)

-- `E10 loop lines L ..`
abbrev pub loop_text : List ℕ → List ℕ
loop_text lines = codes "E10 loop lines" ++ spaced lines
