-- *Said*: what `check`, `run` and `record` print (this project's profile). Every line ends with a newline, and numbers are decimal.
use Rattle.std.specs.Prelude.{ℕ, List, ◌++◌, length, codes, decimal}
use Rattle.std.specs.List.{sum_by}
use Rattle.vidi_bench.specs.report_text.Text.{newline}
use Rattle.vlog_tree.specs.Tree.{ModuleOf, FileOf}
use Rattle.net_design.specs.declared.design.Counts.{Counts}
pub use Rattle.vidi_bench.specs.report_text.Report.{name_of}
pub use Rattle.vidi_bench.specs.vidi_answer.Said.{recorded_line, unstable_line}

-- the items of all modules
abbrev pub items : {A : Type 0} → FileOf A → ℕ
items {A} f = sum_by (λ (m : ModuleOf A). length m.items) f.modules

-- `modules N items N`, of the whole file
abbrev pub file_line : {A : Type 0} → FileOf A → List ℕ
file_line f = codes "modules " ++ (decimal (length f.modules) ++ (codes " items " ++ (decimal (items f) ++ newline)))

-- a word and a number behind it
abbrev pub counted : List ℕ → ℕ → List ℕ
counted label n = label ++ decimal n

-- `instances N nets N drivers N blocks N words N`
abbrev pub counts_line : Counts → List ℕ
counts_line c = counted (codes "instances ") c.instances ++ (counted (codes " nets ") c.nets ++ (counted (codes " drivers ") c.drivers
    ++ (counted (codes " blocks ") c.blocks ++ (counted (codes " words ") c.words ++ newline))))

-- what `check` prints of a file and its design
abbrev pub check_text : {A : Type 0} → FileOf A → Counts → List ℕ
check_text f c = file_line f ++ counts_line c

-- `cycles N`
abbrev pub cycles_line : ℕ → List ℕ
cycles_line n = codes "cycles " ++ (decimal n ++ newline)
