-- What a simulator keeps in slots, and its instructions (`net_instr`), listed from the last to the first.
use Rattle.std.specs.Prelude.{◌≡◌, ℕ, ◌+◌, ◌<◌, ◌≤◌, List, [], ◌∷◌, ◌++◌, All, length, map, take, drop, slice_index}
use Rattle.net_design.specs.declared.act.Code.{Code}
use Rattle.net_design.specs.declared.design.Net.{Net}
use Rattle.net_design.specs.declared.design.Driver.{Driver}
use Rattle.net_design.specs.declared.design.Design.{Design}
use Rattle.net_design.specs.declared.values.Values.{Values}
use Rattle.net_design.specs.Settled.{word_count}
use Rattle.net_order.specs.Run.{acts_of}
use Rattle.net_instr.specs.declared.instr.Instr.{Instr}
use Rattle.net_instr.specs.Layout.{span, shown, state}
use Rattle.net_instr.specs.Statements.{block_code}

abbrev pub widths_of : Design → List ℕ
widths_of d = map (λ (n : Net). n.width) d.nets

-- how many numbers a design has
abbrev pub span_of : Design → ℕ
span_of d = span (widths_of d) (word_count d)

-- what is shown, and the state
abbrev pub shown_in : Design → List ℕ → Values
shown_in d slots = shown (widths_of d) (word_count d) slots

abbrev pub state_in : Design → List ℕ → Values
state_in d slots = state (widths_of d) (word_count d) slots

-- drivers, run one after the other
abbrev pub drivers_code : List ℕ → ℕ → List Driver → List ℕ → List Instr
drivers_code widths W drivers [] = []
drivers_code widths W drivers (i ∷ order) = drivers_code widths W drivers order ++ block_code widths W 0 (acts_of drivers i)

-- clocked blocks, which write the state
abbrev pub blocks_code : List ℕ → ℕ → List Code → List Instr
blocks_code widths W [] = []
blocks_code widths W (c ∷ rest) = blocks_code widths W rest ++ block_code widths W (span widths W) c.acts

abbrev pub settling_code : Design → List ℕ → List Instr
settling_code d order = drivers_code (widths_of d) (word_count d) d.drivers order

abbrev pub clocking_code : Design → List Instr
clocking_code d = blocks_code (widths_of d) (word_count d) d.blocks

-- the first k slots become those behind them
abbrev pub copied : ℕ → List ℕ → List ℕ
copied k slots = take k (drop k slots) ++ drop k slots

-- some nets, and all words, of which the first one has slot `first`, have become those behind the first `span` slots
pub record AreShown (ms : List ℕ) (first span : ℕ) (old new : List ℕ) : Type 0 where
  pub nets : All (λ m. slice_index new m ≡ slice_index old (span + m)) ms
  pub words : (k : ℕ) → first ≤ k → k < span → slice_index new k ≡ slice_index old (span + k)
  pub behind : (k : ℕ) → span ≤ k → slice_index new k ≡ slice_index old k
  pub long : length new ≡ length old
