-- The whole units of a design text: a module's header up to its `;`, an item, and `endmodule`.
use Rattle.std.specs.Prelude.{◌≡◌, ◌≤◌, ◌-◌, ℕ, List, [], ◌∷◌, ◌++◌, length, drop, map}
use Rattle.std.specs.List.{flat_map}
use Rattle.vlog_tree.specs.declared.terminal.Terminal.TheVariants as t
use Rattle.vlog_tree.specs.Words.{WordOf, NameWord, Fixed}
use Rattle.vlog_tree.specs.Tree.{ParameterOf, PortOf, ItemOf, ModuleOf, FileOf}
use Rattle.vlog_tree.specs.Spelling.{with_commas, in_row, hash_words, parameter_words, port_words, item_words, file_words}
use Rattle.vlog_tree.specs.Shape.{IsGood}
use Rattle.vlog_item.specs.vlog_expr.Marks.{Toks, spell}
use Rattle.vlog_item.specs.vlog_expr.Bare.{forget_all}
use Rattle.vlog_item.specs.Laws.{IsWholeItem}

pub data UnitOf (A : Type 0) : Type 0 where
  Header : List ℕ → List (ParameterOf A) → List (PortOf A) → UnitOf A
  ItemUnit : ItemOf A → UnitOf A
  Endmodule : UnitOf A

abbrev pub module_units : {A : Type 0} → ModuleOf A → List (UnitOf A)
module_units m = Header m.name m.parameters m.ports ∷ (map ItemUnit m.items ++ Endmodule ∷ [])

abbrev pub file_units : {A : Type 0} → FileOf A → List (UnitOf A)
file_units f = flat_map module_units f.modules

abbrev pub unit_words : {A : Type 0} → UnitOf A → List (WordOf A)
unit_words (Header name parameters ports) = Fixed t.Module ∷ NameWord name ∷ (hash_words parameter_words parameters ++ Fixed t.ParenOpen
    ∷ (with_commas port_words ports ++ Fixed t.ParenClose ∷ Fixed t.Semicolon ∷ []))
unit_words (ItemUnit i) = item_words i
unit_words Endmodule = Fixed t.Endmodule ∷ []

-- an `always` that `else` follows isn't a whole unit
abbrev pub IsWhole : {A B : Type 0} → UnitOf A → Toks B → Type 0
IsWhole (ItemUnit i) rest = IsWholeItem i rest
IsWhole _ rest = Unit {0}

abbrev pub AreWhole : List (UnitOf (Unit {0})) → Toks (Unit {0}) → Type 0
AreWhole [] rest = Unit {0}
AreWhole (u ∷ us) rest = IsWhole u (spell tt (in_row unit_words us) rest) × AreWhole us rest

-- the tokens are these whole units, with which some file of good shape begins, and then the rest
pub record BeginWith (units : List (UnitOf (Unit {0}))) (ws rest : Toks (Unit {0})) : Type 0 where
  pub file : FileOf (Unit {0})
  pub good : IsGood file
  pub more : List (UnitOf (Unit {0}))
  pub parts : file_units file ≡ units ++ more
  pub spelled : ws ≡ spell tt (in_row unit_words units) rest
  pub whole : AreWhole units rest

-- the longest list of whole units with which the tokens begin, and the tokens behind it
pub record AreLongest (units : List (UnitOf (Unit {0}))) (ws rest : Toks (Unit {0})) : Type 0 where
  pub begins : BeginWith units ws rest
  pub longest : (us : List (UnitOf (Unit {0}))) (r : Toks (Unit {0})) → BeginWith us ws r → length us ≤ length units

-- the line of the first of these tokens, or else the other
abbrev pub line_or : ℕ → Toks ℕ → ℕ
line_or other [] = other
line_or other (token ∷ rest) = token.line

-- the line of the last token, 1 if there is none
abbrev pub last_line : Toks ℕ → ℕ
last_line all = line_or 1 (drop (length all - 1) all)

-- the line of the first of these tokens, or else of the last of all
abbrev pub first_line : Toks ℕ → Toks ℕ → ℕ
first_line all rest = line_or (last_line all) rest

-- the line of the first token behind the longest list of whole units, or where no token follows the last token's line, 1 if there is none
pub record IsItemLine (ws : Toks ℕ) (line : ℕ) : Type 0 where
  pub units : List (UnitOf (Unit {0}))
  pub rest : Toks (Unit {0})
  pub longest : AreLongest units (forget_all ws) rest
  pub its_line : line ≡ first_line ws (drop (length ws - length rest) ws)

-- a list of tokens has one such line
abbrev pub OneItemLine : Type 0
OneItemLine = (ws : Toks ℕ) (a b : ℕ) → IsItemLine ws a → IsItemLine ws b → a ≡ b

-- the units of a file, one after the other, are its words
abbrev pub UnitsAreSpelled : Type 0
UnitsAreSpelled = (f : FileOf (Unit {0})) → in_row unit_words (file_units f) ≡ file_words f
