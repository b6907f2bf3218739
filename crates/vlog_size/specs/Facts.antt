-- What the code keeps of an expression.
use Rattle.std.specs.Prelude.{◌≡◌, ℕ, ◌+◌, ◌≤◌, ◌<◌, ◌^◌, ◌&&◌, min, max, List, [], length, Option}
use Rattle.std.specs.Prelude.{Some, None, if◌then◌else◌}
use Rattle.vlog_size.specs.declared.facts.Facts.{Facts}
use Rattle.vlog_size.specs.declared.facts.Numbered.{Numbered}
use Rattle.vlog_size.specs.declared.facts.Select.{Select}
use Rattle.vlog_size.specs.declared.facts.Parts.{Parts}
use Rattle.vlog_size.specs.declared.evaluated.Evaluated.{Evaluated}
use Rattle.vlog_size.specs.declared.evaluated.Operands.{Operands}
use Rattle.vlog_size.specs.declared.evaluated.Gathered.{Gathered}
use Rattle.vlog_size.specs.declared.operators.Kind.{Kind}
use Rattle.vlog_size.specs.declared.operators.Kind.TheVariants.{Sum, Comparison, Logic, Shift}
use Rattle.vlog_size.specs.Literal.{is_lawful}
use Rattle.vlog_tree.specs.vidi_bits.Findings.{first, or_first}
use Rattle.vlog_size.specs.Limits.{TOP}
use Rattle.vlog_size.specs.Size.{Sizes, number, Bracket, part_width, part_const_faults, part_fault, part_width_faults}
use Rattle.vlog_size.specs.Size.{at_width, joined, all_constant, all_lawful, total_width, parts_const_faults, parts_width_faults}

-- the code's facts of an expression: of its faults the first of each kind, of its width no more than the largest number
pub record Shows (f : Facts) (e : Sizes) : Type 0 where
  pub line : f.line ≡ e.line
  pub plain : f.plain ≡ e.plain
  pub is_unsized : f.is_unsized ≡ e.is_unsized
  pub unsized_literal : f.unsized_literal ≡ e.unsized_literal
  pub constant : f.constant ≡ e.constant
  pub width : f.width ≡ min e.width TOP
  pub parts_lawful : f.parts_lawful ≡ e.parts_lawful
  pub whole : f.whole ≡ e.whole
  pub const_fault : f.const_fault ≡ first e.const_faults
  pub width_fault : f.width_fault ≡ first e.width_faults

-- the facts and the number of an expression
pub record ShowsNumber (f : Numbered) (e : Sizes) : Type 0 where
  pub facts : Shows f.facts e
  pub number : f.number ≡ number e

-- a select on this line of a vector of `whole` bits, of which an index picks some bits below the limit
pub record ShowsSelect (line whole picked limit : ℕ) (s : Select) (b : Bracket) : Type 0 where
  pub width : s.width ≡ min (part_width whole picked b) TOP
  pub const_fault : s.const_fault ≡ first (part_const_faults b)
  pub own_fault : s.own_fault ≡ first (part_fault line whole b)
  pub width_fault : s.width_fault ≡ first (part_width_faults whole limit b)

-- the parts so far and the rest of the parts make all of them
pub record ShowsRest (so_far : Parts) (rest all : List Sizes) : Type 0 where
  pub constant : (so_far.constant && all_constant rest) ≡ all_constant all
  pub lawful : (so_far.lawful && all_lawful rest) ≡ all_lawful all
  pub sum : min (so_far.sum + total_width rest) TOP ≡ min (total_width all) TOP
  pub const_fault : or_first so_far.const_fault (first (parts_const_faults rest)) ≡ first (parts_const_faults all)
  pub width_fault : or_first so_far.width_fault (first (parts_width_faults rest)) ≡ first (parts_width_faults all)

-- the width of a constant expression, or h bits where that is more, if it is lawful
abbrev pub reach : ℕ → Sizes → Option ℕ
reach h e = if e.constant && is_lawful (max h e.width) then Some (max h e.width) else None

-- the facts of an expression, and its number at the larger of h bits and its own width
pub record ShowsAt (h : ℕ) (f : Evaluated) (e : Sizes) : Type 0 where
  pub facts : Shows f.facts e
  pub value : f.value ≡ at_width e.value (reach h e)

-- the width at which an operator of this kind works between two operands, where the whole is taken at h bits or more
abbrev pub operated_width : Kind → ℕ → ℕ → ℕ → ℕ
operated_width Sum h a b = max h (max a b)
operated_width Comparison h a b = max a b
operated_width Logic h a b = max h 1
operated_width Shift h a b = max h a

-- two operands, each at the larger of h bits and both widths
abbrev pub ShowsBoth : ℕ → Operands → Sizes → Sizes → Type 0
ShowsBoth h o a b = ShowsAt (max h b.width) o.left a × ShowsAt (max h a.width) o.right b

-- two operands, each at the width at which an operator of this kind takes it, where the whole has h bits or more
abbrev pub ShowsOperands : Kind → ℕ → Operands → Sizes → Sizes → Type 0
ShowsOperands Sum h o a b = ShowsBoth h o a b
ShowsOperands Comparison h o a b = ShowsBoth 0 o a b
ShowsOperands Logic h o a b = ShowsAt 0 o.left a × ShowsAt 0 o.right b
ShowsOperands Shift h o a b = ShowsAt h o.left a × ShowsAt 0 o.right b

-- the parts so far and the rest of the parts make all of them, also their numbers side by side
pub record ShowsGathered (so_far : Gathered) (rest all : List Sizes) : Type 0 where
  pub parts : ShowsRest so_far.parts rest all
  pub number : total_width all ≤ 128 → joined so_far.parts.sum so_far.number rest ≡ joined 0 (Some 0) all

-- all parts of a list in memory
pub record ShowsAll (g : Gathered) (all : List Sizes) : Type 0 where
  pub none_left : ShowsGathered g [] all
  pub few : length all < 2 ^ 64
