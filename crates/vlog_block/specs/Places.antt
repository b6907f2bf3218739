-- The places of selects that are constants.
use Rattle.std.specs.Prelude.{ℕ, if◌then◌else◌, Option, None, Some}
use Rattle.vlog_tree.specs.Tree.{ExprOf, SelOf, IndexSel, PartSel, IndexedSel}
use Rattle.vlog_size.specs.Names.{Readable}
use Rattle.vlog_size.specs.Size.{sizes_of, number, or_zero}
use Rattle.vlog_block.specs.Value.{bound}

-- an index, where it is a constant
abbrev pub constant_index : Readable → ExprOf ℕ → Option ℕ
constant_index r i = if (sizes_of r i).constant then Some (or_zero (number (sizes_of r i))) else None

-- the place of a select's lowest bit, where it is a constant
abbrev pub constant_low : Readable → SelOf ℕ → Option ℕ
constant_low r (IndexSel i) = constant_index r i
constant_low r (PartSel first second) = Some (bound r second)
constant_low r (IndexedSel base width) = constant_index r base
