-- Laws of the design of a file.
use Rattle.std.specs.Prelude.{ℕ, List}
use Rattle.vlog_tree.specs.Tree.{FileOf}
use Rattle.net_design.specs.declared.design.Design.{Design}
use Rattle.net_order.specs.Order.{IsOrder, IsLoop}
use Rattle.vlog_design.specs.Design.{IsDesignOf}

-- where one design of a file has a loop of drivers (E10), no design of it has an order of them
abbrev pub LoopsAlike : Type 0
LoopsAlike = (file : FileOf ℕ) (top : List ℕ) (d e : Design) → IsDesignOf file top d → IsDesignOf file top e
    → (loop order : List ℕ) → IsLoop d loop → IsOrder e order → ⊥
