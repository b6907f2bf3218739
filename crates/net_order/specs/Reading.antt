-- The graph of a design's drivers.
use Rattle.std.specs.Prelude.{◌≡◌, ℕ, ◌<◌, ◌↔◌, List, length}
use Rattle.net_design.specs.declared.design.Design.{Design}
use Rattle.net_order.specs.declared.writers.Writer.{Writer}
use Rattle.net_order.specs.Order.{Reads, writes_of}
use Rattle.net_order.specs.Graph.{Graph, Points}
use Rattle.net_order.specs.Index.{listed}

-- one number for each driver; i points to j exactly where driver i reads a bit that driver j writes
pub record IsGraphOf (d : Design) (g : Graph) : Type 0 where
  pub long : length g ≡ length d.drivers
  pub reads : (i j : ℕ) → Points g i j ↔ Reads d i j

-- the writers of each net are the drivers that write bits of it
pub record AreWriters (d : Design) (writers : List (List Writer)) : Type 0 where
  pub long : length writers ≡ length d.nets
  pub all : (m j k : ℕ) → m < length d.nets → listed writers m j k ≡ writes_of d.drivers j m k
