-- A step of the search.
use Rattle.std.specs.Prelude.{ℕ, ◌<◌}
use Rattle.net_order.specs.declared.search.Search.{Search}
use Rattle.net_order.specs.declared.answer.OrderError.{OrderError}
use Rattle.net_order.specs.declared.answer.OrderError.TheVariants.{Loop, Memory}
use Rattle.net_order.specs.Order.{IsLoopBy}
use Rattle.net_order.specs.Graph.{Graph}
use Rattle.net_order.specs.Search.{IsSound, StayBegun, steps_left}

abbrev pub IsSearch : Graph → Search → Type 0
IsSearch g s = IsSound g s.marks.items s.left.items s.path.items s.order

pub record IsStep (g : Graph) (s t : Search) : Type 0 where
  pub sound : IsSearch g t
  pub fewer : steps_left t.marks.items t.left.items < steps_left s.marks.items s.left.items
  pub begun : StayBegun s.marks.items t.marks.items

-- a loop, or want of memory
abbrev pub IsLoopError : (ℕ → ℕ → Type 0) → OrderError → Type 0
IsLoopError R (Loop drivers) = IsLoopBy R drivers
IsLoopError R Memory = Unit {0}
