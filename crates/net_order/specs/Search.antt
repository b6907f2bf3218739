-- The state of the depth-first search for an order.
use Rattle.std.specs.Prelude.{◌≡◌, ◌≢◌, ℕ, suc, ◌+◌, ◌<◌, ◌≤◌, List, [], length, slice_index, slice_index_or}
use Rattle.std.specs.List.{Contains, sum_by}
use Rattle.net_order.specs.declared.search.Mark.{Mark}
use Rattle.net_order.specs.declared.search.Mark.TheVariants.{Fresh, Open, Done}
use Rattle.net_design.specs.Names.{list_at}
use Rattle.net_order.specs.Order.{Follows}
use Rattle.net_order.specs.Graph.{Graph, Points}

abbrev pub mark_of : List Mark → ℕ → Mark
mark_of marks i = slice_index_or marks i Fresh

-- `left` numbers of each driver's list weren't looked at yet; `path` are the open drivers, each of which reads the next
pub record IsSound (g : Graph) (marks : List Mark) (left path order : List ℕ) : Type 0 where
  pub marks_long : length marks ≡ length g
  pub left_long : length left ≡ length g
  pub done : (i : ℕ) → mark_of marks i ≡ Done → Contains order i
  pub placed : (i : ℕ) → Contains order i → mark_of marks i ≡ Done
  pub opened : (i : ℕ) → mark_of marks i ≡ Open → Contains path i
  pub on_path : (t : ℕ) → t < length path → (slice_index path t < length g) × (mark_of marks (slice_index path t) ≡ Open)
  pub linked : (t : ℕ) → suc t < length path → Points g (slice_index path t) (slice_index path (suc t))
  pub once : (s t : ℕ) → s < t → t < length path → slice_index path s ≢ slice_index path t
  pub few : (i : ℕ) → slice_index left i ≤ length (list_at g i)
  pub looked : (i j : ℕ) → slice_index left i ≤ j → j < length (list_at g i) → mark_of marks (slice_index (list_at g i) j) ≡ Done
  pub follows : Follows (length g) (Points g) [] order

abbrev pub weight : Mark → ℕ
weight Fresh = 2
weight Open = 1
weight Done = 0

-- how many steps are left at most
abbrev pub steps_left : List Mark → List ℕ → ℕ
steps_left marks left = sum_by weight marks + sum_by (λ (x : ℕ). x) left

-- drivers that were begun stay so
abbrev pub StayBegun : List Mark → List Mark → Type 0
StayBegun before after = (i : ℕ) → mark_of before i ≢ Fresh → mark_of after i ≢ Fresh
