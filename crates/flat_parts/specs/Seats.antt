-- Where the instances of a file and its top stand in the flat design: the nets of all instances in preorder and within one in text
-- order, and the words of their memories likewise (this project's profile).
use Rattle.std.specs.Prelude.{ℕ, ◌+◌, if◌then◌else◌, List, [], ◌∷◌, length, Option, None, Some}
use Rattle.vlog_elab.specs.vlog_scope.Scope.{words_of}
use Rattle.vlog_elab.specs.Instances.{ModuleInstance}
use Rattle.vlog_driver.specs.Names.{Full, same_path}
use Rattle.vlog_driver.specs.Placed.{names_at}
use Rattle.vlog_driver.specs.Sites.{Site}
use Rattle.vlog_driver.specs.net_code.declared.base.Base.{Base}

-- an instance, its number, and where it stands
pub record Seat : Type 0 where
  pub number : ℕ
  pub base : Base
  pub instance : ModuleInstance

-- instances in their order, the first of which has these
abbrev pub seats_from : ℕ → ℕ → ℕ → List ModuleInstance → List Seat
seats_from number net word [] = []
seats_from number net word (i ∷ is) =
    record { number = number; base = record { net = net; word = word }; instance = i }
    ∷ seats_from (number + 1) (net + length i.scope.nets) (word + words_of i.scope.memories) is

unfoldable pub seats_of : List ModuleInstance → List Seat
seats_of is = seats_from 0 0 0 is

abbrev pub base_of : Seat → Base
base_of x = x.base

-- where the code of an item stands, before which the names of the first k parameters stand
abbrev pub site_at : Seat → ℕ → Site
site_at x k = record { names = names_at x.instance.scope k; base = x.base }

-- the instance at this path
abbrev pub seat_named : List Seat → Full → Option Seat
seat_named [] path = None
seat_named (x ∷ xs) path = if same_path x.instance.path path then Some x else seat_named xs path
