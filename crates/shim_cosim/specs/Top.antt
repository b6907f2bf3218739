-- The flat design of a wrapped file with one of its tops, and the first reason that holds of it (this project's profile).
use Rattle.std.specs.Prelude.{◌≡◌, ℕ, ◌⊎◌, List, Option, Some, MatchOption, slice_index}
use Rattle.vlog_tree.specs.Tree.{ModuleOf, FileOf}
use Rattle.vlog_design.specs.vlog_elab.declared.error.ElabError.{ElabError}
use Rattle.vlog_design.specs.vlog_elab.Errors.{number_of}
use Rattle.vlog_design.specs.Design.{IsDesignOf}
use Rattle.vlog_design.specs.Reasons.{Clear, Refused}
use Rattle.net_design.specs.declared.design.Design.{Design}
use Rattle.net_design.specs.declared.values.Values.{Values}
use Rattle.net_design.specs.Settled.{IsSettled}
use Rattle.net_sim.specs.net_order.Order.{IsOrder, IsLoop}
use Rattle.net_sim.specs.Names.{IsCalled}
use Rattle.replay_run.specs.chan_map.declared.pins.Map.{Map}
use Rattle.replay_run.specs.run_model.MapOf.{IsMapOf}
use Rattle.replay_run.specs.chan_monitor.Shell.{IsMapped}
use Rattle.shim_gen.specs.shim_trees.Wrapped.{wrapped}
use Rattle.shim_step.specs.Wrapped.{IsWrapped}
use Rattle.shim_cosim.specs.declared.error.CosimError.{CosimError}
use Rattle.shim_cosim.specs.declared.error.CosimError.TheVariants as errors

-- ---- the reasons

-- the first of E3 to E9 and E11 to E13 that holds of the file with this top has this number
abbrev pub IsRefusedAs : FileOf ℕ → List ℕ → ℕ → Type 0
IsRefusedAs w name number = (error : ElabError) × Refused w name error × (number_of error ≡ Some number)

-- none of these holds, and this is a design of the file
abbrev pub IsClearDesign : FileOf ℕ → List ℕ → Design → Type 0
IsClearDesign w name d = Clear w name × IsDesignOf w name d

-- E10
abbrev pub IsLooped : FileOf ℕ → List ℕ → ℕ → Type 0
IsLooped w name number = (d : Design) × IsClearDesign w name d × ((loop : List ℕ) × IsLoop d loop) × (number ≡ 10)

-- the number of the first reason that holds; want of memory is free
abbrev pub IsTopError : FileOf ℕ → List ℕ → CosimError → Type 0
IsTopError w name (errors.Top number) = IsRefusedAs w name number ⊎ IsLooped w name number
IsTopError w name errors.Memory = Unit {0}

-- E10 of a design; want of memory is free
abbrev pub IsOrderError : Design → CosimError → Type 0
IsOrderError d (errors.Top number) = ((loop : List ℕ) × IsLoop d loop) × (number ≡ 10)
IsOrderError d errors.Memory = Unit {0}

-- no reason holds, and this is a design of the file
pub record IsTopDesign (w : FileOf ℕ) (name : List ℕ) (d : Design) : Type 0 where
  pub clear : Clear w name
  pub design : IsDesignOf w name d
  pub order : (drivers : List ℕ) × IsOrder d drivers

-- ---- what is wrapped

-- w is what `wrap` makes of file f and the map, which is one of d, an accepted design of f with the map's top
pub record IsWrapOf (w f : FileOf ℕ) (a : Map) (d : Design) : Type 0 where
  pub tree : w ≡ wrapped f a
  pub design : IsDesignOf f a.top d
  pub order : (drivers : List ℕ) × IsOrder d drivers
  pub mapped : IsMapOf d a

-- `whole` is the flat design of the wrapped file with this top; d is the design inside it, whose top is module m of file f
pub record IsRound (name : List ℕ) (whole : Design) (f : FileOf ℕ) (a : Map) (m : ModuleOf ℕ) (d : Design) : Type 0 where
  pub wrap : IsWrapped f a m d
  pub mapped : IsMapped d a
  pub top : IsTopDesign (wrapped f a) name whole

-- ---- nets

-- the number, in v, of the net of the design that has this full name; none where no net has it
abbrev pub IsNetNumber : Design → Values → List ℕ → Option ℕ → Type 0
IsNetNumber d v name answer =
    MatchOption answer ((k : ℕ) → IsCalled d.instances d.nets name k → ⊥)
    (λ x. (k : ℕ) × IsCalled d.instances d.nets name k × (x ≡ slice_index v.nets k))

-- the same in a map that is settled for this state and these inputs
pub record IsSettledNumber (d : Design) (state : Values) (inputs : List ℕ) (name : List ℕ) (answer : Option ℕ) : Type 0 where
  pub v : Values
  pub settled : IsSettled d state inputs v
  pub number : IsNetNumber d v name answer
