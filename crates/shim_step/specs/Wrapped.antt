-- A design, a map of it and the wrapped file, and the state of the shims in it.
use Rattle.std.specs.Prelude.{◌≡◌, ℕ, ◌<◌, List, [], ◌∷◌, codes, length, Option, Some, slice_get}
use Rattle.net_order.specs.vidi_bits.Number.{truth}
use Rattle.vlog_tree.specs.Tree.{ModuleOf, FileOf}
use Rattle.flat_parts.specs.vlog_names.Twice.{twice_names}
use Rattle.net_design.specs.declared.design.Design.{Design}
use Rattle.net_design.specs.Lawful.{IsLawful}
use Rattle.flat_parts.specs.vlog_driver.Names.{Name, Full, State}
use Rattle.flat_parts.specs.Built.{IsBuilt}
use Rattle.flat_parts.specs.Meaning.{Means}
use Rattle.flat_parts.specs.Laws.{IsTop}
use Rattle.flat_parts.specs.vlog_elab.Instances.{instances}
use Rattle.chan_replayer.specs.trace_model.declared.channel.Channel.{Channel}
use Rattle.chan_replayer.specs.trace_model.declared.row.Row.{Row}
use Rattle.chan_replayer.specs.trace_model.Row.{flies_after}
use Rattle.chan_replayer.specs.chan_map.declared.pins.Map.{Map}
use Rattle.chan_replayer.specs.run_model.MapOf.{IsMapOf}
use Rattle.chan_replayer.specs.run_model.Replay.{done}
use Rattle.shim_trees.specs.Pieces.{numbered}
use Rattle.shim_trees.specs.Wrapped.{wrapped}

-- d is the flat design of the map's top, which is module m of the file, and the map is one of it; in the wrapped file no name stands twice,
-- as in any that is accepted (E3)
pub record IsWrapped (f : FileOf ℕ) (a : Map) (m : ModuleOf ℕ) (d : Design) : Type 0 where
  pub top : IsTop f a.top m
  pub built : IsBuilt f.modules m (instances f a.top) d
  pub means : Means f.modules m d
  pub lawful : IsLawful d
  pub mapped : IsMapOf d a
  pub once : twice_names (wrapped f a) ≡ []

-- where the design stands in both tops
abbrev pub DUT : Name
DUT = codes "dut"

-- ---- the monitors' state: whether a transaction of channel c is in flight

abbrev pub fly_name : ℕ → Full
fly_name c = numbered (codes "m_") c ∷ codes "fly" ∷ []

-- that after the row before
abbrev pub Flies : Map → Option Row → State → Type 0
Flies a before s = (c : ℕ) (x : Channel) → slice_get a.channels c ≡ Some x → s.nets (fly_name c) ≡ truth (flies_after before c)

-- ---- the replayers' state: how many transactions of channel j have completed, as the replayer of channel c counts them

abbrev pub counter_name : ℕ → ℕ → Full
counter_name c j = numbered (codes "q_") c ∷ numbered (codes "c") j ∷ []

-- those of these rows
abbrev pub Counts : Map → List Row → State → Type 0
Counts a rows s = (c : ℕ) (x : Channel) → slice_get a.channels c ≡ Some x → (j : ℕ) → j < length a.channels
    → s.nets (counter_name c j) ≡ done rows j
