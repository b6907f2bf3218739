-- *Wrapped tree*: a file's modules, then for each channel its monitor and its replayer, then both tops (this project's profile).
use Rattle.std.specs.Prelude.{ℕ, Bool, List, [], ◌∷◌, ◌++◌, map, codes, length, nat_eq, Option, None, Some}
use Rattle.std.specs.List.{filter, find, starts_with}
use Rattle.std.specs.Str.{bytes_eq}
use Rattle.vlog_tree.specs.Tree.{PortOf, ModuleOf, FileOf}
use Rattle.chan_map.specs.trace_model.declared.channel.Channel.{Channel}
use Rattle.chan_map.specs.declared.pins.Map.{Map}
use Rattle.shim_trees.specs.Pieces.{Name, each_some}
use Rattle.shim_trees.specs.Monitor.{monitor}
use Rattle.shim_trees.specs.Replayer.{replayer}
use Rattle.shim_trees.specs.RecordTop.{record_top}
use Rattle.shim_trees.specs.ReplayTop.{replay_top}

-- the monitor and the replayer of channel n of `count`
abbrev pub channel_shims : ℕ → ℕ → Channel → List (ModuleOf ℕ)
channel_shims count n c = monitor n c.widths ∷ replayer count n c ∷ []

-- what is generated round a design whose top has these ports
abbrev pub shims : Map → List (PortOf ℕ) → List (ModuleOf ℕ)
shims m ports =
    each_some (channel_shims (length m.channels)) 0 m.channels ++ record_top m ports ∷ replay_top m ports ∷ []

abbrev pub ports_in : Option (ModuleOf ℕ) → List (PortOf ℕ)
ports_in None = []
ports_in (Some x) = x.ports

-- the first module of this name
abbrev pub module_named : List (ModuleOf ℕ) → Name → Option (ModuleOf ℕ)
module_named modules name = find (λ (x : ModuleOf ℕ). bytes_eq name x.name) modules

-- a file and the shims of a map of its top
abbrev pub wrapped : FileOf ℕ → Map → FileOf ℕ
wrapped f m = record { modules = f.modules ++ shims m (ports_in (module_named f.modules m.top)) }

-- whether a name is kept for shims: it begins with `vidi_`
abbrev pub is_reserved : Name → Bool
is_reserved name = starts_with nat_eq name (codes "vidi_")

-- the reserved names of a file's modules, in text order
abbrev pub reserved_names : FileOf ℕ → List Name
reserved_names f = filter is_reserved (map (λ (x : ModuleOf ℕ). x.name) f.modules)
