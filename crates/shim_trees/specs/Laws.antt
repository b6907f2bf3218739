-- What holds of wrapped trees.
use Rattle.std.specs.Prelude.{◌≡◌, ℕ, ◌≤◌, true, is_some, length}
use Rattle.std.specs.List.{AllZip, AllByRecursion}
use Rattle.vlog_tree.specs.Tree.{FileOf}
use Rattle.vlog_tree.specs.Shape.{IsGood}
use Rattle.chan_map.specs.trace_model.declared.channel.Channel.{Channel}
use Rattle.chan_map.specs.trace_model.Channel.{IsTable}
use Rattle.chan_map.specs.declared.pins.Map.{Map}
use Rattle.chan_map.specs.declared.pins.Plug.{Plug}
use Rattle.chan_map.specs.declared.pins.Tie.{Tie}
use Rattle.shim_trees.specs.Wrapped.{module_named, wrapped}

-- the map has a lawful channel table, a plug with as many contents for each channel, ties of at most 128 bits, and names a module of the file
pub record IsMapIn (f : FileOf ℕ) (m : Map) : Type 0 where
  pub top : is_some (module_named f.modules m.top) ≡ true
  pub table : IsTable m.channels
  pub plugs : AllZip (λ (c : Channel) (plug : Plug). length plug.contents ≡ length c.widths) m.channels m.plugs
  pub ties : AllByRecursion (λ (t : Tie). t.width ≤ 128) m.ties

-- then the wrapped tree can be spelled: its generated names and numbers are lawful tokens
abbrev pub WrappedIsGood : Type 0
WrappedIsGood = (f : FileOf ℕ) (m : Map) → IsGood f → IsMapIn f m → IsGood (wrapped f m)
