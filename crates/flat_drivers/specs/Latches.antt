-- E9 over instances: each `always @*` of an instance, in text order (this project's profile).
use Rattle.std.specs.Prelude.{ℕ, List, [], map}
use Rattle.std.specs.List.{flat_map}
use Rattle.vlog_tree.specs.Tree.{AlwaysOf, ItemOf, WiresItem, DrivenWiresItem, RegsItem, LocalparamsItem, AssignItem, AlwaysItem}
use Rattle.vlog_tree.specs.Tree.{InstanceItem}
use Rattle.flat_parts.specs.vlog_size.declared.scope.Scope.{Scope}
use Rattle.flat_parts.specs.vlog_size.Names.{Readable}
use Rattle.flat_parts.specs.vlog_driver.declared.latches.error.BlockError.{BlockError}
use Rattle.flat_parts.specs.vlog_driver.declared.latches.error.BlockError.TheVariants as block
use Rattle.flat_parts.specs.vlog_driver.Blocks.{block_latches}
use Rattle.flat_parts.specs.vlog_driver.Placed.{Placed, placed_items, names_at}
use Rattle.flat_parts.specs.vlog_elab.declared.error.ElabError.{ElabError}
use Rattle.flat_parts.specs.vlog_elab.declared.error.ElabError.TheVariants as e
use Rattle.flat_parts.specs.vlog_elab.Instances.{ModuleInstance}

abbrev pub of_block : BlockError → ElabError
of_block (block.Latch name line) = e.Latch name line
of_block block.Memory = e.Memory

-- E9 of a block whose names are these
abbrev pub always_latches : Readable → AlwaysOf ℕ → List ElabError
always_latches r a = map of_block (block_latches r a)

abbrev pub item_latches : Readable → ItemOf ℕ → List ElabError
item_latches r (WiresItem range ids) = []
item_latches r (DrivenWiresItem range ws) = []
item_latches r (RegsItem range gs) = []
item_latches r (LocalparamsItem range vs) = []
item_latches r (AssignItem assigns) = []
item_latches r (AlwaysItem a) = always_latches r a
item_latches r (InstanceItem i) = []

abbrev pub placed_latches : Scope → Placed → List ElabError
placed_latches s p = item_latches (names_at s p.declared) p.item

-- E9 of an instance
unfoldable pub instance_latches : ModuleInstance → List ElabError
instance_latches i = flat_map (placed_latches i.scope) (placed_items i.tree i.scope)
