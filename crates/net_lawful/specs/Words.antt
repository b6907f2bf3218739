-- Whether the guards of a choice write words of memories.
use Rattle.std.specs.Prelude.{Bool, List}
use Rattle.std.specs.List.{list_any}
use Rattle.net_design.specs.declared.act.Guard.{Guard}
use Rattle.net_design.specs.Bits.{block_writes_words}

abbrev pub guards_write : List Guard → Bool
guards_write guards = list_any (λ (g : Guard). block_writes_words g.body) guards
