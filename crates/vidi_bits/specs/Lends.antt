-- What a list ends as, where its items are lent to be written.
use Rattle.std.specs.Prelude.{List, length}
use Rattle.std.specs.List.{refill}
use Rattle.std.specs.Borrow.{Lends, Fml, RattleType, MutBor, Array}
use Rattle.std.specs.declared.alloc.Allocator.{Ghosts}
use Rattle.vidi_bits.specs.contracts.items.Items.{the_row}

module _ (T A : RattleType) (alloc : Ghosts A.Denot) (s : MutBor (List T.Denot)) where
  -- once the borrow r ends, the items are those that r shows last, which are as many
  abbrev pub lends_items : MutBor (List T.Denot) → Fml
  lends_items r = Lends (the_row T A alloc) (Array T 0) s r (refill (length s.now) s.now)
