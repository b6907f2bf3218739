-- That an instance's items look at its own numbers alone.
use Rattle.std.specs.Prelude.{◌≡◌, ℕ, ◌<◌, ◌≤◌, ◌↔◌, length, slice_index}
use Rattle.vlog_tree.specs.Tree.{ExprOf, TargetOf, AlwaysOf}
use Rattle.vlog_names.specs.vlog_size.Names.{Readable}
use Rattle.net_design.specs.declared.values.Values.{Values}
use Rattle.net_design.specs.Last.{HasLast}
use Rattle.vlog_block.specs.Sources.{words_before}
use Rattle.vlog_block.specs.Updates.{always_updates}
use Rattle.vlog_driver.specs.Items.{IsAssigned}

-- how many words the memories have
abbrev pub word_total : Readable → ℕ
word_total r = words_before r.memories (length r.memories)

-- a number for each net and each word of an instance with these names, and perhaps more
pub record IsLong (r : Readable) (v : Values) : Type 0 where
  pub nets : length r.nets ≤ length v.nets
  pub words : word_total r ≤ length v.words

-- the same numbers of the instance's own nets and words
pub record Agree (r : Readable) (v w : Values) : Type 0 where
  pub left : IsLong r v
  pub right : IsLong r w
  pub nets : (m : ℕ) → m < length r.nets → slice_index v.nets m ≡ slice_index w.nets m
  pub words : (i : ℕ) → i < word_total r → slice_index v.words i ≡ slice_index w.words i

-- where the instance's own numbers are the same, so is what an item asks, and so are the updates of a block
abbrev pub AssignedAlike : Type 0
AssignedAlike = (r q : Readable) (v w u z : Values) (target : TargetOf ℕ) (e : ExprOf ℕ) → Agree r v w → Agree q u z
    → IsAssigned r v target q u e ↔ IsAssigned r w target q z e

abbrev pub SettledAlike : Type 0
SettledAlike = (r : Readable) (v w : Values) (a : AlwaysOf ℕ) → Agree r v w
    → HasLast (always_updates r a v) v ↔ HasLast (always_updates r a w) w

abbrev pub UpdatedAlike : Type 0
UpdatedAlike = (r : Readable) (v w : Values) (a : AlwaysOf ℕ) → Agree r v w → always_updates r a v ≡ always_updates r a w
