-- What drivers and clocked blocks of the flat design have to say of the items that they stand for (IEEE 1364-2005,
-- 6.1, 9.7.5, 9.9.2, 12.3).
use Rattle.std.specs.Prelude.{◌≡◌, ℕ, ◌↔◌, ◌||◌, true, false, List, [], ◌∷◌, map}
use Rattle.vlog_tree.specs.Tree.{ExprOf, TargetOf, AlwaysOf}
use Rattle.net_design.specs.declared.act.Act.{Act, Set}
use Rattle.net_design.specs.declared.act.Code.{Code}
use Rattle.net_design.specs.declared.act.Timing.TheVariants.{Blocking, Nonblocking}
use Rattle.net_design.specs.declared.design.Driver.{Driver}
use Rattle.net_design.specs.declared.values.Values.{Values}
use Rattle.net_design.specs.Updates.{block_updates, run}
use Rattle.net_design.specs.Bits.{named, block_adds, HasBits}
use Rattle.net_design.specs.Last.{HasLast, IsNarrow}
use Rattle.net_drive.specs.net_code.Moved.{moved_update}
use Rattle.vlog_block.specs.Bits.{reads}
use Rattle.vlog_block.specs.Updates.{always_updates}
use Rattle.vlog_block.specs.Written.{target_writes, target_adds, target_reads, always_writes, always_adds, always_reads}
use Rattle.net_drive.specs.net_code.Targets.{block_targets, bit_count}
use Rattle.vlog_block.specs.Naming.{target_count, always_names, code_names}
use Rattle.vlog_driver.specs.Items.{IsAssigned}
use Rattle.vlog_driver.specs.Sites.{Site, numbers_from, bits_at, count_at, names_at_site}

-- one assignment
abbrev pub IsOneSet : List Act → Type 0
IsOneSet (Set target e ∷ []) = Unit {0}
IsOneSet acts = ⊥

-- on this line a driver gives a target of the instance `to` the number of an expression of the instance `from`: it holds at v exactly
-- where the assignment does, writes the target's bits and reads the expression's and those of the target's indexes
pub record IsAssignment (on : ℕ) (to : Site) (target : TargetOf ℕ) (from : Site) (e : ExprOf ℕ) (d : Driver) : Type 0 where
  pub line : d.line ≡ on
  pub always : d.always ≡ false
  pub holds : (v : Values) → IsNarrow v
      → (run d.code.acts v ≡ v) ↔ IsAssigned to.names (numbers_from to v) target from.names (numbers_from from v) e
  pub writes : (m k : ℕ) → named d.code.writes m k ≡ bits_at to (target_writes to.names target) m k
  pub adds : (m k : ℕ) → block_adds d.code.acts m k ≡ bits_at to (target_adds to.names target) m k
  pub reads : (m k : ℕ) → named d.code.reads m k
      ≡ (bits_at from (reads from.names e) m k || bits_at to (target_reads to.names target) m k)
  pub bits : HasBits Blocking d.code
  pub count : (m k : ℕ) → bit_count (block_targets d.code.acts) m k ≡ count_at to (target_count to.names target) m k
  pub one : IsOneSet d.code.acts

-- a driver that is an `always @*` of an instance: it holds at v exactly where each bit that the block writes is what the last of its
-- updates makes it
pub record IsSettling (p : Site) (a : AlwaysOf ℕ) (d : Driver) : Type 0 where
  pub line : d.line ≡ a.line
  pub always : d.always ≡ true
  pub holds : (v : Values) → IsNarrow v → (run d.code.acts v ≡ v) ↔ HasLast (always_updates p.names a (numbers_from p v)) (numbers_from p v)
  pub writes : (m k : ℕ) → named d.code.writes m k ≡ bits_at p (always_writes p.names a) m k
  pub adds : (m k : ℕ) → block_adds d.code.acts m k ≡ bits_at p (always_adds p.names a) m k
  pub reads : (m k : ℕ) → named d.code.reads m k ≡ bits_at p (always_reads p.names a) m k
  pub bits : HasBits Blocking d.code
  pub names : code_names d.code.acts ≡ names_at_site p (always_names p.names a)

-- a clocked block of an instance: its updates are those of the text, moved
pub record IsClocked (p : Site) (a : AlwaysOf ℕ) (c : Code) : Type 0 where
  pub updates : (v : Values) → block_updates Nonblocking c.acts v
      ≡ map (moved_update p.base.net p.base.word) (always_updates p.names a (numbers_from p v))
  pub writes : (m k : ℕ) → named c.writes m k ≡ bits_at p (always_writes p.names a) m k
  pub reads : (m k : ℕ) → named c.reads m k ≡ bits_at p (always_reads p.names a) m k
  pub bits : HasBits Nonblocking c
  pub names : code_names c.acts ≡ names_at_site p (always_names p.names a)
