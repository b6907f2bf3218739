-- E9 of an always block of the trees, and what its code has to say of its bits.
use Rattle.std.specs.Prelude.{◌≡◌, ℕ, zero, suc, nat_lt, Bool, false, List, [], ◌∷◌}
use Rattle.vlog_tree.specs.Tree.{EventOf, PosedgeEvent, ImplicitEvent, AlwaysOf}
use Rattle.vlog_block.specs.vlog_size.declared.scope.ScopeNet.{ScopeNet}
use Rattle.vlog_block.specs.vlog_size.Table.{Named}
use Rattle.vlog_block.specs.vlog_size.Names.{Readable}
use Rattle.net_design.specs.declared.act.Code.{Code}
use Rattle.net_design.specs.Bits.{BitSet, named, block_adds}
use Rattle.vlog_block.specs.Written.{always_writes, always_adds, always_reads}
use Rattle.vlog_block.specs.Naming.{code_names, always_names}
use Rattle.vlog_driver.specs.declared.latches.error.BlockError.{BlockError}
use Rattle.vlog_driver.specs.Latch.{is_latched, latches}

-- E9 speaks of an `always @*`
abbrev pub of_implicit : EventOf ℕ → List BlockError → List BlockError
of_implicit (PosedgeEvent clock) found = []
of_implicit (ImplicitEvent parens) found = found

-- E9 of a block whose names are read in this scope
abbrev pub block_latches : Readable → AlwaysOf ℕ → List BlockError
block_latches r a =
    of_implicit a.event (latches (always_writes r a) (always_names r a) (always_adds r a) (always_reads r a) a.line r.nets)

-- the code's masks name the bits that the block may write and those that it reads, and its statements name the block's targets and
-- surely assign the block's bits
pub record IsCodeOf (r : Readable) (a : AlwaysOf ℕ) (c : Code) : Type 0 where
  pub writes : (m k : ℕ) → named c.writes m k ≡ always_writes r a m k
  pub names : code_names c.acts ≡ always_names r a
  pub adds : (m k : ℕ) → block_adds c.acts m k ≡ always_adds r a m k
  pub reads : (m k : ℕ) → named c.reads m k ≡ always_reads r a m k

-- whether E9 holds at a net, by code's own masks and statements
abbrev pub code_latched : Code → ℕ → Bool
code_latched c m = is_latched (named c.writes) (code_names c.acts) (block_adds c.acts) (named c.reads) m

-- bit k of the net at place m is there
abbrev pub is_there : List (Named ScopeNet) → BitSet
is_there [] m k = false
is_there (x ∷ nets) zero k = nat_lt k x.value.width
is_there (x ∷ nets) (suc m) k = is_there nets m k
