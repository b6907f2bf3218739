-- E9 ("Reasons"; this project's profile): an `always @*` writes a bit on some path that isn't surely assigned at its end, or reads bits
-- of a name that it writes where not all read bits are surely assigned before.
use Rattle.std.specs.Prelude.{ℕ, zero, suc, Bool, false, ◌&&◌, ◌||◌, ◌==◌, not, List, [], ◌∷◌, ◌++◌}
use Rattle.std.specs.List.{list_any}
use Rattle.net_drive.specs.vidi_bits.Findings.{told_if}
use Rattle.vlog_block.specs.vlog_size.declared.scope.ScopeNet.{ScopeNet}
use Rattle.vlog_block.specs.vlog_size.Table.{Named}
use Rattle.net_design.specs.Bits.{BitSet}
use Rattle.vlog_block.specs.Naming.{Naming, NamesNet, NamesRoom}
use Rattle.vlog_driver.specs.declared.latches.error.BlockError.{BlockError}
use Rattle.vlog_driver.specs.declared.latches.error.BlockError.TheVariants as error

-- whether one of the first n bits is in a set
abbrev pub any_below : ℕ → (ℕ → Bool) → Bool
any_below zero p = false
any_below (suc n) p = any_below n p || p n

-- whether some bit of a net is in a set; a net has at most 128 bits
unfoldable pub some_bit : (ℕ → Bool) → Bool
some_bit p = any_below 128 p

abbrev pub is_net : ℕ → Naming → Bool
is_net m (NamesNet n) = n == m
is_net m (NamesRoom first) = false

-- whether net m stands among targets
abbrev pub is_named : List Naming → ℕ → Bool
is_named names m = list_any (is_net m) names

-- whether E9 holds at net m of a block that writes some bits, names some nets as targets, surely assigns some bits, and reads some before
-- they were surely assigned: it writes a bit that it doesn't surely assign, or it names the net as a target, also where no bit of it is
-- in range, and reads a bit of it
unfoldable pub is_latched : BitSet → List Naming → BitSet → BitSet → ℕ → Bool
is_latched writes names adds reads m =
    some_bit (λ k. writes m k && not (adds m k)) || (is_named names m && some_bit (λ k. reads m k))

-- the findings at nets, the first of which is net m, in their order
abbrev pub latches_from : (ℕ → Bool) → ℕ → ℕ → List (Named ScopeNet) → List BlockError
latches_from is_at line m [] = []
latches_from is_at line m (n ∷ nets) = told_if (is_at m) (error.Latch n.name line) ++ latches_from is_at line (suc m) nets

-- E9 of a block whose `always` stands on this line: the nets at which it holds, in order of declaration
abbrev pub latches : BitSet → List Naming → BitSet → BitSet → ℕ → List (Named ScopeNet) → List BlockError
latches writes names adds reads line nets = latches_from (is_latched writes names adds reads) line 0 nets
