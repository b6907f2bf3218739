-- E8 ("Reasons"; this project's profile): each bit of a wire, or of a port that isn't `output reg`, has exactly one driver, and a reg or a
-- memory is written by at most one always block.
use Rattle.std.specs.Prelude.{ℕ, zero, suc, ◌+◌, ◌==◌, min, not, nat_lt, List, [], ◌∷◌, ◌++◌, map, Option, None, Some, slice_get}
use Rattle.std.specs.Prelude.{if◌then◌else◌}
use Rattle.std.specs.List.{count_by, flat_map}
use Rattle.net_code.specs.vidi_bits.Findings.{told_if}
use Rattle.net_design.specs.declared.act.Place.{Place}
use Rattle.net_design.specs.declared.act.Code.{Code}
use Rattle.net_design.specs.declared.design.Net.{Net}
use Rattle.net_design.specs.declared.design.DesignMemory.{DesignMemory}
use Rattle.net_design.specs.declared.design.Driver.{Driver}
use Rattle.net_drive.specs.declared.findings.NetKind.{NetKind}
use Rattle.net_drive.specs.declared.findings.NetKind.TheVariants.{Pin, Wire, Reg}
use Rattle.net_drive.specs.declared.findings.Misdriven.{Misdriven}
use Rattle.net_drive.specs.declared.findings.Misdriven.TheVariants as what
use Rattle.net_code.specs.BitMap.{is_among}
use Rattle.net_code.specs.Targets.{block_targets, nets_named, rooms_named, bit_count}

-- ---- drivers

-- the places that an `assign`, a wire's expression or a connection writes; an `always @*` is counted as a block
abbrev pub driver_places : Driver → List Place
driver_places x = if x.always then [] else block_targets x.code.acts

unfoldable pub wire_places : List Driver → List Place
wire_places drivers = flat_map driver_places drivers

-- ---- always blocks

-- what an `always @*` names as targets
abbrev pub always_names : (List Place → List ℕ) → Driver → List (List ℕ)
always_names names x = told_if x.always (names (block_targets x.code.acts))

-- what each always block names: first each `always @*`, then each clocked one
abbrev pub block_names : (List Place → List ℕ) → List Driver → List Code → List (List ℕ)
block_names names drivers blocks =
    flat_map (always_names names) drivers ++ map (λ (c : Code). names (block_targets c.acts)) blocks

-- how many blocks name m
abbrev pub block_count : List (List ℕ) → ℕ → ℕ
block_count blocks m = count_by (is_among m) blocks

-- ---- findings

-- the pins drive the top's inputs
abbrev pub pin_count : NetKind → ℕ
pin_count Pin = 1
pin_count Wire = 0
pin_count Reg = 0

-- each of n bits of net m from bit k on that hasn't exactly one driver, where the pins are `pins` of them
abbrev pub bit_faults : List Place → ℕ → ℕ → ℕ → ℕ → List Misdriven
bit_faults places m pins k zero = []
bit_faults places m pins k (suc n) =
    told_if (not (pins + bit_count places m k == 1)) (what.Net m k (pins + bit_count places m k)) ++ bit_faults places m pins (k + 1) n

abbrev pub reg_faults : List (List ℕ) → ℕ → List Misdriven
reg_faults blocks m = told_if (nat_lt 1 (block_count blocks m)) (what.Net m 0 (block_count blocks m))

-- a net has at most 128 bits
abbrev pub kind_faults : List Place → List (List ℕ) → ℕ → ℕ → NetKind → List Misdriven
kind_faults places blocks m width Pin = bit_faults places m 1 0 (min width 128)
kind_faults places blocks m width Wire = bit_faults places m 0 0 (min width 128)
kind_faults places blocks m width Reg = reg_faults blocks m

-- past the last kind a net is a wire
abbrev pub or_wire : Option NetKind → NetKind
or_wire None = Wire
or_wire (Some kind) = kind

abbrev pub kind_at : List NetKind → ℕ → NetKind
kind_at kinds m = or_wire (slice_get kinds m)

-- of nets, the first of which is net m, in their order
abbrev pub nets_from : List Place → List (List ℕ) → List NetKind → ℕ → List Net → List Misdriven
nets_from places blocks kinds m [] = []
nets_from places blocks kinds m (n ∷ nets) =
    kind_faults places blocks m n.width (kind_at kinds m) ++ nets_from places blocks kinds (m + 1) nets

-- of memory i, whose first word this is
abbrev pub memory_at : List (List ℕ) → ℕ → ℕ → List Misdriven
memory_at blocks i word = told_if (nat_lt 1 (block_count blocks word)) (what.Memory i (block_count blocks word))

-- of memories, the first of which is memory i, in their order
abbrev pub memories_from : List (List ℕ) → ℕ → List DesignMemory → List Misdriven
memories_from blocks i [] = []
memories_from blocks i (a ∷ memories) = memory_at blocks i a.room.first ++ memories_from blocks (i + 1) memories

abbrev pub net_faults : List Net → List NetKind → List Driver → List Code → List Misdriven
net_faults nets kinds drivers blocks = nets_from (wire_places drivers) (block_names nets_named drivers blocks) kinds 0 nets

abbrev pub memory_faults : List DesignMemory → List Driver → List Code → List Misdriven
memory_faults memories drivers blocks = memories_from (block_names rooms_named drivers blocks) 0 memories

-- all findings: nets in their order and each from its lowest bit, then memories
abbrev pub drive_faults : List Net → List NetKind → List DesignMemory → List Driver → List Code → List Misdriven
drive_faults nets kinds memories drivers blocks = net_faults nets kinds drivers blocks ++ memory_faults memories drivers blocks
