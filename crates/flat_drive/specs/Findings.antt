-- E8 of a file's instances ("Reasons"; this project's profile): each bit of a wire, or of a port that isn't `output reg`, has exactly one
-- driver, and a reg or a memory is named by at most one always block.
use Rattle.std.specs.Prelude.{ℕ, zero, suc, ◌+◌, ◌==◌, min, not, nat_lt, Bool, false, List, [], ◌∷◌, ◌++◌, map}
use Rattle.std.specs.List.{count_by, flat_map, list_any, sum_by}
use Rattle.flat_parts.specs.vidi_bits.Findings.{told_if}
use Rattle.flat_parts.specs.vlog_size.declared.scope.ScopeNet.{ScopeNet}
use Rattle.flat_parts.specs.vlog_size.declared.scope.ScopeMemory.{ScopeMemory}
use Rattle.flat_parts.specs.vlog_size.Table.{Named}
use Rattle.flat_parts.specs.net_drive.declared.findings.NetKind.{NetKind}
use Rattle.flat_parts.specs.net_drive.declared.findings.NetKind.TheVariants.{Pin, Wire, Reg}
use Rattle.flat_parts.specs.net_drive.Drive.{pin_count}
use Rattle.flat_parts.specs.vlog_block.Naming.{Naming, NamesNet, NamesRoom, target_count, always_names}
use Rattle.flat_parts.specs.vlog_driver.Sites.{count_at, names_at_site}
use Rattle.flat_parts.specs.vlog_driver.Duties.{Duty, Assigns, Settles}
use Rattle.flat_parts.specs.vlog_elab.declared.error.ElabError.{ElabError}
use Rattle.flat_parts.specs.vlog_elab.declared.error.ElabError.TheVariants as e
use Rattle.flat_parts.specs.Seats.{Seat}
use Rattle.flat_parts.specs.Drivers.{ClockedBlock, all_duties, all_blocks}
use Rattle.flat_drive.specs.Kinds.{kind_of}
use Rattle.flat_drive.specs.Reasons.{dotted, drivers_told}

-- ---- drivers

-- how often a driver names bit k of net m: a target that names it more than once counts so many times; an `always @*` is counted as a block
abbrev pub duty_count : ℕ → ℕ → Duty → ℕ
duty_count m k (Assigns line to target from e) = count_at to (target_count to.names target) m k
duty_count m k (Settles p a) = 0

abbrev pub driver_count : List Duty → ℕ → ℕ → ℕ
driver_count duties m k = sum_by (duty_count m k) duties

-- ---- always blocks

-- what an `always @*` names
abbrev pub settled_names : Duty → List (List Naming)
settled_names (Assigns line to target from e) = []
settled_names (Settles p a) = names_at_site p (always_names p.names a) ∷ []

abbrev pub clocked_names : ClockedBlock → List Naming
clocked_names b = names_at_site b.site (always_names b.site.names b.block)

-- what each always block names
abbrev pub blocks_name : List Duty → List ClockedBlock → List (List Naming)
blocks_name duties blocks = flat_map settled_names duties ++ map clocked_names blocks

abbrev pub is_net : ℕ → Naming → Bool
is_net m (NamesNet n) = n == m
is_net m (NamesRoom first) = false

abbrev pub is_room : ℕ → Naming → Bool
is_room word (NamesNet n) = false
is_room word (NamesRoom first) = first == word

-- how many always blocks name net m, and the memory whose first word this is
abbrev pub net_blocks : List (List Naming) → ℕ → ℕ
net_blocks named m = count_by (list_any (is_net m)) named

abbrev pub room_blocks : List (List Naming) → ℕ → ℕ
room_blocks named word = count_by (list_any (is_room word)) named

-- ---- findings

-- of n bits from bit k on of the net of this name, where it is known how many drivers each bit has
abbrev pub bit_findings : List ℕ → (ℕ → ℕ) → ℕ → ℕ → List ElabError
bit_findings text count k zero = []
bit_findings text count k (suc n) =
    told_if (not (count k == 1)) (e.Drive text k (drivers_told (count k))) ++ bit_findings text count (k + 1) n

-- of a reg or a memory of this name, which so many always blocks name
abbrev pub block_findings : List ℕ → ℕ → List ElabError
block_findings text n = told_if (nat_lt 1 n) (e.Drive text 0 (drivers_told n))

module _ (duties : List Duty) (named : List (List Naming)) where
  -- how many drivers bit k of net m has; the pins drive the inputs of the top
  abbrev pub drivers_of : NetKind → ℕ → ℕ → ℕ
  drivers_of kind m k = pin_count kind + driver_count duties m k

  -- of net m of the flat design; a net has at most 128 bits
  abbrev pub net_findings : ℕ → List ℕ → ℕ → NetKind → List ElabError
  net_findings m text width Pin = bit_findings text (drivers_of Pin m) 0 (min width 128)
  net_findings m text width Wire = bit_findings text (drivers_of Wire m) 0 (min width 128)
  net_findings m text width Reg = block_findings text (net_blocks named m)

  -- of nets of the instance at a seat, the first of which is net m
  abbrev pub nets_findings : Seat → ℕ → List (Named ScopeNet) → List ElabError
  nets_findings x m [] = []
  nets_findings x m (n ∷ nets) =
      net_findings m (dotted x.instance.path n.name) n.value.width (kind_of x n) ++ nets_findings x (m + 1) nets

  -- of its memories, the first of which begins at this word
  abbrev pub memories_findings : Seat → ℕ → List (Named ScopeMemory) → List ElabError
  memories_findings x word [] = []
  memories_findings x word (a ∷ memories) =
      block_findings (dotted x.instance.path a.name) (room_blocks named word) ++ memories_findings x (word + a.value.length) memories

  abbrev pub seat_net_findings : Seat → List ElabError
  seat_net_findings x = nets_findings x x.base.net x.instance.scope.nets

  abbrev pub seat_memory_findings : Seat → List ElabError
  seat_memory_findings x = memories_findings x x.base.word x.instance.scope.memories

-- all nets in their order and each from its lowest bit, then all memories
unfoldable pub drive_findings : List Seat → List ElabError
drive_findings xs =
    let duties = all_duties xs in
    let named = blocks_name (all_duties xs) (all_blocks xs) in
    flat_map (seat_net_findings duties named) xs ++ flat_map (seat_memory_findings duties named) xs
