-- What a walk over statements finds of their bits.
use Rattle.std.specs.Prelude.{◌≡◌, ℕ, ◌&&◌, ◌||◌, not, true, false, List, [], ◌∷◌}
use Rattle.std.specs.List.{list_any}
use Rattle.net_design.specs.declared.act.Act.{Act}
use Rattle.net_design.specs.declared.act.Guard.{Guard}
use Rattle.net_design.specs.declared.act.Mask.{Mask}
use Rattle.net_design.specs.declared.act.Timing.{Timing}
use Rattle.net_design.specs.declared.act.Timing.TheVariants.{Blocking, Nonblocking}
use Rattle.net_code.specs.declared.bit_map.BitMap.{BitMap}
use Rattle.net_code.specs.declared.code_bits.Found.{Found}
use Rattle.net_design.specs.Bits.{BitSet, named, reads, block_writes, block_adds, block_open_reads}
use Rattle.net_code.specs.BitMap.{in_map}

-- reads have the bits of p too, but for those that are known
pub record Reads (p : BitSet) (known : BitMap) (before after : BitMap) : Type 0 where
  pub more : (m k : ℕ) → in_map after m k ≡ (in_map before m k || (p m k && not (in_map known m k)))

-- the bits of p are known too, and fresh masks name those of them that were not known before
pub record Learns (p : BitSet) (known after : BitMap) (fresh new : List Mask) : Type 0 where
  pub bits : (m k : ℕ) → in_map after m k ≡ (in_map known m k || p m k)
  pub masks : (m k : ℕ) → named new m k ≡ (named fresh m k || (p m k && not (in_map known m k)))

-- what the next statement knows of the bits that were surely assigned
abbrev pub learned : Timing → BitSet → BitSet
learned Blocking p m k = p m k
learned Nonblocking p m k = false

-- statements that may write the bits of ws, surely assign those of ss, and read those of os, were walked over
pub record Walks (t : Timing) (ws ss : BitSet) (os : BitSet → BitSet) (before after : Found) (fresh new : List Mask) : Type 0 where
  pub writes : (m k : ℕ) → in_map after.writes m k ≡ (in_map before.writes m k || ws m k)
  pub reads : (m k : ℕ) → in_map after.reads m k ≡ (in_map before.reads m k || os (in_map before.known) m k)
  pub known : Learns (learned t ss) before.known after.known fresh new

-- ---- the bits of the guards of a choice

abbrev pub guard_writes : List Guard → BitSet
guard_writes guards m k = list_any (λ (g : Guard). block_writes g.body m k) guards

abbrev pub guard_adds : List Guard → BitSet
guard_adds [] m k = true
guard_adds (g ∷ rest) m k = block_adds g.body m k && guard_adds rest m k

abbrev pub guard_reads : Timing → List Guard → BitSet → BitSet
guard_reads t [] known m k = false
guard_reads t (g ∷ rest) known m k =
    (reads g.condition m k && not (known m k)) || (block_open_reads t g.body known m k || guard_reads t rest known m k)

-- an arm was walked over, which gives back what it learned: of the bits of `all`, which weren't known, those that it assigns too are left
pub record Arm (t : Timing) (g : Guard) (all both : List Mask) (before after : Found) : Type 0 where
  pub writes : (m k : ℕ) → in_map after.writes m k ≡ (in_map before.writes m k || block_writes g.body m k)
  pub reads : (m k : ℕ) → in_map after.reads m k
      ≡ (in_map before.reads m k || ((reads g.condition m k && not (in_map before.known m k)) || block_open_reads t g.body
      (in_map before.known) m k))
  pub known : (m k : ℕ) → in_map after.known m k ≡ in_map before.known m k
  pub masks : (m k : ℕ) → named both m k ≡ (named all m k && (in_map before.known m k || learned t (block_adds g.body) m k))

-- a choice was walked over
abbrev pub WalksChoice : Timing → List Guard → List Act → Found → Found → List Mask → List Mask → Type 0
WalksChoice t gs others before after fresh new =
    Walks t (λ m k. guard_writes gs m k || block_writes others m k) (λ m k. guard_adds gs m k && block_adds others m k)
    (λ s m k. guard_reads t gs s m k || block_open_reads t others s m k) before after fresh new

-- `otherwise` and the guards gs were walked over, and all the bits that each of them assigns, but for those known before, are in the masks
pub record AfterArms (t : Timing) (gs : List Guard) (others : List Act) (before now : Found) (all : List Mask) : Type 0 where
  pub writes : (m k : ℕ) → in_map now.writes m k ≡ (in_map before.writes m k || (guard_writes gs m k || block_writes others m k))
  pub reads : (m k : ℕ) → in_map now.reads m k
      ≡ (in_map before.reads m k || (guard_reads t gs (in_map before.known) m k || block_open_reads t others (in_map before.known) m k))
  pub known : (m k : ℕ) → in_map now.known m k ≡ in_map before.known m k
  pub masks : (m k : ℕ) → named all m k ≡ (learned t (λ x y. guard_adds gs x y && block_adds others x y) m k && not
      (in_map before.known m k))
