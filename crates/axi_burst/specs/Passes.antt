-- What the passes over addresses and beats rest on.
use Rattle.std.specs.Prelude.{◌≡◌, ℕ, ◌+◌, ◌-◌, ◌^◌, ◌<◌, ◌≤◌, Bool, true, false, List, [], ◌∷◌, ◌++◌, length, replicate, slice_get, Option, None, Some}
use Rattle.trace_model.specs.declared.channel.Channel.{Channel}
use Rattle.axi_burst.specs.declared.axi.AddressPorts.{AddressPorts}
use Rattle.axi_burst.specs.declared.axi.Broken.{Broken}
use Rattle.axi_burst.specs.declared.error.BurstError.{BurstError}
use Rattle.axi_burst.specs.declared.error.BurstError.TheVariants as B
use Rattle.axi_burst.specs.declared.transfers.Address.{Address}
use Rattle.axi_burst.specs.declared.transfers.Beat.{Beat}
use Rattle.axi_burst.specs.Bursts.{beats_to, before_with, broken}
use Rattle.axi_burst.specs.Ports.{address_fits}

-- the broken rule that an error tells; want of memory tells none
abbrev pub burst_told : BurstError → Option Broken
burst_told (B.Broken rule channel index) = Some (broken rule channel index)
burst_told B.Memory = None

-- an address channel is there, and its words fit its ports
abbrev pub places_of : AddressPorts → List (Option ℕ)
places_of ports = ports.id ∷ Some ports.addr ∷ ports.len ∷ ports.size ∷ ports.burst ∷ []

pub record AreAddressPorts (channels : List Channel) (ports : AddressPorts) : Type 0 where
  pub channel : Channel
  pub there : slice_get channels ports.channel ≡ Some channel
  pub fit : address_fits channel.widths (places_of ports) ≡ true

-- as large as the widths of ports let it be
pub record IsAddress (a : Address) : Type 0 where
  pub some : 1 ≤ a.size
  pub small : a.size ≤ 128
  pub least : 1 ≤ a.beats
  pub most : a.beats ≤ 256
  pub addr : a.addr < 2 ^ 64

-- what LASTs a burst still has, with so many beats before its last
abbrev pub lasts_left : Option ℕ → List Bool
lasts_left None = []
lasts_left (Some n) = replicate n false ++ true ∷ []

-- the numbers of the last beats of the first n bursts
pub record AreLast (asks : List Address) (n : ℕ) (lasts : List ℕ) : Type 0 where
  pub long : length lasts ≡ n
  pub each : (m : ℕ) → m < n → slice_get lasts m ≡ Some (beats_to (m + 1) asks - 1)

-- how many of the first n beats have each ID
abbrev pub taken_to : ℕ → List Beat → ℕ → ℕ
taken_to n xs id = before_with id n xs
