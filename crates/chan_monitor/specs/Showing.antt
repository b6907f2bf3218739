-- The numbers that a design shows, in the contents of all channels.
use Rattle.std.specs.Prelude.{◌≡◌, ℕ, ◌<◌, List, Some, All, length, map, slice_get, slice_index}
use Rattle.run_model.specs.trace_model.Row.{replaced}
use Rattle.run_model.specs.trace_model.declared.channel.Channel.{Channel}
use Rattle.run_model.specs.trace_model.declared.channel.Dir.{Dir}
use Rattle.run_model.specs.trace_model.declared.channel.Dir.TheVariants.{Inward, Outward}
use Rattle.run_model.specs.chan_map.declared.pins.Pin.{Pin}
use Rattle.run_model.specs.chan_map.declared.pins.Plug.{Plug}

-- the numbers of these output pins
abbrev pub read : List ℕ → List Pin → List ℕ
read out pins = map (λ (p : Pin). slice_index out p.place) pins

-- an outward channel's content, from place `at` on, is what its pins show
abbrev pub filled : Dir → Plug → ℕ → List ℕ → List ℕ → List ℕ
filled Inward plug at contents out = contents
filled Outward plug at contents out = replaced contents at (read out plug.contents)

-- ---- places below n
abbrev pub IsPlugShown : ℕ → Dir → Plug → Type 0
IsPlugShown n Inward plug = plug.ready.place < n
IsPlugShown n Outward plug = (plug.valid.place < n) × All (λ (p : Pin). p.place < n) plug.contents

pub record ArePlugsShown (n : ℕ) (channels : List Channel) (plugs : List Plug) : Type 0 where
  pub many : length plugs ≡ length channels
  pub each : (c : ℕ) (x : Channel) (plug : Plug) → slice_get channels c ≡ Some x → slice_get plugs c ≡ Some plug
      → IsPlugShown n x.dir plug × (length plug.contents ≡ length x.widths)
