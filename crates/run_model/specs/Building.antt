-- Pins and rows in the manner of the code: each as a function of what it is made of.
use Rattle.std.specs.Prelude.{◌≡◌, ℕ, zero, suc, ◌+◌, ◌*◌, ◌<◌, ◌≤◌, ◌^◌, ◌==◌, ◌&&◌, not, Bool, false, if◌then◌else◌, List, [], ◌∷◌, ◌++◌}
use Rattle.std.specs.Prelude.{Option, Some, None, length, map, slice_get, slice_index}
use Rattle.chan_map.specs.vidi_bits.Number.{has}
use Rattle.chan_map.specs.trace_model.declared.channel.Channel.{Channel}
use Rattle.chan_map.specs.trace_model.declared.channel.Dir.{Dir}
use Rattle.chan_map.specs.trace_model.declared.channel.Dir.TheVariants.{Inward, Outward}
use Rattle.chan_map.specs.trace_model.declared.row.Offers.{Offers}
use Rattle.chan_map.specs.trace_model.declared.row.Row.{Row}
use Rattle.chan_map.specs.trace_model.Row.{content_at, sink_valid, flies_after}
use Rattle.net_design.specs.declared.design.Port.{Port}
use Rattle.net_design.specs.declared.design.Direction.TheVariants.{Output}
use Rattle.net_design.specs.declared.design.Design.{Design}
use Rattle.net_design.specs.Settled.{net_width}
use Rattle.chan_map.specs.declared.pins.Map.{Map}
use Rattle.chan_map.specs.declared.pins.Pin.{Pin}
use Rattle.chan_map.specs.declared.pins.Plug.{Plug}
use Rattle.chan_map.specs.Bound.{IsPin}
use Rattle.run_model.specs.declared.pins.PinNumber.{PinNumber}
use Rattle.run_model.specs.Pins.{shown_number}
use Rattle.run_model.specs.Offers.{offered_content}

-- ---- pins
-- the first number that is entered at place k, 0 where none is
abbrev pub number_for : List PinNumber → ℕ → ℕ
number_for [] k = 0
number_for (e ∷ es) k = if e.place == k then e.number else number_for es k

-- the numbers of the contents fit, as far as they are shown
abbrev pub AreSmall : List Channel → Row → Type 0
AreSmall channels row = (c : ℕ) (x : Channel) → slice_get channels c ≡ Some x → (i : ℕ)
    → shown_number (sink_valid row c) (content_at channels row.contents c) i < 2 ^ slice_index x.widths i

-- ---- masks and contents, channel by channel
-- the mask of n channels with these bits
abbrev pub mask_of : (ℕ → Bool) → ℕ → ℕ
mask_of f zero = 0
mask_of f (suc n) = (if f n then 1 else 0) * 2 ^ n + mask_of f n

-- the contents of the channels from number k on
abbrev pub joined : (ℕ → List ℕ) → ℕ → List Channel → List ℕ
joined f k [] = []
joined f k (x ∷ xs) = f k ++ joined f (k + 1) xs

-- ---- the row of given offers, gates and outputs
abbrev pub valid_on : Offers → List ℕ → ℕ → Dir → Plug → Bool
valid_on offers out c Inward plug = has offers.valids c
valid_on offers out c Outward plug = slice_index out plug.valid.place == 1

abbrev pub ready_on : Offers → List ℕ → ℕ → Dir → Plug → Bool
ready_on offers out c Inward plug = slice_index out plug.ready.place == 1
ready_on offers out c Outward plug = has offers.readies c

abbrev pub content_on : List Channel → Offers → List ℕ → ℕ → Dir → Plug → List ℕ
content_on channels offers out c Inward plug = offered_content channels offers c
content_on channels offers out c Outward plug = map (λ (p : Pin). slice_index out p.place) plug.contents

-- at a channel and its plug, if they are there
abbrev pub at_plug : {A : Type 0} → A → (Dir → Plug → A) → Option Channel → Option Plug → A
at_plug none f None plug = none
at_plug none f (Some x) None = none
at_plug none f (Some x) (Some p) = f x.dir p

abbrev pub valid_at : Map → Offers → List ℕ → ℕ → Bool
valid_at m offers out c = at_plug false (valid_on offers out c) (slice_get m.channels c) (slice_get m.plugs c)

abbrev pub ready_at : Map → Offers → List ℕ → ℕ → Bool
ready_at m offers out c = at_plug false (ready_on offers out c) (slice_get m.channels c) (slice_get m.plugs c)

abbrev pub content_here : Map → Offers → List ℕ → ℕ → List ℕ
content_here m offers out c = at_plug [] (content_on m.channels offers out c) (slice_get m.channels c) (slice_get m.plugs c)

-- the channels of n that start, and that end, after a row
abbrev pub starts_of : ℕ → Option Row → ℕ → ℕ → ℕ
starts_of n before valids gates = mask_of (λ c. (has valids c && has gates c) && not (flies_after before c)) n

abbrev pub ends_of : ℕ → ℕ → ℕ → ℕ → ℕ
ends_of n valids gates readies = mask_of (λ c. (has valids c && has gates c) && has readies c) n

abbrev pub row_of : Map → Bool → Option Row → Offers → ℕ → List ℕ → Row
row_of m fresh before offers gates out =
    let n = length m.channels in
    let valids = mask_of (valid_at m offers out) n in
    let readies = mask_of (ready_at m offers out) n in
    record {
      fresh = fresh;
      gates = gates;
      valids = valids;
      readies = readies;
      contents = joined (content_here m offers out) 0 m.channels;
      starts = starts_of n before valids gates;
      ends = ends_of n valids gates readies;
    }

-- ---- outputs
-- port k is net k, with its width, as in a lawful design
pub record PortsAreNets (d : Design) : Type 0 where
  pub few : length d.ports ≤ length d.nets
  pub widths : (k : ℕ) (p : Port) → slice_get d.ports k ≡ Some p → net_width d k ≡ p.width

-- the numbers of outputs fit their ports
abbrev pub FitOutputs : Design → List ℕ → Type 0
FitOutputs d out = (width : ℕ) (pin : Pin) → IsPin d Output width pin → slice_index out pin.place < 2 ^ width
