-- The inputs and the outputs of `vidi_record_top`, in port order, channel by channel.
use Rattle.std.specs.Prelude.{◌≡◌, ℕ, ◌+◌, ◌==◌, Bool, false, List, [], ◌∷◌, Option, None, Some, length, take, slice_get}
use Rattle.std.specs.Prelude.{slice_index}
use Rattle.std.specs.List.{sum_by}
use Rattle.net_sim.specs.vidi_bits.Number.{truth, has}
use Rattle.replay_run.specs.trace_model.declared.channel.Channel.{Channel}
use Rattle.replay_run.specs.trace_model.declared.channel.Dir.{Dir}
use Rattle.replay_run.specs.trace_model.declared.channel.Dir.TheVariants.{Inward, Outward}
use Rattle.replay_run.specs.trace_model.declared.row.Offers.{Offers}
use Rattle.replay_run.specs.trace_model.declared.row.Row.{Row}
use Rattle.replay_run.specs.trace_model.Row.{content_at}
use Rattle.replay_run.specs.run_model.Building.{mask_of, joined}
use Rattle.shim_gen.specs.shim_trees.Pieces.{each_some, upto}
use Rattle.shim_cosim.specs.declared.recorded.Spot.{Spot}
use Rattle.shim_cosim.specs.declared.recorded.Spot.TheVariants.{Side, Start, Stop}

-- ---- inputs

-- channel c's gate, then its valid and its contents where it is inward, its ready where it is outward
abbrev pub side_inputs : Row → ℕ → List ℕ → Dir → List ℕ
side_inputs row c content Inward = truth (has row.valids c) ∷ content
side_inputs row c content Outward = truth (has row.readies c) ∷ []

abbrev pub entered_inputs : Row → ℕ → List ℕ → Dir → List ℕ
entered_inputs row c content dir = truth (has row.gates c) ∷ side_inputs row c content dir

abbrev pub channel_inputs : List Channel → Row → ℕ → Channel → List ℕ
channel_inputs channels row c x = entered_inputs row c (content_at channels row.contents c) x.dir

-- those of a row, behind the inputs that are held
abbrev pub row_inputs : List Channel → Row → List ℕ
row_inputs channels row = each_some (channel_inputs channels row) 0 channels

-- how many a channel has
abbrev pub side_count : Channel → Dir → ℕ
side_count x Inward = 1 + length x.widths
side_count x Outward = 1

abbrev pub input_count : Channel → ℕ
input_count x = 1 + side_count x x.dir

abbrev pub inputs_count : List Channel → ℕ
inputs_count channels = sum_by input_count channels

-- ---- outputs

-- how many contents a channel's outputs have
abbrev pub content_count : Channel → Dir → ℕ
content_count x Inward = 0
content_count x Outward = length x.widths

-- the ready of an inward channel or the valid and the contents of an outward one, then its start and its completion
abbrev pub output_count : Channel → ℕ
output_count x = 3 + content_count x x.dir

abbrev pub outputs_count : List Channel → ℕ
outputs_count channels = sum_by output_count channels

-- which of a channel's outputs of one bit: the ready or the valid, the start, the completion
abbrev pub spot_place : Spot → Channel → ℕ
spot_place Side x = 0
spot_place Start x = 1 + content_count x x.dir
spot_place Stop x = 2 + content_count x x.dir

abbrev pub spot_in : Spot → Option Channel → ℕ
spot_in spot None = 0
spot_in spot (Some x) = spot_place spot x

-- the outputs of channel c stand behind those of the channels before it
abbrev pub seat : List Channel → ℕ → ℕ
seat channels c = outputs_count (take c channels)

abbrev pub place_of : List Channel → Spot → ℕ → ℕ
place_of channels spot c = seat channels c + spot_in spot (slice_get channels c)

-- whether that output is 1
abbrev pub is_raised : List Channel → List ℕ → Spot → ℕ → Bool
is_raised channels out spot c = slice_index out (place_of channels spot c) == 1

-- the contents that an outward channel's outputs show
abbrev pub shown_content : List Channel → List ℕ → ℕ → Channel → List ℕ
shown_content channels out c x = upto (slice_index out) (seat channels c + 1) (length x.widths)

-- ---- a row that is made of offers, gates and outputs

-- the channels whose ready or valid is shown as 1
abbrev pub side_mask : List Channel → List ℕ → ℕ
side_mask channels out = mask_of (is_raised channels out Side) (length channels)

-- the inward channels of one mask, and the outward ones of another
abbrev pub chosen_on : ℕ → ℕ → ℕ → Dir → Bool
chosen_on inward outward c Inward = has inward c
chosen_on inward outward c Outward = has outward c

abbrev pub chosen_in : ℕ → ℕ → ℕ → Option Channel → Bool
chosen_in inward outward c None = false
chosen_in inward outward c (Some x) = chosen_on inward outward c x.dir

abbrev pub is_chosen : List Channel → ℕ → ℕ → ℕ → Bool
is_chosen channels inward outward c = chosen_in inward outward c (slice_get channels c)

-- the offered contents of an inward channel, those that the outputs show of an outward one
abbrev pub made_on : List Channel → Offers → List ℕ → ℕ → Channel → Dir → List ℕ
made_on channels offers out c x Inward = content_at channels offers.contents c
made_on channels offers out c x Outward = shown_content channels out c x

abbrev pub made_in : List Channel → Offers → List ℕ → ℕ → Option Channel → List ℕ
made_in channels offers out c None = []
made_in channels offers out c (Some x) = made_on channels offers out c x x.dir

abbrev pub made_content : List Channel → Offers → List ℕ → ℕ → List ℕ
made_content channels offers out c = made_in channels offers out c (slice_get channels c)

-- the row of these offers and gates, where the outputs have these numbers
pub record IsMadeRow (channels : List Channel) (offers : Offers) (gates : ℕ) (out : List ℕ) (row : Row) : Type 0 where
  pub gates_are : row.gates ≡ gates
  pub valids : row.valids ≡ mask_of (is_chosen channels offers.valids (side_mask channels out)) (length channels)
  pub readies : row.readies ≡ mask_of (is_chosen channels (side_mask channels out) offers.readies) (length channels)
  pub contents : row.contents ≡ joined (made_content channels offers out) 0 channels
  pub starts : row.starts ≡ mask_of (is_raised channels out Start) (length channels)
  pub ends : row.ends ≡ mask_of (is_raised channels out Stop) (length channels)
