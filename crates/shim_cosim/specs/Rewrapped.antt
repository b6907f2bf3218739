-- The inputs and the outputs of `vidi_replay_top`, in port order, channel by channel, and the row that stands on its outputs.
use Rattle.std.specs.Prelude.{ℕ, ◌+◌, ◌*◌, ◌^◌, ◌<◌, ◌==◌, ◌&&◌, not, Bool, if◌then◌else◌, List, [], ◌∷◌, ◌++◌, Option, None, Some, length, take, drop}
use Rattle.std.specs.Prelude.{slice_get, slice_index, replicate}
use Rattle.std.specs.List.{sum_by}
use Rattle.net_sim.specs.vidi_bits.Number.{truth, has}
use Rattle.replay_run.specs.trace_model.declared.channel.Channel.{Channel}
use Rattle.replay_run.specs.trace_model.declared.channel.Dir.{Dir}
use Rattle.replay_run.specs.trace_model.declared.channel.Dir.TheVariants.{Inward, Outward}
use Rattle.replay_run.specs.trace_model.declared.row.Row.{Row}
use Rattle.replay_run.specs.trace_model.Row.{content_at, replaced}
use Rattle.replay_run.specs.run_model.Building.{mask_of, joined}
use Rattle.replay_run.specs.run_model.Offers.{no_content}
use Rattle.replay_run.specs.run_model.Played.{all_up}
use Rattle.replay_run.specs.chan_replayer.declared.feed.Feed.{Feed}
use Rattle.replay_run.specs.chan_replayer.Feed.{need_of}
use Rattle.shim_gen.specs.shim_trees.Pieces.{each_some}
use Rattle.shim_cosim.specs.declared.shown_row.Signal.{Signal}
use Rattle.shim_cosim.specs.declared.shown_row.Signal.TheVariants.{Valid, Ready, Pop}

-- ---- inputs

-- the contents of an inward channel alone
abbrev pub if_inward : List ℕ → Dir → List ℕ
if_inward content Inward = content
if_inward content Outward = []

-- whether there is a next event, its clock, and its contents where it is a start
abbrev pub channel_inputs : List Channel → Feed → ℕ → Channel → List ℕ
channel_inputs channels feed c x =
    truth (has feed.more c) ∷ (take (length channels) (drop (length channels * c) feed.needs)
    ++ if_inward (content_at channels feed.contents c) x.dir)

-- those of a feed, behind the inputs that are held
abbrev pub feed_inputs : List Channel → Feed → List ℕ
feed_inputs channels feed = each_some (channel_inputs channels feed) 0 channels

-- the numbers of the clocks have 32 bits
abbrev pub AreSmallNeeds : List Channel → Feed → Type 0
AreSmallNeeds channels feed = (c j : ℕ) → c < length channels → j < length channels → need_of (length channels) feed c j < 2 ^ 32

-- how many a channel of n has
abbrev pub input_count : ℕ → Channel → ℕ
input_count n x = 1 + n + length (if_inward x.widths x.dir)

abbrev pub inputs_count : List Channel → ℕ
inputs_count channels = sum_by (input_count (length channels)) channels

-- ---- outputs

-- the contents of an outward channel alone
abbrev pub if_outward : List ℕ → Dir → List ℕ
if_outward content Inward = []
if_outward content Outward = content

-- valid, ready and completion, then the contents of an outward channel
abbrev pub output_count : Channel → ℕ
output_count x = 3 + length (if_outward x.widths x.dir)

abbrev pub outputs_count : List Channel → ℕ
outputs_count channels = sum_by output_count channels

-- the outputs of channel c stand behind those of the channels before it
abbrev pub seat : List Channel → ℕ → ℕ
seat channels c = outputs_count (take c channels)

abbrev pub place_of : Signal → ℕ
place_of Valid = 0
place_of Ready = 1
place_of Pop = 2

-- whether that output is 1
abbrev pub is_raised : List Channel → List ℕ → Signal → ℕ → Bool
is_raised channels out signal c = slice_index out (seat channels c + place_of signal) == 1

-- ---- the row

-- an inward channel has the contents that are fed while its valid is up, else 0; an outward one what its outputs show
abbrev pub content_on : List Channel → ℕ → List ℕ → List ℕ → ℕ → List ℕ → Dir → List ℕ
content_on channels valids fed out c widths Inward = if has valids c then content_at channels fed c else no_content channels c
content_on channels valids fed out c widths Outward = take (length widths) (drop (seat channels c + 3) out)

-- the same of contents that begin with what is fed, from place `at` on; `own` are the channel's outputs
abbrev pub filled : Dir → Bool → List ℕ → ℕ → ℕ → List ℕ → List ℕ
filled Inward valid own at ports contents = if valid then contents else replaced contents at (replicate ports 0)
filled Outward valid own at ports contents = replaced contents at (drop 3 own)

abbrev pub content_of : List Channel → ℕ → List ℕ → List ℕ → ℕ → Option Channel → List ℕ
content_of channels valids fed out c None = []
content_of channels valids fed out c (Some x) = content_on channels valids fed out c x.widths x.dir

abbrev pub contents_of : List Channel → ℕ → List ℕ → List ℕ → List ℕ
contents_of channels valids fed out = joined (λ c. content_of channels valids fed out c (slice_get channels c)) 0 channels

-- the row of this mark under this feed, where these channels were in flight before
abbrev pub replay_row : List Channel → Bool → ℕ → Feed → List ℕ → Row
replay_row channels fresh flight feed out =
    let n = length channels in
    let valids = mask_of (is_raised channels out Valid) n in
    record {
      fresh = fresh;
      gates = all_up channels;
      valids = valids;
      readies = mask_of (is_raised channels out Ready) n;
      contents = contents_of channels valids feed.contents out;
      starts = mask_of (λ c. is_raised channels out Valid c && not (has flight c)) n;
      ends = mask_of (is_raised channels out Pop) n;
    }

-- the channels in flight after a row of n channels with all gates up
abbrev pub flight_of : ℕ → Row → ℕ
flight_of n row = mask_of (λ c. has row.valids c && not (has row.readies c)) n
