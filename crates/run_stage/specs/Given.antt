-- What stages are given, and the rows that they show for it.
use Rattle.std.specs.Prelude.{◌≡◌, ℕ, ◌<◌, ◌^◌, List, Some, length, slice_get}
use Rattle.chan_replayer.specs.trace_model.declared.channel.Channel.{Channel}
use Rattle.chan_replayer.specs.trace_model.declared.row.Row.{Row}
use Rattle.chan_replayer.specs.trace_model.Row.{AreOffers}
use Rattle.chan_replayer.specs.run_model.Offers.{AreZeroWhileDown, Carries}
use Rattle.chan_replayer.specs.run_model.Played.{all_up}
use Rattle.chan_replayer.specs.run_model.Replay.{done}
use Rattle.chan_replayer.specs.declared.feed.Feed.{Feed}
use Rattle.chan_replayer.specs.Feed.{IsFedOn}
use Rattle.run_stage.specs.declared.given.Gated.{Gated}

-- offers over the channels, with contents of channels that are up, and gates of theirs
pub record FitsGates (channels : List Channel) (given : Gated) : Type 0 where
  pub offers : AreOffers channels given.offers
  pub zeros : AreZeroWhileDown channels given.offers
  pub gates : given.gates < 2 ^ length channels

-- the row carries the offers, behind these gates
pub record IsGatedRow (channels : List Channel) (given : Gated) (row : Row) : Type 0 where
  pub carries : Carries channels given.offers row
  pub gates_are : row.gates ≡ given.gates

-- behind these rows the row is fed, and all gates are up
pub record IsFedRow (channels : List Channel) (feed : Feed) (rows : List Row) (row : Row) : Type 0 where
  pub fed : (c : ℕ) (x : Channel) → slice_get channels c ≡ Some x → IsFedOn channels feed (done rows) row c x.dir
  pub gates_are : row.gates ≡ all_up channels
