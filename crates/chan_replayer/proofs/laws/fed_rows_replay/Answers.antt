use Rattle.chan_replayer.proofs.Offering.{fed-rows_replay}
use Rattle.chan_replayer.proofs.laws.fed_rows_replay.Goals as goal

pub returns : goal.returns
returns c = fed-rows_replay
