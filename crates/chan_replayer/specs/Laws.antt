-- What replayers keep of a recording.
use Rattle.std.specs.Prelude.{◌≡◌, false, List}
use Rattle.vec_clock.specs.trace_model.declared.packet.Packet.{Packet}
use Rattle.vec_clock.specs.trace_model.declared.row.Row.{Row}
use Rattle.net_design.specs.declared.design.Design.{Design}
use Rattle.net_design.specs.declared.values.Values.{Values}
use Rattle.chan_monitor.specs.chan_map.declared.pins.Map.{Map}
use Rattle.chan_monitor.specs.run_model.Replay.{done, IsReplayRow}
use Rattle.chan_replayer.specs.declared.feed.Feed.{Feed}
use Rattle.chan_replayer.specs.Feed.{IsFeed}
use Rattle.chan_replayer.specs.Shell.{IsShown}

-- Where the feed has each channel's next event after these rows, a row that is shown under it and isn't fresh is the next row of the replay.
abbrev pub FedRowsReplay : Type 0
FedRowsReplay = (d : Design) (m : Map) (s : Values) (packets : List Packet) (rows : List Row) (feed : Feed) (row : Row)
    → IsFeed m.channels packets (done rows) feed → IsShown d m s rows feed row → row.fresh ≡ false → IsReplayRow m.channels packets rows row
