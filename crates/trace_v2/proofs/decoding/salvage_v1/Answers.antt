use Rattle.trace_v2.specs.OldReading.{AreAllOld}
use Rattle.trace_v2.proofs.OldReadings.{all-longest, split-few}
use Rattle.trace_v2.proofs.decoding.salvage_v1.Goals as goal

pub returns-clause-salvages : goal.returns-clause-salvages
returns-clause-salvages c =
    let cs = c.in_ok-channels.channels in
    let ps = c.in_ok-packets.packets in
    let found = c.in_ok-channels.ensures.found in
    let all : AreAllOld cs c.in_ok-channels.rest.now ps c.in_ok-packets.field-0-1.now = rw c.as_slice.ensures at c.in_ok-packets.ensures in
    let rest = c.in_ok-packets.field-0-1.now in
    (rest, all-longest cs c.args.bytes.now c.in_ok-channels.rest.now rest ps found.0 found.1 all)

pub returns-clause-few : goal.returns-clause-few
returns-clause-few c =
    let longest = returns-clause-salvages c in
    split-few c.args.bytes.now c.in_ok-channels.channels c.in_ok-packets.packets longest.0 longest.1.splits
