use Rattle.std.proofs.Common.{◌≡◌}
use Rattle.trace_edit.specs.Moved.{moved, IsFree, IsMove}
use Rattle.trace_edit.proofs.Whole.{moves-to, move-keeps}
use Rattle.trace_edit.proofs.moving.move_end.Goals as goal

pub returns-clause-moves : goal.returns-clause-moves
returns-clause-moves c =
    let t = c.args.t.now in
    let m = c.in_ok-m.m in
    let move : IsMove t.packets c.args.end c.args.other c.args.after m = rw c.as_slice.ensures at c.in_ok-m.ensures.planned in
    let free : IsFree t.packets m = rw c.as_slice-2.ensures at c.in_default.ensures.blocked in
    let table : c.in_ok-channels.channels ≡ t.channels = rw c.as_slice-3.ensures at c.in_ok-channels.ensures in
    let now : c.in_ok-packets.packets ≡ moved m t.packets = rw c.as_slice-4.ensures at c.in_ok-packets.ensures in
    moves-to t c.args.end c.args.other c.args.after m c.in_ok-channels.channels c.in_ok-packets.packets move free table now

pub returns-clause-completion : goal.returns-clause-completion
returns-clause-completion c =
    move-keeps c.args.end c.args.other c.args.after c.args.t.now
    (record { channels = c.in_ok-channels.channels; packets = c.in_ok-packets.packets }) c.requires.well_formed
    (let t = c.args.t.now in
    let m = c.in_ok-m.m in
    let move : IsMove t.packets c.args.end c.args.other c.args.after m = rw c.as_slice.ensures at c.in_ok-m.ensures.planned in
    let free : IsFree t.packets m = rw c.as_slice-2.ensures at c.in_default.ensures.blocked in
    let table : c.in_ok-channels.channels ≡ t.channels = rw c.as_slice-3.ensures at c.in_ok-channels.ensures in
    let now : c.in_ok-packets.packets ≡ moved m t.packets = rw c.as_slice-4.ensures at c.in_ok-packets.ensures in
    moves-to t c.args.end c.args.other c.args.after m c.in_ok-channels.channels c.in_ok-packets.packets move free table now)
