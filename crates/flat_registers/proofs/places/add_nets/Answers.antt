use Rattle.std.proofs.Common.{◌+◌, ◌<◌, ◌++◌, length, drop, arith}
use Rattle.flat_registers.specs.Places.{plain_places, told_reg, told_regs}
use Rattle.flat_registers.proofs.Steps.{step_left, net_at, is_at}
use Rattle.flat_registers.proofs.PlaceLaws.{told_split}
use Rattle.flat_registers.proofs.places.add_nets.Goals as goal

pub loop-place-preserved : goal.loop-place-preserved
loop-place-preserved c =
    let names = c.args.names.now in
    let numbers = c.args.initials.now in
    let nets = c.args.nets.now in
    let first = c.args.first in
    let i = c.loop-place.place in
    let long = c.len-place-end.ensures in
    let below = c.loop-place-test.true in
    let l : i < length nets = omega (arith, long, below) in
    let n = net_at nets i in
    let there = is_at nets i l in
    step_left (λ j. told_regs names numbers (first + j) (drop j nets)) (told_reg names numbers (first + i)) nets i n
    (plain_places c.loop-place.out) (plain_places c.add_net.new.out)
    (plain_places c.args.out.now ++ told_regs names numbers first nets) there (c.in_ok-add_net.ensures n)
    (told_split names numbers first nets i n there) c.loop-place.invariant
