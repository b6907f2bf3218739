use Rattle.std.proofs.Common.{◌<◌, ◌++◌, [], ◌∷◌, length, drop, arith}
use Rattle.flat_parts.specs.vlog_size.declared.scope.ScopeNet.{ScopeNet}
use Rattle.flat_parts.specs.vlog_size.Table.{Named, value_of}
use Rattle.flat_parts.specs.vlog_names.Ports.{is_reg}
use Rattle.flat_registers.proofs.Steps.{step_left, net_at, is_at}
use Rattle.flat_registers.proofs.MarkLaws.{marks_in, marks_split}
use Rattle.flat_registers.proofs.marks.add_marks.Goals as goal

pub loop-place-preserved : goal.loop-place-preserved
loop-place-preserved c =
    let names = c.args.names.now in
    let nets = c.args.nets.now in
    let i = c.loop-place.place in
    let long = c.len-place-end.ensures in
    let below = c.loop-place-test.true in
    let l : i < length nets = omega (arith, long, below) in
    let n = net_at nets i in
    let there = is_at nets i l in
    step_left (λ j. marks_in names (drop j nets)) (λ (x : Named ScopeNet). is_reg (value_of names x.name) ∷ []) nets i n c.loop-place.out
    c.add_mark.new.out (c.args.out.now ++ marks_in names nets) there (c.in_ok-add_mark.ensures n) (marks_split names nets i n there)
    c.loop-place.invariant
