use Rattle.std.proofs.Common.{◌≡◌, ◌++◌, take, map}
use Rattle.flat_parts.specs.Nets.{net_of}
use Rattle.flat_layout.proofs.net.add_nets.Given as goal

abbrev pub invariant-loop-place : goal.invariant-loop-place
invariant-loop-place l = l.nets ≡ l.initial.nets ++ map (net_of l.number) (take l.place l.list)
