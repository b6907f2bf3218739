use Rattle.std.proofs.Common.{ℕ, ◌<◌, ◌^◌, slice_index}
use Rattle.net_design.specs.Settled.{net_width}
use Rattle.net_reference.proofs.reference.fit_nets.Given as goal

abbrev pub invariant-loop-m : goal.invariant-loop-m
invariant-loop-m l = (k : ℕ) → k < l.m → slice_index l.numbers k < 2 ^ net_width l.design k
