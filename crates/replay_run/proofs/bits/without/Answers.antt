use Rattle.std.proofs.Common.{◌-◌, ◌^◌}
use Rattle.std.proofs.lemmas.Nat.{and_le_l}
use Rattle.run_stage.proofs.chan_replayer_lemmas.Masks.{has-without}
use Rattle.replay_run.proofs.bits.without.Goals as goal

pub returns : goal.returns
returns c = record {
  each = λ k. has-without c.args.mask c.args.others k c.ranges.mask.fits c.ranges.others.fits;
  most = and_le_l c.args.mask (2 ^ 128 - 1 - c.args.others);
}
