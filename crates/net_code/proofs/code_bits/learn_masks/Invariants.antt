use Rattle.std.proofs.Common.{drop}
use Rattle.net_design.specs.Bits.{named}
use Rattle.net_code.proofs.FoundLaws.{LearnsRest}
use Rattle.net_code.proofs.code_bits.learn_masks.Given as goal

abbrev pub invariant-loop-mask : goal.invariant-loop-mask
invariant-loop-mask l = LearnsRest (named l.masks) (named (drop l.mask-index l.masks)) l.initial.known l.known l.initial.fresh l.fresh
