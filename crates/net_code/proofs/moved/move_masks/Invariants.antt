use Rattle.std.proofs.Common.{◌≡◌, ◌^◌, ◌<◌, ◌++◌, All, map, take, drop}
use Rattle.net_design.specs.declared.act.Mask.{Mask}
use Rattle.net_code.specs.Moved.{moved_mask}
use Rattle.net_code.proofs.moved.move_masks.Given as goal

abbrev pub invariant-loop-mask : goal.invariant-loop-mask
invariant-loop-mask l = record {
  same : l.mask-items ≡ map (moved_mask l.base.net l.base.word) (take l.mask-index l.fn.masks) ++ drop l.mask-index l.fn.masks;
  near : All (λ (x : Mask). x.net < 2 ^ 32) (drop l.mask-index l.mask-items);
}
