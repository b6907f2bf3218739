use Rattle.std.proofs.Common.{◌≡◌, ◌++◌, map, drop}
use Rattle.net_design.specs.declared.act.Code.{Code}
use Rattle.net_code.specs.Targets.{block_targets, nets_named, rooms_named}
use Rattle.net_drive.proofs.blocks.add_blocks.Given as goal

abbrev pub invariant-loop-code : goal.invariant-loop-code
invariant-loop-code l = record {
  nets : l.named.nets ++ map (λ (c : Code). nets_named (block_targets c.acts)) (drop l.code-index l.blocks)
      ≡ l.initial.named.nets ++ map (λ (c : Code). nets_named (block_targets c.acts)) l.blocks;
  rooms : l.named.rooms ++ map (λ (c : Code). rooms_named (block_targets c.acts)) (drop l.code-index l.blocks)
      ≡ l.initial.named.rooms ++ map (λ (c : Code). rooms_named (block_targets c.acts)) l.blocks;
}
