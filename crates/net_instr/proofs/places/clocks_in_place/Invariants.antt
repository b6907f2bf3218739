use Rattle.std.proofs.Common.{All, take}
use Rattle.net_instr.specs.declared.instr.Instr.{Instr}
use Rattle.net_instr.specs.Machine.{IsInstr}
use Rattle.net_instr.specs.InPlace.{Follows}
use Rattle.net_instr.proofs.places.clocks_in_place.Given as goal

abbrev pub invariant-loop-instr : goal.invariant-loop-instr
invariant-loop-instr l = record {
  follows : Follows l.places l.places l.left (take l.instr-index l.code) l.out;
  safe : All (λ (i : Instr). IsInstr i) l.out;
}
