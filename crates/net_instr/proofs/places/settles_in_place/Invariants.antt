use Rattle.std.proofs.Common.{◌≡◌, All, length, take}
use Rattle.net_instr.specs.declared.instr.Instr.{Instr}
use Rattle.net_instr.specs.Machine.{IsInstr}
use Rattle.net_instr.specs.InPlace.{ArePlaces, Follows}
use Rattle.net_instr.proofs.places.settles_in_place.Given as goal

abbrev pub invariant-loop-instr : goal.invariant-loop-instr
invariant-loop-instr l = record {
  places : ArePlaces l.places l.shared;
  long : length l.places ≡ length l.initial.places;
  follows : Follows l.initial.places l.places l.left (take l.instr-index l.code) l.out;
  safe : All (λ (i : Instr). IsInstr i) l.out;
}
