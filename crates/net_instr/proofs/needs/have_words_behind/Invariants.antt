use Rattle.std.proofs.Common.{All, take}
use Rattle.net_instr.specs.declared.instr.Instr.{Instr}
use Rattle.net_instr.specs.Needs.{HasWordsBehind}
use Rattle.net_instr.proofs.needs.have_words_behind.Given as goal

abbrev pub invariant-loop-instr : goal.invariant-loop-instr
invariant-loop-instr l = All (λ (i : Instr). HasWordsBehind l.places i) (take l.instr-index l.code)
