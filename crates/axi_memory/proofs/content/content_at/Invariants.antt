use Rattle.std.proofs.Common.{◌≡◌, drop}
use Rattle.trace_model.proofs.RowLemmas.{first_of}
use Rattle.axi_memory.proofs.content.content_at.Given as goal

abbrev pub invariant-loop-c : goal.invariant-loop-c
invariant-loop-c l = l.rest ≡ drop (first_of l.channels l.c) l.contents
