-- The exit numbers of the program (this project's profile).
use Rattle.std.specs.Prelude.{ℕ}
use Rattle.vidi_answer.specs.declared.status.Status.{Status}
use Rattle.vidi_answer.specs.declared.status.Status.TheVariants.{Done, Usage, ReadFault, WriteFault, Refused, Unstable, Short, Diverged, Memory}

abbrev pub exit_number : Status → ℕ
exit_number Done = 0
exit_number Usage = 1
exit_number (ReadFault word) = 2
exit_number WriteFault = 3
exit_number (Refused word reason) = 4
exit_number (Unstable channel cycle) = 5
exit_number (Short held waits) = 6
exit_number Diverged = 7
exit_number Memory = 8
