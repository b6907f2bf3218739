use Rattle.std.proofs.Common.{◌≡◌, ℕ, List, ◌++◌, length, drop, IfSome, None, option_copied}
use Rattle.wave_text.specs.Text.{row_lines, text_of}
use Rattle.wave_text.proofs.printing.print_rows.Given as goal

abbrev pub invariant-loop-t : goal.invariant-loop-t
invariant-loop-t g l = (done : List ℕ) × g.P.Page.went l.initial.page l.page done
    × (done ++ text_of (row_lines l.nets l.t (option_copied l.before) (drop l.t l.rows)) ≡ text_of (row_lines l.nets 0 None l.rows))
    × IfSome l.before (λ numbers. length numbers.now ≡ length l.nets)
