use Rattle.wave_text.proofs.value_lines.+print_id.Given as goal

abbrev pub decreases-print_id : goal.decreases-print_id
decreases-print_id g l = l.n
