use Rattle.vlog_size.proofs.Reaches.{next_gathered}
use Rattle.vlog_size.proofs.evaluated.with_next.Goals as goal

pub returns : goal.returns
returns c = λ P rest all h s.
    next_gathered c.args.so_far.now _ c.args.part.now P rest all h s (c.with_part-parts.ensures P rest all h.parts s.facts)
    c.next_number-number.ensures
