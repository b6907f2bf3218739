use Rattle.std.proofs.Common.{◌&&◌}
use Rattle.vlog_tree.proofs.vidi_bits_lemmas.Bools.{left_of, right_of}
use Rattle.vlog_size.specs.Size.{of_choice}
use Rattle.vlog_size.proofs.Reaches.{choice_same}
use Rattle.vlog_size.proofs.evaluated.choice_at.Goals as goal

pub returns : goal.returns
returns c = λ C A B r s.
    c.reached.ensures (of_choice C A B)
    (c.choice_facts-facts.ensures C A B (c.numbered_from-first.ensures C r) s.0.facts s.1.facts)
    (λ h k. choice_same c.args.wide c.args.condition.now c.args.both.now C A B c.chosen-n.result r s c.chosen-n.ensures
    (left_of A.constant B.constant (right_of C.constant (A.constant && B.constant) h))
    (right_of A.constant B.constant (right_of C.constant (A.constant && B.constant) h)) k)
