use Rattle.std.proofs.Common.{◌∙◌, ap}
use Rattle.vlog_tree.proofs.vidi_bits_lemmas.Bools.{left_of, right_of}
use Rattle.vlog_size.specs.Operators.{kind_of}
use Rattle.vlog_size.specs.Size.{of_binary}
use Rattle.vlog_size.specs.Facts.{operated_width}
use Rattle.vlog_size.specs.declared.operators.Kind.{Kind}
use Rattle.vlog_size.proofs.Reaches.{lawfully, binary_made, binary_same, left_facts, right_facts}
use Rattle.vlog_size.proofs.evaluated.binary_at.Goals as goal

pub returns : goal.returns
returns c = λ A B s.
    let o = c.args.both.now in
    let left = left_facts (kind_of c.args.op) c.args.wide o A B s in
    let right = right_facts (kind_of c.args.op) c.args.wide o A B s in
    c.reached.ensures (of_binary c.args.op A B) (c.binary_facts-facts.ensures A B left right)
    (λ h k. binary_same (kind_of c.args.op) c.args.op c.args.wide o A B c.binary_of-n.result left right s
    (c.binary_of-n.ensures ∙ ap (lawfully (binary_made c.args.op o.left.value o.right.value))
    (c.operated_width-width.ensures
    ∙ ap (λ (kind : Kind). operated_width kind c.args.wide o.left.facts.width o.right.facts.width) c.kind_of-kind.ensures))
    (left_of A.constant B.constant h) (right_of A.constant B.constant h) k)
