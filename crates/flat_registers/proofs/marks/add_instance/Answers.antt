use Rattle.std.proofs.Common.{◌≡◌, ◌++◌, ◌∙◌, OnOk, subst}
use Rattle.flat_parts.proofs.vidi_bits_lemmas.Lists.{some_same}
use Rattle.flat_parts.specs.vlog_elab.Plain.{plain_instance}
use Rattle.flat_registers.proofs.MarkLaws.{marks_alike}
use Rattle.flat_registers.proofs.marks.add_instance.Goals as goal

pub returns : goal.returns
returns c =
    subst (λ z. OnOk c.add_marks.result (c.add_marks.new.out ≡ c.args.out.now ++ z))
    (marks_alike (plain_instance c.args.instance.now) c.in-Some.names.now (some_same _ _ (c.in-Some.ensures ∙ c.requires)))
    c.add_marks.ensures
