use Rattle.std.proofs.Common.{◌∙◌}
use Rattle.trace_code_checks.proofs.Steps.{has-more, step-needs, stepped}
use Rattle.trace_code_checks.proofs.walk_tests.passes.Goals as goal

pub has_content-held-requires-clause-stands : goal.has_content-held-requires-clause-stands
has_content-held-requires-clause-stands c =
    has-more c.args.cursor.now c.args.t.now c.at_end.result c.args.channel (c.requires.over.0 ∙ c.in-Start.is, c.requires.over.1)
    c.requires.stands c.if-at_end.false c.at_end.ensures

pub epoch-requires : goal.epoch-requires
epoch-requires c = step-needs c.args.cursor.now c.args.t.now c.at_end.result c.requires.stands c.if-at_end.false c.at_end.ensures

pub step-requires : goal.step-requires
step-requires c = step-needs c.args.cursor.now c.args.t.now c.at_end.result c.requires.stands c.if-at_end.false c.at_end.ensures

pub returns-clause-stands : goal.returns-clause-stands
returns-clause-stands c =
    stepped c.args.cursor.now c.step.new.self c.args.t.now c.at_end.result c.step.ensures.stands c.requires.stands c.if-at_end.false
    c.at_end.ensures
