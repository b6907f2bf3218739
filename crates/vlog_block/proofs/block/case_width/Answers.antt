use Rattle.std.proofs.Common.{ap, ◌∙◌}
use Rattle.vlog_tree.specs.Plain.{plain_expr, plain_arms}
use Rattle.vlog_block.specs.Sources.{names_of}
use Rattle.vlog_block.specs.Updates.{arms_widest}
use Rattle.vlog_block.proofs.Statements.{subject_narrow, arms_narrow, width_fits}
use Rattle.vlog_block.proofs.block.case_width.Goals as goal

pub returns-clause-value : goal.returns-clause-value
returns-clause-value c =
    c.arms_widest.ensures
    ∙ ap (λ w. arms_widest (names_of c.args.scope.now) (plain_arms c.args.arms.now) w) c.own_width-own.ensures

pub returns-clause-subject : goal.returns-clause-subject
returns-clause-subject c =
    subject_narrow c.args.scope.now (plain_expr c.args.subject.now) (plain_arms c.args.arms.now) c.arms_widest.result
    (returns-clause-value c) c.requires.subject c.requires.arms

pub returns-clause-arms : goal.returns-clause-arms
returns-clause-arms c =
    arms_narrow c.args.scope.now (plain_expr c.args.subject.now) (plain_arms c.args.arms.now) c.arms_widest.result
    (returns-clause-value c) c.requires.subject c.requires.arms

pub returns-clause-width : goal.returns-clause-width
returns-clause-width c =
    width_fits c.args.scope.now (plain_expr c.args.subject.now) (plain_arms c.args.arms.now) c.arms_widest.result
    (returns-clause-value c) c.requires.subject c.requires.arms
