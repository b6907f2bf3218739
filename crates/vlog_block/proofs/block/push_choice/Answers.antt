use Rattle.std.proofs.Common.{sym, ◌∙◌}
use Rattle.std.proofs.lemmas.Result.{on_ok_weaker}
use Rattle.vlog_tree.specs.Plain.{plain_expr, plain_arms}
use Rattle.vlog_block.specs.Sources.{names_of}
use Rattle.vlog_block.proofs.Statements.{case_made, unlabelled_made}
use Rattle.vlog_block.proofs.block.push_choice.Goals as goal

pub push_branch-requires-clause-guards : goal.push_branch-requires-clause-guards
push_branch-requires-clause-guards c = c.requires.guards.sized tt

pub push_branch-requires-clause-otherwise : goal.push_branch-requires-clause-otherwise
push_branch-requires-clause-otherwise c = c.requires.otherwise.sized tt

pub push_branch-requires-2-clause-guards : goal.push_branch-requires-2-clause-guards
push_branch-requires-2-clause-guards c = c.requires.guards.sized tt

pub push_branch-requires-2-clause-otherwise : goal.push_branch-requires-2-clause-otherwise
push_branch-requires-2-clause-otherwise c = c.requires.otherwise.sized tt

pub returns-then-has_label : goal.returns-then-has_label
returns-then-has_label c =
    on_ok_weaker c.push_branch.result
    (λ x. case_made (names_of c.args.scope.now) (plain_expr c.args.subject.now) (plain_arms c.args.arms.now) c.args.guards
    c.args.otherwise c.args.out.now c.push_branch.new.out c.requires.guards c.requires.otherwise
    (sym c.has_label.ensures ∙ c.if-has_label.true) x) c.push_branch.ensures

pub returns : goal.returns
returns c =
    on_ok_weaker c.push_branch-2.result
    (λ x. unlabelled_made (names_of c.args.scope.now) (plain_expr c.args.subject.now) (plain_arms c.args.arms.now) c.args.guards
    c.args.otherwise c.args.out.now c.push_read.new.out c.push_branch-2.new.out c.requires.guards c.requires.otherwise
    (sym c.has_label.ensures ∙ c.if-has_label.false) c.in_ok-push_read.ensures x) c.push_branch-2.ensures
