use Rattle.std.proofs.Common.{max, ap, ◌∙◌}
use Rattle.vlog_tree.specs.Plain.{plain_expr, plain_target}
use Rattle.vlog_block.specs.Sources.{names_of}
use Rattle.vlog_block.specs.Targets.{target_width}
use Rattle.vlog_driver.specs.Sites.{site_of}
use Rattle.vlog_driver.proofs.Assigning.{assignment_result}
use Rattle.vlog_driver.proofs.assign.assignment.Goals as goal

pub returns : goal.returns
returns c =
    assignment_result (site_of c.args.to.now) (plain_target c.args.target.now) (site_of c.args.from.now) (plain_expr c.args.e.now)
    c.args.line c.set_driver.result c.in_ok-places.places c.in_ok-value.value c.max-w.result
    (record {
      holds = c.in_ok-places.ensures.holds;
      writes = c.in_ok-places.ensures.writes;
      adds = c.in_ok-places.ensures.adds;
      places = c.in_ok-places.ensures.reads;
      count = c.in_ok-places.ensures.count;
      value = c.in_ok-value.ensures.value;
      reads = c.in_ok-value.ensures.reads;
      width = c.max-w.ensures
          ∙ ap (λ n. max n c.own_width-own.result) c.own_target_width.ensures.value
          ∙ ap (λ n. max (target_width (names_of c.args.to.now.scope.now) (plain_target c.args.target.now)) n) c.own_width-own.ensures.value;
    })
    c.set_driver.ensures.line c.set_driver.ensures.always c.set_driver.ensures.acts c.set_driver.ensures.bits
