use Rattle.vlog_tree.specs.Plain.{plain_expr}
use Rattle.vlog_block.specs.Sources.{names_of}
use Rattle.vlog_block.specs.Value.{value}
use Rattle.vlog_block.specs.Bits.{reads}
use Rattle.vlog_driver.proofs.Placing.{value_placed, reads_placed}
use Rattle.vlog_driver.proofs.placed.placed_value.Goals as goal

pub returns-clause-value : goal.returns-clause-value
returns-clause-value c =
    let site = c.args.site.now in
    value_placed site.base.net site.base.word c.in_ok-code.code c.move_expression.new.e
    (λ v. value (names_of site.scope.now) v (plain_expr c.args.e.now) c.args.w) c.move_expression.ensures c.in_ok-code.ensures.value

pub returns-clause-reads : goal.returns-clause-reads
returns-clause-reads c =
    let site = c.args.site.now in
    reads_placed site.base.net site.base.word c.in_ok-code.code c.move_expression.new.e
    (λ m k. reads (names_of site.scope.now) (plain_expr c.args.e.now) m k) c.move_expression.ensures c.in_ok-code.ensures.reads
