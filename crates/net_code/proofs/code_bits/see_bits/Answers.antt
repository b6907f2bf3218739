use Rattle.std.proofs.Common.{ap, ◌∙◌}
use Rattle.net_design.specs.Bits.{writes, adds, open_reads}
use Rattle.net_code.proofs.RowBits.{branch_writes, branch_adds, branch_open}
use Rattle.net_code.proofs.code_bits.see_bits.Goals as goal

pub returns-clause-writes : goal.returns-clause-writes
returns-clause-writes c = λ a h m k. ap (λ x. writes x m k) h ∙ branch_writes c.args.guards.now c.args.otherwise.now m k

pub returns-clause-adds : goal.returns-clause-adds
returns-clause-adds c = λ a h m k. ap (λ x. adds x m k) h ∙ branch_adds c.args.guards.now c.args.otherwise.now m k

pub returns-clause-reads : goal.returns-clause-reads
returns-clause-reads c = λ t a h s m k. ap (λ x. open_reads t x s m k) h ∙ branch_open t c.args.guards.now c.args.otherwise.now s m k
