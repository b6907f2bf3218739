use Rattle.net_instr.proofs.Safe.{block_safe}
use Rattle.net_instr.proofs.Whole.{safe_reverse}
use Rattle.net_instr.specs.Statements.{block_code}
use Rattle.net_instr.proofs.laws.code_is_safe.Goals as goal

pub returns : goal.returns
returns c = λ widths words o acts narrow h. safe_reverse (block_code widths words o acts) (block_safe widths words narrow o acts h)
