use Rattle.bench_run.proofs.PlainLaws.{plain-keeps}
use Rattle.bench_run.proofs.laws.plain_run_keeps_contents.Goals as goal

pub returns : goal.returns
returns c = plain-keeps
