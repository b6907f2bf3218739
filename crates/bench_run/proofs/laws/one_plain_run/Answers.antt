use Rattle.bench_run.proofs.PlainLaws.{one-plain_run}
use Rattle.bench_run.proofs.laws.one_plain_run.Goals as goal

pub returns : goal.returns
returns c = one-plain_run
