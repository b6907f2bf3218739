use Rattle.std.proofs.Common.{[]}
use Rattle.trace_code.proofs.Skips.{none-read}
use Rattle.trace_code.proofs.skipping.skip_start.Goals as goal

pub returns-else-starts : goal.returns-else-starts
returns-else-starts c = ([], rw c.if-starts.false (none-read c.args.bytes.now))
