use Rattle.vidi_laws.proofs.Headline.{printed-keeps}
use Rattle.vidi_laws.proofs.runs.printed_run_keeps_contents.Goals as goal

pub returns : goal.returns
returns c = printed-keeps
