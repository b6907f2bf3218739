use Rattle.trace_edit.proofs.OneAnswer.{no-channel-no-end}
use Rattle.trace_edit.proofs.laws.no_channel_no_end.Goals as goal

pub returns : goal.returns
returns c = no-channel-no-end
