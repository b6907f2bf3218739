use Rattle.vlog_driver.proofs.LatchShown as shown
use Rattle.vlog_driver.proofs.latches.laws.latches_shown.Goals as goal

pub returns-clause-no_else : goal.returns-clause-no_else
returns-clause-no_else c = shown.no_else

pub returns-clause-mended : goal.returns-clause-mended
returns-clause-mended c = shown.mended

pub returns-clause-with_else : goal.returns-clause-with_else
returns-clause-with_else c = shown.with_else

pub returns-clause-other_bit_read : goal.returns-clause-other_bit_read
returns-clause-other_bit_read c = shown.other_bit_read

pub returns-clause-none_written : goal.returns-clause-none_written
returns-clause-none_written c = shown.none_written

pub returns-clause-none_in_range : goal.returns-clause-none_in_range
returns-clause-none_in_range c = shown.none_in_range

pub returns-clause-read_after : goal.returns-clause-read_after
returns-clause-read_after c = shown.read_after

pub returns-clause-two_nets : goal.returns-clause-two_nets
returns-clause-two_nets c = shown.two_nets

pub returns-clause-at_run_time : goal.returns-clause-at_run_time
returns-clause-at_run_time c = shown.at_run_time

pub returns-clause-whole_before : goal.returns-clause-whole_before
returns-clause-whole_before c = shown.whole_before

pub returns-clause-index_read : goal.returns-clause-index_read
returns-clause-index_read c = shown.index_read

pub returns-clause-no_default : goal.returns-clause-no_default
returns-clause-no_default c = shown.no_default

pub returns-clause-with_default : goal.returns-clause-with_default
returns-clause-with_default c = shown.with_default

pub returns-clause-label_read : goal.returns-clause-label_read
returns-clause-label_read c = shown.label_read
