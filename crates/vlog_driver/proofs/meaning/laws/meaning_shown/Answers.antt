use Rattle.vlog_driver.proofs.MeaningShown as shown
use Rattle.vlog_driver.proofs.meaning.laws.meaning_shown.Goals as goal

pub returns-clause-top_nets : goal.returns-clause-top_nets
returns-clause-top_nets c = shown.top_nets

pub returns-clause-leaf_nets : goal.returns-clause-leaf_nets
returns-clause-leaf_nets c = shown.leaf_nets

pub returns-clause-inputs : goal.returns-clause-inputs
returns-clause-inputs c = shown.inputs

pub returns-clause-numbers_top : goal.returns-clause-numbers_top
returns-clause-numbers_top c = shown.numbers_top

pub returns-clause-numbers_u : goal.returns-clause-numbers_u
returns-clause-numbers_u c = shown.numbers_u

pub returns-clause-numbers_w : goal.returns-clause-numbers_w
returns-clause-numbers_w c = shown.numbers_w

pub returns-clause-output : goal.returns-clause-output
returns-clause-output c = shown.output

pub returns-clause-no_output : goal.returns-clause-no_output
returns-clause-no_output c = shown.no_output

pub returns-clause-input_joined : goal.returns-clause-input_joined
returns-clause-input_joined c = shown.input_joined

pub returns-clause-output_joined : goal.returns-clause-output_joined
returns-clause-output_joined c = shown.output_joined

pub returns-clause-held : goal.returns-clause-held
returns-clause-held c = shown.held

pub returns-clause-not_held : goal.returns-clause-not_held
returns-clause-not_held c = shown.not_held

pub returns-clause-clocked : goal.returns-clause-clocked
returns-clause-clocked c = shown.clocked

pub returns-clause-initial : goal.returns-clause-initial
returns-clause-initial c = shown.initial
