-- A script fits channels: what a script that was read keeps (this project's profile).
use Rattle.std.specs.Prelude.{◌≡◌, ℕ, ◌≤◌, ◌<◌, List, [], Some, length, slice_get, slice_index_or}
use Rattle.run_model.specs.trace_model.declared.channel.Channel.{Channel}
use Rattle.run_model.specs.trace_model.declared.channel.Dir.TheVariants.{Inward, Outward}
use Rattle.run_model.specs.trace_model.Packet.{Fit}
use Rattle.run_model.specs.trace_model.declared.packet.TheConstants.{MOST_CYCLES}
use Rattle.env_script.specs.declared.script.Step.{Step}
use Rattle.env_script.specs.declared.script.Step.TheVariants.{Send, Take, TakeAll, Wait, After}
use Rattle.env_script.specs.declared.script.Script.{Script}
use Rattle.env_script.specs.Resets.{AreTimes}

-- the steps of channel c
abbrev pub steps_of : Script → ℕ → List Step
steps_of script c = slice_index_or script.steps c []

-- a content is sent on an inward channel and fits its ports; an outward channel takes; a channel that is waited for is there
abbrev pub StepFits : List Channel → Channel → Step → Type 0
StepFits channels channel (Send content) = (channel.dir ≡ Inward) × Fit channel.widths content
StepFits channels channel (Take count) = (channel.dir ≡ Outward) × (1 ≤ count)
StepFits channels channel TakeAll = channel.dir ≡ Outward
StepFits channels channel (Wait cycles) = (1 ≤ cycles) × (cycles ≤ MOST_CYCLES)
StepFits channels channel (After other count) = (other < length channels) × (1 ≤ count)

-- there is a list of steps for each channel, and each step of it fits; the cycles are 1 to the most; the times
-- of the resets increase from 1 on
pub record FitsChannels (channels : List Channel) (script : Script) : Type 0 where
  pub lists : length script.steps ≡ length channels
  pub some : 1 ≤ script.cycles
  pub few : script.cycles ≤ MOST_CYCLES
  pub fits : (c : ℕ) (channel : Channel) → slice_get channels c ≡ Some channel
      → (j : ℕ) (step : Step) → slice_get (steps_of script c) j ≡ Some step → StepFits channels channel step
  pub times : AreTimes script.resets
