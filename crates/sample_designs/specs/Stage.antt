-- The channels of the stages: an inward channel a and an outward channel b of 8 bits each; and of the design whose valid flickers: an
-- outward channel b without content.
use Rattle.std.specs.Prelude.{List, [], ◌∷◌}
use Rattle.run_model.specs.trace_model.declared.channel.Channel.{Channel}
use Rattle.run_model.specs.trace_model.declared.channel.Dir.TheVariants.{Inward, Outward}

abbrev pub stage_channels : List Channel
stage_channels = record { dir = Inward; name = 97 ∷ []; widths = 8 ∷ [] } ∷ record { dir = Outward; name = 98 ∷ []; widths = 8 ∷ [] } ∷ []

abbrev pub flick_channels : List Channel
flick_channels = record { dir = Outward; name = 98 ∷ []; widths = [] } ∷ []
