-- The text of a replay that is short, computed on examples.
use Rattle.std.proofs.Common.{◌≡◌, ℕ, List, [], ◌∷◌, ◌++◌, codes, refl}
use Rattle.std.specs.Fmt.{digits}
use Rattle.run_model.specs.trace_model.declared.channel.Channel.{Channel}
use Rattle.run_model.specs.trace_model.declared.channel.Dir.TheVariants.{Inward, Outward}
use Rattle.run_model.specs.trace_model.declared.event.Event.{Event}
use Rattle.run_model.specs.trace_model.declared.event.Kind.{Kind}
use Rattle.run_model.specs.trace_model.declared.event.Kind.TheVariants.{Start, End, Reset}
use Rattle.run_model.specs.declared.held.Await.{Await}
use Rattle.run_model.specs.Held.{event}
use Rattle.report_text.specs.Short.{short_lines}
use Rattle.report_text.specs.Text.{newline}

-- `in a` and `out b`, of 8 bits each
abbrev channels : List Channel
channels = record { dir = Inward; name = codes "a"; widths = 8 ∷ [] } ∷ record { dir = Outward; name = codes "b"; widths = 8 ∷ [] } ∷ []

abbrev await : ℕ → ℕ → ℕ → Await
await channel have need = record { channel = channel; have = have; need = need }

-- nothing is held back
one_cycle_short : short_lines [] (event 1 Start 0 ∷ []) 1 channels
    ≡ codes "short after 1 cycles" ++ (newline ++ (codes "waits b start 0" ++ newline))
unfolding digits
one_cycle_short = refl

-- the second start on a is held back, as b never completes
held_on_dead : short_lines (record { event = event 0 Start 1; awaits = await 1 0 1 ∷ [] } ∷ []) (event 1 Start 0 ∷ []) 10 channels
    ≡ codes "short after 10 cycles" ++ (newline ++ (codes "held a start 1" ++ (newline ++ (codes "awaits b have 0 need 1"
    ++ (newline ++ (codes "waits b start 0" ++ newline))))))
unfolding digits
held_on_dead = refl

-- a completion that awaits both channels
held_end : short_lines (record { event = event 1 End 2; awaits = await 0 3 4 ∷ await 1 12 13 ∷ [] } ∷ []) (event 0 End 3 ∷ []) 7 channels
    ≡ codes "short after 7 cycles" ++ (newline ++ (codes "held b end 2" ++ (newline ++ (codes "awaits a have 3 need 4"
    ++ (newline ++ (codes "awaits b have 12 need 13" ++ (newline ++ (codes "waits a end 3" ++ newline))))))))
unfolding digits
held_end = refl

-- a reset is waited for once all of its epoch has come
abbrev reset : ℕ → Event
reset j = record { channel = 0; kind = Reset; index = j; epoch = j }

short_at_reset : short_lines [] (reset 0 ∷ []) 3 channels
    ≡ codes "short after 3 cycles" ++ (newline ++ (codes "waits reset 0" ++ newline))
unfolding digits
short_at_reset = refl

short_in_epoch : short_lines (record { event = reset 1; awaits = await 1 0 1 ∷ [] } ∷ []) [] 7 channels
    ≡ codes "short after 7 cycles" ++ (newline ++ (codes "epoch 1" ++ (newline ++ (codes "held reset 1" ++ (newline
    ++ (codes "awaits b have 0 need 1" ++ newline))))))
unfolding digits
short_in_epoch = refl
