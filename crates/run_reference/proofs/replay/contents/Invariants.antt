use Rattle.std.proofs.Common.{◌≡◌, ◌++◌, drop}
use Rattle.run_model.specs.trace_model.declared.event.Kind.TheVariants.{Start}
use Rattle.run_model.specs.Building.{joined}
use Rattle.run_reference.specs.Feed.{content_in, covered_place}
use Rattle.run_reference.proofs.replay.contents.Given as goal

abbrev pub invariant-loop-c : goal.invariant-loop-c
invariant-loop-c l =
    l.out ++ joined (λ k. content_in l.channels l.packets k (covered_place l.channels l.packets l.rows Start k)) l.c (drop l.c l.channels)
    ≡ joined (λ k. content_in l.channels l.packets k (covered_place l.channels l.packets l.rows Start k)) 0 l.channels
