-- Feeds of the stage's channels.
use Rattle.std.proofs.Common.{ℕ, ◌<◌, [], ◌∷◌, arith, refl}
use Rattle.replay_run.specs.chan_replayer.Feed.{IsFeedOver}
use Rattle.sample_designs.specs.Stage.{stage_channels}

pub feed_over : (more a b c d content : ℕ) → more < 4 → content < 256
    → IsFeedOver stage_channels (record { more = more; needs = a ∷ b ∷ c ∷ d ∷ []; contents = content ∷ 0 ∷ [] })
feed_over more a b c d content m l = record { more = m; needs = refl; contents = (l, (omega arith, tt)) }
