use Rattle.replay_run.specs.Behind.{none_yet}
use Rattle.replay_run.proofs.feeding.follow_turn.Goals as goal

pub refill-requires-clause-stands : goal.refill-requires-clause-stands
refill-requires-clause-stands c =
    let s = c.requires.stands in
    (s.0, none_yet, c.turn.ensures.behind s.0 s.1 s.2 s.4 s.5, s.3)

pub returns-clause-feed : goal.returns-clause-feed
returns-clause-feed c t are same = c.refill.ensures.feed t none_yet are same
