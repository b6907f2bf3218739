use Rattle.replay_run.specs.Behind.{none_yet}
use Rattle.replay_run.proofs.feeding.first_feed.Goals as goal

pub returns-clause-feed : goal.returns-clause-feed
returns-clause-feed c t are same = c.refill.ensures.feed t none_yet are same
