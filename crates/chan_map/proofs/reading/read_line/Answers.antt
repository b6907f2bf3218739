use Rattle.std.proofs.Common.{sym, ◌∙◌}
use Rattle.chan_map.specs.Follow.{entries}
use Rattle.chan_map.proofs.Follows.{lawful_push}
use Rattle.chan_map.proofs.reading.read_line.Goals as goal

pub returns-clause-lawful : goal.returns-clause-lawful
returns-clause-lawful c = lawful_push c.args.said.now c.push.new.self _ c.in_ok-push.ensures.ok c.requires.lawful
    (sym (c.allows.ensures (entries c.args.said.now) c.requires.seen) ∙ c.if-not-allows.false)
    (rw c.in-Some.is at c.in_ok-entry.ensures.named)
