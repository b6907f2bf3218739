use Rattle.net_order.proofs.WriterLaws.{listed_more}
use Rattle.net_order.proofs.writers.push_writer.Goals as goal

pub returns-clause-listed : goal.returns-clause-listed
returns-clause-listed c = λ m j k.
    listed_more c.args.writers.now.items c.args.net c.args.writer c.index_mut.result.now c.push.new.self c.requires
    c.index_mut.ensures.value
    c.in_ok-push.ensures.ok m j k
