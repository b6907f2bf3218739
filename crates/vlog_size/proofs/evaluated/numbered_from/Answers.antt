use Rattle.vlog_size.proofs.Reaches.{own_at}
use Rattle.vlog_size.proofs.evaluated.numbered_from.Goals as goal

pub returns : goal.returns
returns c = λ E s. record {
  facts = s.facts;
  number = c.number_from-number.ensures E s.facts (own_at c.args.found.now E s);
}
