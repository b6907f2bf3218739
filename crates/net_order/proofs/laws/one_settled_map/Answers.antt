use Rattle.net_order.proofs.OneMap.{has_one_map}
use Rattle.net_order.proofs.laws.one_settled_map.Goals as goal

pub returns : goal.returns
returns c = λ d order law o. has_one_map d law order o
