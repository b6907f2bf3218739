use Rattle.vlog_driver.proofs.More.{one_more_result}
use Rattle.vlog_driver.proofs.assign.push_driver.Goals as goal

pub returns : goal.returns
returns c = one_more_result c.push.result c.args.driver c.args.out.now c.push.new.self c.push.ensures.ok
