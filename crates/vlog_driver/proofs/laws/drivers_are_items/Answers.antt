use Rattle.vlog_driver.proofs.Held.{drivers_do, items_are, conns_are}
use Rattle.vlog_driver.proofs.laws.drivers_are_items.Goals as goal

pub returns-clause-drivers : goal.returns-clause-drivers
returns-clause-drivers c = drivers_do

pub returns-clause-items : goal.returns-clause-items
returns-clause-items c = items_are

pub returns-clause-conns : goal.returns-clause-conns
returns-clause-conns c = conns_are
