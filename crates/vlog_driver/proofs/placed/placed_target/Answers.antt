use Rattle.vlog_tree.specs.Plain.{plain_target}
use Rattle.vlog_block.specs.Sources.{names_of}
use Rattle.vlog_block.specs.Targets.{target_updates}
use Rattle.vlog_block.specs.Written.{target_writes, target_adds, target_reads}
use Rattle.vlog_block.specs.Naming.{target_count}
use Rattle.vlog_driver.specs.Sites.{site_of}
use Rattle.vlog_driver.proofs.Namings.{count_placed}
use Rattle.vlog_driver.proofs.Placing.{set_holds, target_writes_placed, target_adds_placed, target_reads_placed}
use Rattle.vlog_driver.proofs.placed.placed_target.Goals as goal

pub returns-clause-holds : goal.returns-clause-holds
returns-clause-holds c =
    let site = c.args.site.now in
    set_holds site.base.net site.base.word c.in_ok-places.places c.move_target.new.target
    (λ v x. target_updates (names_of site.scope.now) v (plain_target c.args.target.now) x) c.move_target.ensures
    c.in_ok-places.ensures.updates

pub returns-clause-writes : goal.returns-clause-writes
returns-clause-writes c =
    let site = c.args.site.now in
    target_writes_placed site.base.net site.base.word c.in_ok-places.places c.move_target.new.target
    (λ m k. target_writes (names_of site.scope.now) (plain_target c.args.target.now) m k) c.move_target.ensures
    c.in_ok-places.ensures.writes

pub returns-clause-adds : goal.returns-clause-adds
returns-clause-adds c =
    let site = c.args.site.now in
    target_adds_placed site.base.net site.base.word c.in_ok-places.places c.move_target.new.target
    (λ m k. target_adds (names_of site.scope.now) (plain_target c.args.target.now) m k) c.move_target.ensures
    c.in_ok-places.ensures.adds

pub returns-clause-reads : goal.returns-clause-reads
returns-clause-reads c =
    let site = c.args.site.now in
    target_reads_placed site.base.net site.base.word c.in_ok-places.places c.move_target.new.target
    (λ m k. target_reads (names_of site.scope.now) (plain_target c.args.target.now) m k) c.move_target.ensures
    c.in_ok-places.ensures.reads

pub returns-clause-count : goal.returns-clause-count
returns-clause-count c =
    let site = c.args.site.now in
    count_placed (site_of site) c.in_ok-places.places c.move_target.new.target
    (λ m k. target_count (names_of site.scope.now) (plain_target c.args.target.now) m k) c.move_target.ensures
    c.in_ok-places.ensures.count
