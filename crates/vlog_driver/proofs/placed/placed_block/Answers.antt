use Rattle.vlog_tree.specs.Plain.{plain_always}
use Rattle.vlog_block.specs.Sources.{names_of}
use Rattle.vlog_block.specs.Updates.{timing_of, body_updates}
use Rattle.vlog_block.specs.Written.{always_writes, always_adds, always_reads}
use Rattle.vlog_block.specs.Naming.{always_names}
use Rattle.vlog_driver.specs.Sites.{site_of}
use Rattle.vlog_driver.proofs.Namings.{names_placed}
use Rattle.vlog_driver.proofs.Placing.{code_updates, code_holds, code_writes, code_adds, code_reads, code_bits}
use Rattle.vlog_driver.proofs.placed.placed_block.Goals as goal

pub returns-clause-updates : goal.returns-clause-updates
returns-clause-updates c =
    let site = c.args.site.now in
    code_updates site.base.net site.base.word c.in_ok-code.code c.move_code.new.code
    (λ t v. body_updates (names_of site.scope.now) t (plain_always c.args.block.now).body v) c.move_code.ensures
    c.in_ok-code.ensures.updates

pub returns-clause-holds : goal.returns-clause-holds
returns-clause-holds c =
    let site = c.args.site.now in
    code_holds site.base.net site.base.word c.in_ok-code.code c.move_code.new.code
    (λ t v. body_updates (names_of site.scope.now) t (plain_always c.args.block.now).body v) c.move_code.ensures
    c.in_ok-code.ensures.updates

pub returns-clause-writes : goal.returns-clause-writes
returns-clause-writes c =
    let site = c.args.site.now in
    code_writes site.base.net site.base.word c.in_ok-code.code c.move_code.new.code
    (λ m k. always_writes (names_of site.scope.now) (plain_always c.args.block.now) m k) c.move_code.ensures
    c.in_ok-code.ensures.writes

pub returns-clause-adds : goal.returns-clause-adds
returns-clause-adds c =
    let site = c.args.site.now in
    code_adds site.base.net site.base.word c.in_ok-code.code c.move_code.new.code
    (λ m k. always_adds (names_of site.scope.now) (plain_always c.args.block.now) m k) c.move_code.ensures
    c.in_ok-code.ensures.surely

pub returns-clause-reads : goal.returns-clause-reads
returns-clause-reads c =
    let site = c.args.site.now in
    code_reads site.base.net site.base.word c.in_ok-code.code c.move_code.new.code
    (λ m k. always_reads (names_of site.scope.now) (plain_always c.args.block.now) m k) c.move_code.ensures
    c.in_ok-code.ensures.reads

pub returns-clause-bits : goal.returns-clause-bits
returns-clause-bits c =
    let site = c.args.site.now in
    code_bits site.base.net site.base.word (timing_of (plain_always c.args.block.now).event) c.in_ok-code.code c.move_code.new.code
    c.move_code.ensures c.in_ok-code.ensures.bits

pub returns-clause-names : goal.returns-clause-names
returns-clause-names c =
    let site = c.args.site.now in
    names_placed (site_of site) c.in_ok-code.code c.move_code.new.code
    (always_names (names_of site.scope.now) (plain_always c.args.block.now))
    c.move_code.ensures c.in_ok-code.ensures.names
