use Rattle.std.proofs.Common.{List, ap, sym, subst, ◌∙◌}
use Rattle.vlog_tree.specs.Plain.{plain_always}
use Rattle.net_design.specs.declared.act.Act.{Act}
use Rattle.net_design.specs.declared.act.Timing.{Timing}
use Rattle.net_design.specs.Updates.{block_updates}
use Rattle.net_design.specs.Bits.{no_bits, block_writes, block_adds, block_open_reads, HasBits}
use Rattle.net_design.specs.Sized.{IsSizedBlock}
use Rattle.vlog_block.specs.Sources.{names_of}
use Rattle.vlog_block.specs.Written.{body_open}
use Rattle.vlog_block.specs.Naming.{code_names}
use Rattle.vlog_block.specs.Extends.{Extends, doing_block, doing_body}
use Rattle.vlog_block.proofs.Extending.{Same, from_none}
use Rattle.vlog_block.proofs.Statements.{sized_made}
use Rattle.vlog_block.proofs.block.block_code.Goals as goal

pub code_of-requires : goal.code_of-requires
code_of-requires c =
    sized_made (doing_body (names_of c.args.scope.now) (plain_always c.args.block.now).body) c.new-acts.result c.push_body.new.out
    c.new-acts.ensures c.in_ok-push_body.ensures

pub returns-clause-updates : goal.returns-clause-updates
returns-clause-updates c =
    let r = names_of c.args.scope.now in
    let b = (plain_always c.args.block.now).body in
    let acts = c.push_body.new.out in
    let same : Same (doing_block acts) (doing_body r b) = from_none (doing_body r b) acts
    (subst (λ (xs : List Act). Extends (doing_body r b) xs acts) c.new-acts.ensures c.in_ok-push_body.ensures) in
    λ t v. ap (λ (xs : List Act). block_updates t xs v) c.in_ok-code.ensures.acts ∙ same.updates t v

pub returns-clause-adds : goal.returns-clause-adds
returns-clause-adds c =
    let r = names_of c.args.scope.now in
    let b = (plain_always c.args.block.now).body in
    let acts = c.push_body.new.out in
    let same : Same (doing_block acts) (doing_body r b) = from_none (doing_body r b) acts
    (subst (λ (xs : List Act). Extends (doing_body r b) xs acts) c.new-acts.ensures c.in_ok-push_body.ensures) in
    λ m k. ap (λ (xs : List Act). block_adds xs m k) c.in_ok-code.ensures.acts ∙ same.adds m k

pub returns-clause-open : goal.returns-clause-open
returns-clause-open c =
    let r = names_of c.args.scope.now in
    let b = (plain_always c.args.block.now).body in
    let acts = c.push_body.new.out in
    let same : Same (doing_block acts) (doing_body r b) = from_none (doing_body r b) acts
    (subst (λ (xs : List Act). Extends (doing_body r b) xs acts) c.new-acts.ensures c.in_ok-push_body.ensures) in
    λ t known m k. ap (λ (xs : List Act). block_open_reads t xs known m k) c.in_ok-code.ensures.acts ∙ same.reads t known m k

pub returns-clause-writes : goal.returns-clause-writes
returns-clause-writes c =
    let r = names_of c.args.scope.now in
    let b = (plain_always c.args.block.now).body in
    let acts = c.push_body.new.out in
    let same : Same (doing_block acts) (doing_body r b) = from_none (doing_body r b) acts
    (subst (λ (xs : List Act). Extends (doing_body r b) xs acts) c.new-acts.ensures c.in_ok-push_body.ensures) in
    λ m k. c.in_ok-code.ensures.bits.writes m k ∙ ap (λ (xs : List Act). block_writes xs m k) c.in_ok-code.ensures.acts ∙ same.writes m k

pub returns-clause-reads : goal.returns-clause-reads
returns-clause-reads c =
    let r = names_of c.args.scope.now in
    let b = (plain_always c.args.block.now).body in
    let acts = c.push_body.new.out in
    let time = c.timing_of.result in
    let same : Same (doing_block acts) (doing_body r b) = from_none (doing_body r b) acts
    (subst (λ (xs : List Act). Extends (doing_body r b) xs acts) c.new-acts.ensures c.in_ok-push_body.ensures) in
    λ m k. c.in_ok-code.ensures.bits.reads m k
    ∙ ap (λ (xs : List Act). block_open_reads time xs no_bits m k) c.in_ok-code.ensures.acts ∙ same.reads time no_bits m k
    ∙ ap (λ (t : Timing). body_open r t b no_bits m k) c.timing_of.ensures

pub returns-clause-names : goal.returns-clause-names
returns-clause-names c =
    let r = names_of c.args.scope.now in
    let b = (plain_always c.args.block.now).body in
    let acts = c.push_body.new.out in
    let same : Same (doing_block acts) (doing_body r b) = from_none (doing_body r b) acts
    (subst (λ (xs : List Act). Extends (doing_body r b) xs acts) c.new-acts.ensures c.in_ok-push_body.ensures) in
    ap (λ (xs : List Act). code_names xs) c.in_ok-code.ensures.acts ∙ same.names

pub returns-clause-bits : goal.returns-clause-bits
returns-clause-bits c =
    subst (λ (t : Timing). HasBits t c.in_ok-code.code) c.timing_of.ensures c.in_ok-code.ensures.bits

pub returns-clause-sized : goal.returns-clause-sized
returns-clause-sized c =
    subst (λ (xs : List Act). IsSizedBlock xs) (sym c.in_ok-code.ensures.acts)
    (sized_made (doing_body (names_of c.args.scope.now) (plain_always c.args.block.now).body) c.new-acts.result c.push_body.new.out
    c.new-acts.ensures c.in_ok-push_body.ensures)
