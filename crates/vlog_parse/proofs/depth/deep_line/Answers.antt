use Rattle.std.proofs.Common.{sym, ◌∙◌, arith}
use Rattle.std.proofs.lemmas.Bool.{false≢true}
use Rattle.vlog_parse.proofs.DepthLemmas.{counts_none, counts_on, deep_answer}
use Rattle.vlog_parse.proofs.depth.deep_line.Goals as goal

pub loop-token-init : goal.loop-token-init
loop-token-init c = counts_none

pub returns-then-not-count-clause-found : goal.returns-then-not-count-clause-found
returns-then-not-count-clause-found c =
    let answer = deep_answer c.loop-token.limits.depth c.loop-token.limits.run c.loop-token.limits.elses c.count.new.self.depth
    c.args.tokens.now c.loop-token.token-index c.token-item.result
    (omega arith) c.token-item.is c.loop-token.invariant c.count.ensures.depth
    (λ w. false≢true (sym c.if-not-count.true ∙ c.count.ensures.within.1 w)) in
    answer.found

pub returns-then-not-count-clause-none : goal.returns-then-not-count-clause-none
returns-then-not-count-clause-none c =
    let answer = deep_answer c.loop-token.limits.depth c.loop-token.limits.run c.loop-token.limits.elses c.count.new.self.depth
    c.args.tokens.now c.loop-token.token-index c.token-item.result
    (omega arith) c.token-item.is c.loop-token.invariant c.count.ensures.depth
    (λ w. false≢true (sym c.if-not-count.true ∙ c.count.ensures.within.1 w)) in
    answer.none

pub loop-token-preserved : goal.loop-token-preserved
loop-token-preserved c =
    counts_on c.loop-token.limits.depth c.loop-token.limits.run c.loop-token.limits.elses c.count.new.self.depth c.count.new.self.run
    c.count.new.self.elses
    c.args.tokens.now c.loop-token.token-index c.token-item.result (omega arith) c.token-item.is c.loop-token.invariant
    c.count.ensures.depth c.count.ensures.run c.count.ensures.elses (c.count.ensures.within.0 c.if-not-count.false)
