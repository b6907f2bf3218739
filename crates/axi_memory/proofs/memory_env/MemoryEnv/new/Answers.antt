use Rattle.std.proofs.Common.{◌≡◌, None, Some, sym, ◌∙◌}
use Rattle.axi_memory.proofs.Bound.{are-served}
use Rattle.axi_memory.proofs.Kept.{offers-as-kept}
use Rattle.axi_memory.proofs.Lasting.{memory-is-lasting}
use Rattle.axi_memory.specs.Stands.{served}
use Rattle.axi_memory.proofs.memory_env.MemoryEnv.new.Goals as goal

pub invariant_of-result-clause-wired : goal.invariant_of-result-clause-wired
invariant_of-result-clause-wired c =
    are-served c.requires.bound.0 c.args.channels.now c.args.axi.now c.in-Some.ports c.requires.table c.requires.bound.1 c.requires.whole
    (sym c.ports_of.ensures ∙ c.in-Some.is)

pub invariant_of-result-clause-kept : goal.invariant_of-result-clause-kept
invariant_of-result-clause-kept c = offers-as-kept (served c.args.channels.now c.in-Some.ports)

pub invariant_of-result-clause-lasting : goal.invariant_of-result-clause-lasting
invariant_of-result-clause-lasting c = memory-is-lasting c.args.channels.now c.in-Some.ports
    (are-served c.requires.bound.0 c.args.channels.now c.args.axi.now c.in-Some.ports c.requires.table c.requires.bound.1 c.requires.whole
    (sym c.ports_of.ensures ∙ c.in-Some.is))

pub invariant_of-result-clause-writes : goal.invariant_of-result-clause-writes
invariant_of-result-clause-writes c = λ t at. absurd (let z : None ≡ Some t = at in cc)

pub invariant_of-result-clause-reads : goal.invariant_of-result-clause-reads
invariant_of-result-clause-reads c = λ t at. absurd (let z : None ≡ Some t = at in cc)
