use Rattle.std.proofs.Common.{◌≡◌, ℕ, ap, ◌∙◌}
use Rattle.std.proofs.lemmas.Result.{IfOk-weaker}
use Rattle.vlog_tree.specs.Plain.{plain_ref, plain_index, plain_last}
use Rattle.vlog_tree.specs.declared.expr.Ref.{back-Ref-index, back-Ref-sel}
use Rattle.net_design.specs.Bits as bits
use Rattle.vlog_block.specs.declared.source.Source.{Source}
use Rattle.vlog_block.specs.Sources.{names_of, source_of}
use Rattle.vlog_block.specs.Bits.{source_reads, ref_reads, index_reads, last_reads}
use Rattle.vlog_block.proofs.bind.+bind.Goals as goal

pub bound_ref-returns-clause-reads : goal.bound_ref-returns-clause-reads
bound_ref-returns-clause-reads t c =
    let r = names_of c.args.scope.now in
    let index = plain_index (back-Ref-index c.args.name.now.index) in
    let last = plain_last (back-Ref-sel c.args.name.now.sel) in
    IfOk-weaker c.bound_source.result
    (λ x. (m k : ℕ) → bits.reads x.value m k
    ≡ source_reads r c.in_ok-source.source index last (index_reads r index m k) (last_reads r last m k) m k)
    (λ x. (m k : ℕ) → bits.reads x.value m k ≡ ref_reads r (plain_ref c.args.name.now) m k)
    (λ x h m k. h m k ∙ ap (λ (s : Source). source_reads r s index last (index_reads r index m k) (last_reads r last m k) m k)
    (c.in_ok-source.ensures.value ∙ ap (λ n. source_of r n) c.as_slice.ensures))
    c.bound_source.ensures.reads
