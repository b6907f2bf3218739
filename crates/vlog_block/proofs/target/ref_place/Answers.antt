use Rattle.std.proofs.Common.{◌≡◌, ℕ, [], ◌∷◌, ap, ◌∙◌}
use Rattle.std.proofs.lemmas.Result.{IfOk-weaker}
use Rattle.vlog_tree.specs.Plain.{plain_ref, plain_index, plain_last}
use Rattle.vlog_tree.specs.declared.expr.Ref.{back-Ref-index, back-Ref-sel}
use Rattle.net_design.specs.declared.values.Values.{Values}
use Rattle.net_design.specs.Updates as places
use Rattle.net_design.specs.Bits as bits
use Rattle.vlog_block.specs.declared.source.Source.{Source}
use Rattle.vlog_block.specs.Sources.{names_of, source_of}
use Rattle.vlog_block.specs.Value.{first_index, lowest}
use Rattle.vlog_block.specs.Targets.{source_updates, ref_updates}
use Rattle.vlog_block.specs.Written.{source_writes, source_adds}
use Rattle.vlog_block.specs.Naming.{Naming, place_name, source_name}
use Rattle.vlog_block.proofs.target.ref_place.Goals as goal

pub returns-clause-updates : goal.returns-clause-updates
returns-clause-updates c =
    let r = names_of c.args.scope.now in
    let index = plain_index (back-Ref-index c.args.name.now.index) in
    let last = plain_last (back-Ref-sel c.args.name.now.sel) in
    IfOk-weaker c.source_place.result
    (λ p. (x : ℕ) (v : Values) → places.place_updates p x v
    ≡ source_updates r c.in_ok-source.source (first_index r v index) last (lowest r v last) x)
    (λ p. (x : ℕ) (v : Values) → places.place_updates p x v ≡ ref_updates r v (plain_ref c.args.name.now) x)
    (λ p h x v. h x v ∙ ap (λ (s : Source). source_updates r s (first_index r v index) last (lowest r v last) x)
    (c.in_ok-source.ensures.value ∙ ap (λ n. source_of r n) c.as_slice.ensures))
    c.source_place.ensures.updates

pub returns-clause-writes : goal.returns-clause-writes
returns-clause-writes c =
    let r = names_of c.args.scope.now in
    let last = plain_last (back-Ref-sel c.args.name.now.sel) in
    IfOk-weaker c.source_place.result (λ p. (m k : ℕ) → bits.place_writes p m k ≡ source_writes r c.in_ok-source.source last m k)
    (λ p. (m k : ℕ) → bits.place_writes p m k ≡ source_writes r (source_of r c.args.name.now.id.name) last m k)
    (λ p h m k. h m k ∙ ap (λ (s : Source). source_writes r s last m k)
    (c.in_ok-source.ensures.value ∙ ap (λ n. source_of r n) c.as_slice.ensures))
    c.source_place.ensures.writes

pub returns-clause-adds : goal.returns-clause-adds
returns-clause-adds c =
    let r = names_of c.args.scope.now in
    let last = plain_last (back-Ref-sel c.args.name.now.sel) in
    IfOk-weaker c.source_place.result (λ p. (m k : ℕ) → bits.place_adds p m k ≡ source_adds r c.in_ok-source.source last m k)
    (λ p. (m k : ℕ) → bits.place_adds p m k ≡ source_adds r (source_of r c.args.name.now.id.name) last m k)
    (λ p h m k. h m k ∙ ap (λ (s : Source). source_adds r s last m k)
    (c.in_ok-source.ensures.value ∙ ap (λ n. source_of r n) c.as_slice.ensures))
    c.source_place.ensures.adds

pub returns-clause-name : goal.returns-clause-name
returns-clause-name c =
    let r = names_of c.args.scope.now in
    let index = plain_index (back-Ref-index c.args.name.now.index) in
    let last = plain_last (back-Ref-sel c.args.name.now.sel) in
    IfOk-weaker c.source_place.result (λ p. place_name p ≡ source_name c.in_ok-source.source index last)
    (λ p. place_name p ∷ [] ≡ source_name (source_of r c.args.name.now.id.name) index last ∷ [])
    (λ p h. ap (λ (n : Naming). n ∷ []) (h ∙ ap (λ (s : Source). source_name s index last)
    (c.in_ok-source.ensures.value ∙ ap (λ n. source_of r n) c.as_slice.ensures)))
    c.source_place.ensures.name
