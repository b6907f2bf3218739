use Rattle.std.proofs.Common.{◌≡◌, List, map, ap, ◌∙◌}
use Rattle.vlog_tree.specs.Plain.{plain_module}
use Rattle.vlog_tree.specs.declared.module.Module.{Module}
use Rattle.vlog_hierarchy.specs.declared.nodes.Node as node
use Rattle.vlog_hierarchy.specs.Outlines.{Outline, outlines_of}
use Rattle.vlog_hierarchy.specs.Plain.{plain_outlines, plain_nodes}
use Rattle.vlog_hierarchy.specs.Nodes.{net_total}
use Rattle.vlog_hierarchy.proofs.nodes.nodes_of.Goals as goal

pub returns-clause-nets : goal.returns-clause-nets
returns-clause-nets c =
    let e : plain_outlines c.as_slice-3.result.now ≡ outlines_of (map plain_module c.args.file.now.modules) =
    ap plain_outlines c.as_slice-3.ensures ∙ c.in_ok-outlines.ensures
    ∙ ap (λ (ms : List Module). outlines_of (map plain_module ms)) (c.in_ok-index.ensures.same ∙ c.as_slice.ensures) in
    c.in_ok-firsts.ensures.nets ∙ ap (λ (os : List Outline). net_total os (plain_nodes c.as_slice-4.result.now)) e
    ∙ ap (λ (ns : List node.Node). net_total (outlines_of (map plain_module c.args.file.now.modules)) (plain_nodes ns)) c.as_slice-4.ensures
