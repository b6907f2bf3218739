use Rattle.std.proofs.Common.{List, sym, subst}
use Rattle.std.specs.List.{AllZip}
use Rattle.net_design.specs.declared.design.Direction.TheVariants.{Output}
use Rattle.run_model.specs.chan_map.declared.pins.Pin.{Pin}
use Rattle.run_model.specs.chan_map.Bound.{IsPin}
use Rattle.run_reference.proofs.BlockLemmas.{plug-is, content-pins}
use Rattle.run_reference.proofs.row.push_content.Goals as goal

pub push_outputs-requires : goal.push_outputs-requires
push_outputs-requires g c =
    let d = g.B.Block.design c.args.block.now in
    let is = plug-is d c.args.map.now c.requires.mapped c.args.c c.in-Some.channel.now c.in-Some-get.plug.now (sym c.in-Some.ensures)
    (sym c.in-Some-get.ensures) in
    let all = content-pins d c.in-Some.channel.now c.in-Some-get.plug.now is c.in-Outward.is in
    subst (λ ws. AllZip (λ width pin. IsPin d Output width pin) ws c.as_slice-in-Outward.result.now) (sym c.as_slice-in-Outward-2.ensures)
    (subst (λ (ps : List Pin). AllZip (λ width pin. IsPin d Output width pin) c.in-Some.channel.now.widths ps)
    (sym c.as_slice-in-Outward.ensures) all)
