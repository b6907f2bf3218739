use Rattle.std.proofs.Common.{◌+◌, drop, ap, sym, ◌∙◌}
use Rattle.net_code.specs.vidi_bits.Findings.{first}
use Rattle.net_drive.specs.declared.findings.NetKind.{NetKind}
use Rattle.net_code.specs.Targets.{plain_places}
use Rattle.net_drive.specs.Drive.{kind_faults, kind_at, nets_from}
use Rattle.net_drive.proofs.Exact.{found_first, not_found, nets_split}
use Rattle.net_drive.proofs.drive.Writers.first_net.Goals as goal

pub returns-then-is_some : goal.returns-then-is_some
returns-then-is_some c =
    let ps = plain_places c.args.self.now.places in
    let bs = c.args.self.now.blocks in
    let ks = c.args.kinds.now in
    let ns = c.args.nets.now in
    let i = c.loop-place.place in
    let n = c.index-nets-place.result in
    found_first (kind_faults ps bs i n.width (kind_at ks i)) (nets_from ps bs ks (i + 1) (drop (i + 1) ns)) c.net_fault-found.result
    (c.net_fault-found.ensures ∙ ap (λ (x : NetKind). first (kind_faults ps bs i n.width x)) c.kind_at.ensures)
    (sym c.is_some.ensures ∙ c.if-is_some.true)
    ∙ sym (ap first (nets_split ps bs ks ns i n c.loop-place-test.true c.index-nets-place.is)) ∙ c.loop-place.invariant

pub loop-place-preserved : goal.loop-place-preserved
loop-place-preserved c =
    let ps = plain_places c.args.self.now.places in
    let bs = c.args.self.now.blocks in
    let ks = c.args.kinds.now in
    let ns = c.args.nets.now in
    let i = c.loop-place.place in
    let n = c.index-nets-place.result in
    sym (not_found (kind_faults ps bs i n.width (kind_at ks i)) (nets_from ps bs ks (i + 1) (drop (i + 1) ns)) c.net_fault-found.result
    (c.net_fault-found.ensures ∙ ap (λ (x : NetKind). first (kind_faults ps bs i n.width x)) c.kind_at.ensures)
    (sym c.is_some.ensures ∙ c.if-is_some.false))
    ∙ sym (ap first (nets_split ps bs ks ns i n c.loop-place-test.true c.index-nets-place.is)) ∙ c.loop-place.invariant
