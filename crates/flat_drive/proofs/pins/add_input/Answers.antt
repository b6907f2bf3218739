use Rattle.std.proofs.Common.{true, ◌||◌, sym, ap, ◌∙◌}
use Rattle.std.specs.List.{list_any}
use Rattle.std.specs.Str.{bytes_eq}
use Rattle.flat_parts.specs.vidi_bits.Findings.{told_if}
use Rattle.flat_parts.specs.vlog_size.Table.{added}
use Rattle.flat_drive.specs.Marked.{is_listed}
use Rattle.flat_drive.proofs.Inputs.{one_added}
use Rattle.flat_drive.proofs.pins.add_input.Goals as goal

pub returns-in_ok-push : goal.returns-in_ok-push
returns-in_ok-push c =
    let old = c.args.inputs.now in
    let new = c.args.port.now.id.name in
    λ name.
    one_added old c.push.new.self new
    (c.in_ok-push.ensures.ok ∙ ap (λ n. added old n true) (c.in_ok-name.ensures ∙ c.as_slice.ensures)) name
    ∙ ap (λ b. is_listed old name || list_any (bytes_eq name) (told_if b new)) (sym c.if-is_input.true)
