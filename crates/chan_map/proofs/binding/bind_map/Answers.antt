use Rattle.std.proofs.Common.{refl, ◌∙◌}
use Rattle.chan_map.proofs.Found.{narrow}
use Rattle.chan_map.proofs.Bounds.{bound}
use Rattle.chan_map.proofs.binding.bind_map.Goals as goal

pub checked_parts-requires-clause-narrow : goal.checked_parts-requires-clause-narrow
checked_parts-requires-clause-narrow c = λ name. rw c.in_ok-top.ensures.design (narrow c.args.design.now c.requires name)

pub returns : goal.returns
returns c =
    let none = rw (c.in_ok-top.ensures.design, c.as_slice-3.ensures) at c.in_ok-parts.ensures.tried in
    let parts = rw (c.in_ok-top.ensures.design, c.as_slice-3.ensures) at c.in_ok-parts.ensures.parts in
    let clock = rw (c.in_ok-top.ensures.design, c.as_slice-2.ensures) at c.in_ok-clock.ensures in (
      none,
      bound c.args.text.now c.args.design.now c.in_ok-parts.parts _ c.requires none parts
          (c.in_ok-name.ensures ∙ c.as_slice.ensures) clock refl refl refl refl,
    )
