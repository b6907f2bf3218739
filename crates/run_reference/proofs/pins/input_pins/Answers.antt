use Rattle.std.proofs.Common.{◌≡◌, map, length, ◌∙◌}
use Rattle.std.specs.List.{range_with_len}
use Rattle.std.proofs.lemmas.Result.{IfOk-weaker}
use Rattle.net_design.specs.declared.design.Design.{Design}
use Rattle.run_model.specs.Building.{number_for}
use Rattle.run_model.specs.MapOf.{IsMapOf}
use Rattle.run_model.specs.Pins.{ArePins}
use Rattle.run_reference.proofs.PortLemmas.{made-pins}
use Rattle.run_reference.proofs.pins.input_pins.Goals as goal

pub returns : goal.returns
returns c = IfOk-weaker c.by_place.result
    (λ xs. xs ≡ map (number_for c.as_slice.result.now) (range_with_len 0 (length c.as_slice.result.now)))
    (λ pins. (d : Design) → IsMapOf d c.args.map.now → ArePins d c.args.map.now c.args.resets c.args.row.now pins)
    (λ pins h. made-pins c.args.map.now c.args.resets c.args.row.now c.requires.small c.as_slice.result.now pins
    (c.as_slice.ensures ∙ c.in_ok-entries.ensures) h)
    c.by_place.ensures
