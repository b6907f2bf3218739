use Rattle.vlog_tree.specs.Plain.{plain}
use Rattle.vidi_bench.specs.Design.{Building}
use Rattle.vidi_bench.specs.Devices.{Binding}
use Rattle.vidi_bench.specs.Steps.{Never}
use Rattle.vidi_bench.proofs.Chain.{passed-as}
use Rattle.wrap_command.proofs.Fitted.{map_in}
use Rattle.wrap_command.proofs.wrapping.fitted.Goals as goal

pub returns-in_err-device-clause-refused : goal.returns-in_err-device-clause-refused
returns-in_err-device-clause-refused c =
    let text = c.args.text.now in
    let Refused = Building text.top (plain c.args.file.now) (λ d. Binding text d (λ _. Never)) in
    passed-as Refused Refused c.in_err-device.field-0.0 c.from_residual.result c.from_residual.ensures.1 (λ a x is. is)
    c.in_err-device.ensures.refused

pub returns-clause-fitted : goal.returns-clause-fitted
returns-clause-fitted c =
    let device = c.in_ok-device.device in
    record {
      design = device.design;
      accepted = c.in_ok-device.ensures.accepted;
      drivers = device.order.drivers;
      ordered = c.in_ok-device.ensures.runnable.ordered;
      bound = c.in_ok-device.ensures.bound;
    }

pub returns-clause-mapped : goal.returns-clause-mapped
returns-clause-mapped c =
    map_in c.lawful_ports_have_widths.ensures c.args.text.now (plain c.args.file.now) c.in_ok-device.device.map (returns-clause-fitted c)
