use Rattle.std.proofs.Common.{false, List, ℕ, sym, subst, length}
use Rattle.run_model.specs.trace_model.declared.row.Row.{Row}
use Rattle.run_model.specs.trace_model.Row.{row_before}
use Rattle.run_model.specs.Building.{AreSmall}
use Rattle.run_model.specs.Pins.{ArePins}
use Rattle.run_reference.proofs.StepLemmas.{asked, asked-small, plugs-length, settles, stepped}
use Rattle.run_reference.proofs.play.step.Goals as goal

pub input_pins-requires-clause-plugs : goal.input_pins-requires-clause-plugs
input_pins-requires-clause-plugs g c = plugs-length (g.B.Block.design c.args.block.now) c.args.map.now c.requires.mapped

pub input_pins-requires-clause-small : goal.input_pins-requires-clause-small
input_pins-requires-clause-small g c = subst (AreSmall c.args.map.now.channels) (sym c.in_ok-asked.ensures)
    (asked-small c.args.map.now.channels c.args.offers.now c.args.gates c.requires.offers)

pub returns-clause-step : goal.returns-clause-step
returns-clause-step g c =
    let d = g.B.Block.design c.args.block.now in
    let s = g.B.Block.state c.args.block.now in
    let m = c.args.map.now in
    let pins = c.as_slice.result.now in
    let v = g.B.Block.shown c.settle.new.self in
    let x = settles d (g.B.Block.design c.settle.new.self) c.settle.ensures.design s
    (g.B.Block.state c.settle.new.self) c.settle.ensures.state
    pins (g.B.Block.inputs c.settle.new.self) c.settle.ensures.inputs v (g.B.Block.state c.clock.new.self) c.settle.ensures.settled
    c.clock.ensures.state in
    let are : ArePins d m false (asked c.args.offers.now c.args.gates) pins =
    subst (λ (r : Row). ArePins d m false r pins) c.in_ok-asked.ensures
    (subst (λ (ps : List ℕ). ArePins d m false c.in_ok-asked.asked ps) (sym c.as_slice.ensures)
    (c.in_ok-pins.ensures d c.requires.mapped)) in
    (stepped d m c.requires.nets c.requires.mapped (row_before c.args.before.now (length c.args.before.now)) c.args.offers.now
    c.requires.offers c.args.gates c.requires.gates s pins v (g.B.Block.state c.clock.new.self) are x
    (g.B.Block.design c.settle.new.self) c.settle.ensures.design c.in_ok-row.row c.in_ok-row.ensures).step

pub returns-clause-over : goal.returns-clause-over
returns-clause-over g c =
    let d = g.B.Block.design c.args.block.now in
    let s = g.B.Block.state c.args.block.now in
    let m = c.args.map.now in
    let pins = c.as_slice.result.now in
    let v = g.B.Block.shown c.settle.new.self in
    let x = settles d (g.B.Block.design c.settle.new.self) c.settle.ensures.design s
    (g.B.Block.state c.settle.new.self) c.settle.ensures.state
    pins (g.B.Block.inputs c.settle.new.self) c.settle.ensures.inputs v (g.B.Block.state c.clock.new.self) c.settle.ensures.settled
    c.clock.ensures.state in
    let are : ArePins d m false (asked c.args.offers.now c.args.gates) pins =
    subst (λ (r : Row). ArePins d m false r pins) c.in_ok-asked.ensures
    (subst (λ (ps : List ℕ). ArePins d m false c.in_ok-asked.asked ps) (sym c.as_slice.ensures)
    (c.in_ok-pins.ensures d c.requires.mapped)) in
    (stepped d m c.requires.nets c.requires.mapped (row_before c.args.before.now (length c.args.before.now)) c.args.offers.now
    c.requires.offers c.args.gates c.requires.gates s pins v (g.B.Block.state c.clock.new.self) are x
    (g.B.Block.design c.settle.new.self) c.settle.ensures.design c.in_ok-row.row c.in_ok-row.ensures).over

pub returns-clause-marked : goal.returns-clause-marked
returns-clause-marked g c =
    let d = g.B.Block.design c.args.block.now in
    let s = g.B.Block.state c.args.block.now in
    let m = c.args.map.now in
    let pins = c.as_slice.result.now in
    let v = g.B.Block.shown c.settle.new.self in
    let x = settles d (g.B.Block.design c.settle.new.self) c.settle.ensures.design s
    (g.B.Block.state c.settle.new.self) c.settle.ensures.state
    pins (g.B.Block.inputs c.settle.new.self) c.settle.ensures.inputs v (g.B.Block.state c.clock.new.self) c.settle.ensures.settled
    c.clock.ensures.state in
    let are : ArePins d m false (asked c.args.offers.now c.args.gates) pins =
    subst (λ (r : Row). ArePins d m false r pins) c.in_ok-asked.ensures
    (subst (λ (ps : List ℕ). ArePins d m false c.in_ok-asked.asked ps) (sym c.as_slice.ensures)
    (c.in_ok-pins.ensures d c.requires.mapped)) in
    (stepped d m c.requires.nets c.requires.mapped (row_before c.args.before.now (length c.args.before.now)) c.args.offers.now
    c.requires.offers c.args.gates c.requires.gates s pins v (g.B.Block.state c.clock.new.self) are x
    (g.B.Block.design c.settle.new.self) c.settle.ensures.design c.in_ok-row.row c.in_ok-row.ensures).marked

pub returns-clause-carried : goal.returns-clause-carried
returns-clause-carried g c =
    let d = g.B.Block.design c.args.block.now in
    let s = g.B.Block.state c.args.block.now in
    let m = c.args.map.now in
    let pins = c.as_slice.result.now in
    let v = g.B.Block.shown c.settle.new.self in
    let x = settles d (g.B.Block.design c.settle.new.self) c.settle.ensures.design s
    (g.B.Block.state c.settle.new.self) c.settle.ensures.state
    pins (g.B.Block.inputs c.settle.new.self) c.settle.ensures.inputs v (g.B.Block.state c.clock.new.self) c.settle.ensures.settled
    c.clock.ensures.state in
    let are : ArePins d m false (asked c.args.offers.now c.args.gates) pins =
    subst (λ (r : Row). ArePins d m false r pins) c.in_ok-asked.ensures
    (subst (λ (ps : List ℕ). ArePins d m false c.in_ok-asked.asked ps) (sym c.as_slice.ensures)
    (c.in_ok-pins.ensures d c.requires.mapped)) in
    (stepped d m c.requires.nets c.requires.mapped (row_before c.args.before.now (length c.args.before.now)) c.args.offers.now
    c.requires.offers c.args.gates c.requires.gates s pins v (g.B.Block.state c.clock.new.self) are x
    (g.B.Block.design c.settle.new.self) c.settle.ensures.design c.in_ok-row.row c.in_ok-row.ensures).carried
