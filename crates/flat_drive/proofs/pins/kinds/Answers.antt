use Rattle.std.proofs.Common.{◌≡◌, ap, ◌∙◌}
use Rattle.std.proofs.lemmas.Result.{IfOk-weaker}
use Rattle.flat_parts.specs.vlog_elab.Plain.{plain_instances}
use Rattle.flat_parts.specs.Seats.{seats_of}
use Rattle.flat_drive.specs.Kinds.{flat_kinds}
use Rattle.flat_drive.specs.Marked.{is_pin, kinds_from}
use Rattle.flat_drive.proofs.Marking.{kinds_of_first, kinds_none}
use Rattle.flat_drive.proofs.pins.kinds.Goals as goal

pub returns-in_ok-inputs-in-Some : goal.returns-in_ok-inputs-in-Some
returns-in_ok-inputs-in-Some c =
    let table = c.in_ok-inputs-in-Some.inputs in
    let list = c.args.list.now in
    let pin = is_pin table c.in-Some.top.now.scope.nets in
    IfOk-weaker c.kinds_with.result (λ ks. ks ≡ kinds_from pin 0 c.args.marks.now) (λ ks. ks ≡ flat_kinds (seats_of (plain_instances list)))
    (λ ks h. h ∙ ap (kinds_from pin 0) c.requires
    ∙ kinds_of_first table list c.in-Some.top.now c.in-Some.ensures.value c.in_ok-inputs-in-Some.ensures)
    c.kinds_with.ensures

pub returns-in-None : goal.returns-in-None
returns-in-None c = c.new.ensures ∙ kinds_none c.args.list.now c.in-None.ensures.value
