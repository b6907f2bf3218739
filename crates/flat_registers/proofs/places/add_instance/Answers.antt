use Rattle.std.proofs.Common.{◌≡◌, ◌++◌, ◌∙◌, OnOk, subst}
use Rattle.flat_parts.proofs.vidi_bits_lemmas.Lists.{some_same}
use Rattle.flat_parts.specs.vlog_elab.Plain.{plain_instance}
use Rattle.flat_registers.specs.Places.{plain_places}
use Rattle.flat_registers.proofs.PlaceLaws.{told_alike}
use Rattle.flat_registers.proofs.places.add_instance.Goals as goal

pub returns : goal.returns
returns c =
    let i = plain_instance c.args.instance.now in
    subst (λ z. OnOk c.add_nets.result (plain_places c.add_nets.new.out ≡ plain_places c.args.out.now ++ z))
    (told_alike i.tree i.scope c.in-Some.names.now c.in_ok-initials.initials c.args.first i.scope.nets
    (some_same _ _ (c.in-Some.ensures ∙ c.requires)) c.in_ok-initials.ensures) c.add_nets.ensures
