use Rattle.std.proofs.Common.{List, sym, subst, ◌∙◌}
use Rattle.flat_parts.specs.vlog_elab.declared.error.ElabError.{ElabError}
use Rattle.flat_parts.specs.vlog_elab.Plain.{plain_instances}
use Rattle.flat_parts.specs.vidi_bits.Findings.{IsFirst}
use Rattle.flat_parts.specs.vlog_elab.Told.{elab_told}
use Rattle.flat_drive.proofs.Judging.{found, not_found}
use Rattle.flat_drive.proofs.Told.{all_told}
use Rattle.flat_drive.proofs.check.check_drive.Goals as goal

pub returns-in-Some : goal.returns-in-Some
returns-in-Some c =
    let is = plain_instances c.args.list.now in
    let told = found is c.args.nets.now c.as_slice.result.now c.args.memories.now c.args.drivers.now c.args.blocks.now c.requires.nets
    (c.as_slice.ensures ∙ c.in_ok-kinds.ensures) c.requires.memories c.in-Some.found c.in_ok-error_of-in-Some.field-0
    (sym c.in-Some.is ∙ c.in_ok-found.ensures) c.in_ok-error_of-in-Some.ensures in
    record {
      told = told;
      file = λ h k. subst (λ (fs : List ElabError). IsFirst elab_told fs c.in_ok-error_of-in-Some.field-0)
          (all_told is c.args.drivers.now c.args.blocks.now h k) told;
    }

pub returns : goal.returns
returns c =
    let is = plain_instances c.args.list.now in
    let told = not_found is c.args.nets.now c.as_slice.result.now c.args.memories.now c.args.drivers.now c.args.blocks.now c.requires.nets
    (c.as_slice.ensures ∙ c.in_ok-kinds.ensures) c.requires.memories (sym c.in-None.is ∙ c.in_ok-found.ensures) in
    record {
      told = told;
      file = λ h k. sym (all_told is c.args.drivers.now c.args.blocks.now h k) ∙ told;
    }
