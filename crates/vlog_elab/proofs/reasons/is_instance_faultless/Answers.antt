use Rattle.vlog_hierarchy.proofs.vidi_bits_lemmas.FindingLaws.{none_map}
use Rattle.vlog_hierarchy.proofs.vidi_bits_lemmas.Lists.{none_mapped}
use Rattle.vlog_scope.specs.Faults.{const_faults, width_faults}
use Rattle.vlog_elab.specs.Errors.{of_size}
use Rattle.vlog_elab.specs.Plain.{plain_instance}
use Rattle.vlog_elab.specs.Reasons.{instance_consts, instance_widths}
use Rattle.vlog_elab.proofs.reasons.is_instance_faultless.Goals as goal

pub returns : goal.returns
unfolding instance_consts instance_widths
returns c =
    let i = plain_instance c.args.instance.now in (
      (λ is.
          let none = c.is_faultless.ensures.0 is in
          (none_map of_size (const_faults i.tree i.scope) none.0, none_map of_size (width_faults i.tree i.scope) none.1)),
      (λ none.
          c.is_faultless.ensures.1
          (none_mapped of_size (const_faults i.tree i.scope) none.0, none_mapped of_size (width_faults i.tree i.scope) none.1)),
    )
