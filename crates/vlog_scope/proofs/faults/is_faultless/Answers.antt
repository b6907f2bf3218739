use Rattle.std.proofs.Common.{sym, ◌∙◌}
use Rattle.vlog_tree.specs.Plain.{plain_module}
use Rattle.vlog_scope.proofs.EitherFaults.{ok_then, ok_where}
use Rattle.vlog_scope.proofs.faults.is_faultless.Goals as goal

pub returns : goal.returns
returns c =
    let m = plain_module c.args.module.now in
    let s = c.args.scope.now in (
      (λ h. ok_then c.scope_fault.result m s c.scope_fault.ensures (sym c.is_ok.ensures.value ∙ h)),
      (λ none. c.is_ok.ensures.value ∙ ok_where c.scope_fault.result m s c.scope_fault.ensures none.0 none.1),
    )
