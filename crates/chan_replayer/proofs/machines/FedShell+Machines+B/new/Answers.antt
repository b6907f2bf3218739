use Rattle.std.proofs.Common.{sym, ◌∙◌}
use Rattle.std.proofs.lemmas.Option.{none-some}
use Rattle.std.proofs.lemmas.Result.{IfOk-weaker}
use Rattle.chan_replayer.proofs.machines.FedShell+Machines+B.new.Goals as goal

pub returns-clause-runs : goal.returns-clause-runs
returns-clause-runs g c =
    IfOk-weaker c.around.result _ _ (λ fed is. is (g.B.Block.design c.args.block) (g.B.Block.state c.args.block) c.in_ok-shell.ensures.runs)
    c.around.ensures.runs

pub returns-clause-undriven : goal.returns-clause-undriven
returns-clause-undriven g c =
    IfOk-weaker c.around.result _ _
    (λ fed still row driven. still row (λ d. none-some _ (sym c.in_ok-shell.ensures.undriven ∙ d.last_is)) driven.0)
    c.around.ensures.undriven
