use Rattle.std.proofs.lemmas.Result.{IfOk-weaker}
use Rattle.vlog_elab.proofs.Firsts.{name_there}
use Rattle.vlog_elab.proofs.reasons.name_at.Goals as goal

pub returns : goal.returns
returns c = IfOk-weaker c.copied.result _ _
    (λ copy is. name_there c.args.file.now.modules c.as_slice-modules.result.now c.args.place c.index-modules-place.result
    c.as_slice.result.now copy c.as_slice-modules.ensures c.requires c.index-modules-place.is c.as_slice.ensures is)
    c.copied.ensures
