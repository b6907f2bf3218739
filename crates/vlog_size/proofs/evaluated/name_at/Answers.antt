use Rattle.vlog_size.proofs.evaluated.name_at.Goals as goal

pub returns : goal.returns
returns c = λ s. c.reached.ensures _ s (λ h k. c.ref_number-n.ensures _)
