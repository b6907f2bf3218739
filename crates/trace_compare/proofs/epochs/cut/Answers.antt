use Rattle.std.proofs.Common.{◌∙◌, ap, take}
use Rattle.trace_compare.proofs.EpochParts.{first-epoch, behind-reset, no-rest}
use Rattle.trace_compare.proofs.epochs.cut.Goals as goal

pub returns-in-Some-clause-first : goal.returns-in-Some-clause-first
returns-in-Some-clause-first c =
    c.split_at.ensures.front ∙ ap (λ k. take k c.args.packets.now) c.first_len.ensures.value ∙ first-epoch c.args.packets.now

pub returns-in-Some-clause-later : goal.returns-in-Some-clause-later
returns-in-Some-clause-later c = behind-reset c.args.packets.now c.split_at.result.1.now c.in-Some.later.now c.in-Some._reset.now
    c.first_len.result c.first_len.ensures.value c.split_at.ensures.back c.in-Some.ensures.cases.0

pub returns-in-None-clause-first : goal.returns-in-None-clause-first
returns-in-None-clause-first c =
    c.split_at.ensures.front ∙ ap (λ k. take k c.args.packets.now) c.first_len.ensures.value ∙ first-epoch c.args.packets.now

pub returns-in-None-clause-later : goal.returns-in-None-clause-later
returns-in-None-clause-later c = no-rest c.args.packets.now c.split_at.result.1.now
    c.first_len.result c.first_len.ensures.value c.split_at.ensures.back c.in-None.ensures.cases
