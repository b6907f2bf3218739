use Rattle.std.proofs.lemmas.Slice.Eq.{strip_prefix_is}
use Rattle.std.proofs.lemmas.Bool.Decides.{Decides-eqb}
use Rattle.vlog_lex.proofs.Gaps.{after_is}
use Rattle.vlog_lex.proofs.gap.after_mark.Goals as goal

pub returns-clause-found : goal.returns-clause-found
returns-clause-found c =
    let s = c.args.bytes.now in
    let p = c.args.mark.now in
    (after_is s p c.strip_prefix.result (strip_prefix_is Decides-eqb s p c.strip_prefix.result c.strip_prefix.ensures.cases)).0

pub returns-clause-none : goal.returns-clause-none
returns-clause-none c =
    let s = c.args.bytes.now in
    let p = c.args.mark.now in
    (after_is s p c.strip_prefix.result (strip_prefix_is Decides-eqb s p c.strip_prefix.result c.strip_prefix.ensures.cases)).1
