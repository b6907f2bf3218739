use Rattle.std.proofs.Common.{◌++◌, ◌+◌, ℕ, ap, sym, ◌∙◌, append_assoc, drop}
use Rattle.run_model.specs.trace_model.declared.event.Kind.TheVariants.{Start}
use Rattle.run_model.specs.Building.{joined}
use Rattle.run_reference.specs.Feed.{content_in, covered_place}
use Rattle.run_reference.proofs.BlockLemmas.{joined-more}
use Rattle.run_reference.proofs.replay.contents.Goals as goal

pub loop-c-preserved : goal.loop-c-preserved
loop-c-preserved c =
    let cs = c.args.channels.now in
    let f = λ (k : ℕ). content_in cs c.args.packets.now k (covered_place cs c.args.packets.now c.args.rows.now Start k) in
    ap (λ xs. xs ++ joined f (c.loop-c.c + 1) (drop (c.loop-c.c + 1) cs))
    (c.in_ok-push_recorded.ensures ∙ ap (λ o. c.loop-c.out ++ content_in cs c.args.packets.now c.loop-c.c o) c.in_ok-place.ensures)
    ∙ append_assoc c.loop-c.out (f c.loop-c.c) (joined f (c.loop-c.c + 1) (drop (c.loop-c.c + 1) cs))
    ∙ ap (λ xs. c.loop-c.out ++ xs) (sym (joined-more f c.loop-c.c cs c.loop-c-test.true))
    ∙ c.loop-c.invariant
