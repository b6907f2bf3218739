use Rattle.std.proofs.Common.{◌+◌, ◌++◌, ℕ, List, ap, ◌∙◌, arith, string_bytes}
use Rattle.sample_gen.specs.Design.{joint, instance, stage}
use Rattle.sample_gen.specs.Joint.{joint_text}
use Rattle.sample_gen.proofs.Steps.{piece_more}
use Rattle.sample_gen.proofs.design.put_stages.Goals as goal

pub loop-i-preserved : goal.loop-i-preserved
loop-i-preserved c =
    let i : ℕ = c.loop-i.i in
    let stages : ℕ = c.args.stages in
    let old : List ℕ = string_bytes c.loop-i.text in
    piece_more (stage stages) 0 i (i + 1) i (string_bytes c.args.text.now) old (string_bytes c.put_stage.new.text)
    (omega arith) (omega arith) c.loop-i.invariant
    (c.in_ok-put_stage.ensures
    ∙ ap (λ x. old ++ instance i x (joint_text c.new-to.result)) c.new-from.ensures
    ∙ ap (λ x. old ++ instance i (joint stages i) x) c.new-to.ensures)
