use Rattle.std.proofs.Common.{◌≡◌, sym, ap, ◌∙◌}
use Rattle.std.proofs.lemmas.Result.{IfOk-weaker}
use Rattle.flat_parts.specs.vlog_hierarchy.Plain.{plain_path}
use Rattle.flat_parts.specs.vlog_elab.Plain.{plain_instances}
use Rattle.flat_drive.specs.Reasons.{dotted_all, instance_memories, memory_texts, text_at}
use Rattle.flat_drive.proofs.Places.{text_here, text_later, text_none, long, all_memory_texts}
use Rattle.flat_drive.proofs.full_names.memory_name.Goals as goal

pub returns-then-left-count : goal.returns-then-left-count
returns-then-left-count c =
    let l = c.loop-instance in
    let x = c.instance-item.result in
    IfOk-weaker c.name_in.result (λ text. text ≡ text_at (dotted_all (plain_path c.as_slice.result.now) x.scope.memories) l.left)
    (λ text. text ≡ text_at (memory_texts (plain_instances c.args.list.now)) c.args.memory)
    (λ text h. h ∙ ap (λ path. text_at (dotted_all (plain_path path) x.scope.memories) l.left) c.as_slice.ensures
    ∙ text_here instance_memories c.args.list.now l.instance-index l.left c.args.memory c.len-count.result x
    c.loop-instance-test.true c.instance-item.is
    (long (plain_path x.path) x.scope.memories ∙ sym c.len-count.ensures) c.if-left-count.true l.invariant
    ∙ all_memory_texts (plain_instances c.args.list.now) c.args.memory)
    c.name_in.ensures

pub loop-instance-preserved : goal.loop-instance-preserved
loop-instance-preserved c =
    let l = c.loop-instance in
    let x = c.instance-item.result in
    text_later instance_memories c.args.list.now l.instance-index l.left c.args.memory c.len-count.result x
    c.loop-instance-test.true c.instance-item.is
    (long (plain_path x.path) x.scope.memories ∙ sym c.len-count.ensures) c.if-left-count.false l.invariant

pub returns : goal.returns
returns c =
    c.new.ensures ∙ text_none instance_memories c.args.list.now c.loop-instance.instance-index c.loop-instance.left c.args.memory
    c.loop-instance-test.false c.loop-instance.invariant ∙ all_memory_texts (plain_instances c.args.list.now) c.args.memory
