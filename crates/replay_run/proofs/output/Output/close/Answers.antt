use Rattle.std.proofs.Common.{ℕ, ◌++◌, List, ap, ◌∙◌, take}
use Rattle.trace_code.specs.Encoding.{end_mark}
use Rattle.replay_run.proofs.Writing.{ended-trace, whole}
use Rattle.replay_run.proofs.output.Output.close.Goals as goal

pub returns : goal.returns
returns c channels rows is =
    let out = c.write_end-all.new.out in
    let all-out = whole c.args.self.bytes.len out c.args.self.bytes.items (c.write_end-all.auto.out ∙ c.as_mut_slice.ensures.len) in
    ended-trace channels rows c.args.self c.from_vec.result is
    (c.from_vec.ensures ∙ c.truncate.ensures.items ∙ ap (take c.write_end-all.result) all-out ∙ c.write_end-all.ensures.bytes
    ∙ ap (λ (bs : List ℕ). take c.args.self.len bs ++ end_mark c.args.self.packets) c.as_mut_slice.ensures.value)
