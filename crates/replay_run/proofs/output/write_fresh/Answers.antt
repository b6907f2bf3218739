use Rattle.std.proofs.Common.{◌++◌, [], cond, ap, sym, ◌∙◌, arith, take}
use Rattle.trace_code.specs.trace_model.Recording.{reset_packet}
use Rattle.trace_code.specs.Encoding.{packet_bytes}
use Rattle.replay_run.proofs.Writing.{put-front, reset-many}
use Rattle.replay_run.proofs.output.write_fresh.Goals as goal

pub returns-then-row-clause-bytes : goal.returns-then-row-clause-bytes
returns-then-row-clause-bytes c channels =
    let bytes = packet_bytes channels (reset_packet c.args.gap) in
    put-front c.args.len _ c.write_reset.result c.args.out.now c.write_reset.new.buf bytes _ (let l = c.requires.room in omega (arith, l))
    (c.write_reset.ensures.bytes channels) (c.write_reset.ensures.len ∙ sym (reset-many channels c.args.gap))
    ∙ ap (λ b. take c.args.len c.args.out.now ++ cond b bytes []) (sym c.if-row.true)
