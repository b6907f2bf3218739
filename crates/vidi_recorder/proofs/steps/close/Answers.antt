use Rattle.std.proofs.Common.{subst}
use Rattle.std.proofs.lemmas.Result.{on_err_weaker}
use Rattle.vidi_io.proofs.vidi_bits_lemmas.Results.{on_err}
use Rattle.trace_code.specs.Encoding.{end_mark}
use Rattle.vidi_io.specs.Sink.{AppendsSome}
use Rattle.vidi_recorder.proofs.Pushing.{some-back, some-front, told-whole, whole-front}
use Rattle.vidi_recorder.proofs.steps.close.Goals as goal

pub returns-in_err-push_out-clause-err : goal.returns-in_err-push_out-clause-err
returns-in_err-push_out-clause-err g c = on_err c.from_residual.result
    (some-front (g.K.Sink.told c.args.sink.now) (g.K.Sink.told c.push_out.new.sink) c.args.store.now.items (end_mark c.args.packets)
    (whole-front (g.K.Sink.told c.args.sink.now) (g.K.Sink.told c.push_out.new.sink) c.args.store.now.items c.waiting-rest.result
    c.waiting-rest.ensures.count c.in_err-push_out.ensures.err))

pub returns-clause-err : goal.returns-clause-err
returns-clause-err g c = on_err_weaker c.push.result
    (λ some. some-back (g.K.Sink.told c.args.sink.now) (g.K.Sink.told c.push_out.new.sink) (g.K.Sink.told c.push.new.self)
    c.args.store.now.items (end_mark c.args.packets)
    (told-whole (g.K.Sink.told c.args.sink.now) (g.K.Sink.told c.push_out.new.sink) c.args.store.now.items c.waiting-rest.result
    c.waiting-rest.ensures.count c.in_ok-push_out.ensures.ok)
    (subst (AppendsSome (g.K.Sink.told c.push_out.new.sink) (g.K.Sink.told c.push.new.self)) c.end_mark.ensures some))
    c.push.ensures.err
