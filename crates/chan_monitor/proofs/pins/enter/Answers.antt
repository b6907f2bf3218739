use Rattle.std.proofs.Common.{subst, sym, ◌∙◌, arith}
use Rattle.run_model.proofs.trace_model_lemmas.RowLemmas.{room-left, rest-more}
use Rattle.chan_monitor.specs.Entering.{IsPlugWithin}
use Rattle.chan_monitor.proofs.Writing.{enter-more, plug-within, split-is}
use Rattle.chan_monitor.proofs.pins.enter.Goals as goal

pub split_at-requires : goal.split_at-requires
split_at-requires c =
    room-left c.args.channels.now _ _ c.loop-c.c _ c.index-channels-c.result c.requires.contents c.loop-c-test.true c.index-channels-c.is
    c.loop-c.invariant.rest c.len.ensures

pub enter_plug-requires-clause-places : goal.enter_plug-requires-clause-places
enter_plug-requires-clause-places c =
    subst (λ n. IsPlugWithin n c.index-channels-c.result.dir c.index-plugs-c.result) (sym c.loop-c.auto.pins)
    (plug-within _ c.args.channels.now c.args.plugs.now c.requires.plugs c.loop-c.c c.index-channels-c.result c.index-plugs-c.result
    c.loop-c-test.true c.index-channels-c.is c.index-plugs-c.is).0

pub enter_plug-requires-clause-content : goal.enter_plug-requires-clause-content
enter_plug-requires-clause-content c =
    c.split_at.ensures.front_len ∙ c.len.ensures
    ∙ sym (plug-within _ c.args.channels.now c.args.plugs.now c.requires.plugs c.loop-c.c c.index-channels-c.result c.index-plugs-c.result
    c.loop-c-test.true c.index-channels-c.is c.index-plugs-c.is).1

pub loop-c-preserved : goal.loop-c-preserved
loop-c-preserved c = record {
  rest = rest-more c.args.channels.now _ _ _ c.loop-c.c _ c.index-channels-c.result c.loop-c-test.true c.index-channels-c.is
      c.loop-c.invariant.rest c.len.ensures c.split_at.ensures.back;
  pins = enter-more c.args.channels.now c.args.plugs.now c.args.gates c.args.offers.now c.loop-c.pins c.enter_plug.new.pins _ c.loop-c.c
      c.index-channels-c.result c.index-plugs-c.result c.pass-passed.result c.index-monitors-c.result c.names-up.result c.names.result
      c.names-in-loop-c.result c.split_at.result.0.now c.loop-c-test.true
      (let m = c.requires.plugs.many in let l = c.loop-c-test.true in omega (arith, m, l))
      c.index-channels-c.is c.index-plugs-c.is c.names-up.ensures c.names.ensures c.names-in-loop-c.ensures c.pass-passed.ensures.value
      (split-is c.args.channels.now c.args.offers.now.contents c.loop-c.rest.now _ c.loop-c.c c.len.result c.index-channels-c.result
      c.loop-c-test.true c.index-channels-c.is c.loop-c.invariant.rest c.len.ensures c.split_at.ensures.front)
      c.enter_plug.ensures c.loop-c.invariant.pins;
}
