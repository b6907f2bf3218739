use Rattle.std.proofs.Common.{length, slice_get, refl, ap, sym, ◌∙◌, arith}
use Rattle.std.proofs.lemmas.Option.{slice_get_read}
use Rattle.trace_code.specs.trace_model.declared.channel.Channel.{Channel}
use Rattle.trace_code.proofs.trace_model_lemmas.MaskLemmas.{has-from-bit}
use Rattle.run_stage.specs.chan_replayer.Feed.{kind_of}
use Rattle.run_stage.proofs.chan_replayer_lemmas.FedOffers.{named-within}
use Rattle.replay_run.proofs.Fills.{beside-is, less-without, no-reset, within-without}
use Rattle.replay_run.proofs.feeding.beside.Goals as goal

pub bounds-channels-b : goal.bounds-channels-b
bounds-channels-b c = named-within c.args.fed (length c.args.channels.now) c.in-Some.b c.requires.fed
    (c.left.invariant c.in-Some.b (has-from-bit c.left.left c.in-Some.b c.in-Some.ensures.1.named))

pub bounds-channels-b-in-Some : goal.bounds-channels-b-in-Some
bounds-channels-b-in-Some c = named-within c.args.fed (length c.args.channels.now) c.in-Some.b c.requires.fed
    (c.left.invariant c.in-Some.b (has-from-bit c.left.left c.in-Some.b c.in-Some.ensures.1.named))

pub cursor_of-requires : goal.cursor_of-requires
cursor_of-requires c =
    let s = c.requires.stands in
    let l = named-within c.args.fed (length c.args.channels.now) c.in-Some.b c.requires.fed
    (c.left.invariant c.in-Some.b (has-from-bit c.left.left c.in-Some.b c.in-Some.ensures.1.named)) in
    record {
      kind = λ e. no-reset _ (sym c.kind_of-kind.ensures ∙ e);
      stands = (s.0, s.1, s.2, let e = ap length s.3 in omega (arith, l, e));
    }

pub returns-then-is_beside : goal.returns-then-is_beside
returns-then-is_beside c =
    let named = c.left.invariant c.in-Some.b (has-from-bit c.left.left c.in-Some.b c.in-Some.ensures.1.named) in
    let l = named-within c.args.fed (length c.args.channels.now) c.in-Some.b c.requires.fed named in
    let x = c.index-channels-b.result in
    record {
      fed = named;
      packet = λ t have are same.
          (let e = ap length same in
          beside-is t c.args.cursors.now.epoch have c.in-Some.b c.kind_of-kind.result x c.args.cursor.now c.cursor_of.result.now
          (ap (λ cs. slice_get cs c.in-Some.b) same ∙ slice_get_read c.args.channels.now (length c.args.channels.now) c.in-Some.b x refl l c.index-channels-b.is)
          (c.kind_of-kind.ensures ∙ ap (λ (y : Channel). kind_of y.dir) (sym c.index-channels-b.is))
          (c.cursor_of.ensures t have are (omega (arith, l, e)))
          (λ i j p packet st too nth. (c.is_beside.ensures t i j p packet st too nth).0 c.if-is_beside.true));
    }

pub together-requires : goal.together-requires
together-requires c = (
  length c.args.channels.now,
  c.requires.needs,
  named-within c.args.fed (length c.args.channels.now) c.in-Some.b c.requires.fed
      (c.left.invariant c.in-Some.b (has-from-bit c.left.left c.in-Some.b c.in-Some.ensures.1.named)),
)

pub left-smaller : goal.left-smaller
left-smaller c = less-without c.left.left c.without-left.result c.in-Some.b _ c.without-left.ensures.most
    (has-from-bit c.left.left c.in-Some.b c.in-Some.ensures.1.named) (c.without-left.ensures.each c.in-Some.b) c.together.ensures.own

pub left-preserved : goal.left-preserved
left-preserved c d up = c.left.invariant d (within-without _ _ _ (c.without-left.ensures.each d) up)
