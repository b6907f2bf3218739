use Rattle.std.proofs.Common.{◌<◌, get_or, ap, sym, subst, ◌∙◌, arith}
use Rattle.std.specs.Prelude.{IfSome}
use Rattle.run_stage.proofs.chan_replayer_lemmas.Sharing.{number-at}
use Rattle.replay_run.specs.Feeding.{IsClockAt}
use Rattle.replay_run.proofs.feeding.feed_clock.Goals as goal

pub share-requires : goal.share-requires
share-requires c = record {
  there = (
    c.args.channels,
    c.requires.places,
    c.requires.channel,
    subst (λ (o : _). IfSome o (λ b. b < c.args.channels)) c.in-Some.is c.requires.beside,
  );
}

pub write-requires : goal.write-requires
write-requires c =
    let s = c.requires.stands in
    record {
      there = (c.args.channels, c.requires.places, c.requires.channel, λ d l. (s.0, s.1, s.2, let m = s.3 in omega (arith, l, m)));
    }

pub returns-in-Some-clause-here : goal.returns-in-Some-clause-here
returns-in-Some-clause-here c t j p packet is-right st many nth d l =
    let n = c.args.channels in
    let right = subst (λ (o : _). IfSome o (IsClockAt t c.args.cursor.now n c.args.needs.now)) c.in-Some.is is-right in
    sym (number-at n c.share.new.self c.args.c d l) ∙ ap (λ xs. get_or xs d 0) (c.share.ensures.here n c.requires.places)
    ∙ number-at n c.args.needs.now c.in-Some.b d l ∙ right j p packet st nth d l

pub returns-in-Some-clause-others : goal.returns-in-Some-clause-others
returns-in-Some-clause-others c d e ne l =
    let n = c.args.channels in
    sym (number-at n c.share.new.self d e l) ∙ ap (λ xs. get_or xs e 0) (c.share.ensures.others n d c.requires.places ne) ∙ number-at n c.args.needs.now d e l

pub returns-in-None-clause-here : goal.returns-in-None-clause-here
returns-in-None-clause-here c t j p packet is-right st many nth d l =
    c.write.ensures.here c.args.channels d c.requires.places l t j p packet st (omega (arith, l, many)) nth

pub returns-in-None-clause-others : goal.returns-in-None-clause-others
returns-in-None-clause-others c d e ne l =
    let n = c.args.channels in
    sym (number-at n c.write.new.self d e l) ∙ ap (λ xs. get_or xs e 0) (c.write.ensures.others n d c.requires.places ne) ∙ number-at n c.args.needs.now d e l
