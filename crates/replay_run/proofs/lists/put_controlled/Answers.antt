use Rattle.std.proofs.Common.{◌≡◌, ◌++◌, sym, subst, ◌∙◌}
use Rattle.std.specs.List.{flat_map}
use Rattle.trace_code.specs.trace_model.declared.channel.Dir.{Dir}
use Rattle.run_stage.specs.run_model.Held.{controlled_in, held_event}
use Rattle.replay_run.specs.Behind.{epoch_at}
use Rattle.replay_run.proofs.Listing.{inward-idle, outward-put}
use Rattle.replay_run.proofs.lists.put_controlled.Goals as goal

pub returns-then-not-is_in_flight-clause-items : goal.returns-then-not-is_in_flight-clause-items
returns-then-not-is_in_flight-clause-items c t rows are same kept =
    let n = c.args.cursors.now.epoch in
    let f = held_event c.args.channels.now (epoch_at t c.args.cursors.now) rows in
    let out = c.args.out.now.items in
    let new = c.put_event.new.out.items in
    let idle = sym (kept.flight c.args.c c.requires.channel) ∙ sym c.is_in_flight.ensures ∙ c.if-not-is_in_flight.true in
    subst (λ (i : Dir). new ≡ out ++ flat_map f (controlled_in n rows c.args.c i)) (sym c.in-Inward.is)
    (inward-idle f n rows c.args.c out new idle (kept.starts c.args.c c.requires.channel) (c.put_event.ensures.items t rows are same kept.counts))

pub returns-in-Outward-clause-items : goal.returns-in-Outward-clause-items
returns-in-Outward-clause-items c t rows are same kept =
    let n = c.args.cursors.now.epoch in
    let f = held_event c.args.channels.now (epoch_at t c.args.cursors.now) rows in
    let out = c.args.out.now.items in
    let new = c.put_event-in-Outward.new.out.items in
    subst (λ (i : Dir). new ≡ out ++ flat_map f (controlled_in n rows c.args.c i)) (sym c.in-Outward.is)
    (outward-put f n rows c.args.c out new (c.put_event-in-Outward.ensures.items t rows are same kept.counts))
