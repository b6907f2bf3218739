use Rattle.std.proofs.Common.{sym, ◌∙◌}
use Rattle.run_stage.specs.run_model.Replay.{done}
use Rattle.replay_run.specs.Behind.{epoch_at}
use Rattle.replay_run.proofs.Listing.{next-known, starts-known, wait-held, wait-past, wait-put}
use Rattle.replay_run.proofs.lists.put_wait.Goals as goal
use Rattle.replay_run.proofs.lists.put_wait.Goals.{else-has_next-via-then-has_next+else-not-is_held, else-has_next-via-else-has_next}

pub returns-then-not-is_held-clause-items : goal.returns-then-not-is_held-clause-items
returns-then-not-is_held-clause-items c t rows are kept l =
    let n = c.args.cursors.now.epoch in
    let e = c.next_event-event in
    let next = e.ensures.next _ rows kept l in
    wait-put n (epoch_at t c.args.cursors.now) rows c.args.c e.result c.has_next.result c.args.helds.now c.args.out.now.items
    (next-known n rows c.args.c e.result next (starts-known _ rows c.args.have.now c.args.last.now c.args.c kept l)) next
    (c.has_next.ensures t (done rows) are l) c.push_reserved.new.self.items c.if-has_next.true
    (sym c.is_held.ensures ∙ c.if-not-is_held.true) c.push_reserved.ensures.items

pub returns-else-has_next-clause-items : goal.returns-else-has_next-clause-items
returns-else-has_next-clause-items c t rows are kept l =
    let n = c.args.cursors.now.epoch in
    let here = epoch_at t c.args.cursors.now in
    let e = c.next_event-event in
    let next = e.ensures.next _ rows kept l in
    let known = next-known n rows c.args.c e.result next (starts-known _ rows c.args.have.now c.args.last.now c.args.c kept l) in
    let says = c.has_next.ensures t (done rows) are l in
    elim c.else-has_next.branch [
      | else-has_next-via-then-has_next+else-not-is_held w ↦ wait-held n here rows c.args.c e.result c.has_next.result
          c.args.helds.now c.args.out.now.items known next says w.if-has_next.true (sym w.is_held.ensures ∙ w.if-not-is_held.false)
      | else-has_next-via-else-has_next w ↦ wait-past n here rows c.args.c e.result c.has_next.result c.args.helds.now
          c.args.out.now.items known next says w.if-has_next.false
    ]
