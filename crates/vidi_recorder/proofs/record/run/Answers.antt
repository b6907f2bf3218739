use Rattle.std.proofs.Common.{◌<◌, ◌^◌, ℕ, [], false, cond, inl, length, refl, ap, sym, subst, ◌∙◌, arith}
use Rattle.std.proofs.Math.Logic.{∥∥₁_map}
use Rattle.std.proofs.lemmas.List.{length-map}
use Rattle.std.specs.Io.KnownBytes.{append_known}
use Rattle.circular_buffer.specs.Buffer.{Buffer}
use Rattle.trace_code.specs.trace_model.Channel.{content_bytes}
use Rattle.trace_code.specs.trace_model.Row.{row_before}
use Rattle.trace_code.specs.Encoding.{header_bytes}
use Rattle.env_script.specs.chan_map.declared.pins.Map.{Map}
use Rattle.env_script.specs.run_model.Step.{IsFirst}
use Rattle.room_ledger.specs.Ledger.{Ledger}
use Rattle.run_stage.specs.chan_monitor.Shell.{IsMapped, IsRunning}
use Rattle.run_stage.specs.Stretching.{all_rows}
use Rattle.run_stage.proofs.Stretching.{first}
use Rattle.vidi_io.proofs.vidi_bits_lemmas.Results.{on_err}
use Rattle.vidi_recorder.specs.declared.error.Outcome.{Outcome}
use Rattle.vidi_recorder.specs.Course.{course, plan_of, turns_within}
use Rattle.vidi_recorder.specs.Standing.{Going, RunsTo, end_so_far}
use Rattle.vidi_recorder.proofs.Ends.{cut-before, none-first, none-next, ran-to}
use Rattle.vidi_recorder.proofs.Going.{cut-header, going-first}
use Rattle.vidi_recorder.proofs.Played.{Rule, Within, reached}
use Rattle.vidi_recorder.proofs.Runs.{fits-behind}
use Rattle.vidi_recorder.proofs.Turning.{given-long}
use Rattle.vidi_recorder.proofs.Turns.{fits-now, lasting}
use Rattle.vidi_recorder.proofs.record.run.Goals as goal

pub returns-in_err-push-clause-cut : goal.returns-in_err-push-clause-cut
returns-in_err-push-clause-cut g c = on_err c.from_residual.result (λ d s before is.
    (let recorder = c.args.recorder.now in
    let m = recorder.map.now in
    let env = recorder.env.now in
    let offer = g.E.Env.offer (g.E.Env.plan env) in
    let times = recorder.resets.now in
    let plan = plan_of recorder.stalls.now times in
    let cycles = recorder.cycles in
    let runs = g.S.Shell.runs c.reset.new.self in
    let b = c.reset.ensures.first d s before is in
    let plays = first d m (Rule d m offer plan times cycles) (Within d m offer plan times cycles)
    (λ e v before rows. runs e v (row_before rows (length rows))) c.args.rows.now.last c.requires.silent
    (b.0, subst (λ (x : Map). IsFirst d x b.0) c.requires.mapped b.1, b.2) in
    cut-before d m offer plan times cycles [] [] runs (g.E.Env.stands_for env) (g.K.Sink.told recorder.sink.now) (g.K.Sink.told c.push.new.self)
    false (none-first m.channels plan times cycles)
    (cut-header m.channels plan (g.K.Sink.told recorder.sink.now) (g.K.Sink.told c.push.new.self)
    c.as_slice.result.now (c.as_slice.ensures ∙ c.requires.header) c.in_err-push.ensures.err)
    c.requires.first (subst (IsMapped d) c.requires.mapped (g.met.S.Shell.ready c.args.shell.now d s before is))
    (fits-behind m.channels offer (lasting m.channels (g.E.Env.channels env) offer c.requires.channels (g.met.E.Env.fits env)
    (g.met.E.Env.stays env)))
    plays.played plays.stable (inl refl) (omega arith) plays.at))

pub offer-requires-clause-fits : goal.offer-requires-clause-fits
offer-requires-clause-fits g c =
    let env = c.args.recorder.now.env.now in
    let channels = c.args.recorder.now.map.now.channels in
    let offer = g.E.Env.offer (g.E.Env.plan env) in
    fits-now channels offer (g.E.Env.current env) []
    (lasting channels (g.E.Env.channels env) offer c.requires.channels (g.met.E.Env.fits env) (g.met.E.Env.stays env))
    (g.met.E.Env.offers_now env [] c.requires.first)

pub play_stretches-requires-clause-begun : goal.play_stretches-requires-clause-begun
play_stretches-requires-clause-begun g c =
    ∥∥₁_map (g.met.S.Shell.running c.args.shell.now) (λ (r : IsRunning (g.S.Shell.runs c.args.shell.now)).
    (let b = c.reset.ensures.first r.0 r.1 r.2 r.3 in
    (r.0, (b.0, subst (λ (x : Map). IsFirst r.0 x b.0) c.requires.mapped b.1, b.2))))

pub play_stretches-requires-clause-stands : goal.play_stretches-requires-clause-stands
play_stretches-requires-clause-stands g c =
    let recorder = c.args.recorder.now in
    let env = recorder.env.now in
    let channels = recorder.map.now.channels in
    let plan = plan_of recorder.stalls.now recorder.resets.now in
    let cells = recorder.cells.now in
    let told = g.K.Sink.told c.push.new.self in
    let offer = g.E.Env.offer (g.E.Env.plan env) in
    let fits = fits-now channels offer (g.E.Env.current env) []
    (lasting channels (g.E.Env.channels env) offer c.requires.channels (g.met.E.Env.fits env) (g.met.E.Env.stays env))
    (g.met.E.Env.offers_now env [] c.requires.first) in (
      refl,
      c.requires.table,
      record { plan = refl; channels_are = c.requires.channels; channels_stay = refl },
      record { later = omega arith; place_is = refl; frame = λ f h. h },
      record {
        far = record {
          header = (
            g.K.Sink.told recorder.sink.now,
            c.in_ok-push.ensures.ok ∙ ap (append_known (g.K.Sink.told recorder.sink.now)) (c.as_slice.ensures ∙ c.requires.header),
          );
          played = c.requires.first;
          going = λ start e. subst (λ b. Going channels plan start [] b cells.room cells.store.items told cells.packets) (sym c.requires.fresh)
              (subst (λ n. Going channels plan start [] false cells.room cells.store.items told n) (sym c.requires.packets)
              (going-first channels plan start cells.room cells.store.items (header_bytes channels) told c.requires.room
              (ap (λ (b : Buffer ℕ). b.items) c.requires.store) refl e));
          ends = c.requires.end ∙ ap (λ b. end_so_far [] b) (sym c.requires.fresh);
          came = (let r = c.requires.resets in let f = ap {B = ℕ} (λ b. cond b 1 0) c.requires.fresh in omega (arith, r, f));
          sizes = record {
            store = ap (λ (b : Buffer ℕ). b.capacity) c.requires.store;
            used = let none = ap (λ (l : Ledger). l.used) c.requires.room in omega (arith, none);
            out_len = c.requires.out;
            offers_len = given-long channels (g.E.Env.current env) c.offer.new.given c.offer.ensures.offers fits;
          };
          offers = c.offer.ensures.offers;
          gates = c.offer.ensures.gates;
          below = subst (λ n. c.offer.new.given.gates < 2 ^ n)
              (ap (λ (l : Ledger). length l.sizes) c.requires.room ∙ length-map channels content_bytes) c.offer.ensures.below;
        };
        next = record { begins = λ e. c.requires.fresh; goes_on = λ l. absurd (omega (arith, l)) };
      },
    )

pub returns-in_err-ending-clause-cut : goal.returns-in_err-ending-clause-cut
returns-in_err-ending-clause-cut g c = on_err c.from_residual-in_err-ending.result (λ d s before is.
    (let recorder = c.args.recorder.now in
    let m = recorder.map.now in
    let env = recorder.env.now in
    let offer = g.E.Env.offer (g.E.Env.plan env) in
    let times = recorder.resets.now in
    let plan = plan_of recorder.stalls.now times in
    let cycles = recorder.cycles in
    let b = c.reset.ensures.first d s before is in
    let fault = c.in_err-ending.ensures.fault in
    let rows = all_rows fault.0 fault.1 in
    let broke = fault.2.4 in
    let plays = fault.4 d (b.0, subst (λ (x : Map). IsFirst d x b.0) c.requires.mapped b.1, b.2) in
    let runs = g.S.Shell.runs c.play_stretches.new.stage in
    cut-before d m offer plan times cycles fault.0 fault.1 runs (g.E.Env.stands_for c.play_stretches.new.player.env.now)
    (g.K.Sink.told recorder.sink.now) (g.K.Sink.told c.play_stretches.new.player.sink.now) (turns_within m.channels plan times cycles rows) refl
    (broke.cut (g.K.Sink.told recorder.sink.now)
    (c.in_ok-push.ensures.ok ∙ ap (append_known (g.K.Sink.told recorder.sink.now)) (c.as_slice.ensures ∙ c.requires.header)))
    broke.played (subst (IsMapped d) c.requires.mapped (g.met.S.Shell.ready c.args.shell.now d s before is))
    (fits-behind m.channels offer (lasting m.channels (g.E.Env.channels env) offer c.requires.channels (g.met.E.Env.fits env)
    (g.met.E.Env.stays env)))
    plays.played plays.stable fault.3.asked fault.3.within plays.at))

pub returns-clause-ok : goal.returns-clause-ok
returns-clause-ok g c =
    let recorder = c.args.recorder.now in
    let m = recorder.map.now in
    let env = recorder.env.now in
    let offer = g.E.Env.offer (g.E.Env.plan env) in
    let times = recorder.resets.now in
    let plan = plan_of recorder.stalls.now times in
    let cycles = recorder.cycles in
    let ok = c.in_ok-ending.ensures.ok in
    let past = ok.0 in
    let here = ok.1 in
    let rows = all_rows past here in
    let at = ok.2.4 in (
      rows,
      at.far.played,
      at.far.going (g.K.Sink.told recorder.sink.now)
          (c.in_ok-push.ensures.ok ∙ ap (append_known (g.K.Sink.told recorder.sink.now)) (c.as_slice.ensures ∙ c.requires.header)),
      (λ d s before is.
          (let w = course d m offer recorder.stalls.now times cycles in
          let b = c.reset.ensures.first d s before is in
          let both = ok.5 d (b.0, subst (λ (x : Map). IsFirst d x b.0) c.requires.mapped b.1, b.2) in
          let plays = both.0 in
          let runs = g.S.Shell.runs c.play_stretches.new.stage in
          let packets = c.play_stretches.new.player.cells.now.packets in (
            subst (λ (o : Outcome). RunsTo w rows packets o) (sym c.outcome.ensures)
                (ran-to d m offer plan times cycles past here packets c.in_ok-ending.ending plays.played plays.stable ok.3.asked both.1 ok.4),
            reached d m offer plan times cycles past here plays.played ok.3.asked ok.3.within runs plays.at,
            none-next d m offer plan times cycles past here c.play_stretches.new.player.cells.now.fresh c.in_ok-ending.ending at.next ok.3.asked
                both.1 ok.4,
          ))),
    )
