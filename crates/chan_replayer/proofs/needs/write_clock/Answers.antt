use Rattle.std.proofs.Common.{◌≡◌, ◌<◌, ◌+◌, length, get_or, set, sym, subst, arith, ⊎_elim}
use Rattle.std.proofs.lemmas.Bool.{cases_eq}
use Rattle.std.proofs.lemmas.List.{get_or-set_same, get_or-set_other}
use Rattle.chan_replayer.proofs.Sharing.{number-others}
use Rattle.chan_replayer.proofs.needs.write_clock.Goals as goal

pub loop-d-preserved : goal.loop-d-preserved
loop-d-preserved g c =
    let l = c.loop-d-test.true in
    let room = c.requires.room in
    let long = c.loop-d.auto.clocks in
    let within : c.args.at + c.loop-d.d < length c.loop-d.clocks = omega (arith, l, room, long) in
    record {
      here = λ e m. ⊎_elim
          (λ (h : e ≡ c.loop-d.d).
          subst (λ i. goal.F-post g c.args.number i (get_or (set c.loop-d.clocks (c.args.at + c.loop-d.d) c.number.result) (c.args.at + i) 0)) (sym h)
          (subst (λ x. goal.F-post g c.args.number c.loop-d.d x) (sym (get_or-set_same c.loop-d.clocks (c.args.at + c.loop-d.d) c.number.result 0 within))
          c.number.ensures))
          (λ (ne : e ≡ c.loop-d.d → ⊥).
          subst (λ x. goal.F-post g c.args.number e x)
          (sym (get_or-set_other c.loop-d.clocks (c.args.at + c.loop-d.d) (c.args.at + e) c.number.result 0 (λ k. ne (omega (arith, k)))))
          (c.loop-d.invariant.here e (omega (arith, m, ne))))
          (cases_eq e c.loop-d.d);
      others = number-others c.loop-d.clocks c.args.clocks.now c.args.at c.args.channels c.loop-d.d c.number.result l c.loop-d.invariant.others;
    }

pub returns-clause-here : goal.returns-clause-here
returns-clause-here g c d l = c.loop-d.invariant.here d (let f = c.loop-d-test.false in omega (arith, l, f))
