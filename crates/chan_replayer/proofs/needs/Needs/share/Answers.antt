use Rattle.std.proofs.Common.{◌≡◌, ◌<◌, length, get_or, set, sym, subst, ap, refl, ◌∙◌, arith}
use Rattle.std.specs.List.{refill}
use Rattle.chan_monitor.proofs.RowOfCycle.{refill-is}
use Rattle.chan_replayer.specs.Needs.{all_clocks, clock_at, AreUsers}
use Rattle.chan_replayer.proofs.Sharing.{clock-is, new-here, new-long, new-others, place-within, side-is}
use Rattle.chan_replayer.proofs.needs.Needs.share.Goals as goal

pub bounds-as_slice-b : goal.bounds-as_slice-b
bounds-as_slice-b c =
    let f = c.self.inside in
    let r = c.requires.there in
    let n = side-is f.places f.users f.clocks c.args.self.now r.0 c.self.invariant c.self.view_is r.1 in
    let l = r.3 in
    let e = ap length c.as_slice.ensures in
    omega (arith, n, l, e)

pub move_to-requires-clause-channel : goal.move_to-requires-clause-channel
move_to-requires-clause-channel c =
    let f = c.self.inside in
    let r = c.requires.there in
    let n = side-is f.places f.users f.clocks c.args.self.now r.0 c.self.invariant c.self.view_is r.1 in
    let l = r.2 in
    let e = ap length c.as_mut_slice.ensures.value in
    omega (arith, n, l, e)

pub move_to-requires-clause-place : goal.move_to-requires-clause-place
move_to-requires-clause-place c =
    let f = c.self.inside in
    let r = c.requires.there in
    let n = side-is f.places f.users f.clocks c.args.self.now r.0 c.self.invariant c.self.view_is r.1 in
    let place = c.from-place.ensures ∙ ap (λ xs. get_or xs c.args.b 0) c.as_slice.ensures in
    let l = place-within f.places f.users f.clocks c.args.self.now r.0 c.self.invariant c.self.view_is r.1 c.args.b r.3 in
    let e = ap length c.as_mut_slice.ensures.value in
    omega (arith, l, e, n, place)

pub returns : goal.returns
returns c =
    let f = c.self.inside in
    let r = c.requires.there in
    let p = c.from-place.result in
    let place : p ≡ get_or f.places c.args.b 0 = c.from-place.ensures ∙ ap (λ xs. get_or xs c.args.b 0) c.as_slice.ensures in
    let set_is : c.move_to.new.places ≡ set f.places c.args.c p =
    c.move_to.ensures.places ∙ ap (λ xs. set xs c.args.c p) c.as_mut_slice.ensures.value in
    let moved = refill-is f.places c.move_to.new.places (c.move_to.auto.places ∙ ap length c.as_mut_slice.ensures.value) ∙ set_is in
    let used : AreUsers (set f.places c.args.c p) c.move_to.new.users = subst (λ xs. AreUsers xs c.move_to.new.users) set_is c.move_to.ensures.users in
    let view : all_clocks (refill (length f.places) f.places c.move_to.new.places) f.clocks ≡ all_clocks (set f.places c.args.c p) f.clocks = ap (λ xs. all_clocks xs f.clocks) moved in
    record {
      long = ap length view
          ∙ new-long f.places f.users f.clocks c.args.self.now c.move_to.new.users f.clocks r.0 c.args.c p c.self.invariant c.self.view_is r.1 r.2 used refl
          (λ d l ne. refl) ∙ sym r.1;
      here = λ n long.
          (let side = side-is f.places f.users f.clocks c.args.self.now n c.self.invariant c.self.view_is long in
          let there = side-is f.places f.users f.clocks c.args.self.now r.0 c.self.invariant c.self.view_is r.1 in
          let lc : c.args.c < n = (let l = r.2 in omega (arith, l, side, there)) in
          let lb : c.args.b < n = (let l = r.3 in omega (arith, l, side, there)) in
          ap (λ xs. clock_at n xs c.args.c) view
          ∙ new-here f.places f.users f.clocks c.args.self.now c.move_to.new.users f.clocks n c.args.c p c.self.invariant c.self.view_is long lc used refl
          (λ d l ne. refl) ∙ ap (clock_at n f.clocks) place
          ∙ sym (clock-is f.places f.users f.clocks c.args.self.now n c.self.invariant c.self.view_is long c.args.b lb));
      others = λ n d long ne.
          (let side = side-is f.places f.users f.clocks c.args.self.now n c.self.invariant c.self.view_is long in
          let there = side-is f.places f.users f.clocks c.args.self.now r.0 c.self.invariant c.self.view_is r.1 in
          let lc : c.args.c < n = (let m = r.2 in omega (arith, m, side, there)) in
          ap (λ xs. clock_at n xs d) view
          ∙ new-others f.places f.users f.clocks c.args.self.now c.move_to.new.users f.clocks n c.args.c p c.self.invariant c.self.view_is long lc used refl
          (λ e m off. refl) d ne);
    }
