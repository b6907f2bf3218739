use Rattle.std.proofs.Common.{◌≡◌, ◌≢◌, ◌⊎◌, ◌<◌, ◌≤◌, ◌+◌, ◌*◌, ℕ, length, get_or, set, sym, subst, ap, ◌∙◌, arith}
use Rattle.std.specs.List.{refill}
use Rattle.chan_monitor.proofs.RowOfCycle.{refill-is}
use Rattle.chan_replayer.specs.Needs.{all_clocks, clock_at, AreUsers}
use Rattle.chan_replayer.proofs.Sharing.{apart, new-here, new-long, new-others, number-at, place-within, same-clock, side-is}
use Rattle.chan_replayer.proofs.needs.Needs.write.Goals as goal

pub part-place-requires-clause-channel : goal.part-place-requires-clause-channel
part-place-requires-clause-channel g c =
    let f = c.self.inside in
    let r = c.requires.there in
    let n = side-is f.places f.users f.clocks c.args.self.now r.0 c.self.invariant c.self.view_is r.1 in
    let l = r.2 in
    let e = ap length c.as_mut_slice.ensures.value in
    omega (arith, n, l, e)

pub write_clock-requires-clause-told : goal.write_clock-requires-clause-told
write_clock-requires-clause-told g c d l =
    let f = c.self.inside in
    let r = c.requires.there in
    let n = side-is f.places f.users f.clocks c.args.self.now r.0 c.self.invariant c.self.view_is r.1 in
    r.3 d (let m = c.len-channels.ensures in omega (arith, l, m, n))

pub returns : goal.returns
returns g c =
    let f = c.self.inside in
    let r = c.requires.there in
    let p = c.part-place.result in
    let new = c.write_clock.new.clocks in
    let places_long = ap length c.as_mut_slice.ensures.value in
    let set_is : c.part-place.new.places ≡ set f.places c.args.c p =
    c.part-place.ensures.places ∙ ap (λ xs. set xs c.args.c p) c.as_mut_slice.ensures.value in
    let moved = refill-is f.places c.part-place.new.places (c.part-place.auto.places ∙ places_long) ∙ set_is in
    let long : length new ≡ length f.clocks = c.write_clock.auto.clocks ∙ ap length c.as_mut_slice-3.ensures.value in
    let filled = refill-is f.clocks new long in
    let used : AreUsers (set f.places c.args.c p) c.part-place.new.users =
    subst (λ xs. AreUsers xs c.part-place.new.users) set_is c.part-place.ensures.users in
    let view : all_clocks (refill (length f.places) f.places c.part-place.new.places) (refill (length f.clocks) f.clocks new)
    ≡ all_clocks (set f.places c.args.c p) new =
    ap (λ xs. all_clocks xs (refill (length f.clocks) f.clocks new)) moved ∙ ap (all_clocks (set f.places c.args.c p)) filled in
    let there = side-is f.places f.users f.clocks c.args.self.now r.0 c.self.invariant c.self.view_is r.1 in
    let same : (n : ℕ) → length c.args.self.now ≡ n * n → (d : ℕ) → d < n → d ≢ c.args.c
    → clock_at n new (get_or f.places d 0) ≡ clock_at n f.clocks (get_or f.places d 0) =
    λ n is d l ne.
    (let side = side-is f.places f.users f.clocks c.args.self.now n c.self.invariant c.self.view_is is in
    let many : c.len-channels.result ≡ n = c.len-channels.ensures ∙ side in
    let as_many : length f.clocks ≡ n * n = c.self.invariant.long ∙ ap (λ m. m * m) side in
    let within = place-within f.places f.users f.clocks c.args.self.now n c.self.invariant c.self.view_is is d l in
    let off : get_or f.places d 0 ≢ p = λ e. c.part-place.ensures.alone d (omega (arith, l, side, places_long)) ne (ap (λ xs. get_or xs d 0) c.as_mut_slice.ensures.value ∙ e) in
    same-clock n new f.clocks (get_or f.places d 0) (get_or f.places d 0) (long ∙ as_many) as_many within within (λ e m.
    (let out = apart n p (get_or f.places d 0) e off m in
    c.write_clock.ensures.others (n * get_or f.places d 0 + e) (subst (λ k. (n * get_or f.places d 0 + e < k * p) ⊎ (k * p + k ≤ n * get_or f.places d 0 + e)) (sym many) out)
    ∙ ap (λ xs. get_or xs (n * get_or f.places d 0 + e) 0) c.as_mut_slice-3.ensures.value))) in
    record {
      long = ap length view
          ∙ new-long f.places f.users f.clocks c.args.self.now c.part-place.new.users new r.0 c.args.c p c.self.invariant c.self.view_is r.1 r.2 used long
          (same r.0 r.1) ∙ sym r.1;
      here = λ n d is l.
          (let side = side-is f.places f.users f.clocks c.args.self.now n c.self.invariant c.self.view_is is in
          let many : c.len-channels.result ≡ n = c.len-channels.ensures ∙ side in
          let lc : c.args.c < n = (let m = r.2 in omega (arith, m, side, there)) in
          let at : get_or (all_clocks (refill (length f.places) f.places c.part-place.new.places) (refill (length f.clocks) f.clocks new)) (n * c.args.c + d) 0
          ≡ get_or new (n * p + d) 0 =
          ap (λ xs. get_or xs (n * c.args.c + d) 0) view ∙ sym (number-at n (all_clocks (set f.places c.args.c p) new) c.args.c d l)
          ∙ ap (λ xs. get_or xs d 0) (new-here f.places f.users f.clocks c.args.self.now c.part-place.new.users new n c.args.c p c.self.invariant
          c.self.view_is is lc used long (same n is))
          ∙ number-at n new p d l in
          subst (λ x. goal.F-post g c.args.number d x) (sym at)
          (subst (λ k. goal.F-post g c.args.number d (get_or new (k * p + d) 0)) many (c.write_clock.ensures.here d (omega (arith, l, many)))));
      others = λ n d is ne.
          (let side = side-is f.places f.users f.clocks c.args.self.now n c.self.invariant c.self.view_is is in
          let lc : c.args.c < n = (let m = r.2 in omega (arith, m, side, there)) in
          ap (λ xs. clock_at n xs d) view
          ∙ new-others f.places f.users f.clocks c.args.self.now c.part-place.new.users new n c.args.c p c.self.invariant c.self.view_is is lc used long
          (same n is) d ne);
    }
