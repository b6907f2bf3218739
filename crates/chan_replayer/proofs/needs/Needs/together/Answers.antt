use Rattle.std.proofs.Common.{◌≡◌, ◌<◌, ℕ, length, get_or, sym, ap, refl, ◌∙◌, arith}
use Rattle.vec_clock.specs.vidi_bits.Number.{has}
use Rattle.chan_replayer.specs.Needs.{clock_at}
use Rattle.chan_replayer.proofs.Sharing.{clock-is, side-is}
use Rattle.chan_replayer.proofs.needs.Needs.together.Goals as goal

pub bounds-as_slice-c : goal.bounds-as_slice-c
bounds-as_slice-c c =
    let f = c.self.inside in
    let r = c.requires in
    let n = side-is f.places f.users f.clocks c.args.self.now r.0 c.self.invariant c.self.view_is r.1 in
    let l = r.2 in
    let e = ap length c.as_slice-2.ensures in
    omega (arith, n, l, e)

pub returns : goal.returns
returns c =
    let f = c.self.inside in
    let used = c.self.invariant.used in
    let r = c.requires in
    let there = side-is f.places f.users f.clocks c.args.self.now r.0 c.self.invariant c.self.view_is r.1 in
    let l : c.args.c < length f.places = (let m = r.2 in omega (arith, m, there)) in
    let mask : get_or c.as_slice.result.now c.from.result 0 ≡ get_or f.users (get_or f.places c.args.c 0) 0 =
    ap (λ xs. get_or xs c.from.result 0) c.as_slice.ensures
    ∙ ap (λ p. get_or f.users p 0) (c.from.ensures ∙ ap (λ xs. get_or xs c.args.c 0) c.as_slice-2.ensures) in
    record {
      own = ap (λ m. has m c.args.c) mask ∙ (used.each (get_or f.places c.args.c 0) c.args.c (used.within c.args.c l)).1 (l, refl);
      same = λ n d long up.
          (let side = side-is f.places f.users f.clocks c.args.self.now n c.self.invariant c.self.view_is long in
          let is = (used.each (get_or f.places c.args.c 0) d (used.within c.args.c l)).0 (ap (λ m. has m d) (sym mask) ∙ up) in
          let m = is.0 in
          let clock : (e : ℕ) → e < n → clock_at n c.args.self.now e ≡ clock_at n f.clocks (get_or f.places e 0) =
          λ e b. clock-is f.places f.users f.clocks c.args.self.now n c.self.invariant c.self.view_is long e b in (
            omega (arith, m, side),
            clock d (omega (arith, m, side)) ∙ ap (clock_at n f.clocks) is.1 ∙ sym (clock c.args.c (omega (arith, l, side))),
          ));
    }
