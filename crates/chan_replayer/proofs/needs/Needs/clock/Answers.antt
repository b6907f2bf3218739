use Rattle.std.proofs.Common.{◌≡◌, ◌<◌, ◌*◌, length, get_or, sym, ap, ◌∙◌, arith}
use Rattle.chan_replayer.specs.Needs.{clock_at}
use Rattle.chan_replayer.proofs.Sharing.{clock-is, place-within, side-is}
use Rattle.chan_replayer.proofs.needs.Needs.clock.Goals as goal

pub bounds-as_slice-c : goal.bounds-as_slice-c
bounds-as_slice-c c =
    let f = c.self.inside in
    let r = c.requires in
    let n = side-is f.places f.users f.clocks c.args.self.now r.0 c.self.invariant c.self.view_is r.1 in
    let l = r.2 in
    let e = ap length c.as_slice.ensures in
    omega (arith, n, l, e)

pub clock_from-requires : goal.clock_from-requires
clock_from-requires c =
    let f = c.self.inside in
    let r = c.requires in
    let n = side-is f.places f.users f.clocks c.args.self.now r.0 c.self.invariant c.self.view_is r.1 in
    let place : c.from-place.result ≡ get_or f.places c.args.c 0 = c.from-place.ensures ∙ ap (λ xs. get_or xs c.args.c 0) c.as_slice.ensures in
    record {
      few = (let few = c.self.invariant.used.few in let many = c.len.ensures in omega (arith, few, many));
      place = (let l = place-within f.places f.users f.clocks c.args.self.now r.0 c.self.invariant c.self.view_is r.1 c.args.c r.2 in
          let many = c.len.ensures in omega (arith, l, place, many, n));
      long = ap length c.as_slice-2.ensures ∙ c.self.invariant.long ∙ ap (λ m. m * m) (sym c.len.ensures);
    }

pub returns : goal.returns
returns c n long =
    let f = c.self.inside in
    let side = side-is f.places f.users f.clocks c.args.self.now n c.self.invariant c.self.view_is long in
    let r = c.requires in
    let same = side-is f.places f.users f.clocks c.args.self.now r.0 c.self.invariant c.self.view_is r.1 in
    let l : c.args.c < n = (let m = r.2 in omega (arith, m, same, side)) in
    let place : c.from-place.result ≡ get_or f.places c.args.c 0 = c.from-place.ensures ∙ ap (λ xs. get_or xs c.args.c 0) c.as_slice.ensures in
    c.clock_from.ensures ∙ ap (λ xs. clock_at c.len.result xs c.from-place.result) c.as_slice-2.ensures
    ∙ ap (λ m. clock_at m f.clocks c.from-place.result) (c.len.ensures ∙ side) ∙ ap (clock_at n f.clocks) place
    ∙ sym (clock-is f.places f.users f.clocks c.args.self.now n c.self.invariant c.self.view_is long c.args.c l)
