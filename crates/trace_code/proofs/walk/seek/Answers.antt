use Rattle.std.proofs.Common.{◌≡◌, ℕ, ◌+◌, List, length, take, refl, subst, sym, ap, ◌∙◌, arith}
use Rattle.vec_clock.specs.trace_model.Packet.{count}
use Rattle.trace_code.specs.Heads.{IsHead}
use Rattle.trace_code.specs.Standing.{IsAt}
use Rattle.trace_code.specs.Counted.{counted}
use Rattle.trace_code.proofs.Walking.{before-end, count-stays, event-is, head-read, row-there, some-there, stands-there}
use Rattle.trace_code.proofs.walk.seek.Goals as goal

pub turn_to-requires-clause-some : goal.turn_to-requires-clause-some
turn_to-requires-clause-some c =
    let inv = c.packets.invariant in
    let sizes = c.packets.head.sizes.items in
    let t = c.requires.0 in
    let p = c.requires.1 + inv.k in
    let counts = counted c.packets.tally in
    let now = inv.is t c.requires.1 c.requires.2 in
    let l = before-end t p c.is_end.result c.packets-test.true (c.is_end.ensures t p now) in
    some-there t p sizes c.packets.here.now counts now l

pub turn_to-requires-clause-row : goal.turn_to-requires-clause-row
turn_to-requires-clause-row c =
    let inv = c.packets.invariant in
    let sizes = c.packets.head.sizes.items in
    let t = c.requires.0 in
    let p = c.requires.1 + inv.k in
    let counts = counted c.packets.tally in
    let now = inv.is t c.requires.1 c.requires.2 in
    let l = before-end t p c.is_end.result c.packets-test.true (c.is_end.ensures t p now) in
    row-there t p sizes c.packets.here.now counts now l

pub returns-then-has_event-clause-stands : goal.returns-then-has_event-clause-stands
returns-then-has_event-clause-stands c t q at =
    let inv = c.packets.invariant in
    let k = c.packets.tally in
    let clock = counted k in
    let h = c.turn_to.new.self in
    let p = q + inv.k in
    let now = inv.is t q at in
    let l = before-end t p c.is_end.result c.packets-test.true (c.is_end.ensures t p now) in
    let there = subst (λ (xs : List ℕ). IsAt t p xs c.packets.here.now clock) (sym c.turn_to.ensures.sizes) now in
    let head = subst (λ (xs : List ℕ). IsHead (length xs) h.reset h.starts h.ends c.packets.here.now) (sym c.turn_to.ensures.sizes)
    c.turn_to.ensures.head in
    let r = head-read t p h.sizes.items c.packets.here.now clock h.reset h.starts h.ends _ there l head refl in
    let event = event-is t p h.sizes.items c.packets.here.now h.reset h.starts h.ends _ r c.args.kind c.args.channel r.here_is.packet r.here_is.at in
    stands-there t c.args.kind c.args.channel (count c.args.kind c.args.channel (take q t.packets)) p h.sizes.items c.packets.here.now clock
    h.reset h.starts h.ends there (inv.before t q at) r.here_is.packet r.here_is.at (sym event ∙ sym c.has_event.ensures ∙ c.if-has_event.true) head

pub skip-here-requires-clause-at : goal.skip-here-requires-clause-at
skip-here-requires-clause-at c =
    let inv = c.packets.invariant in
    let k = c.packets.tally in
    let clock = counted k in
    let t = c.requires.0 in
    let p = c.requires.1 + inv.k in
    let now = inv.is t c.requires.1 c.requires.2 in
    let l = before-end t p c.is_end.result c.packets-test.true (c.is_end.ensures t p now) in
    (t, p, subst (λ (xs : List ℕ). IsAt t p xs c.packets.here.now clock) (sym c.turn_to.ensures.sizes) now, l)

pub skip-here-requires-clause-head : goal.skip-here-requires-clause-head
skip-here-requires-clause-head c =
    let h = c.turn_to.new.self in
    subst (λ (xs : List ℕ). IsHead (length xs) h.reset h.starts h.ends c.packets.here.now) (sym c.turn_to.ensures.sizes) c.turn_to.ensures.head

pub packets-preserved : goal.packets-preserved
packets-preserved c =
    let inv = c.packets.invariant in
    let k = c.packets.tally in
    let clock = counted k in
    let h = c.turn_to.new.self in
    let after = c.skip-here.new.tally in
    record {
      k = inv.k + 1;
      is = λ t q at.
          (let p = q + inv.k in
          let now = inv.is t q at in
          let l = before-end t p c.is_end.result c.packets-test.true (c.is_end.ensures t p now) in
          let there = subst (λ (xs : List ℕ). IsAt t p xs c.packets.here.now clock) (sym c.turn_to.ensures.sizes) now in
          let e : q + inv.k + 1 ≡ q + (inv.k + 1) = omega arith in
          subst (λ n. IsAt t n h.sizes.items c.skip-here.result.now (counted after)) e
          (c.skip-here.ensures.at t p there l));
      before = λ t q at.
          (let p = q + inv.k in
          let now = inv.is t q at in
          let l = before-end t p c.is_end.result c.packets-test.true (c.is_end.ensures t p now) in
          let there = subst (λ (xs : List ℕ). IsAt t p xs c.packets.here.now clock) (sym c.turn_to.ensures.sizes) now in
          let head = subst (λ (xs : List ℕ). IsHead (length xs) h.reset h.starts h.ends c.packets.here.now) (sym c.turn_to.ensures.sizes)
          c.turn_to.ensures.head in
          let r = head-read t p h.sizes.items c.packets.here.now clock h.reset h.starts h.ends _ there l head refl in
          let event = event-is t p h.sizes.items c.packets.here.now h.reset h.starts h.ends _ r c.args.kind c.args.channel r.here_is.packet r.here_is.at in
          let e : q + (inv.k + 1) ≡ q + inv.k + 1 = omega arith in
          ap (λ n. count c.args.kind c.args.channel (take n t.packets)) e
          ∙ count-stays t p c.args.kind c.args.channel r.here_is.packet r.here_is.at
          (sym event ∙ sym c.has_event.ensures ∙ c.if-has_event.false)
          ∙ inv.before t q at);
      sizes = c.turn_to.ensures.sizes ∙ inv.sizes;
    }
