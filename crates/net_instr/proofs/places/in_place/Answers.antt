use Rattle.std.proofs.Common.{◌≡◌, ℕ, List, length, ap, sym, ◌∙◌, arith}
use Rattle.net_instr.specs.declared.instr.Instr.{Instr}
use Rattle.net_instr.specs.Machine.{exec}
use Rattle.net_instr.specs.InPlace.{through}
use Rattle.net_instr.proofs.InPlaceLaws.{at_some, identity_seen, as_it_stands}
use Rattle.net_instr.proofs.places.in_place.Goals as goal

pub returns-in-Some-Some : goal.returns-in-Some-Some
returns-in-Some-Some c =
    let old = c.in_ok-places.places in
    let new = c.settles_in_place.new.places in
    let clocks = c.in-Some-Some.clocking in
    let first = c.in_ok-places.ensures.0 in
    let long : length new ≡ c.args.nets = c.settles_in_place.ensures.long ∙ first in
    let same = at_some _ _ _ c.in-Some-Some.is-0 c.in_ok-settles.ensures.same in
    let next = at_some _ _ _ c.in-Some-Some.is-1 c.in_ok-clocks.ensures.same in
    let lent = ap length c.as_slice-3.ensures in
    record {
      long = long;
      below = λ i l.
          let b = c.settles_in_place.ensures.are_places.below i (omega (arith, l, long)) in
          omega (arith, b, long);
      settled = λ s l.
          same s (omega (arith, l, first))
          ∙ ap (exec c.as_slice.result.now 0) (identity_seen old s (λ i k. c.in_ok-places.ensures.1 i (omega (arith, k, first)))
          (omega (arith, l, first)))
          ∙ ap (λ (xs : List Instr). exec xs 0 s) c.as_slice.ensures;
      clocked = λ s l.
          ap (λ (ps : List ℕ). through ps (exec clocks 0 s)) (sym c.as_slice-3.ensures)
          ∙ next s (omega (arith, l, long, lent))
          ∙ ap (λ (ps : List ℕ). exec c.as_slice-2.result.now 0 (through ps s)) c.as_slice-3.ensures
          ∙ ap (λ (xs : List Instr). exec xs 0 (through new s)) c.as_slice-2.ensures;
      settles_safe = at_some _ _ _ c.in-Some-Some.is-0 c.in_ok-settles.ensures.safe;
      clocks_safe = at_some _ _ _ c.in-Some-Some.is-1 c.in_ok-clocks.ensures.safe;
    }

pub returns : goal.returns
returns c =
    as_it_stands c.args.nets c.args.settling c.args.clocking c.in_ok-places-2.places c.in_ok-places-2.ensures.0 c.in_ok-places-2.ensures.1
    c.requires.settling c.requires.clocking
