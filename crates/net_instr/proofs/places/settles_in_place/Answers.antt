use Rattle.std.proofs.Common.{List, take, sym, subst, ◌∙◌}
use Rattle.std.proofs.lemmas.List.{take_more}
use Rattle.net_instr.specs.declared.instr.Instr.{Instr}
use Rattle.net_instr.specs.InPlace.{Follows}
use Rattle.net_instr.proofs.InPlaceLaws.{at_some}
use Rattle.net_instr.proofs.places.settles_in_place.Goals as goal

pub loop-instr-preserved : goal.loop-instr-preserved
loop-instr-preserved c =
    let l = c.loop-instr in
    let first = c.args.places.now in
    let code = c.args.code.now in
    let f = at_some _ _ _ c.in-Some.is c.in_ok-next.ensures.follows in
    record {
      places = c.push_or_take.ensures.are_places;
      long = c.push_or_take.ensures.long ∙ l.invariant.long;
      follows = subst (λ (xs : List Instr). Follows first c.push_or_take.new.places c.in-Some.next xs c.push_or_take.new.out)
          (sym (take_more code l.instr-index _ c.loop-instr-test.true)) (f first (take l.instr-index code) l.invariant.follows);
      safe = c.in_ok-next.ensures.safe l.invariant.safe (c.requires.safe l.instr-index _ c.loop-instr-test.true);
    }
