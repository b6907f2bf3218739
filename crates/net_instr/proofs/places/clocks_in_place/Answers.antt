use Rattle.std.proofs.Common.{List, take, sym, subst}
use Rattle.std.proofs.lemmas.List.{take_more}
use Rattle.net_instr.specs.declared.instr.Instr.{Instr}
use Rattle.net_instr.specs.InPlace.{Follows}
use Rattle.net_instr.proofs.InPlaceLaws.{at_some}
use Rattle.net_instr.proofs.places.clocks_in_place.Goals as goal

pub loop-instr-preserved : goal.loop-instr-preserved
loop-instr-preserved c =
    let l = c.loop-instr in
    let ps = c.args.places.now in
    let code = c.args.code.now in
    let f = at_some _ _ _ c.in-Some.is c.in_ok-next.ensures.follows in
    record {
      follows = subst (λ (xs : List Instr). Follows ps ps c.in-Some.next xs c.push_apart.new.out)
          (sym (take_more code l.instr-index _ c.loop-instr-test.true)) (f ps (take l.instr-index code) l.invariant.follows);
      safe = c.in_ok-next.ensures.safe l.invariant.safe (c.requires.safe l.instr-index _ c.loop-instr-test.true);
    }
