use Rattle.std.proofs.Common.{◌≡◌, List, take, nat_lt, ap, ◌∙◌, arith}
use Rattle.std.specs.Borrow.{Bor}
use Rattle.std.proofs.lemmas.List.{take_all}
use Rattle.net_code.proofs.TallyLaws.{next_once, next_more}
use Rattle.net_design.specs.declared.act.Place.{Place}
use Rattle.net_design.specs.Bits.{place_writes}
use Rattle.net_code.specs.BitMap.{in_map}
use Rattle.net_drive.proofs.Tallies.{lent_count, lent_counted}
use Rattle.net_drive.proofs.tally.tally_places.Goals as goal

pub loop-place-init : goal.loop-place-init
loop-place-init c = record {
  once = λ m k l. c.new-tally.ensures.once m k;
  more = λ m k l. c.new-tally.ensures.more m k;
}

pub loop-place-preserved : goal.loop-place-preserved
loop-place-preserved c = record {
  once = λ m k l. next_once (λ (p : Bor Place). place_writes p.now m k) c.args.places.now c.loop-place.place-index c.place-item.result
      (in_map c.loop-place.tally.once m k) _ c.loop-place-test.true c.place-item.is (c.loop-place.invariant.once m k l)
      (c.in_ok-add_place.ensures.once m k l);
  more = λ m k l. next_more (λ (p : Bor Place). place_writes p.now m k) c.args.places.now c.loop-place.place-index c.place-item.result
      (in_map c.loop-place.tally.once m k) (in_map c.loop-place.tally.more m k) _ c.loop-place-test.true c.place-item.is
      (c.loop-place.invariant.once m k l) (c.loop-place.invariant.more m k l) (c.in_ok-add_place.ensures.more m k l);
}

pub returns : goal.returns
returns c =
    let all : take c.loop-place.place-index c.args.places.now ≡ c.args.places.now =
    take_all c.loop-place.place-index c.args.places.now (omega (arith, c.loop-place-test.false)) in
    record {
      once = λ m k l. c.loop-place.invariant.once m k l
          ∙ ap (nat_lt 0) (ap (λ (xs : List (Bor Place)). lent_count xs m k) all ∙ lent_counted c.args.places.now m k);
      more = λ m k l. c.loop-place.invariant.more m k l
          ∙ ap (nat_lt 1) (ap (λ (xs : List (Bor Place)). lent_count xs m k) all ∙ lent_counted c.args.places.now m k);
    }
