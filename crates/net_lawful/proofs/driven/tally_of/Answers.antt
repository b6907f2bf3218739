use Rattle.std.proofs.Common.{◌≡◌, List, take, nat_lt, ap, ◌∙◌, arith}
use Rattle.std.proofs.lemmas.List.{take_all}
use Rattle.net_design.specs.declared.design.Driver.{Driver}
use Rattle.net_lawful.specs.Driven.{writers}
use Rattle.net_lawful.proofs.driven.tally_of.Goals as goal

pub loop-driver-init : goal.loop-driver-init
loop-driver-init c = record {
  once = λ m k. c.new-tally.ensures.once m k;
  more = λ m k. c.new-tally.ensures.more m k;
}

pub returns : goal.returns
returns c =
    let all : take c.loop-driver.driver-index c.args.drivers.now ≡ c.args.drivers.now =
    take_all c.loop-driver.driver-index c.args.drivers.now (omega (arith, c.loop-driver-test.false)) in
    record {
      once = λ m k. c.loop-driver.invariant.once m k ∙ ap (λ (xs : List Driver). nat_lt 0 (writers xs m k)) all;
      more = λ m k. c.loop-driver.invariant.more m k ∙ ap (λ (xs : List Driver). nat_lt 1 (writers xs m k)) all;
    }
