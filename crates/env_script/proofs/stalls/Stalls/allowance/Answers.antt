use Rattle.std.proofs.Common.{◌%◌, leb, sym, ap, ◌∙◌, rules, arith}
use Rattle.std.proofs.lemmas.List.Sorted.{IsPartitionPoint-from_clause}
use Rattle.env_script.proofs.Draining.{total_is, some_cycles, no_line, parted, allowed}
use Rattle.env_script.specs.Plan.{allowance_in}
use Rattle.env_script.proofs.stalls.Stalls.allowance.Goals as goal

pub returns-in_default : goal.returns-in_default
returns-in_default c =
    no_line c.args.self.now.drains c.as_slice-ends.result.now c.args.cycle
    (c.as_slice-ends.ensures.value ∙ c.args.self.now.counted) (sym c.in_default.ensures.value)

pub nonzero_rem-at : goal.nonzero_rem-at
nonzero_rem-at c =
    let is = total_is c.args.self.now.drains c.as_slice-ends.result.now c.in-Some.total.now
    (c.as_slice-ends.ensures.value ∙ c.args.self.now.counted) (sym c.in-Some.ensures.value) in
    omega (arith, is.1, some_cycles c.args.self.now.drains c.args.self.now.some is.0)

pub returns : goal.returns
returns c =
    let drains = c.args.self.now.drains in let ends = c.as_slice-ends.result.now in
    let are = c.as_slice-ends.ensures.value ∙ c.args.self.now.counted in
    let at = c.from.result % c.in-Some.total.now in
    let point = IsPartitionPoint-from_clause (λ y. leb y at) ends c.partition_point-line.result
    c.partition_point-line.ensures.partitioned (parted drains ends at are) (λ a r q k. search rules) in
    c.allowance_in.ensures ∙ ap allowance_in c.get.ensures
    ∙ allowed drains ends c.args.cycle c.in-Some.total.now at c.partition_point-line.result are (sym c.in-Some.ensures.value)
    (ap (λ n. n % c.in-Some.total.now) c.from.ensures) point
