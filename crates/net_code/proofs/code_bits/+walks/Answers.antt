use Rattle.std.proofs.Common.{ℕ, ◌&&◌, not, List, [], refl, ap, sym, subst, ◌∙◌}
use Rattle.net_design.specs.declared.act.Mask.{Mask}
use Rattle.net_code.specs.declared.code_bits.Found.{Found}
use Rattle.net_code.specs.BitMap.{in_map}
use Rattle.net_design.specs.Bits.{named, block_writes, block_adds, block_open_reads}
use Rattle.net_code.specs.Found.{Walks, AfterArms}
use Rattle.net_code.proofs.WalkLaws.{choice_walked, arms_begin, arms_more, taken, sized_rest}
use Rattle.net_code.proofs.code_bits.+walks.Goals as goal

pub guards_bits-loop-guard-preserved : goal.guards_bits-loop-guard-preserved
guards_bits-loop-guard-preserved t c =
    let l = c.loop-guard in
    let gs = c.args.guards.now in
    let items = c.as_slice-guard-items.result.now in
    let g = c.guard-item.result in
    let e = taken gs items l.guard-index g c.as_slice-guard-items.ensures c.loop-guard-test.true c.guard-item.is in
    record {
      walked = λ others before h. subst (λ xs. AfterArms c.args.timing xs others before c.guard_bits.new.found c.in_ok-all.all) (sym e)
          (arms_more c.args.timing _ g others before l.found c.guard_bits.new.found l.all c.in_ok-all.all
          (l.invariant.walked others before h) c.in_ok-all.ensures);
      sized = sized_rest items l.guard-index g c.loop-guard-test.true l.invariant.sized;
    }

pub act_bits-returns-in_ok-guards_bits-in-Branch : goal.act_bits-returns-in_ok-guards_bits-in-Branch
act_bits-returns-in_ok-guards_bits-in-Branch t c =
    let a = c.args.act.now in
    let time = c.args.timing in
    let before = c.args.found.now in
    let mid = c.acts_bits.new.found in
    let all : List Mask = c.acts_bits.new.fresh in
    let others = c.in-Branch.otherwise in
    let now : Found = record { writes = mid.writes; reads = mid.reads; known = c.forget.new.known } in
    let w = subst (λ (xs : List Mask). Walks time (block_writes others) (block_adds others)
    (block_open_reads time others) before mid xs all) c.new-all.ensures c.in_ok-acts_bits-in-Branch.ensures in
    let forgot = λ (m k : ℕ). c.in_ok-forget-in-Branch.ensures m k ∙ ap
    (λ (xs : List Mask). in_map mid.known m k && not (named xs m k)) c.as_slice.ensures in
    let begun : AfterArms time [] others before now all = arms_begin time others before mid now all w refl refl forgot in
    choice_walked time a c.in-Branch.guards others before c.guards_bits.new.found c.args.fresh.now c.guards_bits.new.fresh
    (c.see_bits.ensures.writes a c.in-Branch.is) (c.see_bits.ensures.adds a c.in-Branch.is) (c.see_bits.ensures.reads time a c.in-Branch.is)
    (c.in_ok-guards_bits-in-Branch.ensures others before begun)
