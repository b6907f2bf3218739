use Rattle.std.proofs.Common.{◌≡◌, ◌-◌, ◌+◌, ◌++◌, ℕ, List, true, false, ap, refl, take, ◌∙◌, arith}
use Rattle.replay_run.specs.Output.{fresh_bytes}
use Rattle.replay_run.proofs.Writing.{whole, written-reset}
use Rattle.replay_run.proofs.output.Output.push_reset.Goals as goal

pub returns-then-row-clause-written : goal.returns-then-row-clause-written
returns-then-row-clause-written c channels rows long is =
    let self = c.args.self.now in
    let row = c.args.row.now in
    let out = c.write_fresh-self.new.out in
    let e = whole self.bytes.len out self.bytes.items (c.write_fresh-self.auto.out ∙ c.as_mut_slice.ensures.len) in
    written-reset channels rows row c.args.cycle true self _ c.if-row.true long is
    (ap (take c.write_fresh-self.result) e ∙ c.write_fresh-self.ensures.bytes channels
    ∙ ap (λ (bs : List ℕ). take self.len bs ++ fresh_bytes channels (c.args.cycle - self.end) row) c.as_mut_slice.ensures.value)
    refl refl

pub returns-else-row-clause-written : goal.returns-else-row-clause-written
returns-else-row-clause-written c channels rows long is =
    let self = c.args.self.now in
    let row = c.args.row.now in
    let out = c.write_fresh-self.new.out in
    let e = whole self.bytes.len out self.bytes.items (c.write_fresh-self.auto.out ∙ c.as_mut_slice.ensures.len) in
    written-reset channels rows row c.args.cycle false self _ c.if-row.false long is
    (ap (take c.write_fresh-self.result) e ∙ c.write_fresh-self.ensures.bytes channels
    ∙ ap (λ (bs : List ℕ). take self.len bs ++ fresh_bytes channels (c.args.cycle - self.end) row) c.as_mut_slice.ensures.value)
    (let z : self.packets ≡ self.packets + 0 = omega arith in z) refl
