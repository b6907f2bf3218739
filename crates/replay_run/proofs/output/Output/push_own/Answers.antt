use Rattle.std.proofs.Common.{◌≡◌, ◌-◌, ◌+◌, ◌++◌, ℕ, List, true, false, ap, refl, take, ◌∙◌, arith}
use Rattle.trace_code.specs.Encoding.{row_bytes}
use Rattle.replay_run.proofs.Writing.{row-longer, row-no_longer, whole, written-more}
use Rattle.replay_run.proofs.output.Output.push_own.Goals as goal

pub returns-then-self-before-clause-written : goal.returns-then-self-before-clause-written
returns-then-self-before-clause-written c rows long is =
    let self = c.args.self.now in
    let row = c.args.row.now in
    let out = c.write_row-self.new.out in
    let e = whole self.bytes.len out self.bytes.items (c.write_row-self.auto.out ∙ c.as_mut_slice.ensures.len) in
    written-more c.args.channels.now rows row c.args.cycle true self _
    (row-longer c.args.channels.now row self.len c.write_row-self.result c.write_row-self.ensures.place c.if-self-before.true)
    long is
    (ap (take c.write_row-self.result) e ∙ c.write_row-self.ensures.bytes
    ∙ ap (λ (bs : List ℕ). take self.len bs ++ row_bytes c.args.channels.now (c.args.cycle - self.end) row) c.as_mut_slice.ensures.value)
    refl refl

pub returns-else-self-before-clause-written : goal.returns-else-self-before-clause-written
returns-else-self-before-clause-written c rows long is =
    let self = c.args.self.now in
    let row = c.args.row.now in
    let out = c.write_row-self.new.out in
    let e = whole self.bytes.len out self.bytes.items (c.write_row-self.auto.out ∙ c.as_mut_slice.ensures.len) in
    written-more c.args.channels.now rows row c.args.cycle false self _
    (row-no_longer c.args.channels.now row self.len c.write_row-self.result c.write_row-self.ensures.place
    (let l = c.if-self-before.false in omega (arith, l)))
    long is
    (ap (take c.write_row-self.result) e ∙ c.write_row-self.ensures.bytes
    ∙ ap (λ (bs : List ℕ). take self.len bs ++ row_bytes c.args.channels.now (c.args.cycle - self.end) row) c.as_mut_slice.ensures.value)
    (let z : self.packets ≡ self.packets + 0 = omega arith in z) refl
