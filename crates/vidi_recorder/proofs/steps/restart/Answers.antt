use Rattle.std.proofs.Common.{rules, ◌≡◌, ◌+◌, ◌-◌, true, [], List, ℕ, ap, ◌∙◌}
use Rattle.circular_buffer.specs.Buffer.{buffer}
use Rattle.vidi_recorder.proofs.Lengths.{reset-put}
use Rattle.vidi_recorder.proofs.steps.restart.Goals as goal

pub returns-clause-store : goal.returns-clause-store
returns-clause-store c =
    let cells = c.args.cells.now in
    let comes : c.args.comes ≡ true = search rules in
    c.put.ensures ∙ ap (λ (bs : List ℕ). buffer bs cells.store.capacity)
    (reset-put c.args.comes (c.args.cycle + 1 - cells.end) c.write_reset-reset_len.result cells.store.items cells.packet
    c.write_reset-reset_len.new.buf comes (c.write_reset-reset_len.ensures.bytes []) c.write_reset-reset_len.ensures.len)
