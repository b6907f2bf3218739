use Rattle.std.proofs.Common.{◌≡◌, true, ap, sym, ◌∙◌, List, ℕ}
use Rattle.trace_model.specs.vidi_bits.Number.{has}
use Rattle.trace_model.specs.Row.{content_at}
use Rattle.axi_memory.specs.Stands.{served}
use Rattle.axi_memory.proofs.Steps.{stored}
use Rattle.axi_memory.proofs.memory_env.store.Goals as goal

pub returns : goal.returns
returns c =
    let p = served c.args.channels.now c.args.ports.now in
    let ends : has c.args.row.now.ends c.args.ports.now.writes.w ≡ true = sym c.names.ensures ∙ c.if-not-names.false in
    stored p c.args.row.now c.args.turn.now c.in-Some.turn c.args.words.now c.write_word.new.words c.content_at-content.result.now c.word_of.result
    c.number_at-new.result c.number_at-strobe.result ends c.in-Some.is
    (c.content_at-content.ensures ∙ ap (λ (xs : List ℕ). content_at c.args.channels.now xs c.args.ports.now.writes.w) c.as_slice.ensures)
    (c.word_of.ensures c.args.channels.now) c.number_at-new.ensures c.number_at-strobe.ensures c.write_word.ensures
