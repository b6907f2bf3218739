use Rattle.std.proofs.Common.{ap, sym, ◌∙◌}
use Rattle.axi_memory.specs.Stands.{next_read, next_words, next_write, served, standing}
use Rattle.axi_memory.proofs.Lasting.{obeys}
use Rattle.axi_memory.proofs.Steps.{committed, read-kept, write-kept}
use Rattle.axi_memory.proofs.memory_env.MemoryEnvEnv.commit.Goals as goal

pub next_shown-self-requires-clause-turn : goal.next_shown-self-requires-clause-turn
next_shown-self-requires-clause-turn c = λ t at.
    let self = c.args.self.now in
    read-kept self.channels.now self.ports self.wired c.args.row.now c.requires.over self.reading self.reads t
    (sym (c.next_read-self.ensures ∙ ap (λ cs. next_read (served cs self.ports) c.args.row.now self.reading) c.as_slice-channels.ensures) ∙ at)

pub invariant_of-self-clause-writes : goal.invariant_of-self-clause-writes
invariant_of-self-clause-writes c = λ t at.
    let self = c.args.self.now in
    write-kept self.channels.now self.ports self.wired c.args.row.now c.requires.over self.writing self.reading self.shown c.requires.ends
    (obeys self.channels.now self.ports self.wired (standing self.writing self.reading self.shown) c.args.row.now c.requires.carries) self.writes t
    (sym (c.next_write-self.ensures ∙ ap (λ cs. next_write (served cs self.ports) c.args.row.now self.writing) c.as_slice-channels.ensures) ∙ at)

pub invariant_of-self-clause-reads : goal.invariant_of-self-clause-reads
invariant_of-self-clause-reads c = λ t at.
    let self = c.args.self.now in
    read-kept self.channels.now self.ports self.wired c.args.row.now c.requires.over self.reading self.reads t
    (sym (c.next_read-self.ensures ∙ ap (λ cs. next_read (served cs self.ports) c.args.row.now self.reading) c.as_slice-channels.ensures) ∙ at)

pub invariant_of-self-clause-kept : goal.invariant_of-self-clause-kept
invariant_of-self-clause-kept c = c.args.self.now.kept

pub invariant_of-self-clause-lasting : goal.invariant_of-self-clause-lasting
invariant_of-self-clause-lasting c = c.args.self.now.lasting

pub returns-clause-rows : goal.returns-clause-rows
returns-clause-rows c = λ rows stands.
    let self = c.args.self.now in
    let row = c.args.row.now in
    let same = c.as_slice-channels.ensures in
    committed (served self.channels.now self.ports) rows row self.writing self.reading self.shown self.words self.cycle
    c.next_write-self.result c.next_read-self.result c.next_shown-self.result c.store.new.words
    (c.store.ensures ∙ ap (λ cs. next_words (served cs self.ports) row self.writing self.words) same)
    (c.next_write-self.ensures ∙ ap (λ cs. next_write (served cs self.ports) row self.writing) same)
    (c.next_read-self.ensures ∙ ap (λ cs. next_read (served cs self.ports) row self.reading) same)
    (c.next_shown-self.ensures self.channels.now) c.requires.ends
    (obeys self.channels.now self.ports self.wired (standing self.writing self.reading self.shown) row c.requires.carries) stands
