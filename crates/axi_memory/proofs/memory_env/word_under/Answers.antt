use Rattle.std.proofs.Common.{ap, sym, ◌∙◌}
use Rattle.std.specs.Prelude.{slice_index}
use Rattle.axi_memory.specs.Memory.{word_under}
use Rattle.axi_memory.specs.Stands.{served}
use Rattle.axi_memory.proofs.memory_env.word_under.Goals as goal

pub returns-in-Some : goal.returns-in-Some
returns-in-Some c = λ channels. c.word_at.ensures ∙ ap (slice_index c.args.words.now) (c.word_of.ensures channels)
    ∙ ap (word_under (served channels c.args.ports.now) c.args.words.now) (sym c.in-Some.is)
