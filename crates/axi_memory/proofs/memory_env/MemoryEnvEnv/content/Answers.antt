use Rattle.std.proofs.Common.{◌%◌, ◌^◌, ap, sym, ◌∙◌, List}
use Rattle.std.specs.Prelude.{slice_get, slice_index}
use Rattle.trace_model.specs.declared.channel.Channel.{Channel}
use Rattle.trace_model.specs.Packet.{widths_of}
use Rattle.axi_memory.specs.Memory.{role_at}
use Rattle.axi_memory.specs.Stands.{number_of, served, standing}
use Rattle.axi_memory.proofs.Numbers.{offered}
use Rattle.axi_memory.proofs.memory_env.MemoryEnvEnv.content.Goals as goal

pub returns : goal.returns
returns c =
    let self = c.args.self.now in
    let s = standing self.writing self.reading self.shown in
    c.low_bits.ensures ∙ ap (λ n. n % 2 ^ c.width_of-width.result) c.number.ensures
    ∙ ap (λ w. number_of (served self.channels.now self.ports) s (role_at self.ports c.args.channel) c.args.port % 2 ^ w)
    (c.width_of-width.ensures ∙ ap (λ (cs : List Channel). slice_index (widths_of (slice_get cs c.args.channel)) c.args.port) c.as_slice.ensures)
    ∙ sym (offered self.channels.now c.args.port self.ports self.wired s c.args.channel c.requires.port)
