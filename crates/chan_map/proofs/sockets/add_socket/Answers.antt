use Rattle.std.proofs.Common.{sym, ◌∙◌}
use Rattle.vidi_lines.proofs.vidi_bits_lemmas.Lists.{no_some}
use Rattle.chan_map.proofs.Table.{grown}
use Rattle.chan_map.proofs.sockets.add_socket.Goals as goal

pub returns : goal.returns
returns c = λ q. grown c.args.sockets.now c.insert.new.self.entries c.in_ok-key.key c.args.socket c.args.name.now q
    c.in_ok-key.ensures.items
    (sym c.socket_under.ensures ∙ no_some _ (sym c.is_some.ensures ∙ c.if-is_some.false)) c.in_ok-insert.ensures.entries
