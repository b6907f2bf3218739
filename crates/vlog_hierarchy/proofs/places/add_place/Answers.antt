use Rattle.std.proofs.Common.{sym, ◌∙◌}
use Rattle.vlog_size.proofs.vidi_bits_lemmas.Lists.{no_some}
use Rattle.vlog_hierarchy.proofs.PlaceLaws.{grown}
use Rattle.vlog_hierarchy.proofs.places.add_place.Goals as goal

pub returns : goal.returns
returns c = λ q. grown c.args.places.now c.insert.new.self.entries c.in_ok-key.key c.args.place c.args.name.now q
    c.in_ok-key.ensures.items
    (sym c.place_under.ensures ∙ no_some _ (sym c.is_some.ensures ∙ c.if-is_some.false)) c.in_ok-insert.ensures.entries
