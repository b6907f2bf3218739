use Rattle.vidi_io.proofs.Whole.{whole}
use Rattle.vidi_io.proofs.reading.read_whole.Goals as goal

pub returns-clause-whole : goal.returns-clause-whole
returns-clause-whole g c =
    whole (g.S.Shelf.files c.args.shelf.now) c.args.name.now c.args.limit (g.S.Shelf.read_faults c.args.shelf.now c.args.name.now)
    (g.S.Shelf.read_faults c.read_by.new.shelf c.args.name.now) c.read_by.result
    c.read_by.ensures.bytes c.read_by.ensures.within c.read_by.ensures.cause
