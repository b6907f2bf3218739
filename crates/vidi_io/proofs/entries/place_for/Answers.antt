use Rattle.std.proofs.Common.{◌≡◌, List, None, subst}
use Rattle.vidi_bits.proofs.Results.{on_err}
use Rattle.vidi_io.specs.Entries.{room_of}
use Rattle.vidi_io.specs.declared.entries.Entry.{Entry}
use Rattle.vidi_io.proofs.Names.{no_room}
use Rattle.vidi_io.proofs.entries.place_for.Goals as goal

pub returns-in-None-clause-full : goal.returns-in-None-clause-full
returns-in-None-clause-full c = on_err c.add.result (subst (λ (es : List Entry). room_of es c.args.name.now ≡ None)
    c.as_slice.ensures.value (no_room c.as_slice.result.now c.args.name.now c.in-None.ensures))
