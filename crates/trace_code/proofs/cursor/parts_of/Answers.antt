use Rattle.std.proofs.Common.{sym}
use Rattle.trace_code.specs.Standing.{bytes_from}
use Rattle.trace_code.proofs.cursor.parts_of.Goals as goal

pub returns-in-Ok : goal.returns-in-Ok
returns-in-Ok c t code =
    let same = c.in-Ok.ensures.only t.channels (bytes_from t 0) code.0.table (sym code.1) in
    (sym same.0, same.1)
