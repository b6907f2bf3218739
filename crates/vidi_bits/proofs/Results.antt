-- What is said of a result's error alone.
use Rattle.std.proofs.Common.{Result, Ok, Err, OnErr}

pub on_err : {X E P : Type 0} (r : Result X E) → P → OnErr r P
on_err (Ok x) p = tt
on_err (Err e) p = p
