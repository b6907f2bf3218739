-- What a reader of the code answers against the reader on lists.
use Rattle.std.specs.Prelude.{◌≡◌, Result, Ok, Err, Option, None, Some}
use Rattle.vlog_expr.specs.declared.unread.Unread.{Unread}
use Rattle.vlog_expr.specs.declared.unread.Unread.TheVariants as unread

-- a fault is that nothing is read; want of memory says nothing
abbrev pub Fails : {Y : Type 0} → Unread → Option Y → Type 0
Fails unread.Memory read = Unit {0}
Fails unread.Fault read = read ≡ None

-- what was returned, seen by view, is what is read, unless memory ran out
abbrev pub Gives : {X Y : Type 0} → (X → Y) → Result X Unread → Option Y → Type 0
Gives view (Ok x) read = read ≡ Some (view x)
Gives view (Err e) read = Fails e read
