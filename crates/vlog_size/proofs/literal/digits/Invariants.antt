use Rattle.std.proofs.Common.{◌≡◌, ◌<◌, ◌^◌, drop}
use Rattle.vlog_size.specs.Literal.{digits_from}
use Rattle.vlog_size.proofs.literal.digits.Given as goal

abbrev pub invariant-loop-b : goal.invariant-loop-b
invariant-loop-b l = (l.n < 2 ^ 128) × (digits_from l.base l.n (drop l.b-index l.text) ≡ digits_from l.base 0 l.text)
