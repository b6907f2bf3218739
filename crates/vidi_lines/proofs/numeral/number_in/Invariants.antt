use Rattle.std.proofs.Common.{◌≡◌, ◌<◌, ◌^◌, drop}
use Rattle.vidi_lines.specs.Number.{number_in}
use Rattle.vidi_lines.proofs.Digits.{number_from}
use Rattle.vidi_lines.proofs.numeral.number_in.Given as goal

abbrev pub invariant-loop-b : goal.invariant-loop-b
invariant-loop-b l = (l.n < 2 ^ 128) × (number_in l.base l.text ≡ number_from l.base l.n (drop l.b-index l.text))
