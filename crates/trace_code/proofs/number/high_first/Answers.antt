use Rattle.std.proofs.Common.{ap, ◌∙◌}
use Rattle.std.specs.Int.{w128, from_be_bytes}
use Rattle.trace_code.proofs.NumberLaws.{whole-value}
use Rattle.trace_code.proofs.number.high_first.Goals as goal

pub returns : goal.returns
returns c =
    c.from_be_bytes.ensures ∙ ap (from_be_bytes w128) c.write_at-end.ensures.bytes ∙ whole-value c.args.bytes.now c.requires
