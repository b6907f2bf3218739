use Rattle.std.proofs.Common.{arith}
use Rattle.vlog_parse.proofs.Longest.{item_line_of}
use Rattle.vlog_parse.proofs.units.item_line.Goals as goal

pub returns : goal.returns
returns c =
    item_line_of c.args.tokens.now c.lawful_len.result c.fuel_for.result c.saturating_sub-place.result c.line_or.result
    c.in_ok-rest.rest.now
    c.lawful_len.ensures.lawful c.lawful_len.ensures.unlawful c.fuel_for.ensures c.in_ok-rest.ensures (omega arith)
    c.last_line.result c.last_line.ensures c.line_or.ensures
