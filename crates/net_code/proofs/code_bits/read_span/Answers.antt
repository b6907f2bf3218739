use Rattle.net_code.proofs.FoundLaws.{read_one}
use Rattle.net_code.proofs.code_bits.read_span.Goals as goal

pub returns : goal.returns
returns c =
    read_one c.args.known.now c.args.span c.span_mask.result c.mask.result c.args.out.now c.add.new.self c.span_mask.type_inv
    c.mask.type_inv c.mask.ensures
    c.span_mask.ensures c.in_ok-add.ensures
