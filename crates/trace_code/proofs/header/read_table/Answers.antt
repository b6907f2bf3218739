use Rattle.trace_code.proofs.Table.{is_found, is_only}
use Rattle.trace_code.proofs.header.read_table.Goals as goal

pub returns-clause-found : goal.returns-clause-found
returns-clause-found c = is_found c.args.magic.now c.args.most c.args.bytes.now (λ x. (x.0, x.1.now)) c.read_header_fields.result c.read_header_fields.ensures

pub returns-clause-only : goal.returns-clause-only
returns-clause-only c = is_only c.args.magic.now c.args.most c.args.bytes.now (λ x. (x.0, x.1.now)) c.read_header_fields.result c.read_header_fields.ensures
