use Rattle.std.proofs.lemmas.Bool.{eqb-true, eq-eqb}
use Rattle.trace_code.specs.Counted.{counted}
use Rattle.trace_code.proofs.Beside.{beside, not-beside}
use Rattle.trace_code.proofs.cursor.Cursor.is_beside.Goals as goal

pub returns : goal.returns
returns c t i j p packet s u is =
    let k = c.args.self.now in
    let o = c.args.other.now in
    let clock = counted k.clock in
    let clock2 = counted o.clock in (
      λ r. beside t k.kind o.kind k.channel o.channel i j k.head.sizes.items k.rest.now clock o.head.sizes.items o.rest.now clock2 s.0 u.0 p packet is
          (eqb-true _ _ r),
      λ too. eq-eqb _ _
          (not-beside t k.kind o.kind k.channel o.channel i j k.head.sizes.items k.rest.now clock o.head.sizes.items o.rest.now clock2 s.0 u.0 p packet
          is too),
    )
