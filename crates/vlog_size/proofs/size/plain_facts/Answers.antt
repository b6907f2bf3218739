use Rattle.std.proofs.Common.{◌≡◌, min, [], refl, arith}
use Rattle.vlog_size.specs.Limits.{TOP}
use Rattle.vlog_size.proofs.size.plain_facts.Goals as goal

pub returns : goal.returns
returns c =
    let small : c.from.result ≡ min c.args.width TOP = omega (arith, c.from.ensures) in
    c.read_facts.ensures c.args.width [] [] small refl refl
