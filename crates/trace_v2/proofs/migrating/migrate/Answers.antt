use Rattle.std.proofs.Common.{ap, length, arith}
use Rattle.trace_v2.proofs.Migrated.{migrated-short}
use Rattle.trace_v2.proofs.migrating.migrate.Goals as goal

pub returns-clause-short : goal.returns-clause-short
returns-clause-short c =
    let short = migrated-short c.in_ok-trace.trace c.in_ok-trace.ensures.decodes.0 in
    omega (arith, short, ap length c.in_ok-new.ensures, ap length c.in_ok-trace.ensures.decodes.1)
