use Rattle.trace_v2.proofs.Migrated.{migration-keeps}
use Rattle.trace_v2.proofs.laws.migration_keeps.Goals as goal

pub returns : goal.returns
returns c = migration-keeps
