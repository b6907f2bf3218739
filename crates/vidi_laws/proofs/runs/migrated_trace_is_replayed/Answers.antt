use Rattle.vidi_laws.proofs.Migrating.{migrated-replayed}
use Rattle.vidi_laws.proofs.runs.migrated_trace_is_replayed.Goals as goal

pub returns : goal.returns
returns c = migrated-replayed c.one_reading.ensures
