use Rattle.trace_v2.proofs.Migrated.{versions-differ}
use Rattle.trace_v2.proofs.laws.versions_differ.Goals as goal

pub returns : goal.returns
returns c = versions-differ
