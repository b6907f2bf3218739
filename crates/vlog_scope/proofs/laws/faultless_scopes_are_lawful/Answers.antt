use Rattle.vlog_scope.proofs.LawfulPlaces.{lawful_scope, lawful_declared}
use Rattle.vlog_scope.proofs.laws.faultless_scopes_are_lawful.Goals as goal

pub returns : goal.returns
returns c = record {
  scopes = lawful_scope;
  parameters = lawful_declared;
}
