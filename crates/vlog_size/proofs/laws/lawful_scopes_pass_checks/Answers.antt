use Rattle.vlog_size.proofs.Alike.{expr_alike, target_alike}
use Rattle.vlog_size.proofs.Meanings.{scope_lawful}
use Rattle.vlog_size.proofs.laws.lawful_scopes_pass_checks.Goals as goal

pub returns : goal.returns
returns c = record {
  scopes = scope_lawful;
  expressions = λ r e l. expr_alike r l e;
  targets = λ r t l. target_alike r l t;
}
