use Rattle.std.proofs.Common.{◌≡◌}
use Rattle.run_model.specs.trace_model.Row.{replaced}
use Rattle.env_script.specs.Offered.{port_numbers}
use Rattle.env_script.proofs.offers.fill_content.Given as goal

abbrev pub invariant-loop-port : goal.invariant-loop-port
invariant-loop-port g l = l.contents ≡ replaced l.fn.contents l.at (port_numbers l.port (g.E.Env.current l.env l.channel).content)
