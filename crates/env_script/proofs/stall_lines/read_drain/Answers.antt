use Rattle.env_script.proofs.Draining.{some_push}
use Rattle.env_script.proofs.stall_lines.read_drain.Goals as goal

pub returns-in_ok-push-in-Some-clause-some : goal.returns-in_ok-push-in-Some-clause-some
returns-in_ok-push-in-Some-clause-some c = some_push c.args.drains.now c.push.new.self c.in-Some.drain c.in_ok-push-in-Some.ensures.ok
    c.in-Some.ensures.some
