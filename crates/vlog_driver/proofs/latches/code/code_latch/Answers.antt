use Rattle.std.proofs.Common.{ap, sym, ◌∙◌, Some}
use Rattle.vlog_driver.specs.Latch.{is_latched}
use Rattle.vlog_driver.proofs.Found.{none_found, one_found}
use Rattle.vlog_driver.proofs.Answered.{is_least}
use Rattle.vlog_driver.proofs.latches.code.code_latch.Goals as goal

pub returns-in-None : goal.returns-in-None
returns-in-None c = λ writes names adds reads w t s r.
    let nets = c.args.scope.now.nets in
    none_found (is_latched writes names adds reads) c.args.line nets c.in_ok-least.least
    (is_least c.args.code.now c.len.result c.in_ok-least.least nets c.len.ensures c.in_ok-least.ensures writes names adds reads w t s r)
    (sym c.in-None.ensures)

pub returns-in_ok-name-in-Some : goal.returns-in_ok-name-in-Some
returns-in_ok-name-in-Some c = λ writes names adds reads w t s r.
    let nets = c.args.scope.now.nets in
    one_found (is_latched writes names adds reads) c.args.line nets c.in_ok-least.least
    (is_least c.args.code.now c.len.result c.in_ok-least.least nets c.len.ensures c.in_ok-least.ensures writes names adds reads w t s r)
    c.in_ok-name-in-Some.name
    (sym c.in-Some.ensures ∙ ap Some (sym c.in_ok-name-in-Some.ensures))
