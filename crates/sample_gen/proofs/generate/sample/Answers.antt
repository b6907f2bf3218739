use Rattle.std.proofs.Common.{ℕ}
use Rattle.std.proofs.lemmas.Result.{err_from_is_err_and}
use Rattle.sample_gen.proofs.Parts.{script_is, stalls_is, sample_is}
use Rattle.sample_gen.proofs.generate.sample.Goals as goal

pub returns-in_err-design : goal.returns-in_err-design
returns-in_err-design c =
    let p = err_from_is_err_and c.from_residual-in_err-design.result c.from_residual-in_err-design.ensures.1 in
    rw p.1 tt

pub returns-in_err-map : goal.returns-in_err-map
returns-in_err-map c =
    let p = err_from_is_err_and c.from_residual-in_err-map.result c.from_residual-in_err-map.ensures.1 in
    rw p.1 tt

pub returns : goal.returns
returns c =
    let n : ℕ = c.args.number in
    sample_is n c.in_ok-design.design c.in_ok-map.map c.in_ok-script.script c.in_ok-stalls.stalls c.in_ok-design.ensures c.in_ok-map.ensures
    (script_is n c.new-sequence.result.state c.in_ok-script.script c.new-sequence.ensures c.in_ok-script.ensures.text)
    (stalls_is n c.new-sequence.result.state c.script.new.sequence.state c.in_ok-stalls.stalls c.new-sequence.ensures
    c.in_ok-script.ensures.state c.in_ok-stalls.ensures)
