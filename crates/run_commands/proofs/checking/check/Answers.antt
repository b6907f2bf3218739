use Rattle.std.proofs.Common.{ℕ, List, inr}
use Rattle.vidi_recorder.specs.vidi_io.Cause.{Rose}
use Rattle.run_commands.specs.Checks.{Checked, Checks}
use Rattle.vidi_bench.specs.Ended.{IsAnswered}
use Rattle.vidi_bench.proofs.Chain.{all-answered}
use Rattle.run_commands.proofs.checking.check.Goals as goal

pub returns-clause-answered : goal.returns-clause-answered
returns-clause-answered g c =
    let S = g.S.Shelf in
    let F = λ (name : List ℕ). Rose (S.read_faults c.args.shelf.now name) (S.read_faults c.read_file.new.shelf name) in
    let text = c.in_ok-text.text in
    let answered : IsAnswered (Checked c.args.top.now text) c.checked.result = rw c.as_slice.ensures at c.checked.ensures in
    all-answered (Checked c.args.top.now text) (Checks c.args.design.now c.args.top.now (S.files c.args.shelf.now) F) c.checked.result
    (λ a x is. inr (text, c.in_ok-text.ensures.read, is)) answered
