use Rattle.std.proofs.Common.{inl, inr, ap, ◌∙◌}
use Rattle.vidi_bench.specs.vlog_design.Design.{file_counts}
use Rattle.net_design.specs.declared.design.Counts.{Counts}
use Rattle.net_design.specs.Lawful.{counts}
use Rattle.std.specs.Prelude.{◌≡◌}
use Rattle.vlog_tree.specs.Plain.{plain}
use Rattle.run_commands.specs.Checks.{Checked}
use Rattle.vidi_bench.specs.Design.{IsAccepted, IsLooped, IsRefusedFile}
use Rattle.vidi_bench.specs.Ended.{EndsWith}
use Rattle.run_commands.specs.Said.{check_text}
use Rattle.vidi_bench.proofs.Chain.{answered-as}
use Rattle.run_commands.proofs.checking.checked.Goals as goal

pub returns-in_err-design : goal.returns-in_err-design
returns-in_err-design c =
    let file = plain c.in_ok-file.file in
    let e = c.in_err-design.field-0.0 in
    let refused : EndsWith (IsRefusedFile c.args.top.now file) e = rw c.as_bytes.ensures.value at c.in_err-design.ensures.refused in
    answered-as (IsRefusedFile c.args.top.now file) (Checked c.args.top.now c.args.text.now) e
    c.from_residual-in_err-design.result c.from_residual-in_err-design.ensures.1
    (λ a x is. inr (file, c.in_ok-file.ensures.spelled, inl is)) refused

pub returns-in_err-order_of : goal.returns-in_err-order_of
returns-in_err-order_of c =
    let file = plain c.in_ok-file.file in
    let design = c.in_ok-design.design in
    let accepted : IsAccepted c.args.top.now file design = rw c.as_bytes.ensures.value at c.in_ok-design.ensures.accepted in
    answered-as (IsLooped design) (Checked c.args.top.now c.args.text.now) c.in_err-order_of.field-0.0
    c.from_residual-in_err-order_of.result c.from_residual-in_err-order_of.ensures.1
    (λ a x is. inr (file, c.in_ok-file.ensures.spelled, inr (design, accepted, inl is))) c.in_err-order_of.ensures.refused

pub returns : goal.returns
returns c =
    let file = plain c.in_ok-file.file in
    let design = c.in_ok-design.design in
    let accepted : IsAccepted c.args.top.now file design = rw c.as_bytes.ensures.value at c.in_ok-design.ensures.accepted in
    let counted : counts design ≡ file_counts file c.args.top.now = rw c.as_bytes.ensures.value at c.in_ok-design.ensures.counted in
    let said = c.in_ok-counted.ensures in
    inr (
      file,
      c.in_ok-file.ensures.spelled,
      inr (
        design,
        accepted,
        inr (
          c.in_ok-order_of.field-0.drivers,
          c.in_ok-order_of.ensures.ordered,
          (said.0, said.1 ∙ ap (λ (n : Counts). check_text file n) (c.counts.ensures ∙ counted)),
        ),
      ),
    )
