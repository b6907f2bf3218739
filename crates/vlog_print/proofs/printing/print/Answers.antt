use Rattle.std.proofs.Common.{◌≡◌, Result, Ok, Err, subst, sym, ◌∙◌}
use Rattle.std.specs.Prelude.{IfOk}
use Rattle.vlog_tree.specs.Plain.{plain}
use Rattle.vlog_tree.specs.Spelling.{toks}
use Rattle.vlog_print.specs.Printed.{printed, IsTextOf}
use Rattle.vlog_print.proofs.printing.print.Goals as goal

weaker : {X E : Type 0} (P Q : X → Type 0) → ((x : X) → P x → Q x) → (r : Result X E) → IfOk r P → IfOk r Q
weaker P Q f (Ok x) h = f x h
weaker P Q f (Err e) h = tt

pub returns-clause-read : goal.returns-clause-read
returns-clause-read c =
    weaker (λ text. text ≡ printed (toks (plain c.args.file.now))) (IsTextOf (plain c.args.file.now))
    (λ text e. subst (IsTextOf (plain c.args.file.now)) (sym e) (c.printed_is_spelled.ensures (plain c.args.file.now) c.requires))
    c.text_of.result (subst (λ ts. IfOk c.text_of.result (λ text. text ≡ printed ts)) (c.as_slice.ensures ∙ c.in_ok-tokens.ensures) c.text_of.ensures)
