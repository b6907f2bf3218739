use Rattle.std.proofs.Common.{refl, ap, ◌∙◌, not}
use Rattle.std.proofs.lemmas.Result.{on_ok_weaker}
use Rattle.run_model.specs.vidi_bits.Findings.{first, or_first, told_if}
use Rattle.env_script.proofs.Gathering.{reset-noted}
use Rattle.env_script.proofs.gathered.Gathered.note_reset.Goals as goal

pub returns : goal.returns
returns c =
    on_ok_weaker c.push.result
    (λ pushed channels before is.
    reset-noted channels before c.args.line c.args.time c.args.self.now _ is refl refl
    (c.first_fault-self.ensures
    ∙ ap (λ b. or_first c.args.self.now.number (first (told_if (not b) c.args.line))) c.is_time.ensures) pushed refl)
    c.push.ensures.ok
