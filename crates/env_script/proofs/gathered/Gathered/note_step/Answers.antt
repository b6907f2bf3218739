use Rattle.std.proofs.Common.{◌≡◌, refl, sym, ap, ◌∙◌, true, false, not}
use Rattle.std.proofs.lemmas.Result.{on_ok_weaker}
use Rattle.run_model.proofs.vidi_bits_lemmas.Bools.{left_of, right_of}
use Rattle.run_model.specs.vidi_bits.Findings.{first, or_first, told_if}
use Rattle.env_script.specs.Reasons.{names_channels, fits_numbers}
use Rattle.env_script.proofs.Gathering.{step-noted}
use Rattle.env_script.proofs.gathered.Gathered.note_step.Goals as goal
use Rattle.env_script.proofs.gathered.Gathered.note_step.Goals.{else-named-via-then-named+else-fits, else-named-via-else-named}

pub returns-then-fits : goal.returns-then-fits
returns-then-fits c =
    let told = c.first_fault-self.ensures
    ∙ ap (λ b. or_first c.args.self.now.channel (first (told_if (not b) c.args.line.line))) c.names_channels-named.ensures in
    let numbered = c.first_fault-self-2.ensures
    ∙ ap (λ b. or_first c.args.self.now.number (first (told_if (not b) c.args.line.line))) c.fits_numbers-fits.ensures in
    on_ok_weaker c.add.result
    (λ added before is.
    step-noted c.args.channels.now before c.args.line c.args.self.now c.add.new.self is c.add.ensures.lists
    (c.add.ensures.channel ∙ told) (c.add.ensures.number ∙ numbered) c.add.ensures.resets c.add.ensures.last (λ lawful. added))
    c.add.ensures.steps

pub returns-else-named : goal.returns-else-named
returns-else-named c before is =
    let channels = c.args.channels.now in let line = c.args.line in
    let told = c.first_fault-self.ensures
    ∙ ap (λ b. or_first c.args.self.now.channel (first (told_if (not b) c.args.line.line))) c.names_channels-named.ensures in
    let numbered = c.first_fault-self-2.ensures
    ∙ ap (λ b. or_first c.args.self.now.number (first (told_if (not b) c.args.line.line))) c.fits_numbers-fits.ensures in
    step-noted channels before line c.args.self.now _ is refl told numbered refl refl
    (λ lawful. elim c.else-named.branch [
      | else-named-via-then-named+else-fits w ↦
          let off : false ≡ true = sym w.if-fits.false ∙ c.fits_numbers-fits.ensures
          ∙ right_of (names_channels channels line) (fits_numbers channels line) lawful in absurd (cc)
      | else-named-via-else-named w ↦
          let off : false ≡ true = sym w.if-named.false ∙ c.names_channels-named.ensures
          ∙ left_of (names_channels channels line) (fits_numbers channels line) lawful in absurd (cc)
    ])
