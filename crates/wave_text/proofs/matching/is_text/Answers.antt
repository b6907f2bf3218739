use Rattle.wave_text.specs.Text.{wave_text}
use Rattle.wave_text.proofs.Fronts.{not_head, matched-new}
use Rattle.wave_text.proofs.matching.is_text.Goals as goal

pub returns-else-not-page : goal.returns-else-not-page
returns-else-not-page c =
    let page = c.new-page.result in
    let end = c.print_wave.new.page in
    let whole = wave_text c.args.wave.now in
    not_head c.args.text.now end.rest.now whole end.differs c.if-not-page.false
    (matched-new page.rest.now c.args.text.now end.rest.now page.differs end.differs whole c.new-page.ensures.text c.new-page.ensures.same
    c.print_wave.ensures)
