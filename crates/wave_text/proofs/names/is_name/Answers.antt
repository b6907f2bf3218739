use Rattle.std.proofs.Common.{◌≡◌, false, true, sym, ◌∙◌}
use Rattle.wave_text.specs.Wave.{IsIdentifier}
use Rattle.wave_text.proofs.Inside.{parts-inside, first-inside, both-ways}
use Rattle.wave_text.proofs.names.is_name.Goals as goal

pub returns-then-not-is_token : goal.returns-then-not-is_token
returns-then-not-is_token c = (
  λ (no : false ≡ true). absurd (cc),
  λ all. sym c.if-not-is_token.true ∙ c.is_token.ensures.1
      (first-inside IsIdentifier c.loop-part.rest.now c.in-Some.part.now c.in-Some.inside.now c.in-Some.ensures (c.loop-part.invariant.0 all)),
)

pub loop-part-preserved : goal.loop-part-preserved
loop-part-preserved c = both-ways c.loop-part.invariant
    (parts-inside IsIdentifier c.loop-part.rest.now c.in-Some.part.now c.in-Some.inside.now c.in-Some.ensures
    (c.is_token.ensures.0 c.if-not-is_token.false))
