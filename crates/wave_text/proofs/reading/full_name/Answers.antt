use Rattle.std.proofs.Common.{ap, ◌∙◌, ◌++◌, ◌∷◌, [], flat_map}
use Rattle.std.proofs.lemmas.List.{take_all}
use Rattle.wave_text.proofs.ReadLines.{full-name}
use Rattle.wave_text.proofs.reading.full_name.Goals as goal

pub returns : goal.returns
returns c = c.from_vec.ensures ∙ c.in_ok-extend_from_slice-2.ensures.items
    ∙ ap (λ n. n ++ c.args.base.now)
    (c.loop-instance.invariant
    ∙ ap (flat_map (λ part. part ++ 46 ∷ [])) (take_all c.loop-instance.instance-index c.args.path.now c.loop-instance-test.false))
    ∙ full-name c.args.path.now c.args.base.now
