use Rattle.vidi_laws.proofs.AlikeDesigns.{built-alike}
use Rattle.vidi_laws.proofs.laws.built_alike.Goals as goal

pub returns : goal.returns
returns c = built-alike
