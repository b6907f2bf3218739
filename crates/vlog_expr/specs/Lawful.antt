-- What stands behind the lawful names and numbers at the front.
use Rattle.std.specs.Prelude.{[], ◌∷◌}
use Rattle.vlog_expr.specs.Marks.{Toks, IsLawfulText}

-- nothing, or first a name or a number that isn't a lawful token
abbrev pub IsUnlawful : {A : Type 0} → Toks A → Type 0
IsUnlawful [] = Unit {0}
IsUnlawful (token ∷ rest) = ¬ IsLawfulText token.kind token.text
