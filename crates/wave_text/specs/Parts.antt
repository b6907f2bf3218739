-- Full names, taken apart from the top down.
use Rattle.std.specs.Prelude.{◌≡◌, ℕ, ◌<◌, List, [], ◌∷◌, length}
use Rattle.wave_text.specs.Names.{parts, path_of}
use Rattle.wave_text.specs.Text.{moves}

-- a name without a path
abbrev pub IsBase : List ℕ → Type 0
IsBase name = parts name ≡ name ∷ []

-- the name begins with the instance `first`, and has the name `inside` there
pub record IsInside (name first inside : List ℕ) : Type 0 where
  pub parts_are : parts name ≡ first ∷ parts inside
  pub shorter : length inside < length name

-- two names inside the instance that both begin with
pub record AreInside (from to from_inside to_inside : List ℕ) : Type 0 where
  pub moves_are : moves (path_of from) (path_of to) ≡ moves (path_of from_inside) (path_of to_inside)
  pub shorter : length from_inside < length from
