-- Laws of the definitions.
use Rattle.std.specs.Prelude.{◌≡◌, ℕ, ◌+◌, ◌<◌, List, Option, length, map}
use Rattle.vlog_hierarchy.specs.declared.scopes.Scope.{Scope}
use Rattle.vlog_hierarchy.specs.Outlines.{Outline}
use Rattle.vlog_hierarchy.specs.Nodes.{Node, nodes, nodes_of}
use Rattle.vlog_hierarchy.specs.Clock.{scopes_of}

abbrev pub MoreLevelsChangeNothing : Type 0
MoreLevelsChangeNothing = (n m : ℕ) (os : List Outline) (path : List (List ℕ)) (k : ℕ) → length (nodes n os path k) < n
    → nodes (n + m) os path k ≡ nodes n os path k

abbrev pub ScopesAreNodes : Type 0
ScopesAreNodes = (os : List Outline) (inputs : List (List ℕ)) (top : Option ℕ)
    → map (λ (s : Scope). s.place) (scopes_of os inputs top) ≡ map (λ (n : Node). n.place) (nodes_of os top)
