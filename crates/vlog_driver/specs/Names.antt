-- Full names and the numbers of nets and memory words by full name (IEEE 1364-2005, 12.5, with the top's own name left out).
use Rattle.std.specs.Prelude.{ℕ, zero, suc, List, [], ◌∷◌, ◌++◌, map, Bool, true, false, ◌&&◌}
use Rattle.std.specs.List.{flat_map}
use Rattle.std.specs.Str.{bytes_eq}
use Rattle.vlog_names.specs.vlog_size.declared.scope.ScopeNet.{ScopeNet}
use Rattle.vlog_names.specs.vlog_size.declared.scope.ScopeMemory.{ScopeMemory}
use Rattle.vlog_names.specs.vlog_size.declared.scope.Scope.{Scope}
use Rattle.vlog_names.specs.vlog_size.Table.{Named}
use Rattle.net_design.specs.declared.values.Values.{Values}

abbrev pub Name : Type 0
Name = List ℕ

-- an instance path and a name in it: the names of the instances that lead to it, then its own
abbrev pub Full : Type 0
Full = List Name

-- a number for each full name of a net, and for each full name of a memory and each of its words, which count from 0
pub record State : Type 0 where
  pub nets : Full → ℕ
  pub words : Full → ℕ → ℕ

-- n words from word k on
abbrev pub words_from : (ℕ → ℕ) → ℕ → ℕ → List ℕ
words_from word k zero = []
words_from word k (suc n) = word k ∷ words_from word (suc k) n

-- the numbers of the nets and words of the instance at a path, whose scope this is, in the scope's order
abbrev pub numbers_at : (Full → ℕ) → (Full → ℕ → ℕ) → Full → Scope → Values
numbers_at nets words path s = record {
  nets = map (λ (n : Named ScopeNet). nets (path ++ n.name ∷ [])) s.nets;
  words = flat_map (λ (m : Named ScopeMemory). words_from (words (path ++ m.name ∷ [])) 0 m.value.length) s.memories;
}

abbrev pub same_path : Full → Full → Bool
same_path [] [] = true
same_path [] (y ∷ ys) = false
same_path (x ∷ xs) [] = false
same_path (x ∷ xs) (y ∷ ys) = bytes_eq x y && same_path xs ys
