-- A table of nets by name: numbers made of full names, and beside each the place of a net whose name gives it.
use Rattle.std.specs.Prelude.{◌≡◌, ℕ, ◌+◌, ◌*◌, ◌%◌, ◌^◌, ◌<◌, nat_eq, true, Some, is_some, List, [], ◌∷◌, length, slice_index, slice_get}
use Rattle.std.specs.Map.{lookup}
use Rattle.net_design.specs.declared.design.Instance.{Instance}
use Rattle.net_design.specs.declared.design.Net.{Net}
use Rattle.net_design.specs.Names.{list_at, paths}
use Rattle.net_sim.specs.Names.{dotted, full_name}

-- the number of a text, which goes on from one
abbrev pub hash_from : ℕ → List ℕ → ℕ
hash_from h [] = h
hash_from h (x ∷ text) = hash_from ((h * 1099511628211 % 2 ^ 64 + x) % 2 ^ 64) text

-- that of the path of an instance, and that of the full name of a net
abbrev pub path_hash : List Instance → ℕ → ℕ
path_hash instances i = hash_from 0 (dotted (list_at (paths instances) i))

abbrev pub name_hash : List Instance → Net → ℕ
name_hash instances n = hash_from 0 (full_name instances n)

-- the numbers of the paths of the first instances
pub record ArePaths (instances : List Instance) (count : ℕ) (hashes : List ℕ) : Type 0 where
  pub long : length hashes ≡ count
  pub each : (i : ℕ) → i < count → slice_index hashes i ≡ path_hash instances i

-- a table of the first `count` of nets: each has an entry under its number, and each entry is of a net
pub record IsTable (instances : List Instance) (nets : List Net) (count : ℕ) (entries : List (ℕ × ℕ)) : Type 0 where
  pub some : (m : ℕ) (n : Net) → m < count → slice_get nets m ≡ Some n
      → is_some (lookup (nat_eq (name_hash instances n)) entries) ≡ true
  pub within : (h m : ℕ) → lookup (nat_eq h) entries ≡ Some m → m < length nets
