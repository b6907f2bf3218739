-- Paths are tested to be the same exactly where they are.
use Rattle.std.proofs.Common.{◌≡◌, true, [], ◌∷◌, refl, ap, ◌∙◌}
use Rattle.std.proofs.lemmas.Bool.{and_from}
use Rattle.std.proofs.lemmas.Slice.Eq.{bytes_eq-Decides}
use Rattle.std.specs.Str.{bytes_eq}
use Rattle.vlog_names.proofs.vidi_bits_lemmas.Bools.{left_of, right_of}
use Rattle.vlog_driver.specs.Names.{Full, same_path}

pub path_same : (xs ys : Full) → same_path xs ys ≡ true → xs ≡ ys
path_same [] [] h = refl
path_same [] (y ∷ ys) h = (cc)
path_same (x ∷ xs) [] h = (cc)
path_same (x ∷ xs) (y ∷ ys) h =
    let first : x ≡ y = (bytes_eq-Decides x y).0 (left_of (bytes_eq x y) (same_path xs ys) h) in
    let rest : xs ≡ ys = path_same xs ys (right_of (bytes_eq x y) (same_path xs ys) h) in
    ap (λ z. z ∷ xs) first ∙ ap (λ zs. y ∷ zs) rest

pub path_itself : (xs : Full) → same_path xs xs ≡ true
path_itself [] = refl
path_itself (x ∷ xs) = and_from (bytes_eq x x) (same_path xs xs) ((bytes_eq-Decides x x).1 refl) (path_itself xs)
