-- What the bytes read so far are after one fetch more.
use Rattle.std.proofs.Common.{◌≡◌, ℕ, ◌+◌, ◌≤◌, List, ◌++◌, Option, Some, None, length, take, drop, IfSome, IsSomeAnd, ap, sym, subst}
use Rattle.std.proofs.Common.{length-append}
use Rattle.std.proofs.lemmas.List.{length-take-le}
use Rattle.std.proofs.Math.Seq.{take-add}
use Rattle.std.specs.FinMap.{get}
use Rattle.vidi_io.specs.Shelf.{Files, Gives}

-- the bytes read are the front of the file
abbrev pub AtFront : Option (List ℕ) → List ℕ → Type 0
AtFront held bytes = IfSome held (λ file. bytes ≡ take (length bytes) file)

front-more : (file bytes buf : List ℕ) (n : ℕ) → bytes ≡ take (length bytes) file → take n buf ≡ take n (drop (length bytes) file)
    → n ≤ length buf
    → bytes ++ take n buf ≡ take (length (bytes ++ take n buf)) file
front-more file bytes buf n read given fits =
    let len : length (bytes ++ take n buf) ≡ length bytes + n = simp length-append (ap (λ k. length bytes + k) (length-take-le n buf fits))
    in
    rw (len, take-add (length bytes) n file) (cc)

held-more : (held : Option (List ℕ)) (bytes buf : List ℕ) (n : ℕ) → AtFront held bytes
    → IsSomeAnd held (λ file. Gives file (length bytes) n buf) → n ≤ length buf
    → AtFront held (bytes ++ take n buf)
held-more None bytes buf n read given fits = absurd given
held-more (Some file) bytes buf n read given fits = front-more file bytes buf n read given.bytes fits

told-more : (files : Option Files) (name bytes buf : List ℕ) (n : ℕ) → IfSome files (λ m. AtFront (get m name) bytes)
    → IfSome files (λ m. IsSomeAnd (get m name) (λ file. Gives file (length bytes) n buf)) → n ≤ length buf
    → IfSome files (λ m. AtFront (get m name) (bytes ++ take n buf))
told-more None name bytes buf n read given fits = tt
told-more (Some m) name bytes buf n read given fits = held-more (get m name) bytes buf n read given fits

-- after a fetch at the end of the bytes read, from files that are as at entry
pub read-more : (entry now : Option Files) (name bytes more buf : List ℕ) (at n : ℕ) → now ≡ entry → at ≡ length bytes → more ≡ bytes
    ++ take n buf
    → IfSome entry (λ m. AtFront (get m name) bytes) → IfSome now (λ m. IsSomeAnd (get m name) (λ file. Gives file at n buf))
    → n ≤ length buf → IfSome entry (λ m. AtFront (get m name) more)
read-more entry now name bytes more buf at n same is_at is_more read given fits =
    let given' : IfSome entry (λ m. IsSomeAnd (get m name) (λ file. Gives file (length bytes) n buf)) =
    subst (λ (k : ℕ). IfSome entry (λ m. IsSomeAnd (get m name) (λ file. Gives file k n buf))) is_at
    (subst (λ (f : Option Files). IfSome f (λ m. IsSomeAnd (get m name) (λ file. Gives file at n buf))) same given) in
    subst (λ (bs : List ℕ). IfSome entry (λ m. AtFront (get m name) bs)) (sym is_more) (told-more entry name bytes buf n read given' fits)
