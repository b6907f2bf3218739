-- What `read_whole` answers on a shelf that tells its files, where the count of the name didn't rise.
use Rattle.std.proofs.Common.{◌≡◌, ℕ, ◌<◌, ◌≤◌, ◌⊎◌, List, Option, Some, None, Result, Ok, Err, length, IfOk, IfErr, IfSome, IsSomeAnd}
use Rattle.std.proofs.Common.{refl, ap, sym, subst, inl, inr}
use Rattle.std.specs.FinMap.{get}
use Rattle.vidi_io.specs.Cause.{Rose}
use Rattle.vidi_io.specs.Reading.{ReadCause, Whole}
use Rattle.vidi_io.specs.Shelf.{Files}
use Rattle.vidi_io.specs.declared.reading.ReadError.{ReadError}
use Rattle.vidi_io.specs.declared.reading.ReadError.TheVariants.{Missing, Failed, TooLong, Memory}

read-ok : (held : Option (List ℕ)) (bytes : List ℕ) (limit : ℕ) → held ≡ Some bytes → length bytes ≤ limit → Whole held limit (Ok bytes)
read-ok None bytes limit is within = absurd (cc)
read-ok (Some file) bytes limit is within = let same : file ≡ bytes = cc
    in inl (subst (λ (l : List ℕ). length l ≤ limit) (sym same) within, ap Ok (sym same))

too-long : (held : Option (List ℕ)) (given limit : ℕ) → given ≡ limit → IsSomeAnd held (λ file. limit < length file)
    → Whole held limit (Err (TooLong given))
too-long None given limit is more = absurd more
too-long (Some file) given limit is more = inr (more, ap (λ n. Err (TooLong n)) is)

none-missing : (held : Option (List ℕ)) (limit : ℕ) → held ≡ None → Whole held limit (Err Missing)
none-missing None limit is = refl
none-missing (Some file) limit is = absurd (cc)

whole-told : (m : Files) (name : List ℕ) (limit before now : ℕ) (result : Result (List ℕ) ReadError) → (Rose before now → ⊥)
    → IfOk result (λ bytes. get m name ≡ Some bytes) → IfOk result (λ bytes. length bytes ≤ limit)
    → IfErr result (λ e. ReadCause e (Some m) name limit before now) → (result ≡ Err Memory) ⊎ Whole (get m name) limit result
whole-told m name limit before now (Ok bytes) quiet is within cause = inr (read-ok (get m name) bytes limit is within)
whole-told m name limit before now (Err Missing) quiet is within cause = inr (none-missing (get m name) limit cause)
whole-told m name limit before now (Err Failed) quiet is within cause = absurd (quiet cause)
whole-told m name limit before now (Err (TooLong given)) quiet is within cause = inr (too-long (get m name) given limit cause.0 cause.1)
whole-told m name limit before now (Err Memory) quiet is within cause = inl refl

pub whole : (files : Option Files) (name : List ℕ) (limit before now : ℕ) (result : Result (List ℕ) ReadError)
    → IfOk result (λ bytes. IfSome files (λ m. get m name ≡ Some bytes)) → IfOk result (λ bytes. length bytes ≤ limit)
    → IfErr result (λ e. ReadCause e files name limit before now) → IfSome files
    (λ m. (Rose before now → ⊥) → (result ≡ Err Memory) ⊎ Whole (get m name) limit result)
whole None name limit before now result is within cause = tt
whole (Some m) name limit before now result is within cause = λ quiet. whole-told m name limit before now result quiet is within cause
