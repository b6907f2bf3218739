-- What holds of a told file.
use Rattle.std.proofs.Common.{◌≡◌, ◌⊎◌, Option, Some, None, inl, inr, subst}
use Rattle.std.specs.Prelude.{IsSomeAnd}

-- what holds twice of a told file holds of one file
pub both : {A : Type 0} (o : Option A) (P Q : A → Type 0) → IsSomeAnd o P → IsSomeAnd o Q → (x : A) × P x × Q x
both None P Q p q = absurd p
both (Some x) P Q p q = (x, p, q)

pub also : {A : Type 0} (o : Option A) (P Q : A → Type 0) → ((x : A) → P x → Q x) → IsSomeAnd o P → IsSomeAnd o Q
also None P Q f p = absurd p
also (Some x) P Q f p = f x p

-- a told file is there
pub there : {A : Type 0} (o : Option A) (P : A → Type 0) → IsSomeAnd o P → (o ≡ None) ⊎ ⊥ → ⊥
there o P p (inl absent) = let Q : Option _ → Type 0 = λ r. IsSomeAnd r P in subst Q absent p
there o P p (inr never) = never
