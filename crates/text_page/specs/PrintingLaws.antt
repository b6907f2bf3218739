-- Printing nothing changes nothing, and one text after another is both.
use Rattle.std.proofs.Common.{ℕ, ◌+◌, ◌≤◌, ◌++◌, Bool, List, [], Option, inl, inr, sym, subst, append_assoc}
use Rattle.std.proofs.Math.Nat.{le_refl, le_trans, le-min, min-le_left, min-le_right, add-le-add}
use Rattle.std.proofs.lemmas.List.{append-nil}
use Rattle.vidi_io.specs.Cause.{Rose}
use Rattle.text_page.specs.Printing.{IsPrinted, Prints, Blames}

pub prints_nothing : (told : Option (List ℕ)) (held : List ℕ) (lost : Bool) → Prints told held lost told held lost []
prints_nothing told held lost = λ base before is.
    subst (λ (x : List ℕ). IsPrinted base x told held lost) (sym (append-nil before)) is

pub prints_on : (t u v : Option (List ℕ)) (h i j : List ℕ) (l m n : Bool) (a b : List ℕ)
    → Prints t h l u i m a → Prints u i m v j n b → Prints t h l v j n (a ++ b)
prints_on t u v h i j l m n a b first second = λ base before is.
    subst (λ (x : List ℕ). IsPrinted base x v j n) (append_assoc before a b) (second base (before ++ a) (first base before is))

pub blames_nothing : (faults : ℕ) (lost : Bool) → Blames faults lost faults lost
blames_nothing faults lost = record {
  later = le_refl faults;
  cause = λ is. inl is;
}

rose_from : (a b c : ℕ) → a ≤ b → Rose b c → Rose a c
rose_from a b c l r = le_trans (le-min (le_trans (min-le_left (a + 1) _) (add-le-add l (le_refl 1))) (min-le_right (a + 1) _)) r

pub blames_on : (f g h : ℕ) (l m n : Bool) → Blames f l g m → Blames g m h n → Blames f l h n
blames_on f g h l m n first second = record {
  later = le_trans first.later second.later;
  cause = λ is. elim (second.cause is) [
    | inl before ↦ elim (first.cause before) [
      | inl lost ↦ inl lost
      | inr rose ↦ inr (le_trans rose second.later)
    ]
    | inr rose ↦ inr (rose_from f g h first.later rose)
  ];
}
