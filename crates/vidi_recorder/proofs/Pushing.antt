-- Pieces that were pushed.
use Rattle.std.proofs.Common.{◌≡◌, ℕ, List, ◌++◌, Option, Some, None, length, take, refl, ap, sym, subst, ◌∙◌}
use Rattle.std.proofs.Common.{append_assoc, arith}
use Rattle.std.specs.Io.KnownBytes.{append_known}
use Rattle.std.proofs.lemmas.List.{take_all}
use Rattle.vidi_io.specs.Sink.{AppendsSome}

pub told-both : (a b c : Option (List ℕ)) (xs ys : List ℕ) → b ≡ append_known a xs → c ≡ append_known b ys → c ≡ append_known a (xs ++ ys)
told-both a b c xs ys p q = q ∙ ap (λ o. append_known o ys) p ∙ both a xs ys
  where
    both : (o : Option (List ℕ)) (xs ys : List ℕ) → append_known (append_known o xs) ys ≡ append_known o (xs ++ ys)
    both None xs ys = refl
    both (Some zs) xs ys = ap Some (append_assoc zs xs ys)

-- some of the front alone was added
pub some-front : (old new : Option (List ℕ)) (xs ys : List ℕ) → AppendsSome old new xs → AppendsSome old new (xs ++ ys)
some-front old new xs ys is = record {
  kept = is.kept;
  lost = is.lost ++ ys;
  split = ap (λ zs. zs ++ ys) is.split ∙ append_assoc is.kept is.lost ys;
  told = is.told;
}

-- the front was added, and some of the back
pub some-back : (old mid new : Option (List ℕ)) (xs ys : List ℕ) → mid ≡ append_known old xs → AppendsSome mid new ys
    → AppendsSome old new (xs ++ ys)
some-back old mid new xs ys e is = record {
  kept = xs ++ is.kept;
  lost = is.lost;
  split = ap (λ zs. xs ++ zs) is.split ∙ sym (append_assoc xs is.kept is.lost);
  told = told-both old mid new xs is.kept e is.told;
}

-- all that waits was pushed, or some of it
pub told-whole : (old new : Option (List ℕ)) (items : List ℕ) (n : ℕ) → n ≡ length items → new ≡ append_known old (take n items)
    → new ≡ append_known old items
told-whole old new items n e h = h ∙ ap (append_known old) (take_all n items (omega (arith, e)))

pub whole-front : (old new : Option (List ℕ)) (items : List ℕ) (n : ℕ) → n ≡ length items → AppendsSome old new (take n items)
    → AppendsSome old new items
whole-front old new items n e = subst (AppendsSome old new) (take_all n items (omega (arith, e)))
