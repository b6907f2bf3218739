-- The search at its start and at its end.
use Rattle.std.proofs.Common.{◌≡◌, ◌≢◌, ℕ, zero, suc, ◌<◌, ◌≤◌, List, [], ◌∷◌, length, slice_index, map, take, replicate, refl, ap, sym}
use Rattle.std.proofs.Common.{subst, ◌∙◌, arith}
use Rattle.std.specs.List.{Contains}
use Rattle.vidi_bits.proofs.Lists.{none_in}
use Rattle.net_design.specs.Names.{list_at}
use Rattle.net_order.specs.declared.search.Mark.{Mark}
use Rattle.net_order.specs.declared.search.Mark.TheVariants.{Fresh, Open, Done}
use Rattle.net_order.specs.Order.{IsOrderBy}
use Rattle.net_order.specs.Graph.{Graph, Points}
use Rattle.net_order.specs.Search.{IsSound, mark_of}

all_fresh : (n i : ℕ) → mark_of (replicate n Fresh) i ≡ Fresh
all_fresh zero i = refl
all_fresh (suc n) zero = refl
all_fresh (suc n) (suc i) = all_fresh n i

length_replicate : (n : ℕ) → length (replicate n Fresh) ≡ n
length_replicate zero = refl
length_replicate (suc n) = ap suc (length_replicate n)

pub start_sound : (g : Graph) (left : List ℕ) → length left ≡ length g → ((i : ℕ) → slice_index left i ≡ length (list_at g i))
    → IsSound g (replicate (length g) Fresh) left [] []
start_sound g left long each =
    let n = length g in
    record {
      marks_long = length_replicate n;
      left_long = long;
      done = λ i h. let f = sym (all_fresh n i) ∙ h in absurd cc;
      placed = λ i c. absurd (none_in i c);
      opened = λ i h. let f = sym (all_fresh n i) ∙ h in absurd cc;
      on_path = λ t l. absurd (omega (arith, l));
      linked = λ t l. absurd (omega (arith, l));
      once = λ s t b l. absurd (omega (arith, l));
      few = λ i. let e : slice_index left i ≡ length (list_at g i) = each i in omega (arith, e);
      looked = λ i j a b. let e : slice_index left i ≡ length (list_at g i) = each i in absurd (omega (arith, e, a, b));
      follows = tt;
    }

pub counts : (g : Graph) (i : ℕ) → slice_index (map (λ (x : List ℕ). length x) g) i ≡ length (list_at g i)
counts [] i = refl
counts (x ∷ g) zero = refl
counts (x ∷ g) (suc i) = counts g i

done_of : (m : Mark) → m ≢ Fresh → m ≢ Open → m ≡ Done
done_of Fresh a b = absurd (a refl)
done_of Open a b = absurd (b refl)
done_of Done a b = refl

pub ordered : (g : Graph) (marks : List Mark) (left path order : List ℕ) → IsSound g marks left path order → path ≡ []
    → ((i : ℕ) → i < length g → mark_of marks i ≢ Fresh) → IsOrderBy (length g) (Points g) order
ordered g marks left path order s empty begun = record {
  all = λ i l. s.done i (done_of (mark_of marks i) (begun i l) (λ h. none_in i
      (subst (λ (p : List ℕ). Contains p i) empty (s.opened i h))));
  follows = s.follows;
}

take_all : {X : Type 0} (xs : List X) (n : ℕ) → length xs ≤ n → take n xs ≡ xs
take_all [] zero l = refl
take_all [] (suc n) l = refl
take_all (x ∷ xs) zero l = absurd (omega arith)
take_all (x ∷ xs) (suc n) l = ap (λ ys. x ∷ ys) (take_all xs n (omega arith))

pub counted : (g : Graph) (n : ℕ) (left : List ℕ) → left ≡ map (λ (x : List ℕ). length x) (take n g) → length g ≤ n
    → (i : ℕ) → slice_index left i ≡ length (list_at g i)
counted g n left e l i = ap (λ (z : List ℕ). slice_index z i) (e ∙ ap (map (λ (x : List ℕ). length x)) (take_all g n l)) ∙ counts g i
