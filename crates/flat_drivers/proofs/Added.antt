-- Lists of code to which code is added, item by item.
use Rattle.std.proofs.Common.{◌≡◌, ℕ, zero, suc, ◌+◌, ◌<◌, ◌≤◌, List, [], ◌∷◌, ◌++◌, map, length, drop, get_or, ap, sym, subst, ◌∙◌}
use Rattle.std.proofs.Common.{append_assoc, append-nil, Result, Ok, Err, OnOk, Some, slice_get}
use Rattle.std.specs.List.{AllZip, AllByRecursion, flat_map}
use Rattle.std.proofs.Math.ListN.{drop_of_length-le}
use Rattle.vlog_tree.specs.Plain.{plain_item}
use Rattle.vlog_tree.specs.declared.module.Item.{Item}
use Rattle.flat_parts.specs.vlog_size.declared.scope.Param.{Param}
use Rattle.flat_parts.specs.vlog_size.declared.scope.Scope.{Scope}
use Rattle.flat_parts.specs.vlog_size.Table.{Named}
use Rattle.flat_parts.specs.vlog_scope.Scope.{after_item}
use Rattle.net_design.specs.declared.act.Code.{Code}
use Rattle.net_design.proofs.UpdateLaws.{from_here}
use Rattle.flat_parts.specs.vlog_driver.Names.{Full}
use Rattle.flat_parts.specs.vlog_driver.Placed.{Placed, placed}
use Rattle.flat_parts.specs.Seats.{Seat}
use Rattle.flat_parts.specs.Drivers.{ClockedBlock, IsBlockOf}
use Rattle.flat_parts.specs.net_code.declared.base.Base.{Base}
use Rattle.flat_drivers.specs.Latches.{placed_latches}
use Rattle.flat_drivers.specs.Adding.{BlocksMore, placed_in, blocks_in, IsFaultlessPlaced}

module _ {A B : Type 0} (P : A → B → Type 0) where
  -- the code of one list is that of some things, and of another that of these and then of more
  abbrev pub Adds : List A → List B → List B → Type 0
  Adds more old new = (before : List A) → AllZip P before old → AllZip P (before ++ more) new

  zip_more : (xs : List A) (ys : List B) (x : A) (y : B) → AllZip P xs ys → P x y → AllZip P (xs ++ x ∷ []) (ys ++ y ∷ [])
  zip_more [] [] x y h d = (d, tt)
  zip_more [] (z ∷ ys) x y h d = absurd h
  zip_more (w ∷ xs) [] x y h d = absurd h
  zip_more (w ∷ xs) (z ∷ ys) x y h d = (h.0, zip_more xs ys x y h.1 d)

  pub one_more : (x : A) (y : B) (old new : List B) → new ≡ old ++ y ∷ [] → P x y → Adds (x ∷ []) old new
  one_more x y old new is does before h = subst (AllZip P (before ++ x ∷ [])) (sym is) (zip_more before old x y h does)

  pub no_more : (old : List B) → Adds [] old old
  no_more old before h = subst (λ xs. AllZip P xs old) (sym (append-nil before)) h

  and_more : (xs ys : List A) (a b c : List B) → Adds xs a b → Adds ys b c → Adds (xs ++ ys) a c
  and_more xs ys a b c h k before z = subst (λ zs. AllZip P zs c) (append_assoc before xs ys) (k (before ++ xs) (h before z))

  -- once what is left is added to what there is now, all is added to what there was
  abbrev pub Going : List A → List A → List B → List B → Type 0
  Going left all now base = (end : List B) → Adds left now end → Adds all base end

  pub code_next : (own more left all : List A) (now next base : List B) → left ≡ own ++ more → Adds own now next
      → Going left all now base → Going more all next base
  code_next own more left all now next base split adds going end h =
      going end (subst (λ zs. Adds zs now end) (sym split) (and_more own more now next end adds h))

  pub code_done : (left all : List A) (now base : List B) → left ≡ [] → Going left all now base → Adds all base now
  code_done left all now base over going = going now (subst (λ zs. Adds zs now now) (sym over) (no_more now))

pub one_block_result : {E : Type 0} (result : Result (Unit {0}) E) (c : Code) (old new : List Code) → OnOk result (new ≡ old ++ c ∷ [])
    → OnOk result ((b : ClockedBlock) → IsBlockOf b c → BlocksMore (b ∷ []) old new)
one_block_result (Ok done) c old new is = λ b does. one_more IsBlockOf b c old new is does
one_block_result (Err error) c old new is = tt

-- ---- the items of an instance

-- what an item and those behind it make
pub item_split : {X : Type 0} (f : Placed → List X) (params : List (Named Param)) (k next : ℕ) (items : List Item) (i : ℕ) (item : Item)
    → i < length items → item ≡ get_or items i item → next ≡ after_item params k (plain_item item)
    → flat_map f (placed params k (map plain_item (drop i items)))
    ≡ f (record { declared = k; item = plain_item item }) ++ flat_map f (placed params next (map plain_item (drop (i + 1) items)))
item_split f params k next items i item l is after =
    ap (λ ys. flat_map f (placed params k (map plain_item ys))) (from_here items i item l is)
    ∙ ap (λ n. f (record { declared = k; item = plain_item item }) ++ flat_map f (placed params n (map plain_item (drop (i + 1) items))))
    (sym after)

pub items_over : {X : Type 0} (f : Placed → List X) (params : List (Named Param)) (k : ℕ) (items : List Item) (i : ℕ) → length items ≤ i
    → flat_map f (placed params k (map plain_item (drop i items))) ≡ []
items_over f params k items i l = ap (λ ys. flat_map f (placed params k (map plain_item ys))) (drop_of_length-le items l)

-- a scope that differs in the number of declared parameters alone
abbrev pub SetTo : Scope → Scope → Type 0
SetTo s t = t ≡ record s { declared = t.declared }

pub latches_there : (s t : Scope) (p : Placed) → SetTo s t → placed_latches t p ≡ placed_latches s p
latches_there s t p is = ap (λ (u : Scope). placed_latches u p) is

pub duties_there : (xs : List Seat) (path : Full) (base : Base) (s t : Scope) (p : Placed) → SetTo s t
    → placed_in xs path base t p ≡ placed_in xs path base s p
duties_there xs path base s t p is = ap (λ (u : Scope). placed_in xs path base u p) is

pub blocks_there : (base : Base) (s t : Scope) (p : Placed) → SetTo s t → blocks_in base t p ≡ blocks_in base s p
blocks_there base s t p is = ap (λ (u : Scope). blocks_in base u p) is

-- what holds of the first of what is left and of the others holds of what is left
pub left_first : {X Y : Type 0} (P : Y → Type 0) (plain : X → Y) (xs : List X) (i : ℕ) (x : X) → i < length xs → x ≡ get_or xs i x
    → P (plain x) → AllByRecursion P (map plain (drop (i + 1) xs)) → AllByRecursion P (map plain (drop i xs))
left_first P plain xs i x l is h rest = subst (λ zs. AllByRecursion P (map plain zs)) (sym (from_here xs i x l is)) (h, rest)

pub all_at : {X : Type 0} (P : X → Type 0) (xs : List X) (k : ℕ) (x : X) → AllByRecursion P xs → slice_get xs k ≡ Some x → P x
all_at P [] k x h at = absurd (cc)
all_at P (y ∷ xs) zero x h at = let is : y ≡ x = (cc) in subst P is h.0
all_at P (y ∷ xs) (suc k) x h at = all_at P xs k x h.1 at

-- what holds of each placed item of what is left holds of the first one and of the others
pub first_placed : (P : Placed → Type 0) (params : List (Named Param)) (k next : ℕ) (items : List Item) (i : ℕ) (item : Item)
    → i < length items → item ≡ get_or items i item → next ≡ after_item params k (plain_item item)
    → AllByRecursion P (placed params k (map plain_item (drop i items)))
    → P (record { declared = k; item = plain_item item }) × AllByRecursion P (placed params next (map plain_item (drop (i + 1) items)))
first_placed P params k next items i item l is after h =
    let both : P (record { declared = k; item = plain_item item })
    × AllByRecursion P (placed params (after_item params k (plain_item item)) (map plain_item (drop (i + 1) items))) =
    subst (λ ys. AllByRecursion P (placed params k (map plain_item ys))) (from_here items i item l is) h in
    (both.0, subst (λ n. AllByRecursion P (placed params n (map plain_item (drop (i + 1) items)))) (sym after) both.1)

pub faultless_there : (base : Base) (s t : Scope) (p : Placed) → SetTo s t → IsFaultlessPlaced base s p → IsFaultlessPlaced base t p
faultless_there base s t p is h = subst (λ (u : Scope). IsFaultlessPlaced base u p) (sym is) h
