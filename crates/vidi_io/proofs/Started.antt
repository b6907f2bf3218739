-- A file of a shelf that a sink starts and adds to.
use Rattle.std.proofs.Common.{◌≡◌, ◌⊎◌, ℕ, ◌<◌, ◌≤◌, Bool, true, false, cond, List, [], ◌∷◌, ◌++◌, Option, Some, None, Result, Ok, Err}
use Rattle.std.proofs.Common.{OnOk, OnErr, unwrap_or, length, take, drop, inl, inr, ⊎_elim, refl, sym, ap, subst, ◌∙◌, arith}
use Rattle.std.proofs.lemmas.List.{append-nil, take-append-drop}
use Rattle.std.proofs.lemmas.Option.{same_Some}
use Rattle.std.proofs.lemmas.Map.Text.{is_eq-slice_cmp}
use Rattle.std.specs.Cmp.Lexicographic.{nat_list_cmp_total}
use Rattle.std.specs.FinMap.{get, insert, get-insert}
use Rattle.std.specs.Io.KnownBytes.{append_known}
use Rattle.std.specs.Str.{bytes_eq}
use Rattle.vidi_bits.proofs.Lists.{bytes_eq-self}
use Rattle.vidi_io.specs.Shelf.{Files, HasStarted, bytes_of, holding, emptied, appended, GrewBySome}
use Rattle.vidi_io.specs.ShelfSink.{bytes_written, IsOver}
use Rattle.vidi_io.specs.Sink.{Frame, AppendsSome}
use Rattle.vidi_io.proofs.Names.{same_files}

get-here : (m : Files) (name bytes : List ℕ) → get (insert m name bytes) name ≡ Some bytes
get-here m name bytes = get-insert nat_list_cmp_total m name bytes name
    ∙ ap (λ t. cond t (Some bytes) (get m name)) (is_eq-slice_cmp name name ∙ bytes_eq-self name)

bytes_of-insert : (m : Files) (name bytes : List ℕ) → bytes_of (insert m name bytes) name ≡ bytes
bytes_of-insert m name bytes = ap (λ o. unwrap_or o []) (get-here m name bytes)

get-at : (m : Files) (name bytes q : List ℕ) → get (insert m name bytes) q ≡ cond (bytes_eq q name) (Some bytes) (get m q)
get-at m name bytes q = get-insert nat_list_cmp_total m name bytes q ∙ ap (λ t. cond t (Some bytes) (get m q)) (is_eq-slice_cmp q name)

twice : (t : Bool) (a b : List ℕ) (o : Option (List ℕ)) → cond t (Some b) (cond t (Some a) o) ≡ cond t (Some b) o
twice true a b o = refl
twice false a b o = refl

insert-insert : (m : Files) (name a b : List ℕ) → insert (insert m name a) name b ≡ insert m name b
insert-insert m name a b = same_files (insert (insert m name a) name b) (insert m name b)
    (λ q. get-at (insert m name a) name b q ∙ ap (cond (bytes_eq q name) (Some b)) (get-at m name a q)
    ∙ twice (bytes_eq q name) a b (get m q) ∙ sym (get-at m name b q))

holding-holding : (files : Option Files) (name a b : List ℕ) → holding (holding files name a) name b ≡ holding files name b
holding-holding None name a b = refl
holding-holding (Some m) name a b = ap Some (insert-insert m name a b)

-- what was held, and a piece behind it
pub appended-holding : (files : Option Files) (name a piece : List ℕ) → appended (holding files name a) name piece
    ≡ holding files name (a ++ piece)
appended-holding None name a piece = refl
appended-holding (Some m) name a piece = ap Some (ap (λ bs. insert (insert m name a) name (bs ++ piece)) (bytes_of-insert m name a)
    ∙ insert-insert m name a (a ++ piece))

-- ---- the bytes written
pub written-started : (files : Option Files) (name : List ℕ) → bytes_written true (emptied files name) name ≡ bytes_written false files name
written-started None name = refl
written-started (Some m) name = ap Some (bytes_of-insert m name [])

pub written-kept : (old new : Option Files) (name : List ℕ) → (new ≡ old) ⊎ (new ≡ emptied old name) → bytes_written false new name
    ≡ bytes_written false old name
written-kept old new name cause = ⊎_elim (λ e. ap (λ fs. bytes_written false fs name) e)
    (λ e. ap (λ fs. bytes_written false fs name) e ∙ nothing old) cause
  where
    nothing : (files : Option Files) → bytes_written false (emptied files name) name ≡ bytes_written false files name
    nothing None = refl
    nothing (Some m) = refl

written-more : (files : Option Files) (name piece : List ℕ) → bytes_written true (appended files name piece) name
    ≡ append_known (bytes_written true files name) piece
written-more None name piece = refl
written-more (Some m) name piece = ap Some (bytes_of-insert m name (bytes_of m name ++ piece))

pub nothing_more : (known : Option (List ℕ)) → known ≡ append_known known []
nothing_more None = refl
nothing_more (Some bytes) = ap Some (sym (append-nil bytes))

-- after an append that answers Ok
pushed : (started : Bool) (old new : Option Files) (was : Option (List ℕ)) (name piece : List ℕ) → started ≡ true
    → bytes_written started old name ≡ was → new ≡ appended old name piece → bytes_written started new name ≡ append_known was piece
pushed started old new was name piece s w a =
    ap (λ b. bytes_written b new name) s ∙ ap (λ fs. bytes_written true fs name) a ∙ written-more old name piece
    ∙ ap (λ b. append_known (bytes_written b old name) piece) (sym s) ∙ ap (λ k. append_known k piece) w

-- after one that failed
pushed_some : (started : Bool) (old new : Option Files) (was : Option (List ℕ)) (name piece : List ℕ) → started ≡ true
    → bytes_written started old name ≡ was → GrewBySome old new name piece → AppendsSome was (bytes_written started new name) piece
pushed_some started old new was name piece s w (inl e) = record {
  kept = [];
  lost = piece;
  split = refl;
  told = ap (λ fs. bytes_written started fs name) e ∙ w ∙ nothing_more was;
}
pushed_some started old new was name piece s w (inr (k, e)) = record {
  kept = take k piece;
  lost = drop k piece;
  split = sym (take-append-drop k piece);
  told = pushed started old new was name (take k piece) s w e;
}

-- ---- the frame
-- a start
pub over-started : (old new : Option Files) (name : List ℕ) (reads reads' : List ℕ → ℕ) (starts starts' : ℕ) (f : Frame)
    → new ≡ emptied old name → HasStarted starts starts' true → ((q : List ℕ) → reads q ≤ reads' q) → IsOver false old name reads starts f
    → IsOver true new name reads' starts' f
over-started old new name reads reads' starts starts' f e once later o = record {
  same_name = o.same_name;
  once = subst (λ n. HasStarted n starts' true) o.once once;
  others = (
    [],
    e ∙ ⊎_elim (λ s. ap (λ fs. emptied fs name) s) (λ s. ap (λ fs. emptied fs name) s ∙ holding-holding f.files name [] [])
        o.others,
  );
  counts = λ q. omega (arith, o.counts q, later q);
}

-- one that failed
pub over-kept : (old new : Option Files) (name : List ℕ) (reads reads' : List ℕ → ℕ) (starts starts' : ℕ) (f : Frame)
    → (new ≡ old) ⊎ (new ≡ emptied old name) → starts' ≡ starts → ((q : List ℕ) → reads q ≤ reads' q)
    → IsOver false old name reads starts f → IsOver false new name reads' starts' f
over-kept old new name reads reads' starts starts' f cause same later o = record {
  same_name = o.same_name;
  once = same ∙ o.once;
  others = ⊎_elim
      (λ (e : new ≡ old). ⊎_elim (λ s. inl (e ∙ s)) (λ s. inr (e ∙ s)) o.others)
      (λ (e : new ≡ emptied old name). inr (e ∙ ⊎_elim (λ s. ap (λ fs. emptied fs name) s)
      (λ s. ap (λ fs. emptied fs name) s ∙ holding-holding f.files name [] []) o.others))
      cause;
  counts = λ q. omega (arith, o.counts q, later q);
}

over-appended : (old new : Option Files) (name piece : List ℕ) (reads reads' : List ℕ → ℕ) (starts starts' : ℕ) (f : Frame)
    → new ≡ appended old name piece → starts' ≡ starts → ((q : List ℕ) → reads q ≤ reads' q) → IsOver true old name reads starts f
    → IsOver true new name reads' starts' f
over-appended old new name piece reads reads' starts starts' f e same later o = record {
  same_name = o.same_name;
  once = same ∙ o.once;
  others = (o.others.0 ++ piece, e ∙ ap (λ fs. appended fs name piece) o.others.1 ∙ appended-holding f.files name o.others.0 piece);
  counts = λ q. omega (arith, o.counts q, later q);
}

over-same : (old new : Option Files) (name : List ℕ) (reads reads' : List ℕ → ℕ) (starts starts' : ℕ) (f : Frame) → new ≡ old
    → starts' ≡ starts → ((q : List ℕ) → reads q ≤ reads' q) → IsOver true old name reads starts f → IsOver true new name reads' starts' f
over-same old new name reads reads' starts starts' f e same later o = record {
  same_name = o.same_name;
  once = same ∙ o.once;
  others = (o.others.0, e ∙ o.others.1);
  counts = λ q. omega (arith, o.counts q, later q);
}

over-grown : (old new : Option Files) (name piece : List ℕ) (reads reads' : List ℕ → ℕ) (starts starts' : ℕ) (f : Frame)
    → GrewBySome old new name piece → starts' ≡ starts → ((q : List ℕ) → reads q ≤ reads' q) → IsOver true old name reads starts f
    → IsOver true new name reads' starts' f
over-grown old new name piece reads reads' starts starts' f (inl e) same later o =
    over-same old new name reads reads' starts starts' f e same later o
over-grown old new name piece reads reads' starts starts' f (inr (k, e)) same later o =
    over-appended old new name (take k piece) reads reads' starts starts' f e same later o

over-answered : {T E : Type 0} (r : Result T E) (old new : Option Files) (name piece : List ℕ) (reads reads' : List ℕ → ℕ)
    (starts starts' : ℕ) (f : Frame) → OnOk r (new ≡ appended old name piece) → OnErr r (GrewBySome old new name piece)
    → starts' ≡ starts → ((q : List ℕ) → reads q ≤ reads' q) → IsOver true old name reads starts f → IsOver true new name reads' starts' f
over-answered (Ok x) old new name piece reads reads' starts starts' f ok err same later o =
    over-appended old new name piece reads reads' starts starts' f ok same later o
over-answered (Err e) old new name piece reads reads' starts starts' f ok err same later o =
    over-grown old new name piece reads reads' starts starts' f err same later o

-- an append, whatever it answers
pub over-pushed : {T E : Type 0} (started : Bool) (r : Result T E) (old new : Option Files) (name piece : List ℕ)
    (reads reads' : List ℕ → ℕ) (starts starts' : ℕ) (f : Frame) → started ≡ true → OnOk r (new ≡ appended old name piece)
    → OnErr r (GrewBySome old new name piece) → starts' ≡ starts → ((q : List ℕ) → reads q ≤ reads' q)
    → IsOver started old name reads starts f → IsOver started new name reads' starts' f
over-pushed started r old new name piece reads reads' starts starts' f s ok err same later o =
    subst (λ (b : Bool). IsOver b new name reads' starts' f) (sym s)
    (over-answered r old new name piece reads reads' starts starts' f ok err same later
    (subst (λ (b : Bool). IsOver b old name reads starts f) s o))

on-ok : {T E : Type 0} (r : Result T E) (P Q : Type 0) → (P → Q) → OnOk r P → OnOk r Q
on-ok (Ok x) P Q f p = f p
on-ok (Err e) P Q f p = tt

on-err : {T E : Type 0} (r : Result T E) (P Q : Type 0) → (P → Q) → OnErr r P → OnErr r Q
on-err (Ok x) P Q f p = tt
on-err (Err e) P Q f p = f p

pub ok-pushed : {T E : Type 0} (r : Result T E) (started : Bool) (old new : Option Files) (was : Option (List ℕ)) (name piece : List ℕ)
    → started ≡ true → bytes_written started old name ≡ was → OnOk r (new ≡ appended old name piece)
    → OnOk r (bytes_written started new name ≡ append_known was piece)
ok-pushed r started old new was name piece s w a = on-ok r _ _ (pushed started old new was name piece s w) a

pub err-pushed : {T E : Type 0} (r : Result T E) (started : Bool) (old new : Option Files) (was : Option (List ℕ)) (name piece : List ℕ)
    → started ≡ true → bytes_written started old name ≡ was → OnErr r (GrewBySome old new name piece)
    → OnErr r (AppendsSome was (bytes_written started new name) piece)
err-pushed r started old new was name piece s w a = on-err r _ _ (pushed_some started old new was name piece s w) a
