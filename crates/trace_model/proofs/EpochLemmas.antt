-- Epochs by their packets: the packets since the last reset are a front of an epoch, and each epoch is what stands since a reset.
use Rattle.std.proofs.Common.{◌≡◌, ◌⊎◌, ℕ, zero, suc, ◌+◌, ◌≤◌, Bool, true, false, cond, eqb, List, [], ◌∷◌, ◌++◌, length, take, drop, inl, inr}
use Rattle.std.proofs.Common.{All, ⊎_elim, refl, ap, sym, subst, ◌∙◌, append_assoc, count_by, arith}
use Rattle.std.specs.List.{fold}
use Rattle.std.proofs.lemmas.Bool.{cases_Bool, cond-true, cond-false, cases_lt}
use Rattle.std.proofs.lemmas.List.{append-nil, take-append-le, take-append-drop, take_all, take_at, length_push, length-append}
use Rattle.std.proofs.lemmas.List.Elements.{All-head, All-tail}
use Rattle.std.proofs.lemmas.List.Sums.{fold-append}
use Rattle.trace_model.specs.declared.packet.Packet.{Packet}
use Rattle.trace_model.specs.Epoch.{resets, epoch, since_reset}
use Rattle.trace_model.specs.Trace.{Alternates, AlternateThroughout, InFlight}
use Rattle.trace_model.proofs.CountingLemmas.{count-cons}
use Rattle.trace_model.proofs.FlightLemmas.{alternates-nil, alternates-front, in_flight-nil}

abbrev step : List Packet → Packet → List Packet
step here p = cond p.reset [] (here ++ p ∷ [])

pub since-push : (ps : List Packet) (p : Packet) → since_reset (ps ++ p ∷ []) ≡ cond p.reset [] (since_reset ps ++ p ∷ [])
unfolding since_reset
since-push ps p = fold-append step [] ps (p ∷ [])

pub since-reset : (ps : List Packet) (p : Packet) → p.reset ≡ true → since_reset (ps ++ p ∷ []) ≡ []
since-reset ps p h = since-push ps p ∙ cond-true p.reset [] (since_reset ps ++ p ∷ []) h

pub since-row : (ps : List Packet) (p : Packet) → p.reset ≡ false → since_reset (ps ++ p ∷ []) ≡ since_reset ps ++ p ∷ []
since-row ps p h = since-push ps p ∙ cond-false p.reset [] (since_reset ps ++ p ∷ []) h

pub since-nil : since_reset [] ≡ []
unfolding since_reset
since-nil = refl

pub throughout-push : (ps : List Packet) (p : Packet) → AlternateThroughout ps → Alternates (since_reset (ps ++ p ∷ []))
    → AlternateThroughout (ps ++ p ∷ [])
throughout-push ps p all last k l = ⊎_elim
    (λ (h : k ≤ length ps). subst (λ xs. Alternates (since_reset xs)) (sym (take-append-le k ps (p ∷ []) h)) (all k h))
    (λ (h : suc (length ps) ≤ k). subst (λ xs. Alternates (since_reset xs))
    (sym (take_all k (ps ++ p ∷ []) (let n = length_push ps p in omega arith))) last)
    (split k (length ps))
  where
    split : (k n : ℕ) → (k ≤ n) ⊎ (suc n ≤ k)
    split k n = ⊎_elim (λ h. inr (omega (arith, h))) (λ h. inl (omega (arith, h))) (cases_lt n k)

pub throughout-last : (ps : List Packet) → AlternateThroughout ps → Alternates (since_reset ps)
throughout-last ps all = subst (λ xs. Alternates (since_reset xs)) (take_all (length ps) ps (omega arith)) (all (length ps) (omega arith))

pub throughout-nil : AlternateThroughout []
unfolding since_reset
throughout-nil zero l = alternates-nil
throughout-nil (suc k) l = absurd (omega arith)

-- ---- epochs
-- what stands in front of epoch e: what was there before the packets, where it is the first
abbrev lead : ℕ → List Packet → List Packet
lead zero acc = acc
lead (suc e) acc = []

abbrev from : List Packet → List Packet → List Packet
from acc ps = fold step acc ps

record Front (acc ps : List Packet) (k : ℕ) : Type 0 where
  rest : List Packet
  parts : lead (resets (take k ps)) acc ++ epoch (resets (take k ps)) ps ≡ from acc (take k ps) ++ rest

lead-nil : (e : ℕ) → lead e [] ≡ []
lead-nil zero = refl
lead-nil (suc e) = refl

front-on : (acc ps : List Packet) (p : Packet) (k : ℕ) (b : Bool) → p.reset ≡ b → Front [] ps k → Front (acc ++ p ∷ []) ps k
    → Front acc (p ∷ ps) (suc k)
front-on acc ps p k true h f g =
    let r = resets (take k ps) in
    let n : resets (p ∷ take k ps) ≡ suc r = (let one = count-cons (λ (q : Packet). q.reset) p (take k ps) in let z = ap (λ b. cond b 1 0 + r) h in omega (arith, one, z)) in
    record {
      rest = f.rest;
      parts = ap (λ m. lead m acc ++ epoch m (p ∷ ps)) n ∙ ap (λ b. cond b (epoch r ps) (epoch (suc r) ps)) h
          ∙ ap (λ xs. xs ++ epoch r ps) (sym (lead-nil r)) ∙ f.parts
          ∙ ap (λ b. from (cond b [] (acc ++ p ∷ [])) (take k ps) ++ f.rest) (sym h);
    }
front-on acc ps p k false h f g =
    let r = resets (take k ps) in
    let n : resets (p ∷ take k ps) ≡ r = (let one = count-cons (λ (q : Packet). q.reset) p (take k ps) in let z = ap (λ b. cond b 1 0 + r) h in omega (arith, one, z)) in
    record {
      rest = g.rest;
      parts = ap (λ m. lead m acc ++ epoch m (p ∷ ps)) n ∙ same r ∙ g.parts
          ∙ ap (λ b. from (cond b [] (acc ++ p ∷ [])) (take k ps) ++ g.rest) (sym h);
    }
  where
    same : (r : ℕ) → lead r acc ++ epoch r (p ∷ ps) ≡ lead r (acc ++ p ∷ []) ++ epoch r ps
    same zero = ap (λ b. acc ++ cond b [] (p ∷ epoch 0 ps)) h ∙ sym (append_assoc acc (p ∷ []) (epoch 0 ps))
    same (suc r) = ap (λ b. cond b (epoch r ps) (epoch (suc r) ps)) h

front-of : (acc ps : List Packet) (k : ℕ) → Front acc ps k
front-of acc ps zero = record { rest = epoch 0 ps; parts = refl }
front-of acc [] (suc k) = record { rest = []; parts = refl }
front-of acc (p ∷ ps) (suc k) = front-on acc ps p k p.reset refl (front-of [] ps k) (front-of (acc ++ p ∷ []) ps k)

-- the packets since the last reset begin the epoch that follows it
pub since-begins : (ps : List Packet) (k : ℕ) → (rest : List Packet) × (epoch (resets (take k ps)) ps ≡ since_reset (take k ps) ++ rest)
unfolding since_reset
since-begins ps k =
    let f = front-of [] ps k in
    (f.rest, ap (λ xs. xs ++ epoch (resets (take k ps)) ps) (sym (lead-nil (resets (take k ps)))) ∙ f.parts)

abbrev IsSince : List Packet → List Packet → ℕ → Type 0
IsSince acc ps e = ((k : ℕ) × (k ≤ length ps) × (from acc (take k ps) ≡ lead e acc ++ epoch e ps)) ⊎ (epoch e ps ≡ [])

-- epoch e is what stands since the last reset at some place, or nothing
since-first : (acc ps : List Packet) (p : Packet) (b : Bool) → p.reset ≡ b → IsSince (acc ++ p ∷ []) ps 0 → IsSince acc (p ∷ ps) 0
since-first acc ps p true h on = inl (0, omega arith, sym (append-nil acc) ∙ ap (λ b. acc ++ cond b [] (p ∷ epoch 0 ps)) (sym h))
since-first acc ps p false h (inl w) = inl (
  suc w.0,
  (let l = w.1 in omega arith),
  ap (λ b. from (cond b [] (acc ++ p ∷ [])) (take w.0 ps)) h ∙ w.2 ∙ append_assoc acc (p ∷ []) (epoch 0 ps)
      ∙ ap (λ b. acc ++ cond b [] (p ∷ epoch 0 ps)) (sym h),
)
since-first acc ps p false h (inr g) = inl (
  1,
  omega arith,
  ap (λ b. cond b [] (acc ++ p ∷ [])) h ∙ ap (λ xs. acc ++ p ∷ xs) (sym g) ∙ ap (λ b. acc ++ cond b [] (p ∷ epoch 0 ps)) (sym h),
)

since-later : (acc ps : List Packet) (p : Packet) (e : ℕ) (b : Bool) → p.reset ≡ b → IsSince [] ps e → IsSince (acc ++ p ∷ []) ps (suc e)
    → IsSince acc (p ∷ ps) (suc e)
since-later acc ps p e true h (inl w) on = inl (
  suc w.0,
  (let l = w.1 in omega arith),
  ap (λ b. from (cond b [] (acc ++ p ∷ [])) (take w.0 ps)) h ∙ w.2 ∙ ap (λ xs. xs ++ epoch e ps) (lead-nil e)
      ∙ ap (λ b. cond b (epoch e ps) (epoch (suc e) ps)) (sym h),
)
since-later acc ps p e true h (inr g) on = inr (ap (λ b. cond b (epoch e ps) (epoch (suc e) ps)) h ∙ g)
since-later acc ps p e false h reset (inl w) = inl (
  suc w.0,
  (let l = w.1 in omega arith),
  ap (λ b. from (cond b [] (acc ++ p ∷ [])) (take w.0 ps)) h ∙ w.2 ∙ ap (λ b. cond b (epoch e ps) (epoch (suc e) ps)) (sym h),
)
since-later acc ps p e false h reset (inr g) = inr (ap (λ b. cond b (epoch e ps) (epoch (suc e) ps)) h ∙ g)

since-of : (acc ps : List Packet) (e : ℕ) → IsSince acc ps e
since-of acc [] zero = inl (0, omega arith, sym (append-nil acc))
since-of acc [] (suc e) = inr refl
since-of acc (p ∷ ps) zero = since-first acc ps p p.reset refl (since-of (acc ++ p ∷ []) ps 0)
since-of acc (p ∷ ps) (suc e) = since-later acc ps p e p.reset refl (since-of [] ps e) (since-of (acc ++ p ∷ []) ps (suc e))

pub epoch-is_since : (ps : List Packet) (e : ℕ) → ((k : ℕ) × (k ≤ length ps) × (since_reset (take k ps) ≡ epoch e ps)) ⊎ (epoch e ps ≡ [])
unfolding since_reset
epoch-is_since ps e = ⊎_elim
    (λ (w : (k : ℕ) × (k ≤ length ps) × (from [] (take k ps) ≡ lead e [] ++ epoch e ps)).
    inl (w.0, w.1, w.2 ∙ ap (λ xs. xs ++ epoch e ps) (lead-nil e)))
    (λ g. inr g)
    (since-of [] ps e)

pub epochs_alternate : (ps : List Packet) → AlternateThroughout ps → (e : ℕ) → Alternates (epoch e ps)
epochs_alternate ps all e = ⊎_elim
    (λ (w : (k : ℕ) × (k ≤ length ps) × (since_reset (take k ps) ≡ epoch e ps)). subst Alternates w.2 (all w.0 w.1))
    (λ (g : epoch e ps ≡ []). subst Alternates (sym g) alternates-nil)
    (epoch-is_since ps e)

pub throughout_from : (ps : List Packet) → ((e : ℕ) → Alternates (epoch e ps)) → AlternateThroughout ps
throughout_from ps each k l =
    let b = since-begins ps k in
    alternates-front (since_reset (take k ps)) b.0 (subst Alternates b.1 (each (resets (take k ps))))

pub throughout-take : (n : ℕ) (ps : List Packet) → AlternateThroughout ps → AlternateThroughout (take n ps)
throughout-take n ps all k l =
    let whole : take n ps ++ drop n ps ≡ ps = take-append-drop n ps in
    let size = length-append (take n ps) (drop n ps) in
    let long : length (take n ps ++ drop n ps) ≡ length ps = ap length whole in
    subst (λ xs. Alternates (since_reset xs)) (ap (take k) (sym whole) ∙ take-append-le k (take n ps) (drop n ps) l)
    (all k (omega (arith, size, long, l)))

pub in_flight-none : InFlight (since_reset []) 0
unfolding since_reset
in_flight-none = in_flight-nil

-- a front alternates throughout too
pub throughout-front : (front others : List Packet) → AlternateThroughout (front ++ others) → AlternateThroughout front
throughout-front front others all =
    subst AlternateThroughout (take_at front others (length front) refl) (throughout-take (length front) (front ++ others) all)

-- ---- without resets there is one epoch
pub epoch-all : (ps : List Packet) → All (λ (p : Packet). p.reset ≡ false) ps → epoch 0 ps ≡ ps
epoch-all [] none = refl
epoch-all (p ∷ ps) none =
    ap (λ b. cond b [] (p ∷ epoch 0 ps)) (All-head (λ (p : Packet). p.reset ≡ false) p ps none)
    ∙ ap (λ xs. p ∷ xs) (epoch-all ps (All-tail (λ (p : Packet). p.reset ≡ false) p ps none))

epoch-past : (e : ℕ) (ps : List Packet) → All (λ (p : Packet). p.reset ≡ false) ps → epoch (suc e) ps ≡ []
epoch-past e [] none = refl
epoch-past e (p ∷ ps) none =
    ap (λ b. cond b (epoch e ps) (epoch (suc e) ps)) (All-head (λ (p : Packet). p.reset ≡ false) p ps none)
    ∙ epoch-past e ps (All-tail (λ (p : Packet). p.reset ≡ false) p ps none)

pub epochs-alone : (ps : List Packet) → All (λ (p : Packet). p.reset ≡ false) ps → Alternates ps → (e : ℕ) → Alternates (epoch e ps)
epochs-alone ps none all zero = subst Alternates (sym (epoch-all ps none)) all
epochs-alone ps none all (suc e) = subst Alternates (sym (epoch-past e ps none)) alternates-nil

-- no more packets than before
short-from : (acc ps : List Packet) → length (from acc ps) ≤ length acc + length ps
short-from acc [] = omega arith
short-from acc (p ∷ ps) = one p.reset (short-from [] ps) (short-from (acc ++ p ∷ []) ps)
  where
    one : (b : Bool) → length (from [] ps) ≤ 0 + length ps → length (from (acc ++ p ∷ []) ps) ≤ length (acc ++ p ∷ []) + length ps
        → length (from (cond b [] (acc ++ p ∷ [])) ps) ≤ length acc + suc (length ps)
    one true h g = omega (arith, h)
    one false h g = omega (arith, g, length_push acc p)

pub since-short : (ps : List Packet) → length (since_reset ps) ≤ length ps
unfolding since_reset
since-short ps = let h = short-from [] ps in omega (arith, h)
