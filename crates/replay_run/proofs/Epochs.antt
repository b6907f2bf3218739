-- The epochs of a trace, and where their events stand among those of the whole trace.
use Rattle.std.proofs.Common.{◌≡◌, ◌≢◌, ◌⊎◌, ℕ, zero, suc, ◌+◌, ◌<◌, ◌≤◌, Bool, true, false, cond, min, List, [], ◌∷◌, ◌++◌, Some, All}
use Rattle.std.proofs.Common.{length, take, drop, slice_get, count_by, inl, inr, ⊎_elim, refl, ap, sym, subst, ◌∙◌, append_assoc, arith}
use Rattle.std.specs.List.{fold}
use Rattle.std.proofs.Math.Seq.{take-add}
use Rattle.std.proofs.lemmas.Bool.{cases_Bool, cases_lt, false≢true}
use Rattle.std.proofs.lemmas.List.{append-nil, drop_at, length-append, take_all, take_at, take-append-le}
use Rattle.std.proofs.lemmas.List.Elements.{All-cons, All-head, All-nil, All-tail}
use Rattle.std.proofs.lemmas.List.Sums.{fold-append, sum_by-append}
use Rattle.std.proofs.lemmas.Option.{slice_get_within}
use Rattle.trace_code.specs.vidi_bits.Number.{has}
use Rattle.trace_code.specs.trace_model.declared.channel.Channel.{Channel}
use Rattle.trace_code.specs.trace_model.declared.event.Kind.{Kind}
use Rattle.trace_code.specs.trace_model.declared.event.Kind.TheVariants.{Start, End, Reset}
use Rattle.trace_code.specs.trace_model.declared.packet.Packet.{Packet}
use Rattle.trace_code.specs.trace_model.Clock.{clock}
use Rattle.trace_code.specs.trace_model.Counting.{IsNth}
use Rattle.trace_code.specs.trace_model.Epoch.{epoch, resets, since_reset}
use Rattle.trace_code.specs.trace_model.Packet.{count, does, IsPacket}
use Rattle.trace_code.proofs.NoReset.{none-resets, since-whole}
use Rattle.trace_code.specs.NoReset.{HasNoReset}
use Rattle.trace_code.proofs.trace_model_lemmas.CountingLemmas.{count-cons, count-front, count-mono, nth, nth-below, nth-count}
use Rattle.trace_code.proofs.trace_model_lemmas.CountingLemmas.{nth-unique, nth-within}
use Rattle.trace_code.proofs.trace_model_lemmas.RowLaws.{has-none}
use Rattle.trace_code.proofs.trace_model_lemmas.TraceLaws.{reset-is}
use Rattle.replay_run.specs.Behind.{epoch_clock}
use Rattle.replay_run.specs.Epochs.{before_epoch, epochs, epochs_from}

pub count-append : {X : Type 0} (test : X → Bool) (xs ys : List X) → count_by test (xs ++ ys) ≡ count_by test xs + count_by test ys
count-append test xs ys = sum_by-append (λ x. cond (test x) 1 0) xs ys

-- ---- the packets before an epoch, those of it, and the reset behind it with those that follow
abbrev BeginsReset : List Packet → Type 0
BeginsReset rest = (rest ≡ []) ⊎ ((p : Packet) × (later : List Packet) × (rest ≡ p ∷ later) × (p.reset ≡ true))

pub record Parts (e : ℕ) (ps : List Packet) : Type 0 where
  pub rest : List Packet
  pub all : before_epoch e ps ++ (epoch e ps ++ rest) ≡ ps
  pub begins : BeginsReset rest

parts-first : (p : Packet) (ps : List Packet) (b : Bool) → p.reset ≡ b → Parts 0 ps → Parts 0 (p ∷ ps)
parts-first p ps true r on = record {
  rest = p ∷ ps;
  all = ap (λ b. cond b [] (p ∷ epoch 0 ps) ++ p ∷ ps) r;
  begins = inr (p, ps, refl, r);
}
parts-first p ps false r on = record {
  rest = on.rest;
  all = ap (λ b. cond b [] (p ∷ epoch 0 ps) ++ on.rest) r ∙ ap (λ qs. p ∷ qs) on.all;
  begins = on.begins;
}

parts-later : (e : ℕ) (p : Packet) (ps : List Packet) (b : Bool) → p.reset ≡ b → Parts e ps → Parts (suc e) ps → Parts (suc e) (p ∷ ps)
parts-later e p ps true r here on = record {
  rest = here.rest;
  all = ap (λ b. p ∷ (cond b (before_epoch e ps) (before_epoch (suc e) ps) ++ (cond b (epoch e ps) (epoch (suc e) ps) ++ here.rest))) r
      ∙ ap (λ qs. p ∷ qs) here.all;
  begins = here.begins;
}
parts-later e p ps false r here on = record {
  rest = on.rest;
  all = ap (λ b. p ∷ (cond b (before_epoch e ps) (before_epoch (suc e) ps) ++ (cond b (epoch e ps) (epoch (suc e) ps) ++ on.rest))) r
      ∙ ap (λ qs. p ∷ qs) on.all;
  begins = on.begins;
}

pub parts : (e : ℕ) (ps : List Packet) → Parts e ps
parts zero [] = record { rest = []; all = refl; begins = inl refl }
parts (suc e) [] = record { rest = []; all = refl; begins = inl refl }
parts zero (p ∷ ps) = parts-first p ps p.reset refl (parts zero ps)
parts (suc e) (p ∷ ps) = parts-later e p ps p.reset refl (parts e ps) (parts (suc e) ps)

-- an epoch has no reset
pub epoch-plain : (e : ℕ) (ps : List Packet) → resets (epoch e ps) ≡ 0
epoch-plain zero [] = refl
epoch-plain (suc e) [] = refl
epoch-plain zero (p ∷ ps) = one p.reset refl (epoch-plain 0 ps)
  where
    one : (b : Bool) → p.reset ≡ b → resets (epoch 0 ps) ≡ 0 → resets (cond b [] (p ∷ epoch 0 ps)) ≡ 0
    one true r on = refl
    one false r on =
        let n = count-cons (λ (q : Packet). q.reset) p (epoch 0 ps) in
        let z = ap (λ b. cond {A = ℕ} b 1 0) r in omega (arith, n, z, on)
epoch-plain (suc e) (p ∷ ps) = one p.reset (epoch-plain e ps) (epoch-plain (suc e) ps)
  where
    one : (b : Bool) → resets (epoch e ps) ≡ 0 → resets (epoch (suc e) ps) ≡ 0 → resets (cond b (epoch e ps) (epoch (suc e) ps)) ≡ 0
    one true here later = here
    one false here later = later

resets-cons : (p : Packet) (ps : List Packet) (b : Bool) → p.reset ≡ b → resets (p ∷ ps) ≡ cond b 1 0 + resets ps
resets-cons p ps b r = count-cons (λ (q : Packet). q.reset) p ps ∙ ap (λ b. cond b 1 0 + resets ps) r

-- before epoch e come e resets, where there are so many
pub before-resets : (e : ℕ) (ps : List Packet) → e ≤ resets ps → resets (before_epoch e ps) ≡ e
before-resets zero ps l = refl
before-resets (suc e) [] l = absurd (omega (arith, l))
before-resets (suc e) (p ∷ ps) l = one p.reset refl (before-resets e ps) (before-resets (suc e) ps)
  where
    one : (b : Bool) → p.reset ≡ b → (e ≤ resets ps → resets (before_epoch e ps) ≡ e)
        → (suc e ≤ resets ps → resets (before_epoch (suc e) ps) ≡ suc e)
        → resets (p ∷ cond b (before_epoch e ps) (before_epoch (suc e) ps)) ≡ suc e
    one true r now later =
        let whole = resets-cons p ps true r in
        let here = resets-cons p (before_epoch e ps) true r in
        let on = now (omega (arith, l, whole)) in omega (arith, here, on)
    one false r now later =
        let whole = resets-cons p ps false r in
        let here = resets-cons p (before_epoch (suc e) ps) false r in
        let on = later (omega (arith, l, whole)) in omega (arith, here, on)

-- where there aren't, all packets come before it
pub before-all : (e : ℕ) (ps : List Packet) → resets ps < e → before_epoch e ps ≡ ps
before-all zero ps l = absurd (omega (arith, l))
before-all (suc e) [] l = refl
before-all (suc e) (p ∷ ps) l = one p.reset refl (before-all e ps) (before-all (suc e) ps)
  where
    one : (b : Bool) → p.reset ≡ b → (resets ps < e → before_epoch e ps ≡ ps) → (resets ps < suc e → before_epoch (suc e) ps ≡ ps)
        → p ∷ cond b (before_epoch e ps) (before_epoch (suc e) ps) ≡ p ∷ ps
    one true r now later = let whole = resets-cons p ps true r in ap (λ qs. p ∷ qs) (now (omega (arith, l, whole)))
    one false r now later = let whole = resets-cons p ps false r in ap (λ qs. p ∷ qs) (later (omega (arith, l, whole)))

-- no epoch is there
pub epoch-past : (e : ℕ) (ps : List Packet) → resets ps < e → epoch e ps ≡ []
epoch-past e ps l = none (epoch e ps) (let x = parts e ps in
    let a = ap length x.all ∙ ap length (sym (before-all e ps l)) in
    let b = length-append (before_epoch e ps) (epoch e ps ++ x.rest) in
    let c = length-append (epoch e ps) x.rest in omega (arith, a, b, c))
  where
    none : (qs : List Packet) → length qs ≡ 0 → qs ≡ []
    none [] z = refl
    none (q ∷ qs) z = absurd (omega (arith, z))

-- ---- what came since the last reset
abbrev step : List Packet → Packet → List Packet
step here p = cond p.reset [] (here ++ p ∷ [])

before-since : (e : ℕ) (acc ps : List Packet) → suc e ≤ resets ps → fold step acc (before_epoch (suc e) ps) ≡ []
before-since e acc [] l = absurd (omega (arith, l))
before-since e acc (p ∷ ps) l = one e l p.reset refl (λ i m. before-since i (cond p.reset [] (acc ++ p ∷ [])) ps m)
  where
    one : (e : ℕ) → suc e ≤ resets (p ∷ ps) → (b : Bool) → p.reset ≡ b
        → ((i : ℕ) → suc i ≤ resets ps → fold step (cond p.reset [] (acc ++ p ∷ [])) (before_epoch (suc i) ps) ≡ [])
        → fold step (cond p.reset [] (acc ++ p ∷ [])) (cond b (before_epoch e ps) (before_epoch (suc e) ps)) ≡ []
    one zero l true r on = ap (λ b. cond b [] (acc ++ p ∷ [])) r
    one (suc e) l true r on = let whole = resets-cons p ps true r in on e (omega (arith, l, whole))
    one e l false r on = let whole = resets-cons p ps false r in on e (omega (arith, l, whole))

since-before : (e : ℕ) (ps : List Packet) → e ≤ resets ps → fold step [] (before_epoch e ps) ≡ []
since-before zero ps l = refl
since-before (suc e) ps l = before-since e [] ps l

-- packets without a reset behind those before an epoch
pub since-here : (e : ℕ) (ps qs : List Packet) → e ≤ resets ps → HasNoReset qs → since_reset (before_epoch e ps ++ qs) ≡ qs
unfolding since_reset
since-here e ps qs l none = fold-append step [] (before_epoch e ps) qs ∙ ap (λ acc. fold step acc qs) (since-before e ps l) ∙ since-whole qs none

-- ---- counts
-- the event is none of a reset
abbrev IsQuiet : Kind → ℕ → Packet → Type 0
IsQuiet kind c p = p.reset ≡ true → does kind c p ≡ false

pub quiet-packet : (channels : List Channel) (kind : Kind) (c : ℕ) → kind ≢ Reset → (p : Packet) → IsPacket channels p → p.reset ≡ true
    → does kind c p ≡ false
quiet-packet channels Start c ne p is r = sym (ap (λ (q : Packet). has q.starts c) (reset-is channels p is r)) ∙ has-none c
quiet-packet channels End c ne p is r = sym (ap (λ (q : Packet). has q.ends c) (reset-is channels p is r)) ∙ has-none c
quiet-packet channels Reset c ne p is r = absurd (ne refl)

module _ (kind : Kind) (c : ℕ) where
  plus-none : (p : Packet) → does kind c p ≡ false → (qs : List Packet) → count kind c (p ∷ qs) ≡ count kind c qs
  plus-none p z qs = let n = count-cons (does kind c) p qs in let w = ap (λ b. cond {A = ℕ} b 1 0) z in omega (arith, n, w)

  -- the events before the next epoch are those before this one and those of it
  pub count-epoch : (e : ℕ) (ps : List Packet) → All (IsQuiet kind c) ps
      → count kind c (before_epoch (suc e) ps) ≡ count kind c (before_epoch e ps) + count kind c (epoch e ps)
  count-epoch zero [] quiet = refl
  count-epoch (suc e) [] quiet = refl
  count-epoch zero (p ∷ ps) quiet = one p.reset refl (count-epoch zero ps (All-tail (IsQuiet kind c) p ps quiet))
    where
      one : (b : Bool) → p.reset ≡ b → count kind c (before_epoch 1 ps) ≡ 0 + count kind c (epoch 0 ps)
          → count kind c (p ∷ cond b [] (before_epoch 1 ps)) ≡ 0 + count kind c (cond b [] (p ∷ epoch 0 ps))
      one true r on = plus-none p (All-head (IsQuiet kind c) p ps quiet r) []
      one false r on =
          let a = count-cons (does kind c) p (before_epoch 1 ps) in
          let b = count-cons (does kind c) p (epoch 0 ps) in omega (arith, a, b, on)
  count-epoch (suc e) (p ∷ ps) quiet = one p.reset refl (count-epoch e ps (All-tail (IsQuiet kind c) p ps quiet))
      (count-epoch (suc e) ps (All-tail (IsQuiet kind c) p ps quiet))
    where
      one : (b : Bool) → p.reset ≡ b
          → count kind c (before_epoch (suc e) ps) ≡ count kind c (before_epoch e ps) + count kind c (epoch e ps)
          → count kind c (before_epoch (suc (suc e)) ps) ≡ count kind c (before_epoch (suc e) ps) + count kind c (epoch (suc e) ps)
          → count kind c (p ∷ cond b (before_epoch (suc e) ps) (before_epoch (suc (suc e)) ps))
          ≡ count kind c (p ∷ cond b (before_epoch e ps) (before_epoch (suc e) ps)) + count kind c (cond b (epoch e ps) (epoch (suc e) ps))
      one true r now later =
          let a = count-cons (does kind c) p (before_epoch (suc e) ps) in
          let b = count-cons (does kind c) p (before_epoch e ps) in omega (arith, a, b, now)
      one false r now later =
          let a = count-cons (does kind c) p (before_epoch (suc (suc e)) ps) in
          let b = count-cons (does kind c) p (before_epoch (suc e) ps) in omega (arith, a, b, later)

-- ---- places
front-at : {X : Type 0} (xs ys : List X) (q : ℕ) → q ≤ length ys → take (length xs + q) (xs ++ ys) ≡ xs ++ take q ys
front-at xs ys q l = take-add (length xs) q (xs ++ ys)
    ∙ ap (λ a. a ++ take q (drop (length xs) (xs ++ ys))) (take_at xs ys (length xs) refl) ∙ ap (λ b. xs ++ take q b) (drop_at xs ys (length xs) refl)

get-behind : {X : Type 0} (xs ys : List X) (q : ℕ) → slice_get (xs ++ ys) (length xs + q) ≡ slice_get ys q
get-behind [] ys q = ap (slice_get ys) (let z : 0 + q ≡ q = omega arith in z)
get-behind (x ∷ xs) ys q =
    ap (slice_get (x ∷ (xs ++ ys))) (let z : suc (length xs) + q ≡ suc (length xs + q) = omega arith in z) ∙ get-behind xs ys q

-- the packets before packet q of epoch e
pub front-epoch : (e : ℕ) (ps : List Packet) (q : ℕ) → q ≤ length (epoch e ps)
    → take (length (before_epoch e ps) + q) ps ≡ before_epoch e ps ++ take q (epoch e ps)
front-epoch e ps q l =
    let x = parts e ps in
    let size = length-append (epoch e ps) x.rest in
    ap (take (length (before_epoch e ps) + q)) (sym x.all) ∙ front-at (before_epoch e ps) (epoch e ps ++ x.rest) q (omega (arith, size, l))
    ∙ ap (λ qs. before_epoch e ps ++ qs) (take-append-le q (epoch e ps) x.rest l)

plain-front : (e : ℕ) (ps : List Packet) (q : ℕ) → HasNoReset (take q (epoch e ps))
plain-front e ps q = let a = count-front (λ (p : Packet). p.reset) (epoch e ps) q in let z = epoch-plain e ps in omega (arith, a, z)

pub clock-epoch : (e : ℕ) (ps : List Packet) (q channel : ℕ) → e ≤ resets ps → q ≤ length (epoch e ps)
    → epoch_clock ps (length (before_epoch e ps) + q) channel ≡ clock (epoch e ps) q channel
clock-epoch e ps q channel l m = ap (λ qs. count End channel (since_reset qs)) (front-epoch e ps q m)
    ∙ ap (count End channel) (since-here e ps (take q (epoch e ps)) l (plain-front e ps q))

pub number-epoch : (e : ℕ) (ps : List Packet) (q : ℕ) → e ≤ resets ps → q ≤ length (epoch e ps)
    → resets (take (length (before_epoch e ps) + q) ps) ≡ e
number-epoch e ps q l m =
    let a = ap resets (front-epoch e ps q m) ∙ count-append (λ (p : Packet). p.reset) (before_epoch e ps) (take q (epoch e ps)) in
    let b = before-resets e ps l in
    let z = plain-front e ps q in omega (arith, a, b, z)

module _ (kind : Kind) (c e : ℕ) (ps : List Packet) where
  -- an event of epoch e in the whole trace
  pub nth-whole : (j q : ℕ) (p : Packet) → IsNth (does kind c) (epoch e ps) j q p
      → IsNth (does kind c) ps (count kind c (before_epoch e ps) + j) (length (before_epoch e ps) + q) p
  nth-whole j q p is =
      let x = parts e ps in
      let l = nth-within (does kind c) (epoch e ps) j q p is in
      record {
        at = ap (λ qs. slice_get qs (length (before_epoch e ps) + q)) (sym x.all) ∙ get-behind (before_epoch e ps) (epoch e ps ++ x.rest) q
            ∙ within (epoch e ps) x.rest q l ∙ is.at;
        passes = is.passes;
        before = ap (count kind c) (front-epoch e ps q (omega (arith, l)))
            ∙ count-append (does kind c) (before_epoch e ps) (take q (epoch e ps)) ∙ ap (λ n. count kind c (before_epoch e ps) + n) is.before;
      }
    where
      within : (xs ys : List Packet) (q : ℕ) → q < length xs → slice_get (xs ++ ys) q ≡ slice_get xs q
      within [] ys q l = absurd (omega (arith, l))
      within (x ∷ xs) ys zero l = refl
      within (x ∷ xs) ys (suc q) l = within xs ys q (omega (arith, l))

  -- the same event, told by its number in the whole trace
  pub record InEpoch (j p : ℕ) (packet : Packet) : Type 0 where
    pub place : ℕ
    pub is : IsNth (does kind c) (epoch e ps) j place packet
    pub at : p ≡ length (before_epoch e ps) + place
    pub within : place < length (epoch e ps)

  pub nth-here : (j p : ℕ) (packet : Packet) → IsNth (does kind c) ps (count kind c (before_epoch e ps) + j) p packet
      → j < count kind c (epoch e ps) → InEpoch j p packet
  nth-here j p packet is l =
      let h = nth (does kind c) (epoch e ps) j l in
      let both = nth-unique (does kind c) ps (count kind c (before_epoch e ps) + j) p (length (before_epoch e ps) + h.place) packet h.item is
      (nth-whole j h.place h.item h.is) in
      record {
        place = h.place;
        is = subst (IsNth (does kind c) (epoch e ps) j h.place) (sym both.1) h.is;
        at = both.0;
        within = nth-within (does kind c) (epoch e ps) j h.place h.item h.is;
      }

  -- the first event of a later epoch
  pub nth-later : All (IsQuiet kind c) ps → (p : ℕ) (packet : Packet)
      → IsNth (does kind c) ps (count kind c (before_epoch e ps) + count kind c (epoch e ps)) p packet → e < resets (take p ps)
  nth-later quiet p packet is =
      let x = parts (suc e) ps in
      let front : take (length (before_epoch (suc e) ps)) ps ≡ before_epoch (suc e) ps =
      ap (take (length (before_epoch (suc e) ps))) (sym x.all) ∙ take_at (before_epoch (suc e) ps) (epoch (suc e) ps ++ x.rest) (length (before_epoch (suc e) ps)) refl in
      let sum = count-epoch kind c e ps quiet in
      let one = nth-count (does kind c) ps (count kind c (before_epoch e ps) + count kind c (epoch e ps)) p packet is in
      let past : length (before_epoch (suc e) ps) ≤ p = ⊎_elim
      (λ (l : p < length (before_epoch (suc e) ps)).
      absurd (let m = count-mono (does kind c) ps (suc p) (length (before_epoch (suc e) ps)) (omega (arith, l)) in
      let f = ap (count kind c) front in omega (arith, m, f, sum, one)))
      (λ (l : length (before_epoch (suc e) ps) ≤ p). l)
      (cases_lt p (length (before_epoch (suc e) ps))) in
      ⊎_elim
      (λ (l : resets ps < suc e). absurd (let w = nth-within (does kind c) ps _ p packet is in let whole = ap length (before-all (suc e) ps l) in omega (arith, w, whole, past)))
      (λ (l : suc e ≤ resets ps).
      let m = count-mono (λ (q : Packet). q.reset) ps (length (before_epoch (suc e) ps)) p past in
      let f = ap resets front ∙ before-resets (suc e) ps l in omega (arith, m, f))
      (cases_lt (resets ps) (suc e))

-- an epoch with an event is there
pub epoch-there : (kind : Kind) (c e n : ℕ) (ps : List Packet) → n < count kind c (epoch e ps) → e ≤ resets ps
epoch-there kind c e n ps l = ⊎_elim
    (λ (past : resets ps < e). absurd (let none = ap (count kind c) (epoch-past e ps past) in omega (arith, l, none)))
    (λ (m : e ≤ resets ps). m)
    (cases_lt (resets ps) e)

-- ---- the reset behind an epoch
pub reset-clock : (e : ℕ) (ps : List Packet) (c p : ℕ) (packet : Packet) → IsNth (does Reset c) ps e p packet → since_reset (take p ps) ≡ epoch e ps
reset-clock e ps c p packet is =
    let x = parts e ps in
    let below : e < resets ps = nth-below (does Reset c) ps e p packet is in
    let sum = ap resets (sym x.all) ∙ count-append (λ (q : Packet). q.reset) (before_epoch e ps) (epoch e ps ++ x.rest) in
    let more = count-append (λ (q : Packet). q.reset) (epoch e ps) x.rest in
    let here = before-resets e ps (omega (arith, below)) in
    let plain = epoch-plain e ps in
    ⊎_elim
    (λ (none : x.rest ≡ []). absurd (let z = ap resets none in omega (arith, sum, more, here, plain, below, z)))
    (λ (w : (q : Packet) × (later : List Packet) × (x.rest ≡ q ∷ later) × (q.reset ≡ true)).
    let size = length (before_epoch e ps) + length (epoch e ps) in
    let front : take size ps ≡ before_epoch e ps ++ epoch e ps =
    front-epoch e ps (length (epoch e ps)) (omega arith) ∙ ap (λ qs. before_epoch e ps ++ qs) (take_all (length (epoch e ps)) (epoch e ps) (omega arith)) in
    let split : (before_epoch e ps ++ epoch e ps) ++ (w.0 ∷ w.1) ≡ ps =
    append_assoc (before_epoch e ps) (epoch e ps) (w.0 ∷ w.1) ∙ ap (λ qs. before_epoch e ps ++ (epoch e ps ++ qs)) (sym w.2) ∙ x.all in
    let long = length-append (before_epoch e ps) (epoch e ps) in
    let at : slice_get ps size ≡ Some w.0 =
    ap (λ qs. slice_get qs size) (sym split) ∙ ap (slice_get ((before_epoch e ps ++ epoch e ps) ++ (w.0 ∷ w.1))) (omega (arith, long))
    ∙ get-behind (before_epoch e ps ++ epoch e ps) (w.0 ∷ w.1) 0 in
    let both = nth-unique (does Reset c) ps e p size packet w.0 is (record {
      at = at;
      passes = w.3;
      before = ap resets front ∙ count-append (λ (q : Packet). q.reset) (before_epoch e ps) (epoch e ps) ∙ omega (arith, here, plain);
    }) in
    ap (λ i. since_reset (take i ps)) both.0 ∙ ap since_reset front ∙ since-here e ps (epoch e ps) (omega (arith, below)) plain)
    x.begins

-- ---- all epochs
pub epochs-long : (e n : ℕ) (ps : List Packet) → length (epochs_from e n ps) ≡ n
epochs-long e zero ps = refl
epochs-long e (suc n) ps = ap suc (epochs-long (suc e) n ps)

pub epochs-get : (e n k : ℕ) (ps : List Packet) → k < n → slice_get (epochs_from e n ps) k ≡ Some (epoch (e + k) ps)
epochs-get e zero k ps l = absurd (omega (arith, l))
epochs-get e (suc n) zero ps l = ap (λ i. Some (epoch i ps)) (omega arith)
epochs-get e (suc n) (suc k) ps l = epochs-get (suc e) n k ps (omega (arith, l)) ∙ ap (λ i. Some (epoch i ps)) (omega arith)

-- what holds of all packets holds of those of each epoch
pub epoch-all : (P : Packet → Type 0) (e : ℕ) (ps : List Packet) → All P ps → All P (epoch e ps)
epoch-all P zero [] all = all
epoch-all P (suc e) [] all = all
epoch-all P zero (p ∷ ps) all = one p.reset (epoch-all P 0 ps (All-tail P p ps all))
  where
    one : (b : Bool) → All P (epoch 0 ps) → All P (cond b [] (p ∷ epoch 0 ps))
    one true on = All-nil P
    one false on = All-cons P p (epoch 0 ps) (All-head P p ps all) on
epoch-all P (suc e) (p ∷ ps) all = one p.reset (epoch-all P e ps (All-tail P p ps all)) (epoch-all P (suc e) ps (All-tail P p ps all))
  where
    one : (b : Bool) → All P (epoch e ps) → All P (epoch (suc e) ps) → All P (cond b (epoch e ps) (epoch (suc e) ps))
    one true now later = now
    one false now later = later
