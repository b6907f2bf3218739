-- Packets without a reset are one epoch.
use Rattle.std.proofs.Common.{◌≡◌, ℕ, suc, ◌+◌, ◌-◌, Bool, true, false, cond, List, [], ◌∷◌, ◌++◌, Some, All, take, slice_get, refl, ap, sym, subst, ◌∙◌}
use Rattle.std.proofs.Common.{arith, append_assoc}
use Rattle.std.specs.List.{fold}
use Rattle.std.proofs.lemmas.Bool.{false≢true}
use Rattle.std.proofs.lemmas.List.{append-nil}
use Rattle.std.proofs.lemmas.List.Elements.{All-nil, All-cons, All-head, All-tail}
use Rattle.vec_clock.specs.trace_model.declared.channel.Channel.{Channel}
use Rattle.vec_clock.specs.trace_model.declared.packet.Packet.{Packet}
use Rattle.vec_clock.specs.trace_model.declared.row.Row.{Row}
use Rattle.vec_clock.specs.trace_model.Epoch.{epoch, resets, since_reset}
use Rattle.vec_clock.specs.trace_model.Recording.{after_gap, end_after, has_event, own_before, packet_of, packets_from, reset_packet}
use Rattle.vec_clock.specs.trace_model.Trace.{Alternates}
use Rattle.vec_clock.proofs.trace_model_lemmas.CountingLemmas.{count-cons, count-front}
use Rattle.vec_clock.proofs.trace_model_lemmas.EpochLemmas.{epoch-all}
use Rattle.trace_code.specs.NoReset.{HasNoReset}

abbrev IsNone : Packet → Type 0
IsNone p = p.reset ≡ false

-- ---- packet by packet
none-first : (p : Packet) (ps : List Packet) → HasNoReset (p ∷ ps) → IsNone p × HasNoReset ps
none-first p ps none = one p.reset refl
  where
    one : (b : Bool) → p.reset ≡ b → IsNone p × HasNoReset ps
    one true h = absurd (let n = count-cons (λ (q : Packet). q.reset) p ps in let z = ap (λ b. cond b 1 0 + resets ps) h in omega (arith, n, z, none))
    one false h = (h, (let n = count-cons (λ (q : Packet). q.reset) p ps in let z = ap (λ b. cond b 1 0 + resets ps) h in omega (arith, n, z, none)))

pub none-resets : (ps : List Packet) → HasNoReset ps → All (λ (p : Packet). p.reset ≡ false) ps
none-resets [] none = All-nil IsNone
none-resets (p ∷ ps) none = let f = none-first p ps none in All-cons IsNone p ps f.0 (none-resets ps f.1)

pub no-reset_when : (ps : List Packet) → All (λ (p : Packet). p.reset ≡ false) ps → HasNoReset ps
no-reset_when [] none = refl
no-reset_when (p ∷ ps) none =
    let n = count-cons (λ (q : Packet). q.reset) p ps in
    let z = ap (λ b. cond b 1 0 + resets ps) (All-head IsNone p ps none) in
    let others = no-reset_when ps (All-tail IsNone p ps none) in omega (arith, n, z, others)

pub no-reset_front : (n : ℕ) (ps : List Packet) → HasNoReset ps → HasNoReset (take n ps)
no-reset_front n ps none = let l = count-front (λ (q : Packet). q.reset) ps n in omega (arith, l, none)

-- ---- one epoch
pub since-whole : (ps : List Packet) → HasNoReset ps → since_reset ps ≡ ps
unfolding since_reset
since-whole ps none = kept [] ps none
  where
    kept : (acc qs : List Packet) → HasNoReset qs → fold (λ here (p : Packet). cond p.reset [] (here ++ p ∷ [])) acc qs ≡ acc ++ qs
    kept acc [] none = sym (append-nil acc)
    kept acc (q ∷ qs) none =
        let f = none-first q qs none in
        ap (λ b. fold (λ here (p : Packet). cond p.reset [] (here ++ p ∷ [])) (cond b [] (acc ++ q ∷ [])) qs) f.0
        ∙ kept (acc ++ q ∷ []) qs f.1 ∙ append_assoc acc (q ∷ []) qs

pub since-front : (n : ℕ) (ps : List Packet) → HasNoReset ps → since_reset (take n ps) ≡ take n ps
since-front n ps none = since-whole (take n ps) (no-reset_front n ps none)

pub epoch-whole : (ps : List Packet) → HasNoReset ps → epoch 0 ps ≡ ps
epoch-whole ps none = epoch-all ps (none-resets ps none)

pub alternates-whole : (ps : List Packet) → HasNoReset ps → ((e : ℕ) → Alternates (epoch e ps)) → Alternates ps
alternates-whole ps none all = subst Alternates (epoch-whole ps none) (all 0)

-- ---- of rows none of which is fresh
pub rows-no_reset : (channels : List Channel) (t before : ℕ) (rows : List Row)
    → ((n : ℕ) (row : Row) → slice_get rows n ≡ Some row → row.fresh ≡ false) → HasNoReset (packets_from channels t before rows)
rows-no_reset channels t before [] plain = refl
rows-no_reset channels t before (row ∷ rows) plain =
    one row.fresh (has_event row) (plain 0 row refl) (rows-no_reset channels (t + 1) (end_after t before row) rows (λ n r at. plain (suc n) r at))
  where
    later : List Packet
    later = packets_from channels (t + 1) (end_after t before row) rows

    one : (fresh event : Bool) → fresh ≡ false → HasNoReset later → HasNoReset ((cond fresh (reset_packet (t - before) ∷ []) []
        ++ cond event (after_gap (t - own_before t before row) (packet_of channels row) ∷ []) []) ++ later)
    one true event h none = absurd (false≢true (sym h))
    one false true h none =
        let n = count-cons (λ (q : Packet). q.reset) (after_gap (t - own_before t before row) (packet_of channels row)) later in
        omega (arith, n, none)
    one false false h none = none
