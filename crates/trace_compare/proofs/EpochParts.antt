-- Epochs from the front on.
use Rattle.std.proofs.Common.{◌≡◌, ℕ, zero, suc, ◌+◌, ◌≤◌, Bool, true, false, cond, List, [], ◌∷◌, ◌++◌, length, take, drop, refl, ap, sym, ◌∙◌, arith}
use Rattle.std.specs.Prelude.{not}
use Rattle.std.specs.List.{position_or_len}
use Rattle.std.proofs.lemmas.List.{drop-drop, nil_from_length}
use Rattle.vec_clock.specs.trace_model.declared.packet.Packet.{Packet}
use Rattle.vec_clock.specs.trace_model.Epoch.{epoch}

abbrev is_reset : Packet → Bool
is_reset p = p.reset

one-more : (n : ℕ) → 1 + n ≡ suc n
one-more n = omega arith

first-on : (p : Packet) (ps : List Packet) (b : Bool) → p.reset ≡ b → take (position_or_len is_reset ps) ps ≡ epoch 0 ps
    → take (position_or_len is_reset (p ∷ ps)) (p ∷ ps) ≡ epoch 0 (p ∷ ps)
first-on p ps true h more = ap (λ b. take (cond (not b) (1 + position_or_len is_reset ps) 0) (p ∷ ps)) h
    ∙ ap (λ b. cond b [] (p ∷ epoch 0 ps)) (sym h)
first-on p ps false h more = ap (λ b. take (cond (not b) (1 + position_or_len is_reset ps) 0) (p ∷ ps)) h
    ∙ ap (λ k. take k (p ∷ ps)) (one-more (position_or_len is_reset ps)) ∙ ap (λ xs. p ∷ xs) more ∙ ap (λ b. cond b [] (p ∷ epoch 0 ps)) (sym h)

-- the packets before the first reset are epoch 0
pub first-epoch : (ps : List Packet) → take (position_or_len is_reset ps) ps ≡ epoch 0 ps
first-epoch [] = refl
first-epoch (p ∷ ps) = first-on p ps p.reset refl (first-epoch ps)

later-on : (p : Packet) (ps : List Packet) (e : ℕ) (b : Bool) → p.reset ≡ b
    → epoch e (drop (suc (position_or_len is_reset ps)) ps) ≡ epoch (suc e) ps
    → epoch e (drop (suc (position_or_len is_reset (p ∷ ps))) (p ∷ ps)) ≡ epoch (suc e) (p ∷ ps)
later-on p ps e true h more = ap (λ b. epoch e (drop (suc (cond (not b) (1 + position_or_len is_reset ps) 0)) (p ∷ ps))) h
    ∙ ap (λ b. cond b (epoch e ps) (epoch (suc e) ps)) (sym h)
later-on p ps e false h more = ap (λ b. epoch e (drop (suc (cond (not b) (1 + position_or_len is_reset ps) 0)) (p ∷ ps))) h
    ∙ ap (λ k. epoch e (drop k ps)) (one-more (position_or_len is_reset ps)) ∙ more ∙ ap (λ b. cond b (epoch e ps) (epoch (suc e) ps)) (sym h)

-- those behind it are the epochs after it
pub later-epochs : (ps : List Packet) (e : ℕ) → epoch e (drop (suc (position_or_len is_reset ps)) ps) ≡ epoch (suc e) ps
later-epochs [] e = refl
later-epochs (p ∷ ps) e = later-on p ps e p.reset refl (later-epochs ps e)

-- what stands behind the first of the rest
pub behind-reset : (ps rest later : List Packet) (p : Packet) (n : ℕ) → n ≡ position_or_len is_reset ps → rest ≡ drop n ps → rest ≡ p ∷ later
    → (e : ℕ) → epoch e later ≡ epoch (suc e) ps
behind-reset ps rest later p n at is first e =
    ap (λ xs. epoch e (drop 1 xs)) (sym first) ∙ ap (λ xs. epoch e (drop 1 xs)) is ∙ ap (epoch e) (drop-drop 1 n ps)
    ∙ ap (λ k. epoch e (drop k ps)) (let z : n + 1 ≡ suc (position_or_len is_reset ps) = omega (arith, at) in z) ∙ later-epochs ps e

-- where there is no rest there is no epoch after the first
pub no-rest : (ps rest : List Packet) (n : ℕ) → n ≡ position_or_len is_reset ps → rest ≡ drop n ps → length rest ≡ 0
    → (e : ℕ) → epoch e rest ≡ epoch (suc e) ps
no-rest ps rest n at is none e =
    let nil = nil_from_length rest none in
    ap (epoch e) nil ∙ ap (λ xs. epoch e (drop 1 xs)) (sym nil) ∙ ap (λ xs. epoch e (drop 1 xs)) is ∙ ap (epoch e) (drop-drop 1 n ps)
    ∙ ap (λ k. epoch e (drop k ps)) (let z : n + 1 ≡ suc (position_or_len is_reset ps) = omega (arith, at) in z) ∙ later-epochs ps e
