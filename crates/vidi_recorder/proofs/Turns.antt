-- A cycle of a recording, over plain values.
use Rattle.std.proofs.Common.{◌≡◌, ℕ, ◌+◌, ◌*◌, ◌≤◌, Bool, true, false, cond, List, [], ◌∷◌, ◌++◌, Option, Some, length}
use Rattle.std.proofs.Common.{slice_get, drop, take}
use Rattle.std.proofs.Common.{ap, sym, subst, ◌∙◌, arith, length-drop}
use Rattle.std.proofs.lemmas.List.{length-append, length-take-le}
use Rattle.std.specs.Io.KnownBytes.{append_known}
use Rattle.trace_code.specs.trace_model.declared.channel.Channel.{Channel}
use Rattle.trace_code.specs.trace_model.declared.row.Row.{Row}
use Rattle.trace_code.specs.trace_model.Recording.{has_event}
use Rattle.trace_code.specs.trace_model.Row.{completes}
use Rattle.room_ledger.specs.Gates.{Plan, drained, left}
use Rattle.room_ledger.specs.Ledger.{Ledger, Regranted}
use Rattle.env_script.specs.Offer.{Offer, Carries, FitsOffer}
use Rattle.env_script.specs.Offered.{AllFit, AreLasting}
use Rattle.vidi_io.specs.Sink.{AppendsSome}
use Rattle.vidi_recorder.specs.Standing.{Cut, Going}
use Rattle.vidi_recorder.proofs.Going.{Cycle, cut-drain, going-on}
use Rattle.trace_code.proofs.RowsBytes.{rows-few}

-- ---- what is offered
pub lasting : (channels given : List Channel) (offer : List Row → ℕ → Offer) → given ≡ channels
    → ((rows : List Row) (c : ℕ) (x : Channel) → slice_get given c ≡ Some x → FitsOffer x (offer rows c))
    → ((rows : List Row) (row : Row) (c : ℕ) → Carries given (offer rows) row → (offer rows c).valid ≡ true → completes row c ≡ false
    → offer (rows ++ row ∷ []) c ≡ offer rows c)
    → AreLasting channels offer
lasting channels given offer same fits stays = record {
  fits = λ rows c x at. fits rows c x (subst (λ (cs : List Channel). slice_get cs c ≡ Some x) (sym same) at);
  stays = λ rows row c carries.
      stays rows row c (subst (λ (cs : List Channel). Carries cs (offer rows) row) (sym same) carries);
}

pub fits-now : (channels : List Channel) (offer : List Row → ℕ → Offer) (current : ℕ → Offer) (rows : List Row)
    → AreLasting channels offer → ((c : ℕ) → current c ≡ offer rows c) → AllFit channels current
fits-now channels offer current rows lasts now c x at = subst (FitsOffer x) (sym (now c)) (lasts.fits rows c x at)

one-most : (b : Bool) → cond b 1 0 ≤ 1
one-most true = omega arith
one-most false = omega arith

-- a count of packets is small
pub count-few : (channels : List Channel) (plan : Plan) (first : Option (List ℕ)) (rows : List Row) (fresh : Bool) (room : Ledger)
    (items : List ℕ) (told : Option (List ℕ)) (packets cycle : ℕ) → Going channels plan first rows fresh room items told packets
    → length rows ≡ cycle → packets ≤ 2 * cycle + 1
count-few channels plan first rows fresh room items told packets cycle going long =
    let a = going.count in
    let b = rows-few channels rows in
    let c = one-most fresh in
    omega (arith, a, b, c, long)

-- ---- what is out and what waits behind the row, where this is the plan's allowance
module _ (channels : List Channel) (plan : Plan) (first : Option (List ℕ)) (rows : List Row) (fresh : Bool) (row : Row) (next : Bool)
    (old emitted mid new : Ledger) (items mixed : List ℕ) (told now : Option (List ℕ)) (packets : ℕ)
    (going : Going channels plan first rows fresh old items told packets)
    (cycle : Cycle channels plan rows fresh row next old emitted mid items mixed) (allowance : Option ℕ)
    (e : allowance ≡ plan.allowance (length rows)) where
  pub going-next : (rest : List ℕ) (more : ℕ) → Regranted (record mid { used = left allowance mid.used }) new
      → rest ≡ drop (drained allowance mid.used) mixed → now ≡ append_known told (take (drained allowance mid.used) mixed)
      → more ≡ packets + cond (has_event row) 1 0 + cond next 1 0 → Going channels plan first (rows ++ row ∷ []) next new rest now more
  going-next rest more again r t m =
      going-on channels plan first rows fresh row next old emitted mid new items mixed told now packets going cycle rest more
      (subst (λ (a : Option ℕ). Regranted (record mid { used = left a mid.used }) new) e again)
      (r ∙ ap (λ a. drop (drained a mid.used) mixed) e)
      (t ∙ ap (λ a. append_known told (take (drained a mid.used) mixed)) e)
      m

  pub cut-next : AppendsSome told now (take (drained allowance mid.used) mixed) → Cut channels plan first (rows ++ row ∷ []) next now
  cut-next some =
      cut-drain channels plan first rows fresh row next old emitted mid new items mixed told now packets going cycle
      (subst (λ (a : Option ℕ). AppendsSome told now (take (drained a mid.used) mixed)) e some)

-- ---- the memory keeps its sizes
-- what is written through the slice of a list leaves its length
pub written-len : (len : ℕ) (new items : List ℕ) → length new ≡ length items → length items ≡ len
    → length (take len (new ++ drop (length new) items)) ≡ length items
written-len len new items a b =
    let d = length-drop (length new) items in
    let p = length-append new (drop (length new) items) in
    length-take-le len (new ++ drop (length new) items) (omega (arith, a, b, d, p)) ∙ sym b
