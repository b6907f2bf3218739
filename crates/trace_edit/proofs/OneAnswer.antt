-- A completion is moved in one way alone.
use Rattle.std.proofs.Common.{◌≡◌, ◌⊎◌, ℕ, Bool, List, [], ◌∷◌, Ok, Err, inl, inr, length, All}
use Rattle.std.proofs.Common.{refl, ap, sym, subst, ◌∙◌, arith}
use Rattle.std.proofs.lemmas.List.Elements.{All-head, All-tail}
use Rattle.std.proofs.lemmas.Nat.Bits.{bit_at_above}
use Rattle.trace_model.specs.declared.channel.Channel.{Channel}
use Rattle.trace_model.specs.declared.event.Event.{Event}
use Rattle.trace_model.specs.declared.event.Kind.TheVariants.{End}
use Rattle.trace_model.specs.declared.packet.Packet.{Packet}
use Rattle.trace_model.specs.Packet.{count, does, IsPacket}
use Rattle.trace_model.proofs.CountingLemmas.{count-cons, nth-below}
use Rattle.trace_model.proofs.MaskLemmas.{cond-has}
use Rattle.trace_edit.specs.declared.error.EditError.TheVariants.{NoEnd, SameEnd, Blocked, Memory}
use Rattle.trace_edit.specs.declared.place.Move.{Move}
use Rattle.trace_edit.specs.Laws.{NoChannelNoEnd, OneMove}
use Rattle.trace_edit.specs.Moved.{moved, EndsAt, HasNoEnd, IsBlockedBy, IsFree, IsMove, IsSame}
use Rattle.trace_edit.proofs.Whole.{move-unique}

there-and-not : {X : Type 0} (packets : List Packet) (e : Event) (p : ℕ) → EndsAt packets e p → HasNoEnd packets e → X
there-and-not packets e p (x, at) none = let l = nth-below (does End e.channel) packets e.index p x at in absurd (omega (arith, l, none))

same-none : (packets : List Packet) (a b : Event) → IsSame a b → HasNoEnd packets b → HasNoEnd packets a
same-none packets a b same none =
    let z = ap (λ c. count End c packets) same.0 in let i = same.1 in omega (arith, none, z, i)

free-and-not : {X : Type 0} (packets : List Packet) (end other : Event) (after : Bool) (m n : Move) (s : ℕ) → IsMove packets end other after m
    → IsMove packets end other after n → IsFree packets m → IsBlockedBy packets n s → X
free-and-not packets end other after m n s a b free blocked =
    absurd (subst (IsFree packets) (move-unique packets end other after m n a b) free s blocked.0)

lowest : (packets : List Packet) (end other : Event) (after : Bool) (m n : Move) (s r : ℕ) → IsMove packets end other after m
    → IsMove packets end other after n → IsBlockedBy packets m s → IsBlockedBy packets n r → s ≡ r
lowest packets end other after m n s r a b first second =
    let here = subst (λ k. IsBlockedBy packets k s) (move-unique packets end other after m n a b) first in
    let l = here.1 r second.0 in
    let k = second.1 s here.0 in omega (arith, l, k)

-- a completion is moved, and the other answer is another
moved-not : {X : Type 0} (packets : List Packet) (end other : Event) (after : Bool) (m : Move) → IsMove packets end other after m
    → (HasNoEnd packets end) ⊎ (HasNoEnd packets other) ⊎ (IsSame end other) → X
moved-not packets end other after m move (inl none) = there-and-not packets end m.from move.from none
moved-not packets end other after m move (inr (inl none)) = there-and-not packets other m.to move.to none
moved-not packets end other after m move (inr (inr same)) = absurd (move.differ same)

no-end-why : (packets : List Packet) (end other : Event) (w : ℕ) → ((w ≡ 1) × HasNoEnd packets end)
    ⊎ ((w ≡ 2) × ((p : ℕ) × EndsAt packets end p) × HasNoEnd packets other)
    → (HasNoEnd packets end) ⊎ (HasNoEnd packets other) ⊎ (IsSame end other)
no-end-why packets end other w (inl h) = inl h.1
no-end-why packets end other w (inr h) = inr (inl h.2)

-- NoEnd tells which
which-one : (packets : List Packet) (end other : Event) (v w : ℕ)
    → ((v ≡ 1) × HasNoEnd packets end) ⊎ ((v ≡ 2) × ((p : ℕ) × EndsAt packets end p) × HasNoEnd packets other)
    → ((w ≡ 1) × HasNoEnd packets end) ⊎ ((w ≡ 2) × ((p : ℕ) × EndsAt packets end p) × HasNoEnd packets other)
    → v ≡ w
which-one packets end other v w (inl a) (inl b) = a.0 ∙ sym b.0
which-one packets end other v w (inl a) (inr b) = there-and-not packets end b.1.0 b.1.1 a.1
which-one packets end other v w (inr a) (inl b) = there-and-not packets end a.1.0 a.1.1 b.1
which-one packets end other v w (inr a) (inr b) = a.0 ∙ sym b.0

same-and-none : {X : Type 0} (packets : List Packet) (end other : Event) (w : ℕ) → ((p : ℕ) × EndsAt packets end p) × IsSame end other
    → ((w ≡ 1) × HasNoEnd packets end) ⊎ ((w ≡ 2) × ((p : ℕ) × EndsAt packets end p) × HasNoEnd packets other) → X
same-and-none packets end other w same (inl h) = there-and-not packets end same.0.0 same.0.1 h.1
same-and-none packets end other w same (inr h) = there-and-not packets end same.0.0 same.0.1 (same-none packets end other same.1 h.2)

pub one-move : OneMove
one-move t end other after (Err Memory) b f g = inl refl
one-move t end other after (Ok u) (Err Memory) f g = inr (inl refl)
one-move t end other after (Err (NoEnd v)) (Err Memory) f g = inr (inl refl)
one-move t end other after (Err SameEnd) (Err Memory) f g = inr (inl refl)
one-move t end other after (Err (Blocked s)) (Err Memory) f g = inr (inl refl)
one-move t end other after (Ok u) (Ok v) (m, a, free, is) (n, b, free', is') =
    inr (inr (ap Ok (is ∙ ap (λ k. record t { packets = moved k t.packets }) (move-unique t.packets end other after m n a b) ∙ sym is')))
one-move t end other after (Ok u) (Err (NoEnd w)) (m, a, free, is) g = moved-not t.packets end other after m a (no-end-why t.packets end other w g)
one-move t end other after (Ok u) (Err SameEnd) (m, a, free, is) g = moved-not t.packets end other after m a (inr (inr g.1))
one-move t end other after (Ok u) (Err (Blocked s)) (m, a, free, is) (n, b, blocked) = free-and-not t.packets end other after m n s a b free blocked
one-move t end other after (Err (NoEnd v)) (Ok u) f (m, a, free, is) = moved-not t.packets end other after m a (no-end-why t.packets end other v f)
one-move t end other after (Err (NoEnd v)) (Err (NoEnd w)) f g =
    inr (inr (ap (λ n. Err (NoEnd n)) (which-one t.packets end other v w f g)))
one-move t end other after (Err (NoEnd v)) (Err SameEnd) f g = same-and-none t.packets end other v g f
one-move t end other after (Err (NoEnd v)) (Err (Blocked s)) f (m, a, blocked) = moved-not t.packets end other after m a (no-end-why t.packets end other v f)
one-move t end other after (Err SameEnd) (Ok u) f (m, a, free, is) = moved-not t.packets end other after m a (inr (inr f.1))
one-move t end other after (Err SameEnd) (Err (NoEnd w)) f g = same-and-none t.packets end other w f g
one-move t end other after (Err SameEnd) (Err SameEnd) f g = inr (inr refl)
one-move t end other after (Err SameEnd) (Err (Blocked s)) f (m, a, blocked) = moved-not t.packets end other after m a (inr (inr f.1))
one-move t end other after (Err (Blocked s)) (Ok u) (m, a, blocked) (n, b, free, is) = free-and-not t.packets end other after n m s b a free blocked
one-move t end other after (Err (Blocked s)) (Err (NoEnd w)) (m, a, blocked) g = moved-not t.packets end other after m a (no-end-why t.packets end other w g)
one-move t end other after (Err (Blocked s)) (Err SameEnd) (m, a, blocked) g = moved-not t.packets end other after m a (inr (inr g.1))
one-move t end other after (Err (Blocked s)) (Err (Blocked r)) (m, a, first) (n, b, second) =
    inr (inr (ap (λ k. Err (Blocked k)) (lowest t.packets end other after m n s r a b first second)))

-- ---- a channel that isn't there
none-of : (channels : List Channel) (packets : List Packet) → All (IsPacket channels) packets → count End (length channels) packets ≡ 0
none-of channels [] all = refl
none-of channels (x ∷ packets) all =
    let is = All-head (IsPacket channels) x packets all in
    let ih = none-of channels packets (All-tail (IsPacket channels) x packets all) in
    let one = count-cons (does End (length channels)) x packets in
    let bit = cond-has x.ends (length channels) in
    let no = bit_at_above x.ends (length channels) (length channels) is.ends (omega arith) in
    omega (arith, ih, one, bit, no)

pub no-channel-no-end : NoChannelNoEnd
no-channel-no-end t is = none-of t.channels t.packets is.packets
