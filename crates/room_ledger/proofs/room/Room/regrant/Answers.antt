use Rattle.std.proofs.Common.{◌≡◌, ◌-◌, ◌+◌, ◌≤◌, leb, refl, sym, subst}
use Rattle.room_ledger.specs.Ledger.{Ledger, ledger, claimed, IsSound, Regranted}
use Rattle.room_ledger.proofs.Books.{after-regrant, regrant-is, regrant-next, regrant-room, regrant-sound}
use Rattle.room_ledger.proofs.room.Room.regrant.Goals as goal

made : (c : goal.After-self-1)
    → ledger c.self.inside.sizes.items c.self.inside.resets c.self.inside.capacity c.self.inside.used
    (leb c.permit_room.result (c.self.inside.capacity - (c.self.inside.used + c.reserved.result))) c.raised-self-inside.result
    c.self.inside.flying
    ≡ after-regrant (ledger c.self.inside.sizes.items c.self.inside.resets c.self.inside.capacity c.self.inside.used c.self.inside.permit
    c.self.inside.gates c.self.inside.flying)
made c =
    let l = ledger c.self.inside.sizes.items c.self.inside.resets c.self.inside.capacity c.self.inside.used c.self.inside.permit
    c.self.inside.gates c.self.inside.flying in
    regrant-is l (leb c.permit_room.result (l.capacity - (l.used + c.reserved.result))) c.raised-self-inside.result c.head_of-head.result
    c.reserved.result c.permit_room.result c.permit_room-2.result c.as_slice-sizes.result.now c.self.invariant
    c.as_slice-sizes.ensures.value c.head_of-head.ensures c.reserved.ensures c.permit_room.ensures refl c.permit_room-2.ensures
    c.raised-self-inside.ensures

pub invariant_of-self : goal.invariant_of-self
invariant_of-self c =
    let l = ledger c.self.inside.sizes.items c.self.inside.resets c.self.inside.capacity c.self.inside.used c.self.inside.permit
    c.self.inside.gates c.self.inside.flying in
    subst IsSound (sym (made c)) (regrant-sound l c.self.invariant)

pub returns-clause-next : goal.returns-clause-next
returns-clause-next c =
    let l = ledger c.self.inside.sizes.items c.self.inside.resets c.self.inside.capacity c.self.inside.used c.self.inside.permit
    c.self.inside.gates c.self.inside.flying in
    rw (← c.self.view_is) (subst (λ (new : Ledger). Regranted l new) (sym (made c)) (regrant-next l c.self.invariant))

pub returns-clause-room : goal.returns-clause-room
returns-clause-room c =
    let l = ledger c.self.inside.sizes.items c.self.inside.resets c.self.inside.capacity c.self.inside.used c.self.inside.permit
    c.self.inside.gates c.self.inside.flying in
    subst (λ (new : Ledger). claimed new ≤ l.capacity) (sym (made c)) (regrant-room l c.self.invariant)
