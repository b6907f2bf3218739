use Rattle.std.proofs.Common.{◌≡◌, true, sym, subst}
use Rattle.room_ledger.specs.Ledger.{Ledger, ledger, may_reset}
use Rattle.room_ledger.proofs.Books.{reset-next, reset-room, reset-sound}
use Rattle.room_ledger.proofs.room.Room.reset.Goals as goal

pub invariant_of-self : goal.invariant_of-self
invariant_of-self c =
    let l = ledger c.self.inside.sizes.items c.self.inside.resets c.self.inside.capacity c.self.inside.used c.self.inside.permit
    c.self.inside.gates c.self.inside.flying in
    let may : may_reset l ≡ true = subst (λ (old : Ledger). may_reset old ≡ true) (sym c.self.view_is) c.requires in
    reset-sound l c.self.invariant may

pub returns-clause-next : goal.returns-clause-next
returns-clause-next c =
    let l = ledger c.self.inside.sizes.items c.self.inside.resets c.self.inside.capacity c.self.inside.used c.self.inside.permit
    c.self.inside.gates c.self.inside.flying in
    rw (← c.self.view_is) (reset-next l c.self.invariant)

pub returns-clause-room : goal.returns-clause-room
returns-clause-room c =
    let l = ledger c.self.inside.sizes.items c.self.inside.resets c.self.inside.capacity c.self.inside.used c.self.inside.permit
    c.self.inside.gates c.self.inside.flying in
    let may : may_reset l ≡ true = subst (λ (old : Ledger). may_reset old ≡ true) (sym c.self.view_is) c.requires in
    reset-room l c.self.invariant may
