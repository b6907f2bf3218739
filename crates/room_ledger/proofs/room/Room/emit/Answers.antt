use Rattle.std.proofs.Common.{◌≡◌, ℕ, List, ap, ◌∙◌, arith}
use Rattle.std.proofs.Math.Facts.{Fits-lt-pow}
use Rattle.room_ledger.specs.Reservation.{event_len}
use Rattle.room_ledger.specs.Ledger.{ledger, MayEmit}
use Rattle.room_ledger.proofs.Books.{emit-fits, emit-next, emit-room, emit-sound}
use Rattle.room_ledger.proofs.room.Room.emit.Goals as goal

pub event_len-len-requires-clause-small : goal.event_len-len-requires-clause-small
event_len-len-requires-clause-small c =
    let l = ledger c.self.inside.sizes.items c.self.inside.resets c.self.inside.capacity c.self.inside.used c.self.inside.permit c.self.inside.gates
    c.self.inside.flying in
    let may : MayEmit l c.args.starts c.args.ends = rw c.self.view_is c.requires in
    let fits = emit-fits l c.args.starts c.args.ends (Fits-lt-pow c.ranges.starts) (Fits-lt-pow c.ranges.ends) c.self.invariant may in
    rw c.as_slice.ensures.value (omega arith)

pub overflow_add-self : goal.overflow_add-self
overflow_add-self c =
    let l = ledger c.self.inside.sizes.items c.self.inside.resets c.self.inside.capacity c.self.inside.used c.self.inside.permit c.self.inside.gates
    c.self.inside.flying in
    let may : MayEmit l c.args.starts c.args.ends = rw c.self.view_is c.requires in
    let fits = emit-fits l c.args.starts c.args.ends (Fits-lt-pow c.ranges.starts) (Fits-lt-pow c.ranges.ends) c.self.invariant may in
    let len : c.event_len-len.result ≡ event_len c.self.inside.sizes.items c.args.starts c.args.ends = c.event_len-len.ensures
    ∙ ap (λ (s : List ℕ). event_len s c.args.starts c.args.ends) c.as_slice.ensures.value in
    omega arith

pub invariant_of-self : goal.invariant_of-self
invariant_of-self c =
    let l = ledger c.self.inside.sizes.items c.self.inside.resets c.self.inside.capacity c.self.inside.used c.self.inside.permit c.self.inside.gates
    c.self.inside.flying in
    let may : MayEmit l c.args.starts c.args.ends = rw c.self.view_is c.requires in
    let len : c.event_len-len.result ≡ event_len c.self.inside.sizes.items c.args.starts c.args.ends = c.event_len-len.ensures
    ∙ ap (λ (s : List ℕ). event_len s c.args.starts c.args.ends) c.as_slice.ensures.value in
    rw len (emit-sound l c.args.starts c.args.ends (Fits-lt-pow c.ranges.starts) (Fits-lt-pow c.ranges.ends) c.self.invariant may)

pub returns-clause-next : goal.returns-clause-next
returns-clause-next c =
    let l = ledger c.self.inside.sizes.items c.self.inside.resets c.self.inside.capacity c.self.inside.used c.self.inside.permit c.self.inside.gates
    c.self.inside.flying in
    let len : c.event_len-len.result ≡ event_len c.self.inside.sizes.items c.args.starts c.args.ends = c.event_len-len.ensures
    ∙ ap (λ (s : List ℕ). event_len s c.args.starts c.args.ends) c.as_slice.ensures.value in
    rw (← c.self.view_is, len) (emit-next l c.args.starts c.args.ends (Fits-lt-pow c.ranges.starts) (Fits-lt-pow c.ranges.ends)
    c.self.invariant)

pub returns-clause-room : goal.returns-clause-room
returns-clause-room c =
    let l = ledger c.self.inside.sizes.items c.self.inside.resets c.self.inside.capacity c.self.inside.used c.self.inside.permit c.self.inside.gates
    c.self.inside.flying in
    let may : MayEmit l c.args.starts c.args.ends = rw c.self.view_is c.requires in
    let len : c.event_len-len.result ≡ event_len c.self.inside.sizes.items c.args.starts c.args.ends = c.event_len-len.ensures
    ∙ ap (λ (s : List ℕ). event_len s c.args.starts c.args.ends) c.as_slice.ensures.value in
    rw len (emit-room l c.args.starts c.args.ends (Fits-lt-pow c.ranges.starts) (Fits-lt-pow c.ranges.ends) c.self.invariant may)
