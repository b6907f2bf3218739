use Rattle.std.proofs.Math.Facts.{Fits-lt-pow}
use Rattle.room_ledger.specs.Ledger.{ledger}
use Rattle.room_ledger.proofs.Books.{fits-then, fits-else}
use Rattle.room_ledger.proofs.room.Room.fits.Goals as goal

pub returns-then-starts-self-eq0 : goal.returns-then-starts-self-eq0
returns-then-starts-self-eq0 c =
    let l = ledger c.self.inside.sizes.items c.self.inside.resets c.self.inside.capacity c.self.inside.used c.self.inside.permit c.self.inside.gates
    c.self.inside.flying in
    rw (← c.self.view_is) (fits-then l c.args.starts c.args.ends (Fits-lt-pow c.ranges.starts) (Fits-lt-pow c.ranges.ends) c.self.invariant
    c.if-starts-self-eq0.true)

pub returns-else-starts-self-eq0 : goal.returns-else-starts-self-eq0
returns-else-starts-self-eq0 c =
    let l = ledger c.self.inside.sizes.items c.self.inside.resets c.self.inside.capacity c.self.inside.used c.self.inside.permit c.self.inside.gates
    c.self.inside.flying in
    rw (← c.self.view_is) (fits-else l c.args.starts c.args.ends (Fits-lt-pow c.ranges.starts) (Fits-lt-pow c.ranges.ends) c.self.invariant
    c.if-starts-self-eq0.false)
