use Rattle.std.proofs.Common.{get_or, arith}
use Rattle.chan_replayer.proofs.Masks.{bit-cut, bit-cut_other, bit-put, bit-put_other}
use Rattle.chan_replayer.proofs.Places.{moved-users, users-small}
use Rattle.chan_replayer.proofs.needs.move_to.Goals as goal

pub returns-clause-users : goal.returns-clause-users
returns-clause-users c =
    let places = c.args.places.now in
    let users = c.args.users.now in
    let are = c.requires.users in
    let few = are.few in
    let l = c.requires.channel in
    rw c.from.ensures (moved-users places users c.args.c c.args.place _ _ are l c.requires.place
    (bit-cut (get_or users (get_or places c.args.c 0) 0) c.args.c (omega (arith, few, l)))
    (λ d ne. bit-cut_other (get_or users (get_or places c.args.c 0) 0) c.args.c d (users-small places users are (get_or places c.args.c 0) (are.within c.args.c l)) (omega (arith, few, l)) ne)
    (bit-put _ c.args.c (omega (arith, few, l)))
    (λ d ne. bit-put_other _ c.args.c d (omega (arith, few, l)) ne))
