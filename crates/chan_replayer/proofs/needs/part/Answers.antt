use Rattle.std.proofs.Common.{◌<◌, length, subst, sym, ap, ◌∙◌, get_or, arith}
use Rattle.chan_replayer.proofs.Places.{alone-by_mask, alone-when_free, free-there}
use Rattle.chan_replayer.proofs.needs.part.Goals as goal

pub returns-then-users-place-clause-alone : goal.returns-then-users-place-clause-alone
returns-then-users-place-clause-alone c d l ne =
    let are = c.requires.users in
    alone-by_mask c.args.places.now c.args.users.now are c.args.c c.from-place.result d
    (subst (λ p. p < length c.args.places.now) (sym c.from-place.ensures) (are.within c.args.c c.requires.channel)) c.if-users-place.true l ne

pub free_place-free-requires : goal.free_place-free-requires
free_place-free-requires c = free-there c.args.places.now c.args.users.now c.requires.users c.args.c c.requires.channel
    (λ e. c.if-users-place.false (ap (λ p. get_or c.args.users.now p 0) c.from-place.ensures ∙ e))

pub returns-clause-alone : goal.returns-clause-alone
returns-clause-alone c d l ne =
    let m = c.requires.users.many in
    let w = c.free_place-free.ensures.within in
    alone-when_free c.args.places.now c.args.users.now c.requires.users c.free_place-free.result d (omega (arith, m, w)) c.free_place-free.ensures.free l
