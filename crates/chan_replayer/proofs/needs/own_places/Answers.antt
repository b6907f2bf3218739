use Rattle.std.proofs.Common.{◌≡◌, arith, ◌∙◌}
use Rattle.chan_replayer.proofs.Places.{users-own}
use Rattle.chan_replayer.proofs.needs.own_places.Goals as goal

pub returns : goal.returns
returns c =
    let i = c.loop-c.invariant in
    let far = c.loop-c-test.false in
    let end = c.loop-c.auto.c-end in
    let n : c.loop-c.c ≡ c.args.channels = omega (arith, far, end) in (
      i.long ∙ n,
      users-own c.loop-c.c c.loop-c.places c.loop-c.users (let few = c.requires in omega (arith, few, n)) i.long i.many i.places i.users,
      λ p l. i.places p (omega (arith, l, n)),
    )
