use Rattle.std.proofs.Common.{drop, sym, ◌+◌, ◌<◌, length, subst, arith}
use Rattle.std.specs.List.{flat_map}
use Rattle.std.proofs.lemmas.List.{length-map}
use Rattle.std.proofs.lemmas.Result.{err_from_is_err_and}
use Rattle.flat_parts.specs.vlog_elab.Plain.{plain_instance}
use Rattle.flat_parts.specs.vlog_driver.Duties.{Does}
use Rattle.flat_parts.specs.Drivers.{seat_duties, seat_blocks, IsBlockOf}
use Rattle.flat_drivers.specs.Latches.{instance_latches}
use Rattle.flat_drivers.specs.Seated.{instances_in, seats_in}
use Rattle.flat_drivers.proofs.Told.{told_next, told_here}
use Rattle.flat_drivers.proofs.Added.{code_next, code_done}
use Rattle.flat_drivers.proofs.Seats.{instance_there, seat_there, split_at, seats_over}
use Rattle.flat_drivers.proofs.all.add_seats.Goals as goal

pub returns-in_err-add_seat-clause-told : goal.returns-in_err-add_seat-clause-told
returns-in_err-add_seat-clause-told c =
    let is = instances_in c.args.flat.now in
    let at = c.loop-at.at in
    let p = err_from_is_err_and c.from_residual.result c.from_residual.ensures.1 in
    let i = instance_there is at (subst (λ n. at < n) (sym (length-map c.args.flat.now.list.now plain_instance)) c.loop-at-test.true) in
    rw (p.1, p.2)
    (told_here c.in_err-add_seat.field-0.0 (instance_latches i.0) (flat_map instance_latches (drop (at + 1) is))
    (flat_map instance_latches (drop at is)) (flat_map instance_latches is) (split_at instance_latches is at i.0 i.1)
    c.loop-at.invariant.told (c.in_err-add_seat.ensures.told i.0 i.1))

pub loop-at-preserved : goal.loop-at-preserved
loop-at-preserved c =
    let is = instances_in c.args.flat.now in
    let xs = seats_in c.args.flat.now in
    let at = c.loop-at.at in
    let inv = c.loop-at.invariant in
    let l : at < length is = subst (λ n. at < n) (sym (length-map c.args.flat.now.list.now plain_instance)) c.loop-at-test.true in
    let i = instance_there is at l in
    let x = seat_there is at l in
    record {
      told = told_next (instance_latches i.0) (flat_map instance_latches (drop (at + 1) is)) (flat_map instance_latches (drop at is))
          (flat_map instance_latches is) (split_at instance_latches is at i.0 i.1) (c.in_ok-add_seat.ensures.told i.0 i.1) inv.told;
      drivers = code_next Does (seat_duties xs x.0) (flat_map (seat_duties xs) (drop (at + 1) xs)) (flat_map (seat_duties xs) (drop at xs))
          (flat_map (seat_duties xs) xs) c.loop-at.out.drivers c.add_seat.new.out.drivers c.args.out.now.drivers
          (split_at (seat_duties xs) xs at x.0 x.1) (c.in_ok-add_seat.ensures.drivers x.0 x.1) inv.drivers;
      blocks = code_next IsBlockOf (seat_blocks x.0) (flat_map seat_blocks (drop (at + 1) xs)) (flat_map seat_blocks (drop at xs))
          (flat_map seat_blocks xs) c.loop-at.out.blocks c.add_seat.new.out.blocks c.args.out.now.blocks
          (split_at seat_blocks xs at x.0 x.1) (c.in_ok-add_seat.ensures.blocks x.0 x.1) inv.blocks;
    }

pub returns-clause-drivers : goal.returns-clause-drivers
returns-clause-drivers c =
    let is = instances_in c.args.flat.now in
    let xs = seats_in c.args.flat.now in
    code_done Does (flat_map (seat_duties xs) (drop c.loop-at.at xs)) (flat_map (seat_duties xs) xs) c.loop-at.out.drivers
    c.args.out.now.drivers
    (seats_over (seat_duties xs) is c.loop-at.at
    (omega (arith, c.loop-at-test.false, length-map c.args.flat.now.list.now plain_instance)))
    c.loop-at.invariant.drivers

pub returns-clause-blocks : goal.returns-clause-blocks
returns-clause-blocks c =
    let is = instances_in c.args.flat.now in
    let xs = seats_in c.args.flat.now in
    code_done IsBlockOf (flat_map seat_blocks (drop c.loop-at.at xs)) (flat_map seat_blocks xs) c.loop-at.out.blocks
    c.args.out.now.blocks
    (seats_over seat_blocks is c.loop-at.at (omega (arith, c.loop-at-test.false, length-map c.args.flat.now.list.now plain_instance)))
    c.loop-at.invariant.blocks
