use Rattle.std.proofs.Common.{inl, inr}
use Rattle.vidi_recorder.specs.room_ledger.Reservation.{least}
use Rattle.vidi_recorder.specs.Course.{sizes_of}
use Rattle.run_commands.specs.Records.{IsNoPlan, IsShort, RefusedRoom}
use Rattle.vidi_bench.proofs.Chain.{passed-as}
use Rattle.run_commands.proofs.recording.store_of.Goals as goal

pub returns-in_err-plan-clause-refused : goal.returns-in_err-plan-clause-refused
returns-in_err-plan-clause-refused c =
    passed-as (IsNoPlan c.args.stalls.now) (RefusedRoom c.args.stalls.now (least (sizes_of c.args.channels.now) c.args.resets))
    c.in_err-plan.field-0.0 c.from_residual.result c.from_residual.ensures.1 (λ a x is. inl is) c.in_err-plan.ensures.refused

pub returns-in_err-room-clause-refused : goal.returns-in_err-room-clause-refused
returns-in_err-room-clause-refused c =
    let plan = c.in_ok-plan.plan in
    let need = least (sizes_of c.args.channels.now) c.args.resets in
    passed-as (IsShort need plan) (RefusedRoom c.args.stalls.now need) c.in_err-room.field-0.0
    c.from_residual-in_err-room.result c.from_residual-in_err-room.ensures.1
    (λ a x is. inr (plan, c.in_ok-plan.ensures.planned, is)) c.in_err-room.ensures.refused
