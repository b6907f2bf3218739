-- A script's run is one and is kept, and a plan whose lines let out all that the store can hold leaves nothing.
use Rattle.std.proofs.Common.{◌≡◌, ℕ, zero, suc, ◌+◌, ◌≤◌, ◌<◌, ◌%◌, ◌&&◌, Bool, true, false, not, List, [], ◌∷◌, ◌++◌, Option, None, Some, length}
use Rattle.std.proofs.Common.{slice_get, get_or}
use Rattle.std.proofs.Common.{refl, arith}
use Rattle.std.specs.Prelude.{replicate}
use Rattle.trace_code.specs.trace_model.declared.row.Row.{Row}
use Rattle.env_script.specs.chan_map.vidi_bits.Findings.{is_nil}
use Rattle.room_ledger.specs.Gates.{Plan, fresh_at, is_fresh, left, put_len, row_len, used_at}
use Rattle.room_ledger.specs.Reservation.{least, need}
use Rattle.trace_code.specs.trace_model.declared.packet.TheConstants.{GAP_LIMIT, MOST_CYCLES}
use Rattle.env_script.specs.declared.stalls.Drain.{Drain}
use Rattle.env_script.specs.Plan.{allowances, allowance_at}
use Rattle.env_script.specs.ScriptOffer.{script_offer}
use Rattle.env_script.proofs.Lasting.{script-lasts}
use Rattle.vidi_recorder.specs.Course.{plan_of, sizes_of}
use Rattle.vidi_recorder.proofs.Kept.{run-is_kept}
use Rattle.vidi_recorder.proofs.Lengths.{row-least}
use Rattle.vidi_recorder.proofs.Runs.{one-recorded}
use Rattle.vidi_recorder.specs.ScriptLaws.{OneScriptRun, ScriptRunIsKept, FullPlanDrains, LetsAllOut}

pub one-script_run : OneScriptRun
one-script_run d m script stalls ready fits =
    one-recorded d m (script_offer script) stalls script.resets script.cycles ready (script-lasts m.channels script fits)

pub script-kept : ScriptRunIsKept
script-kept d m script stalls rows stop table fits run =
    let few : script.cycles ≤ MOST_CYCLES = fits.few in
    let small : script.cycles < GAP_LIMIT = omega (arith, few) in
    run-is_kept d m (script_offer script) stalls script.resets script.cycles rows stop table (script-lasts m.channels script fits) small run

-- ---- a plan each of whose lines lets out all that the store can hold
out-behind : (capacity n : ℕ) (a : Option ℕ) → LetsAllOut capacity a → (rest : List (Option ℕ))
    → ((k : ℕ) → LetsAllOut capacity (get_or rest k None)) → (k : ℕ) → LetsAllOut capacity (get_or (replicate n a ++ rest) k None)
out-behind capacity zero a is rest all k = all k
out-behind capacity (suc n) a is rest all zero = is
out-behind capacity (suc n) a is rest all (suc k) = out-behind capacity n a is rest all k

out-all : (capacity : ℕ) (drains : List Drain)
    → ((k : ℕ) (line : Drain) → slice_get drains k ≡ Some line → LetsAllOut capacity line.allowance) → (k : ℕ)
    → LetsAllOut capacity (get_or (allowances drains) k None)
out-all capacity [] is k = tt
out-all capacity (d ∷ drains) is k = out-behind capacity d.cycles d.allowance (is 0 d refl) (allowances drains)
    (out-all capacity drains (λ j line at. is (suc j) line at)) k

none-stays : (capacity : ℕ) (a : Option ℕ) (bytes : ℕ) → LetsAllOut capacity a → bytes ≤ capacity → left a bytes ≡ 0
none-stays capacity None bytes is l = omega (arith, l)
none-stays capacity (Some n) bytes is l = omega (arith, is, l)

-- what a row and the reset behind it put is no more than all channels and a permit need
put-least : (sizes : List ℕ) (row : Option Row) (capacity : ℕ) (resets fresh : Bool) → row_len sizes row ≤ need sizes
    → least sizes resets ≤ capacity → put_len sizes row (resets && fresh) ≤ capacity
put-least sizes row capacity true true few holds = omega (arith, few, holds)
put-least sizes row capacity true false few holds = omega (arith, few, holds)
put-least sizes row capacity false fresh few holds = omega (arith, few, holds)

pub full-drains : FullPlanDrains
full-drains channels stalls times rows table holds all t = used-none (suc t)
  where
    sizes : List ℕ
    sizes = sizes_of channels

    plan : Plan
    plan = plan_of stalls times

    used-none : (u : ℕ) → used_at sizes plan rows u (fresh_at plan rows u) ≡ 0
    used-none zero = refl
    used-none (suc u) =
        let before = used-none u in
        let fresh = is_fresh (slice_get rows (suc u)) in
        let put = put-least sizes (slice_get rows u) stalls.capacity (not (is_nil times)) fresh (row-least channels table (slice_get rows u)) holds in
        none-stays stalls.capacity (allowance_at stalls.drains u)
        (used_at sizes plan rows u (fresh_at plan rows u) + put_len sizes (slice_get rows u) (fresh_at plan rows (suc u)))
        (out-all stalls.capacity stalls.drains all (u % length (allowances stalls.drains)))
        (omega (arith, before, put))
