-- What a monitor makes of a cycle of its channel, and *Row* of that channel (AMBA AXI4, A3.2.1; gates are this project's profile).
use Rattle.std.specs.Prelude.{◌≡◌, ℕ, ◌&&◌, Bool, not}
use Rattle.run_model.specs.vidi_bits.Number.{has}
use Rattle.run_model.specs.trace_model.declared.row.Row.{Row}
use Rattle.run_model.specs.trace_model.Row.{sink_valid}
use Rattle.chan_monitor.specs.declared.monitor.Passed.{Passed}

-- the sink sees a valid, and the source a ready, only while the gate is up; `flight` says whether a transaction is in flight
abbrev pub passed : Bool → Bool → Bool → Bool → Passed
passed flight gate valid ready = record {
  sink_valid = valid && gate;
  source_ready = ready && gate;
  starts = (valid && gate) && not flight;
  ends = (valid && gate) && ready;
}

-- in flight after the cycle
abbrev pub stays : Bool → Bool → Bool → Bool
stays gate valid ready = (valid && gate) && not ((valid && gate) && ready)

-- channel c has this gate, its source this valid and its sink this ready in the row
pub record HasOn (row : Row) (c : ℕ) (gate valid ready : Bool) : Type 0 where
  pub gate_is : has row.gates c ≡ gate
  pub valid_is : has row.valids c ≡ valid
  pub ready_is : has row.readies c ≡ ready

-- what passed is what the row has of channel c
pub record IsPassed (row : Row) (c : ℕ) (p : Passed) : Type 0 where
  pub sink : p.sink_valid ≡ sink_valid row c
  pub source : p.source_ready ≡ (has row.readies c && has row.gates c)
  pub start : p.starts ≡ has row.starts c
  pub end : p.ends ≡ has row.ends c
