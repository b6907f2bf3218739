-- Offers and gates that are given cycle by cycle.
use Rattle.std.specs.Prelude.{ℕ, List, [], length, slice_get, slice_index, unwrap_or}
use Rattle.run_model.specs.trace_model.declared.row.Offers.{Offers}
use Rattle.run_model.specs.trace_model.declared.row.Row.{Row}

abbrev pub no_offers : Offers
no_offers = record { valids = 0; readies = 0; contents = [] }

-- the offers of the cycle after these rows
abbrev pub offers_by : List Offers → List Row → Offers
offers_by offers before = unwrap_or (slice_get offers (length before)) no_offers

-- its gates
abbrev pub gates_by : List ℕ → List Row → ℕ
gates_by gates before = slice_index gates (length before)
