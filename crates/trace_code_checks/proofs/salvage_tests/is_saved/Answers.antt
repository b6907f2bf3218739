use Rattle.std.proofs.Common.{arith}
use Rattle.trace_v2.proofs.trace_model_lemmas.EpochLemmas.{epochs_alternate}
use Rattle.trace_code_checks.proofs.salvage_tests.is_saved.Goals as goal

pub is_written-requires : goal.is_written-requires
is_written-requires c =
    let splits = c.in-Ok.ensures.salvages.1.splits in
    record {
      table = splits.table;
      well_formed = record { packets = splits.each; alternate = epochs_alternate c.in-Ok.trace.packets splits.alternate };
      few = omega arith;
    }
