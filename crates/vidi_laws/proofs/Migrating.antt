-- A trace that `migrate` wrote is replayed as the old one.
use Rattle.std.proofs.Common.{◌≤◌, ℕ, List, Some, length, refl, ap, subst, arith}
use Rattle.vidi_commands.specs.trace_model.declared.trace.Trace.{Trace}
use Rattle.vidi_commands.specs.trace_code.Decoding.{OneReading}
use Rattle.vidi_commands.specs.trace_code.Encoding.{encode, Encodes}
use Rattle.vidi_commands.specs.trace_v2.Old.{EncodesOld}
use Rattle.vidi_commands.proofs.trace_v2_lemmas.Migrated.{has-encoding, migrated-short}
use Rattle.vidi_commands.specs.vidi_bench.Reading.{IsRead}
use Rattle.vidi_commands.specs.trace_commands.Migrating.{old_trace_limit}
use Rattle.vidi_commands.specs.trace_commands.Traces.{trace_limit}
use Rattle.vidi_laws.specs.Migrated.{MigratedTraceIsReplayed}
use Rattle.vidi_laws.proofs.Headline.{read-there}
use Rattle.vidi_laws.proofs.OneEnding.{one-read}

-- a migrated trace isn't too long to be read
short : (old : List ℕ) (t : Trace) → EncodesOld t old → length old ≤ old_trace_limit → length (encode t) ≤ trace_limit
short old t code small =
    let double = migrated-short t code.0 in
    let same = ap length code.1 in
    omega (arith, double, same, small)

pub migrated-replayed : OneReading → MigratedTraceIsReplayed
migrated-replayed reading old t code small design map design_text map_text files design_read map_read v device same trace there =
    let read : IsRead trace_limit trace (Some files) (encode t) = read-there trace_limit trace (encode t) files there (short old t code small) in
    let encodes : Encodes t (encode t) = (has-encoding t code.0, refl) in (
      record {
        design_text = design_text;
        map_text = map_text;
        trace_bytes = encode t;
        design_read = design_read;
        map_read = map_read;
        trace_read = read;
        device = device;
        encodes = encodes;
        same = same;
      },
      λ u is. reading (encode t) u t
          (subst (λ (bytes : List ℕ). Encodes u bytes) (one-read trace_limit trace files is.trace_bytes (encode t) is.trace_read read) is.encodes)
          encodes,
    )
