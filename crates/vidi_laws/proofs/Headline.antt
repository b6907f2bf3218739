-- The laws of a script's run, said of the four files.
use Rattle.std.proofs.Common.{◌≡◌, ◌≤◌, ℕ, List, ◌++◌, Option, Some, length, refl, sym, ap, subst, arith}
use Rattle.std.specs.Prelude.{IsSomeAnd}
use Rattle.std.specs.FinMap.{get}
use Rattle.vidi_commands.specs.vidi_io.Shelf.{Files}
use Rattle.vidi_commands.specs.trace_model.declared.row.Row.{Row}
use Rattle.vidi_commands.specs.trace_model.Recording.{trace_of}
use Rattle.vidi_commands.specs.run_model.Stretches.{rows_of}
use Rattle.vidi_commands.specs.trace_model.declared.trace.Trace.{Trace}
use Rattle.vidi_commands.specs.trace_code.Encoding.{encode, HasEncoding}
use Rattle.vidi_commands.specs.trace_model.declared.packet.TheConstants.{MOST_CYCLES}
use Rattle.vidi_commands.specs.env_script.ScriptOffer.{script_offer}
use Rattle.vidi_commands.specs.env_script.declared.stalls.Stalls.{Stalls}
use Rattle.vidi_commands.proofs.env_script_lemmas.Lasting.{script-lasts}
use Rattle.vidi_commands.specs.bench_run.Plain.{spot_behind, IsPlainRun}
use Rattle.vidi_commands.proofs.bench_run_lemmas.PlainLaws.{plain-keeps, plain-of}
use Rattle.vidi_commands.proofs.vidi_recorder_lemmas.Kept.{drained-plain, no-hidden_gate, run-over}
use Rattle.vidi_commands.proofs.vidi_recorder_lemmas.Runs.{run-long, run-of}
use Rattle.vidi_commands.proofs.vidi_recorder_lemmas.ScriptKept.{script-kept, full-drains}
use Rattle.vidi_commands.proofs.vidi_recorder_lemmas.Short.{trace-short}
use Rattle.vidi_commands.specs.vidi_bench.Reading.{IsRead}
use Rattle.vidi_commands.specs.vidi_bench.declared.bench.Bench.{Bench}
use Rattle.vidi_commands.specs.run_commands.Records.{course_of, IsPlanned}
use Rattle.vidi_commands.specs.replay_command.Replays.{IsReplayable}
use Rattle.vidi_commands.specs.trace_commands.Traces.{trace_limit}
use Rattle.vidi_laws.specs.Headline.{RecordedRunIsKept, RecordedTraceIsReplayable, RecordedTraceIsShort, DrainedRecordingIsTheRun, WidePlanDrains}
use Rattle.vidi_laws.specs.Headline.{RecordingHidesNoGate, PrintedRunKeepsContents}

pub run-kept : RecordedRunIsKept
run-kept design m script stalls files b plan planned rows stop run =
    script-kept b.device.design b.device.map b.script plan rows stop planned.bench.device.bound.1.table planned.bench.plays.2 run

pub drained-run : DrainedRecordingIsTheRun
drained-run design map script stalls files b plan planned rows stop run drains =
    let d = b.device.design in
    let offer = script_offer b.script in
    let plain = drained-plain (course_of b plan) rows stop refl planned.holds drains run in
    subst (λ (rs : List Row). IsPlainRun d b.device.map offer b.script.resets b.script.cycles
    (record { rows = rs; unstable = spot_behind rs stop })) plain.rows_are
    (plain-of d b.device.map offer b.script.resets b.script.cycles plain.past plain.here stop plain.run)

pub wide-drains : WidePlanDrains
wide-drains design map script stalls files b plan planned all rows =
    full-drains b.device.map.channels plan b.script.resets rows planned.bench.device.bound.1.table planned.holds all

pub hides-no_gate : RecordingHidesNoGate
hides-no_gate design map script stalls files b plan planned rows run t c row at l down =
    no-hidden_gate (course_of b plan) rows t c row planned.holds run at l down

pub recorded-short : RecordedTraceIsShort
recorded-short design map script stalls files b plan planned rows stop run =
    let w = course_of b plan in
    let l : length (rows_of run.past ++ run.here) ≤ b.script.cycles = run-long w run.past run.here stop run.run in
    let same : length (rows_of run.past ++ run.here) ≡ length rows = ap (λ (rs : List Row). length rs) run.rows_are in
    let few : b.script.cycles ≤ MOST_CYCLES = planned.bench.plays.2.few in
    trace-short b.device.map.channels planned.bench.device.bound.1.table rows (run-over w rows (run-of w rows stop run))
    (omega (arith, l, same, few))

-- a file that stands as it did is read as it was
read-again : (limit : ℕ) (name file : List ℕ) (files now : Files) → get now name ≡ get files name → IsRead limit name (Some files) file
    → IsRead limit name (Some now) file
read-again limit name file files now same (told, small) =
    (subst (λ (o : Option (List ℕ)). IsSomeAnd o (λ t. t ≡ file)) (sym same) told, small)

-- a file that is there and isn't too long is read
pub read-there : (limit : ℕ) (name file : List ℕ) (now : Files) → get now name ≡ Some file → length file ≤ limit
    → IsRead limit name (Some now) file
read-there limit name file now there small =
    (subst (λ (o : Option (List ℕ)). IsSomeAnd o (λ t. t ≡ file)) (sym there) refl, small)

-- the encoding of a trace of the map's channels is replayed on the design and the map that were recorded
pub replayable-there : (design map script stalls : List ℕ) (files : Files) (b : Bench) (plan : Stalls)
    → IsPlanned design map script stalls (Some files) b plan → (t : Trace) → HasEncoding t → t.channels ≡ b.device.map.channels
    → length (encode t) ≤ trace_limit → (trace : List ℕ) (now : Files) → get now design ≡ get files design → get now map ≡ get files map
    → get now trace ≡ Some (encode t) → IsReplayable design map trace (Some now) b.device t
replayable-there design map script stalls files b plan planned t encodes of small trace now same same' there = record {
  design_text = planned.design_text;
  map_text = planned.map_text;
  trace_bytes = encode t;
  design_read = read-again _ design planned.design_text files now same planned.design_read;
  map_read = read-again _ map planned.map_text files now same' planned.map_read;
  trace_read = read-there _ trace (encode t) now there small;
  device = planned.bench.device;
  encodes = (encodes, refl);
  same = of;
}

pub recorded-replayable : RecordedTraceIsReplayable
recorded-replayable design map script stalls files b plan planned rows stop run trace now same same' there =
    replayable-there design map script stalls files b plan planned (trace_of b.device.map.channels rows)
    (run-kept design map script stalls (Some files) b plan planned rows stop run).encoded refl
    (recorded-short design map script stalls (Some files) b plan planned rows stop run) trace now same same' there

pub printed-keeps : PrintedRunKeepsContents
printed-keeps design map script b is run played =
    plain-keeps b.device.design b.device.map (script_offer b.script) b.script.resets
    (script-lasts b.device.map.channels b.script is.plays.2) b.script.cycles run played
