-- The runs and the replay of accepted files exist, and are one.
use Rattle.std.proofs.Common.{◌≡◌, ℕ, List, length, refl, sym, ap, ◌∙◌}
use Rattle.std.proofs.Math.Logic.{∥∥₁_map}
use Rattle.std.proofs.lemmas.List.Concat.{length-flat_map}
use Rattle.vidi_commands.specs.trace_model.declared.row.Row.{Row}
use Rattle.vidi_commands.specs.run_model.Laws.{IsReady, OneOfLength}
use Rattle.vidi_commands.specs.run_model.Stretches.{row_count, rows_of}
use Rattle.vidi_commands.proofs.run_model_lemmas.MapLaws.{bound-is_map_of}
use Rattle.vidi_commands.proofs.net_order_lemmas.OneMap.{has_one_map}
use Rattle.vidi_commands.specs.env_script.ScriptOffer.{script_offer}
use Rattle.vidi_commands.proofs.env_script_lemmas.Lasting.{script-lasts}
use Rattle.vidi_commands.specs.bench_run.Plain.{AreRunAllUp}
use Rattle.vidi_commands.proofs.bench_run_lemmas.PlainLaws.{one-plain_run}
use Rattle.vidi_commands.specs.replay_run.declared.outcome.ReplayOutcome.{ReplayOutcome}
use Rattle.vidi_commands.specs.replay_run.Replaying.{EndsAs}
use Rattle.vidi_commands.specs.replay_run.run_stage.Stretching.{all_rows}
use Rattle.vidi_commands.proofs.replay_run_lemmas.Outcomes.{one-outcome}
use Rattle.vidi_commands.proofs.vidi_recorder_lemmas.ScriptKept.{one-script_run}
use Rattle.vidi_commands.specs.vidi_bench.declared.device.Device.{Device}
use Rattle.vidi_commands.specs.vidi_bench.Devices.{IsDevice}
use Rattle.vidi_laws.specs.OneRun.{OneRecording, OnePrintedRun, OneReplayOfFiles}
use Rattle.vidi_laws.proofs.SameReplay.{fits, same-rows}

-- an accepted design settles in one way, and its map is one of it
device-ready : (design m : List ℕ) (v : Device) → IsDevice design m v → IsReady v.design v.map
device-ready design m v is = record {
  lawful = is.accepted.1.lawful;
  one_map = has_one_map v.design is.accepted.1.lawful v.order.drivers is.ordered;
  mapped = bound-is_map_of is.text v.design v.map is.bound;
}

pub one-recording : OneRecording
one-recording design m script stalls files b plan is =
    one-script_run b.device.design b.device.map b.script plan (device-ready is.design_text is.map_text b.device is.bench.device)
    is.bench.plays.2

-- so many rows as stretches have
count-rows : (stretches : List (List Row)) → row_count stretches ≡ length (rows_of stretches)
count-rows stretches = sym (length-flat_map (λ (rows : List Row). rows) stretches)

-- one list of stretches with n rows is one list of n rows
one-rows : (Are : List (List Row) → Type 0) (n : ℕ) → ∥ ((stretches : List (List Row)) × (row_count stretches ≡ n) × Are stretches) ∥₁
    → ((a b : List (List Row)) → row_count a ≡ n → row_count b ≡ n → Are a → Are b → a ≡ b)
    → OneOfLength (λ rows. (stretches : List (List Row)) × Are stretches × (rows_of stretches ≡ rows)) n
one-rows Are n some one = (
  ∥∥₁_map some (λ (x : (stretches : List (List Row)) × (row_count stretches ≡ n) × Are stretches).
      (rows_of x.0, sym (count-rows x.0) ∙ x.1, (x.0, x.2, refl))),
  λ a b la lb (s, are, e) (t, are', e').
      (let same : s ≡ t = one s t (count-rows s ∙ ap (λ (rows : List Row). length rows) e ∙ la)
      (count-rows t ∙ ap (λ (rows : List Row). length rows) e' ∙ lb) are are' in
      sym e ∙ ap (λ (ss : List (List Row)). rows_of ss) same ∙ e'),
)

pub one-printed_run : OnePrintedRun
one-printed_run design m script b is =
    let one = one-plain_run b.device.design b.device.map (script_offer b.script) b.script.resets
    (device-ready design m b.device is.device) (script-lasts b.device.map.channels b.script is.plays.2) in (
      λ n. one-rows (AreRunAllUp b.device.design b.device.map (script_offer b.script) b.script.resets) n (one n).0.0 (one n).0.1,
      (one b.script.cycles).1,
    )

pub one-replay_of_files : OneReplayOfFiles
one-replay_of_files design m trace files v t is n =
    let one = one-outcome v.design v.map (device-ready is.design_text is.map_text v is.device) t.packets
    (fits t is.trace_bytes v.map.channels is.encodes is.same) n in (
      ∥∥₁_map one.0 (λ (x : (past : List (List Row)) × (here : List Row) × (outcome : ReplayOutcome)
          × EndsAs v.design v.map t.packets n past here outcome).
          (all_rows x.0 x.1, x.2, record { past = x.0; here = x.1; ends = x.3; rows_are = refl })),
      λ a b i j x y.
          (let same = one.1 x.past y.past x.here y.here i j x.ends y.ends in
          (same-rows x.past y.past x.here y.here a b same.0 same.1 x.rows_are y.rows_are, same.2)),
    )
