-- `run`: one answer.
use Rattle.std.proofs.Common.{ℕ, Bool, List, [], ◌∷◌, ◌++◌, Option, None, Some, length, sym, subst}
use Rattle.vidi_commands.specs.trace_model.declared.row.Offers.{Offers}
use Rattle.vidi_commands.specs.trace_model.declared.row.Row.{Row}
use Rattle.net_design.specs.declared.design.Design.{Design}
use Rattle.net_design.specs.Lawful.{IsLawful}
use Rattle.vidi_commands.specs.chan_map.declared.pins.Map.{Map}
use Rattle.vidi_commands.specs.run_model.Alike.{AreAlike}
use Rattle.vidi_commands.specs.run_model.Run.{AllUp}
use Rattle.vidi_commands.specs.run_model.Stretches.{AreStretches, AreTheRun, IsRunBehind, Turns, and_stretch}
use Rattle.vidi_commands.proofs.run_model_lemmas.Played.{driven-alike}
use Rattle.vidi_commands.specs.env_script.declared.script.Script.{Script}
use Rattle.vidi_commands.specs.env_script.Offer.{Offer}
use Rattle.vidi_commands.specs.env_script.Offered.{offers_after}
use Rattle.vidi_commands.specs.env_script.Resets.{is_due_behind}
use Rattle.vidi_commands.specs.env_script.ScriptOffer.{script_offer}
use Rattle.vidi_commands.proofs.env_script_lemmas.Lasting.{script-lasts}
use Rattle.vidi_commands.specs.bench_run.declared.plain.PlainRun.{PlainRun}
use Rattle.vidi_commands.specs.bench_run.declared.plain.Spot.{Spot}
use Rattle.vidi_commands.specs.bench_run.Plain.{channel_of, IsPlainRun}
use Rattle.vidi_commands.proofs.bench_run_lemmas.PlainLaws.{one-plain_run}
use Rattle.vidi_commands.specs.vidi_io.Shelf.{Files}
use Rattle.vidi_commands.specs.report_text.Rows.{run_text}
use Rattle.vidi_commands.specs.vidi_bench.declared.bench.Bench.{Bench}
use Rattle.vidi_commands.specs.vidi_bench.vidi_answer.declared.status.Status.TheVariants.{Done, Unstable}
use Rattle.vidi_commands.specs.vidi_bench.Benches.{RefusedTexts, IsBench}
use Rattle.vidi_commands.specs.run_commands.Runs.{IsEnded, IsPlayed, RunTexts, Runs}
use Rattle.vidi_commands.specs.run_commands.Said.{cycles_line, unstable_line}
use Rattle.vidi_laws.proofs.OneEnding.{Same, Meet, One, OneBy, one-said, step-meets}
use Rattle.vidi_laws.proofs.OneCheck.{Alike, alike}
use Rattle.vidi_laws.proofs.SameBench.{BenchLaws, one-texts, one-refused_texts, texts-refused, same-bench}

-- ---- how a run ends
ended-once : (m : Map) (rows : List Row) (spot : Option Spot) → One (IsEnded m rows spot)
ended-once m rows None a b x y u v = one-said Done (run_text rows m.channels (cycles_line (length rows))) a b x y u v
ended-once m rows (Some s) a b x y u v =
    one-said (Unstable s.channel s.cycle) (run_text rows m.channels (unstable_line m.channels s.channel s.cycle)) a b x y u v

-- ---- designs that are alike have the same runs with resets
module _ (d e : Design) (lawful : IsLawful d) (alike : AreAlike d e) (m : Map) (offers : List Row → Offers)
    (gates : List (List Row) → List Row → ℕ → Type 0) (turns : List Row → Bool) where
  stretch-alike : (past : List (List Row)) (rows : List Row) → IsRunBehind e m offers gates past rows
      → IsRunBehind d m offers gates past rows
  stretch-alike past rows is = record {
    marked = is.marked;
    driven = (driven-alike d e lawful alike m rows).1 is.driven;
    ruled = is.ruled;
  }

  from-alike : (past stretches : List (List Row))
      → AreStretches (IsRunBehind e m offers gates) (Turns turns) and_stretch past stretches
      → AreStretches (IsRunBehind d m offers gates) (Turns turns) and_stretch past stretches
  from-alike past [] are = are
  from-alike past (rows ∷ []) are = (stretch-alike past rows are.0, are.1)
  from-alike past (rows ∷ more ∷ rest) are = (
    record {
      is = stretch-alike past rows are.0.is;
      some = are.0.some;
      turns = are.0.turns;
      unturned = are.0.unturned;
    },
    are.1,
    from-alike (and_stretch past rows) (more ∷ rest) are.2,
  )

  pub the-run_alike : (n : ℕ) (past : List (List Row)) (here : List Row) (stop : Option ℕ)
      → AreTheRun e m offers gates turns n past here stop → AreTheRun d m offers gates turns n past here stop
  the-run_alike n past here None (are, before, stable, l) = (from-alike [] (and_stretch past here) are, before, stable, l)
  the-run_alike n past here (Some c) (stops, l) = (
    record {
      next = stops.next;
      played = from-alike [] (and_stretch past (here ++ stops.next ∷ [])) stops.played;
      before = stops.before;
      stable = stops.stable;
      unstable = stops.unstable;
    },
    l,
  )

plain-alike : (d e : Design) → IsLawful d → AreAlike d e → (m : Map) (offer : List Row → ℕ → Offer) (resets : List ℕ) (n : ℕ)
    (run : PlainRun) → IsPlainRun e m offer resets n run → IsPlainRun d m offer resets n run
plain-alike d e lawful alike m offer resets n run is = record {
  past = is.past;
  here = is.here;
  rows = is.rows;
  played = the-run_alike d e lawful alike m (offers_after m.channels offer) (λ before. AllUp m.channels) (is_due_behind resets) n is.past
      is.here (channel_of run.unstable) is.played;
  cycle = is.cycle;
}

module _ (laws : BenchLaws) where
  -- ---- the runs of two benches of the same texts
  played-once : (design m script : List ℕ) (b c : Bench) → IsBench design m script b → IsBench design m script c
      → Meet Same (IsPlayed b.device.design b.device.map b.script) (IsPlayed c.device.design c.device.map c.script)
  played-once design m script b c is is' s t x y (run, plays, ended) played =
      let same = same-bench laws design m script b c is is' in
      let here : IsPlayed c.device.design b.device.map b.script t y =
      subst (λ (k : Script). IsPlayed c.device.design b.device.map k t y) (sym same.script)
      (subst (λ (k : Map). IsPlayed c.device.design k c.script t y) (sym same.device.map) played) in
      let d = b.device.design in
      let offer = script_offer b.script in
      let theirs = plain-alike d c.device.design same.device.ready.lawful same.device.designs b.device.map offer b.script.resets
      b.script.cycles here.0 here.1 in
      let one = (one-plain_run d b.device.map offer b.script.resets same.device.ready
      (script-lasts b.device.map.channels b.script is.plays.2) b.script.cycles).1.1 here.0 run theirs plays in
      ended-once b.device.map run.rows run.unstable s t x y ended
      (subst (λ (r : PlainRun). IsEnded b.device.map r.rows r.unstable t y) one here.2)

  run-texts : (design m script : List ℕ) → OneBy Alike (RunTexts design m script)
  run-texts design m script = step-meets Alike (RefusedTexts design m script) (RefusedTexts design m script) (IsBench design m script)
      (IsBench design m script) (λ (b : Bench). IsPlayed b.device.design b.device.map b.script)
      (λ (b : Bench). IsPlayed b.device.design b.device.map b.script)
      (one-refused_texts laws design m script)
      (λ a x b refused bench. texts-refused laws design m script b bench a x refused)
      (λ a x b refused bench. texts-refused laws design m script b bench a x refused)
      (λ b c is is' s t x y u v. alike s t x y (played-once design m script b c is is' s t x y u v))

  pub one_run : (design m script : List ℕ) (files : Files) → OneBy Alike (Runs design m script (Some files) (λ _. ⊥))
  one_run design m script files = one-texts design m script files RunTexts run-texts
