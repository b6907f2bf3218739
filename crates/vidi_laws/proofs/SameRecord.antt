-- `record`: one answer, which leaves one trace.
use Rattle.std.proofs.Common.{◌≡◌, ℕ, ◌≤◌, Bool, not, List, Option, None, Some, Ok, Err, inl, inr, length, sym, ap, subst, ◌∙◌, arith}
use Rattle.vidi_commands.specs.trace_model.declared.channel.Channel.{Channel}
use Rattle.vidi_commands.specs.trace_model.declared.row.Row.{Row}
use Rattle.vidi_commands.specs.trace_model.Recording.{trace_of}
use Rattle.vidi_commands.specs.trace_code.Encoding.{encode}
use Rattle.vidi_commands.specs.chan_map.declared.pins.Map.{Map}
use Rattle.vidi_commands.specs.room_ledger.Gates.{Plan}
use Rattle.vidi_commands.specs.vidi_bits.Findings.{is_nil}
use Rattle.vidi_commands.proofs.env_script_lemmas.Lasting.{script-lasts}
use Rattle.vidi_commands.proofs.vidi_recorder_lemmas.Runs.{one-recorded}
use Rattle.vidi_commands.specs.env_script.declared.error.StallError.TheVariants as stall_errors
use Rattle.vidi_commands.specs.env_script.declared.script.Script.{Script}
use Rattle.vidi_commands.specs.env_script.declared.stalls.Stalls.{Stalls}
use Rattle.vidi_commands.specs.env_script.Fits.{FitsChannels}
use Rattle.vidi_commands.specs.env_script.Plan.{allowance_at}
use Rattle.vidi_commands.specs.env_script.Reasons.{read_lines}
use Rattle.vidi_commands.specs.env_script.Stalls.{ReadsStalls}
use Rattle.vidi_commands.specs.env_script.ScriptOffer.{script_offer}
use Rattle.vidi_commands.specs.env_script.Offered.{offers_after}
use Rattle.vidi_commands.specs.env_script.OneReading.{SamePlan}
use Rattle.vidi_commands.specs.vidi_io.Shelf.{Files, holding}
use Rattle.vidi_commands.specs.vidi_recorder.Course.{Course, course, gates_behind, plan_of, turns_of, IsTheRunOf}
use Rattle.vidi_commands.specs.report_text.declared.reason.Word.TheVariants as words
use Rattle.vidi_commands.specs.report_text.declared.reason.Reason.TheVariants.{StallLine, TooSmall}
use Rattle.vidi_commands.specs.report_text.Reason.{reason_line}
use Rattle.vidi_commands.specs.vidi_bench.declared.bench.Bench.{Bench}
use Rattle.vidi_commands.specs.vidi_bench.vidi_answer.declared.status.Status.{Status}
use Rattle.vidi_commands.specs.vidi_bench.vidi_answer.declared.status.Status.TheVariants.{Done, Refused, Unstable}
use Rattle.vidi_commands.specs.vidi_bench.Steps.{IsRefusal}
use Rattle.vidi_commands.specs.vidi_bench.Reading.{Reading}
use Rattle.vidi_commands.specs.vidi_bench.Benches.{RefusedTexts, IsBench}
use Rattle.vidi_commands.specs.vidi_bench.Design.{text_limit}
use Rattle.vidi_commands.specs.run_commands.Records.{least_for, IsNoPlan, IsTooSmall, RefusedPlan, RefusedPlanned, RefusedStore}
use Rattle.vidi_commands.specs.run_commands.Records.{IsUnrecorded, IsPlanned, IsRecorded, RecordsRun, Records, course_of}
use Rattle.vidi_commands.specs.run_commands.Said.{recorded_line, unstable_line}
use Rattle.vidi_laws.proofs.OneEnding.{Same, Meet, Apart, One, OneBy, one-said, one-read, one-reading-by, reading-apart, step-meets}
use Rattle.vidi_laws.proofs.OneCheck.{Alike, alike}
use Rattle.vidi_laws.proofs.SameRun.{the-run_alike}
use Rattle.vidi_laws.proofs.SameBench.{BenchLaws, SameBench, one-texts, texts-apart, one-refused_texts, texts-refused, same-bench}

same-line : (l k : ℕ) → stall_errors.Line l ≡ stall_errors.Line k → l ≡ k
same-line l k e = cc

no-line : (l : ℕ) → stall_errors.Line l ≡ stall_errors.Memory → ⊥
no-line l e = cc

small-once : (channels : List Channel) (script : Script) (p q : Stalls) → SamePlan p q
    → Meet Same (IsTooSmall channels script p) (IsTooSmall channels script q)
small-once channels script p q same a b x y (small, s) (small', s') =
    let needed = least_for channels script in
    one-said (Refused words.Stalls (TooSmall needed p.capacity)) (reason_line words.Stalls (TooSmall needed p.capacity)) a b x y s
    (subst (λ (n : ℕ). IsRefusal words.Stalls (TooSmall needed n) b y) (sym same.0) s')

pub recorded-once : (channels : List Channel) (rows : List Row) (stop : Option ℕ) → One (IsRecorded channels rows stop)
recorded-once channels rows None a b x y u v =
    one-said Done (recorded_line (length rows) (length (trace_of channels rows).packets)) a b x y u v
recorded-once channels rows (Some c) a b x y u v =
    one-said (Unstable c (length rows)) (unstable_line channels c (length rows)) a b x y u v

-- the same plan, for a course
plan-path : (p q : Stalls) (times : List ℕ) → SamePlan p q → plan_of q times ≡ plan_of p times
plan-path p q times same =
    let capacity = sym same.0 in
    let drains = sym same.1 in
    λ i. record { capacity = capacity i; allowance = allowance_at (drains i); resets = not (is_nil times) }

abbrev pub LeftAlike : Status → Status → List ℕ → List ℕ → Option Files → Option Files → Type 0
LeftAlike a b x y left right = Alike a b x y × (left ≡ right)

module _ (laws : BenchLaws) where
  -- ---- what ends the command before anything is recorded
  no_plan : (bytes : List ℕ) → One (IsNoPlan bytes)
  no_plan bytes a b x y (l, is, s) (k, is', s') = elim (laws.plan (read_lines bytes) (Err (stall_errors.Line l)) (Err (stall_errors.Line k))
      is is') [
        | inl memory ↦ absurd (no-line l memory)
        | inr rest ↦ elim rest [
          | inl memory ↦ absurd (no-line k memory)
          | inr same ↦
              one-said (Refused words.Stalls (StallLine l)) (reason_line words.Stalls (StallLine l)) a b x y s
              (subst (λ (n : ℕ). IsRefusal words.Stalls (StallLine n) b y) (sym (same-line l k same)) s')
        ]
      ]

  plan-apart : (bytes : List ℕ) → Apart (IsNoPlan bytes) (λ (p : Stalls). ReadsStalls (read_lines bytes) (Ok p))
  plan-apart bytes a x p (l, is, s) reads =
      no-line l (laws.plan (read_lines bytes) (Err (stall_errors.Line l)) (Ok p) is reads)

  pub one-plan_of : (bytes : List ℕ) (p q : Stalls) → ReadsStalls (read_lines bytes) (Ok p) → ReadsStalls (read_lines bytes) (Ok q)
      → SamePlan p q
  one-plan_of bytes p q x y = laws.plan (read_lines bytes) (Ok p) (Ok q) x y

  refused-plan : (stalls : List ℕ) (b : Bench) → One (RefusedPlan stalls b)
  refused-plan stalls b = step-meets Same (IsNoPlan stalls) (IsNoPlan stalls) (λ (p : Stalls). ReadsStalls (read_lines stalls) (Ok p))
      (λ (p : Stalls). ReadsStalls (read_lines stalls) (Ok p)) (IsTooSmall b.device.map.channels b.script)
      (IsTooSmall b.device.map.channels b.script) (no_plan stalls) (plan-apart stalls) (plan-apart stalls)
      (λ p q is is'. small-once b.device.map.channels b.script p q (one-plan_of stalls p q is is'))

  -- a bench counts by its map and its script alone
  other-plan : (stalls : List ℕ) (b c : Bench) → SameBench b c → (a : Status) (x : List ℕ) → RefusedPlan stalls c a x → RefusedPlan stalls b a x
  other-plan stalls b c same a x refused =
      subst (λ (s : Script). RefusedStore stalls b.device.map.channels s a x) (sym same.script)
      (subst (λ (m : Map). RefusedStore stalls m.channels c.script a x) (sym same.device.map) refused)

  pub refused-planned : (design m script stalls : List ℕ) → OneBy Alike (RefusedPlanned design m script stalls)
  refused-planned design m script stalls = step-meets Alike (RefusedTexts design m script) (RefusedTexts design m script)
      (IsBench design m script) (IsBench design m script) (RefusedPlan stalls) (RefusedPlan stalls)
      (one-refused_texts laws design m script)
      (λ a x b refused bench. texts-refused laws design m script b bench a x refused)
      (λ a x b refused bench. texts-refused laws design m script b bench a x refused)
      (λ b c is is' s t x y u v. alike s t x y (refused-plan stalls b s t x y u
      (other-plan stalls b c (same-bench laws design m script b c is is') t y v)))

  unrecorded : (design m script stalls : List ℕ) (files : Files)
      → OneBy Alike (IsUnrecorded design m script stalls (Some files) (λ _. ⊥))
  unrecorded design m script stalls files = one-texts design m script files
      (λ d n s. Reading text_limit words.Stalls stalls (Some files) (λ _. ⊥) (RefusedPlanned d n s)) (λ d n s.
      one-reading-by Alike alike text_limit words.Stalls stalls files (RefusedPlanned d n s) (refused-planned d n s))

  -- ---- which isn't there where something is recorded
  module _ (design m script stalls : List ℕ) (b : Bench) (plan : Stalls) (bench : IsBench design m script b)
      (planned : ReadsStalls (read_lines stalls) (Ok plan)) (holds : least_for b.device.map.channels b.script ≤ plan.capacity) (a : Status)
      (x : List ℕ) where
    pub refused-apart : RefusedPlanned design m script stalls a x → ⊥
    refused-apart (inl refused) = texts-refused laws design m script b bench a x refused
    refused-apart (inr (c, other, inl bad)) = plan-apart stalls a x plan bad planned
    refused-apart (inr (c, other, inr (p, reads, (small, said)))) =
        let same = same-bench laws design m script c b other bench in
        let plans = one-plan_of stalls p plan reads planned in
        let there = subst (λ (k : Map). least_for k.channels b.script ≤ plan.capacity) (sym same.device.map) holds in
        let least = subst (λ (k : Script). least_for c.device.map.channels k ≤ plan.capacity) (sym same.script) there in
        let capacity = plans.0 in
        omega (arith, small, least, capacity)

  module _ (design m script stalls : List ℕ) (files : Files) (b : Bench) (plan : Stalls)
      (is : IsPlanned design m script stalls (Some files) b plan) (a : Status) (x : List ℕ) where
    planned-apart : RefusedPlanned is.design_text is.map_text is.script_text is.stalls_text a x → ⊥
    planned-apart =
        refused-apart is.design_text is.map_text is.script_text is.stalls_text b plan is.bench is.planned is.holds a x

    unrecorded-apart : IsUnrecorded design m script stalls (Some files) (λ _. ⊥) a x → ⊥
    unrecorded-apart = texts-apart design m script files
        (λ d n s. Reading text_limit words.Stalls stalls (Some files) (λ _. ⊥) (RefusedPlanned d n s)) is.design_text is.map_text
        is.script_text is.design_read is.map_read is.script_read a x
        (reading-apart text_limit words.Stalls stalls files (RefusedPlanned is.design_text is.map_text is.script_text) is.stalls_text
        is.stalls_read a x planned-apart)

  -- ---- what is recorded
  -- two plannings of the same files
  planned-once : (design m script stalls : List ℕ) (files : Files) (b c : Bench) (p q : Stalls)
      → IsPlanned design m script stalls (Some files) b p → IsPlanned design m script stalls (Some files) c q
      → SameBench b c × SamePlan p q
  planned-once design m script stalls files b c p q x y =
      let d = one-read text_limit design files y.design_text x.design_text y.design_read x.design_read in
      let n = one-read text_limit m files y.map_text x.map_text y.map_read x.map_read in
      let s = one-read text_limit script files y.script_text x.script_text y.script_read x.script_read in
      let t = one-read text_limit stalls files y.stalls_text x.stalls_text y.stalls_read x.stalls_read in
      let bench : IsBench x.design_text x.map_text x.script_text c =
      subst (λ (text : List ℕ). IsBench x.design_text x.map_text text c) s
      (subst (λ (text : List ℕ). IsBench x.design_text text y.script_text c) n
      (subst (λ (text : List ℕ). IsBench text y.map_text y.script_text c) d y.bench)) in
      let planned = subst (λ (text : List ℕ). ReadsStalls (read_lines text) (Ok q)) t y.planned in (
        same-bench laws x.design_text x.map_text x.script_text b c x.bench bench,
        one-plan_of x.stalls_text p q x.planned planned,
      )

  -- the course of one of them, with the other design
  abbrev beside : Bench → Stalls → Bench → Course
  beside b p c = course c.device.design b.device.map (script_offer b.script) p b.script.resets b.script.cycles

  pub course-beside : (P : Course → Type 0) (b c : Bench) (p q : Stalls) → SameBench b c → SamePlan p q → P (course_of c q)
      → P (beside b p c)
  course-beside P b c p q same plans r =
      let plan = plan-path p q b.script.resets plans in
      let d = c.device.design in
      let map-there = subst (λ (k : Map). P (course d k (script_offer c.script) q c.script.resets c.script.cycles)) (sym same.device.map) r in
      let script-there = subst (λ (k : Script). P (course d b.device.map (script_offer k) q k.resets k.cycles)) (sym same.script) map-there in
      subst (λ (k : Plan). P (record {
        design = c.device.design;
        bound = b.device.map;
        offers = offers_after b.device.map.channels (script_offer b.script);
        plan = k;
        times = b.script.resets;
        cycles = b.script.cycles;
      })) plan script-there

  pub run-once : (b c : Bench) (p : Stalls) → SameBench b c → FitsChannels b.device.map.channels b.script → (rows others : List Row)
      (stop end : Option ℕ) → IsTheRunOf (course_of b p) rows stop → IsTheRunOf (beside b p c) others end
      → (others ≡ rows) × (end ≡ stop)
  run-once b c p same fits rows others stop end run run' =
      let m = b.device.map in
      let offer = script_offer b.script in
      let theirs : IsTheRunOf (course_of b p) others end = record {
        past = run'.past;
        here = run'.here;
        rows_are = run'.rows_are;
        run = the-run_alike b.device.design c.device.design same.device.ready.lawful same.device.designs m (offers_after m.channels offer)
            (gates_behind m.channels (plan_of p b.script.resets)) (turns_of (course_of b p)) b.script.cycles run'.past run'.here end run'.run;
      } in
      (one-recorded b.device.design m offer p b.script.resets b.script.cycles same.device.ready (script-lasts m.channels b.script fits)).1.1
      others rows end stop theirs run

  runs-once : (b c : Bench) (p : Stalls) → SameBench b c → FitsChannels b.device.map.channels b.script → (trace : List ℕ) (files : Files) (P Q : Bool → Type 0) (s t : Status)
      (x y : List ℕ) (left right : Option Files) → RecordsRun (course_of b p) trace (Some files) P s x left
      → RecordsRun (beside b p c) trace (Some files) Q t y right → LeftAlike s t x y left right
  runs-once b c p same fits trace files P Q s t x y left right (rows, stop, (run, leaves, _), said) (others, end, (run', leaves', _), said') =
      let channels = b.device.map.channels in
      let one = run-once b c p same fits rows others stop end run run' in
      let told = subst (λ (o : Option ℕ). IsRecorded channels rows o t y) one.1
      (subst (λ (rs : List Row). IsRecorded channels rs end t y) one.0 said') in (
        alike s t x y (recorded-once channels rows stop s t x y said told),
        leaves ∙ ap (λ (rs : List Row). holding (Some files) trace (encode (trace_of channels rs))) (sym one.0) ∙ sym leaves',
      )

  pub one_record : (design m script stalls trace : List ℕ) (files : Files) (P Q : Bool → Type 0) (a b : Status) (x y : List ℕ)
      (left right : Option Files) → Records design m script stalls trace (Some files) (λ _. ⊥) P a x left
      → Records design m script stalls trace (Some files) (λ _. ⊥) Q b y right → LeftAlike a b x y left right
  one_record design m script stalls trace files P Q a b x y left right (inl (u, (l, _))) (inl (v, (r, _))) =
      (unrecorded design m script stalls files a b x y u v, l ∙ sym r)
  one_record design m script stalls trace files P Q a b x y left right (inl (u, l)) (inr (c, q, planned, records)) =
      absurd (unrecorded-apart design m script stalls files c q planned a x u)
  one_record design m script stalls trace files P Q a b x y left right (inr (c, p, planned, records)) (inl (v, r)) =
      absurd (unrecorded-apart design m script stalls files c p planned b y v)
  one_record design m script stalls trace files P Q a b x y left right (inr (c, p, planned, records)) (inr (e, q, planned', records')) =
      let same = planned-once design m script stalls files c e p q planned planned' in
      runs-once c e p same.0 planned.bench.plays.2 trace files P Q a b x y left right records
      (course-beside (λ (w : Course). RecordsRun w trace (Some files) Q b y right) c e p q same.0 same.1 records')
