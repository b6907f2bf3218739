-- What is gathered of the lines so far is right with one line more, the times of reset lines without a fault increase, and what is answered
-- of all lines is the script of the text.
use Rattle.std.proofs.Common.{◌≡◌, ℕ, ◌+◌, ◌<◌, Bool, true, false, not, ◌&&◌, nat_lt, List, [], ◌∷◌, ◌++◌, length, get_or, Option, Some, None}
use Rattle.std.proofs.Common.{Ok, Err, Result, map, drop, codes}
use Rattle.std.proofs.Common.{refl, sym, ap, subst, ◌∙◌, arith, ltb-true, append-nil}
use Rattle.std.specs.List.{flat_map, list_all, prefix_len, All, AllPairs}
use Rattle.std.proofs.lemmas.Grind.{flat_map-append}
use Rattle.std.proofs.lemmas.List.{append_assoc}
use Rattle.std.proofs.lemmas.List.Elements.{All-nil, All-cons}
use Rattle.std.proofs.lemmas.List.Folds.{list_all-append}
use Rattle.std.proofs.lemmas.List.Kept.{AllPairs-cons}
use Rattle.run_model.proofs.vidi_bits_lemmas.Bools.{left_of, right_of}
use Rattle.run_model.specs.trace_model.declared.channel.Channel.{Channel}
use Rattle.run_model.specs.vidi_bits.Findings.{first, or_first, told_if, IsFirst}
use Rattle.run_model.specs.chan_map.vidi_lines.declared.lines.Line.{Line}
use Rattle.env_script.specs.declared.error.ScriptError.{ScriptError}
use Rattle.env_script.specs.declared.error.ScriptError.TheVariants as E
use Rattle.env_script.specs.declared.script.Script.{Script}
use Rattle.env_script.specs.Used.{is_blank, number_in}
use Rattle.env_script.specs.Told.{script_told}
use Rattle.run_model.specs.trace_model.Channel.{between}
use Rattle.env_script.specs.declared.script.TheConstants.{LATEST_RESET}
use Rattle.env_script.specs.declared.gathered.Gathered.{Gathered}
use Rattle.env_script.specs.declared.said.ScriptLine.{ScriptLine}
use Rattle.env_script.specs.declared.said.ScriptLine.TheVariants as L
use Rattle.env_script.specs.declared.said.StepLine.{StepLine}
use Rattle.env_script.specs.declared.script.Step.{Step}
use Rattle.env_script.specs.Reasons.{names_channels, fits_numbers, channel_fault, channel_faults, is_time, number_fault, time_behind}
use Rattle.env_script.specs.Reasons.{faults_after, number_faults, all_said, later_faults, faults_behind, faults_from, script_faults}
use Rattle.env_script.specs.Reads.{is_lawful, last_time, IsGathered, IsScript, SaysBehind, SaysFrom, ReadsScript, Gathers, Finishes}
use Rattle.env_script.specs.Resets.{AreTimes}
use Rattle.env_script.specs.Steps.{step_for, steps_in, time_in, times_of}

-- ---- one line more

first-append : {A : Type 0} (xs ys : List A) → first (xs ++ ys) ≡ or_first (first xs) (first ys)
first-append [] ys = refl
first-append (x ∷ xs) ys = refl

one-more : {A B : Type 0} (f : A → List B) (xs : List A) (x : A) → flat_map f (xs ++ x ∷ []) ≡ flat_map f xs ++ f x
one-more f xs x = flat_map-append f xs (x ∷ []) ∙ ap (λ ys. flat_map f xs ++ ys) (append-nil (f x))

faults-more : (channels : List Channel) (before : ℕ) (lines : List ScriptLine) (l : ScriptLine)
    → faults_after channels before (lines ++ l ∷ []) ≡ faults_after channels before lines ++ number_fault channels (last_time before lines) l
faults-more channels before [] l = append-nil (number_fault channels before l)
faults-more channels before (x ∷ lines) l =
    ap (λ faults. number_fault channels before x ++ faults) (faults-more channels (time_behind before x) lines l)
    ∙ sym (append_assoc (number_fault channels before x) (faults_after channels (time_behind before x) lines)
    (number_fault channels (last_time (time_behind before x) lines) l))

last-more : (before : ℕ) (lines : List ScriptLine) (l : ScriptLine)
    → last_time before (lines ++ l ∷ []) ≡ time_behind (last_time before lines) l
last-more before [] l = refl
last-more before (x ∷ lines) l = last-more (time_behind before x) lines l

first-channel : (channels : List Channel) (lines : List ScriptLine) (l : ScriptLine) (was : Option ℕ)
    → was ≡ first (channel_faults channels lines)
    → or_first was (first (channel_fault channels l)) ≡ first (channel_faults channels (lines ++ l ∷ []))
first-channel channels lines l was is =
    ap (λ o. or_first o (first (channel_fault channels l))) is
    ∙ sym (first-append (channel_faults channels lines) (channel_fault channels l))
    ∙ ap first (sym (one-more (channel_fault channels) lines l))

first-number : (channels : List Channel) (lines : List ScriptLine) (l : ScriptLine) (was : Option ℕ)
    → was ≡ first (number_faults channels lines)
    → or_first was (first (number_fault channels (last_time 0 lines) l)) ≡ first (number_faults channels (lines ++ l ∷ []))
first-number channels lines l was is =
    ap (λ o. or_first o (first (number_fault channels (last_time 0 lines) l))) is
    ∙ sym (first-append (number_faults channels lines) (number_fault channels (last_time 0 lines) l))
    ∙ ap first (sym (faults-more channels 0 lines l))

both-lawful : (channels : List Channel) (lines : List ScriptLine) (l : ScriptLine)
    → list_all (is_lawful channels) (lines ++ l ∷ []) ≡ true
    → (list_all (is_lawful channels) lines ≡ true) × (is_lawful channels l ≡ true)
both-lawful channels lines l lawful =
    let both : (list_all (is_lawful channels) lines && (is_lawful channels l && true)) ≡ true =
    sym (list_all-append (is_lawful channels) lines (l ∷ [])) ∙ lawful in (
      left_of (list_all (is_lawful channels) lines) _ both,
      left_of (is_lawful channels l) true (right_of (list_all (is_lawful channels) lines) _ both),
    )

pub step-noted : (channels : List Channel) (before : List ScriptLine) (l : StepLine) (old new : Gathered) → IsGathered channels before old
    → length new.steps ≡ length old.steps
    → new.channel ≡ or_first old.channel (first (told_if (not (names_channels channels l)) l.line))
    → new.number ≡ or_first old.number (first (told_if (not (fits_numbers channels l)) l.line))
    → new.resets ≡ old.resets → new.last ≡ old.last
    → ((names_channels channels l && fits_numbers channels l) ≡ true → (c : ℕ) → c < length old.steps
    → get_or new.steps c [] ≡ get_or old.steps c [] ++ step_for c l)
    → IsGathered channels (before ++ L.Step l ∷ []) new
step-noted channels before l old new is lists channel number resets last steps = record {
  lists = lists ∙ is.lists;
  channel = channel ∙ first-channel channels before (L.Step l) old.channel is.channel;
  number = number ∙ first-number channels before (L.Step l) old.number is.number;
  steps = λ lawful c within.
      let both = both-lawful channels before (L.Step l) lawful in
      let inside : c < length old.steps = omega (arith, within, is.lists) in
      steps both.1 c inside ∙ ap (λ (xs : List Step). xs ++ step_for c l) (is.steps both.0 c within)
      ∙ sym (one-more (steps_in c) before (L.Step l));
  resets = resets ∙ is.resets ∙ sym (append-nil (times_of before)) ∙ sym (one-more time_in before (L.Step l));
  last = last ∙ is.last ∙ sym (last-more 0 before (L.Step l));
}

pub reset-noted : (channels : List Channel) (before : List ScriptLine) (line time : ℕ) (old new : Gathered)
    → IsGathered channels before old
    → new.steps ≡ old.steps → new.channel ≡ old.channel
    → new.number ≡ or_first old.number (first (told_if (not (is_time old.last time)) line))
    → new.resets ≡ old.resets ++ time ∷ [] → new.last ≡ time
    → IsGathered channels (before ++ L.Reset line time ∷ []) new
reset-noted channels before line time old new is steps channel number resets last =
    let none : or_first old.channel None ≡ old.channel = or-none old.channel in record {
      lists = ap length steps ∙ is.lists;
      channel = channel ∙ sym none ∙ first-channel channels before (L.Reset line time) old.channel is.channel;
      number = number ∙ ap (λ k. or_first old.number (first (told_if (not (is_time k time)) line))) is.last
          ∙ first-number channels before (L.Reset line time) old.number is.number;
      steps = λ lawful c within.
          ap (λ (xs : List (List Step)). get_or xs c []) steps
          ∙ is.steps (both-lawful channels before (L.Reset line time) lawful).0 c within
          ∙ sym (append-nil (flat_map (steps_in c) before)) ∙ sym (one-more (steps_in c) before (L.Reset line time));
      resets = resets ∙ ap (λ (xs : List ℕ). xs ++ time ∷ []) is.resets ∙ sym (one-more time_in before (L.Reset line time));
      last = last ∙ sym (last-more 0 before (L.Reset line time));
    }
  where
    or-none : {A : Type 0} (o : Option A) → or_first o None ≡ o
    or-none None = refl
    or-none (Some x) = refl

-- ---- times without a fault increase

pub told-none : (b : Bool) (n : ℕ) (rest : List ℕ) → told_if (not b) n ++ rest ≡ [] → (b ≡ true) × (rest ≡ [])
told-none true n rest e = (refl, e)
told-none false n rest e = let off : n ∷ rest ≡ [] = e in absurd (cc)

rising : (channels : List Channel) (before : ℕ) (lines : List ScriptLine) → faults_after channels before lines ≡ []
    → All (λ t. before < t) (times_of lines) × AllPairs (λ s t. s < t) (times_of lines)
rising channels before [] none = (All-nil (λ t. before < t), λ i j d lt within. absurd (omega arith))
rising channels before (L.Step l ∷ lines) none =
    rising channels before lines (told-none (fits_numbers channels l) l.line (faults_after channels before lines) none).1
rising channels before (L.Reset line time ∷ lines) none =
    let told = told-none (is_time before time) line (faults_after channels time lines) none in
    let rest = rising channels time lines told.1 in
    let above : before < time = ltb-true before time (right_of (between 1 LATEST_RESET time) (nat_lt before time) told.0) in (
      All-cons (λ t. before < t) time (times_of lines) above
          (λ k d within. (let later : time < get_or (times_of lines) k d = rest.0 k d within in omega arith)),
      AllPairs-cons (λ s t. s < t) time (times_of lines) rest.0 rest.1,
    )

pub are-times : (channels : List Channel) (lines : List ScriptLine) → number_faults channels lines ≡ [] → AreTimes (times_of lines)
are-times channels lines none =
    let up = rising channels 0 lines none in record {
      increasing = up.1;
      some = λ k d within. (let above : 0 < get_or (times_of lines) k d = up.0 k d within in omega arith);
    }

-- ---- the answer over the whole text

abbrev line-error : ℕ → ScriptError
line-error n = E.Line n

first-told : (faults later : List ScriptError) (e : ScriptError) → faults ≡ later → first later ≡ Some e → IsFirst script_told faults e
first-told faults later E.Memory same is = tt
first-told faults later (E.Line n) same is = ap first same ∙ is
first-told faults later (E.Channel n) same is = ap first same ∙ is
first-told faults later (E.Number n) same is = ap first same ∙ is

answered : (channels : List Channel) (lines others : List (Option Line)) (head : Option Line) (cycles n : ℕ) (said : List ScriptLine)
    (r : Result Script ScriptError) → drop (prefix_len is_blank lines) lines ≡ head ∷ others → number_in (codes "cycles") head ≡ Some cycles
    → n ≡ prefix_len is_blank lines + 1 → said ≡ all_said channels (n + 1) others
    → script_faults channels lines ≡ later_faults channels n cycles said → Finishes channels n cycles said r → ReadsScript channels lines r
answered channels lines others head cycles n said (Ok script) first-is cycles-are n-is said-is faults done = (
  faults ∙ done.0,
  (let behind : SaysBehind channels n (number_in (codes "cycles") head) others script =
      subst (λ (o : Option ℕ). SaysBehind channels n o others script) (sym cycles-are)
      (subst (λ (ls : List ScriptLine). IsScript channels cycles ls script) said-is done.1) in
      let from : SaysFrom channels n (drop (prefix_len is_blank lines) lines) script =
      subst (λ (ls : List (Option Line)). SaysFrom channels n ls script) (sym first-is) behind in
      subst (λ k. SaysFrom channels k (drop (prefix_len is_blank lines) lines) script) n-is from),
  done.2,
)
answered channels lines others head cycles n said (Err e) first-is cycles-are n-is said-is faults done =
    first-told (script_faults channels lines) (later_faults channels n cycles said) e faults done

pub text-read : (channels : List Channel) (lines others : List (Option Line)) (head : Option Line) (cycles n : ℕ) (g : Gathered)
    (r : Result Script ScriptError) → drop (prefix_len is_blank lines) lines ≡ head ∷ others → number_in (codes "cycles") head ≡ Some cycles
    → n ≡ prefix_len is_blank lines + 1 → Gathers channels (n + 1) others (Ok g)
    → ((of : List Channel) (said : List ScriptLine) → IsGathered of said g → Finishes of n cycles said r) → ReadsScript channels lines r
text-read channels lines others head cycles n g r first-is cycles-are n-is gathered finishes =
    let said = all_said channels (n + 1) others in
    let faults : script_faults channels lines ≡ later_faults channels n cycles said =
    ap (λ k. faults_from channels k (drop (prefix_len is_blank lines) lines)) (sym n-is)
    ∙ ap (faults_from channels n) first-is ∙ ap (λ o. faults_behind channels n o others) cycles-are
    ∙ ap (λ fs. map line-error fs ++ later_faults channels n cycles said) gathered.0 in
    answered channels lines others head cycles n said r first-is cycles-are n-is refl faults (finishes channels said gathered.1)
