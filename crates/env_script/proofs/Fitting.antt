-- What is gathered without a fault is a script that fits the channels.
use Rattle.std.proofs.Common.{◌≡◌, ◌≢◌, ℕ, zero, suc, ◌+◌, ◌<◌, ◌≤◌, ◌^◌, Bool, true, false, not, ◌&&◌, List, [], ◌∷◌, ◌++◌, map, length}
use Rattle.std.proofs.Common.{get_or, drop, Option, Some, None, Ok, Err, refl, sym, ap, subst, ◌∙◌, arith, ltb, ltb-true, leb-true}
use Rattle.std.proofs.Common.{eqb-true}
use Rattle.std.proofs.Common.{append-nil}
use Rattle.std.specs.Prelude.{slice_get, is_some, cond}
use Rattle.std.specs.List.{list_all}
use Rattle.std.specs.Option.{option_to_list}
use Rattle.std.proofs.lemmas.List.{drop_more}
use Rattle.std.proofs.lemmas.Option.{slice_get_within}
use Rattle.std.proofs.lemmas.Bool.{and_from, and_right}
use Rattle.run_model.specs.trace_model.Channel.{between}
use Rattle.run_model.proofs.vidi_bits_lemmas.Bools.{left_of, right_of}
use Rattle.run_model.specs.trace_model.declared.channel.Channel.{Channel}
use Rattle.run_model.specs.trace_model.declared.channel.Dir.{Dir}
use Rattle.run_model.specs.trace_model.declared.channel.Dir.TheVariants.{Inward, Outward}
use Rattle.run_model.specs.trace_model.Packet.{Fit}
use Rattle.run_model.specs.vidi_bits.Findings.{first, told_if}
use Rattle.run_model.specs.trace_model.declared.packet.TheConstants.{MOST_CYCLES}
use Rattle.env_script.specs.declared.error.ScriptError.{ScriptError}
use Rattle.env_script.specs.declared.error.ScriptError.TheVariants as E
use Rattle.env_script.specs.declared.gathered.Gathered.{Gathered}
use Rattle.env_script.specs.declared.said.Said.{Said}
use Rattle.env_script.specs.declared.said.Said.TheVariants.{Send, Take, TakeAll, Wait, After}
use Rattle.env_script.specs.declared.said.ScriptLine.{ScriptLine}
use Rattle.env_script.specs.declared.said.ScriptLine.TheVariants as L
use Rattle.env_script.specs.declared.script.Step.{Step}
use Rattle.env_script.specs.declared.script.Step.TheVariants as S
use Rattle.env_script.specs.declared.script.Script.{Script}
use Rattle.env_script.specs.Reasons.{channel_at, is_inward, suits, suits_channel, names_channels, is_small, fits_ports}
use Rattle.env_script.specs.Reasons.{fits_content}
use Rattle.env_script.specs.Reasons.{fits_channel, fits_numbers, channel_faults, is_time, faults_after, number_faults, later_faults}
use Rattle.env_script.specs.Reads.{is_lawful, IsGathered, Finishes, IsFirstLine}
use Rattle.env_script.specs.Fits.{steps_of, StepFits}
use Rattle.env_script.specs.Steps.{made, is_of, steps_for, times_of}
use Rattle.env_script.specs.Resets.{AreTimes}
use Rattle.env_script.proofs.Gathering.{told-none, are-times}

-- ---- the tests as facts

some_between : (low high n : ℕ) → between low high n ≡ true → low ≤ n
some_between low high n e = leb-true low n (left_of _ _ e)

few_between : (low high n : ℕ) → between low high n ≡ true → n ≤ high
few_between low high n e = leb-true n high (right_of _ _ e)

inward_is : (d : Dir) → is_inward d ≡ true → d ≡ Inward
inward_is Inward e = refl
inward_is Outward e = let off : false ≡ true = e in absurd (cc)

outward_is : (d : Dir) → not (is_inward d) ≡ true → d ≡ Outward
outward_is Inward e = let off : false ≡ true = e in absurd (cc)
outward_is Outward e = refl

ports_fit : (widths content : List ℕ) → fits_ports widths content ≡ true → Fit widths content
ports_fit [] [] e = tt
ports_fit [] (x ∷ xs) e = let off : false ≡ true = e in absurd (cc)
ports_fit (w ∷ ws) [] e = let off : false ≡ true = e in absurd (cc)
ports_fit (w ∷ ws) (x ∷ xs) e = (ltb-true x (2 ^ w) (left_of _ _ e), ports_fit ws xs (right_of _ _ e))

some_at : (channels : List Channel) (x : ℕ) (at : Option Channel) → slice_get channels x ≡ at → is_some at ≡ true → x < length channels
some_at channels x None is e = let off : false ≡ true = e in absurd (cc)
some_at channels x (Some channel) is e = slice_get_within channels x channel is

some_within : (channels : List Channel) (x : ℕ) → is_some (slice_get channels x) ≡ true → x < length channels
some_within channels x e = some_at channels x (slice_get channels x) refl e

-- ---- a lawful line's step fits

step_fits : (channels : List Channel) (channel : Channel) (said : Said) (step : Step) → suits channels channel.dir said ≡ true
    → is_small said ≡ true → fits_content channel.widths said ≡ true → made said ≡ Some step → StepFits channels channel step
step_fits channels channel (Send content) step names small fits is =
    let same : S.Send content ≡ step = cc in
    subst (StepFits channels channel) same (inward_is channel.dir names, ports_fit channel.widths content fits)
step_fits channels channel (Take count) step names small fits is =
    let same : S.Take count ≡ step = cc in
    subst (StepFits channels channel) same (outward_is channel.dir names, some_between 1 4294967295 count small)
step_fits channels channel TakeAll step names small fits is =
    let same : S.TakeAll ≡ step = cc in subst (StepFits channels channel) same (outward_is channel.dir names)
step_fits channels channel (Wait cycles) step names small fits is =
    let same : S.Wait cycles ≡ step = cc in
    subst (StepFits channels channel) same (some_between 1 MOST_CYCLES cycles small, few_between 1 MOST_CYCLES cycles small)
step_fits channels channel (After None count) step names small fits is = let off : None ≡ Some step = is in absurd (cc)
step_fits channels channel (After (Some x) count) step names small fits is =
    let same : S.After x count ≡ step = cc in
    subst (StepFits channels channel) same (some_within channels x names, some_between 1 4294967295 count small)

line_fits : (channels : List Channel) (channel : Channel) (at : Option Channel) (said : Said) (step : Step) → at ≡ Some channel
    → (suits_channel channels at said && (is_small said && fits_channel at said)) ≡ true → made said ≡ Some step
    → StepFits channels channel step
line_fits channels channel None said step at lawful is = let off : None ≡ Some channel = at in absurd (cc)
line_fits channels channel (Some x) said step at lawful is =
    let same : x ≡ channel = cc in
    let numbers = right_of (suits channels x.dir said) (is_small said && fits_content x.widths said) lawful in
    subst (λ (y : Channel). StepFits channels y step) same
    (step_fits channels x said step (left_of (suits channels x.dir said) _ lawful) (left_of (is_small said) _ numbers)
    (right_of (is_small said) _ numbers) is)

abbrev pub AllFit : List Channel → Channel → List Step → Type 0
AllFit channels channel steps = (j : ℕ) (step : Step) → slice_get steps j ≡ Some step → StepFits channels channel step

none_fit : (channels : List Channel) (channel : Channel) → AllFit channels channel []
none_fit channels channel j step at = let off : None ≡ Some step = at in absurd (cc)

more_at : (channels : List Channel) (channel : Channel) (x : Step) (steps : List Step) → StepFits channels channel x
    → AllFit channels channel steps → AllFit channels channel (x ∷ steps)
more_at channels channel x steps fits rest zero step at = let same : x ≡ step = cc in subst (StepFits channels channel) same fits
more_at channels channel x steps fits rest (suc j) step at = rest j step at

more_fit : (channels : List Channel) (channel : Channel) (one : Option Step) (steps : List Step)
    → ((step : Step) → one ≡ Some step → StepFits channels channel step)
    → AllFit channels channel steps → AllFit channels channel (option_to_list one ++ steps)
more_fit channels channel None steps fits rest = rest
more_fit channels channel (Some x) steps fits rest = more_at channels channel x steps (fits x refl) rest

of_more : (channels : List Channel) (channel : Channel) (c : ℕ) (place : Option ℕ) (said : Said) (steps : List Step) (t : Bool)
    → is_of c place ≡ t → slice_get channels c ≡ Some channel
    → (suits_channel channels (channel_at channels place) said
    && (is_small said && fits_channel (channel_at channels place) said)) ≡ true
    → AllFit channels channel steps → AllFit channels channel (cond t (option_to_list (made said)) [] ++ steps)
of_more channels channel c place said steps false of at lawful rest = rest
of_more channels channel c None said steps true of at lawful rest = let off : false ≡ true = of in absurd (cc)
of_more channels channel c (Some d) said steps true of at lawful rest =
    let same : c ≡ d = eqb-true c d of in
    more_fit channels channel (made said) steps
    (λ step is. line_fits channels channel (slice_get channels d) said step (ap (slice_get channels) (sym same) ∙ at) lawful is) rest

steps_fit : (channels : List Channel) (channel : Channel) (c : ℕ) (lines : List ScriptLine) → slice_get channels c ≡ Some channel
    → list_all (is_lawful channels) lines ≡ true → AllFit channels channel (steps_for c lines)
steps_fit channels channel c [] at lawful = none_fit channels channel
steps_fit channels channel c (L.Step l ∷ lines) at lawful =
    of_more channels channel c l.channel l.said (steps_for c lines) (is_of c l.channel) refl at
    (left_of (is_lawful channels (L.Step l)) _ lawful)
    (steps_fit channels channel c lines at (right_of (is_lawful channels (L.Step l)) _ lawful))
steps_fit channels channel c (L.Reset line time ∷ lines) at lawful = steps_fit channels channel c lines at lawful

-- ---- without a fault each line is lawful

all_lawful : (channels : List Channel) (before : ℕ) (lines : List ScriptLine) → channel_faults channels lines ≡ []
    → faults_after channels before lines ≡ [] → list_all (is_lawful channels) lines ≡ true
all_lawful channels before [] names numbers = refl
all_lawful channels before (L.Step l ∷ lines) names numbers =
    let n = told-none (names_channels channels l) l.line (channel_faults channels lines) names in
    let f = told-none (fits_numbers channels l) l.line (faults_after channels before lines) numbers in
    and_from (is_lawful channels (L.Step l)) _ (and_from (names_channels channels l) _ n.0 f.0)
    (all_lawful channels before lines n.1 f.1)
all_lawful channels before (L.Reset line time ∷ lines) names numbers =
    let f = told-none (is_time before time) line (faults_after channels time lines) numbers in
    all_lawful channels time lines names f.1

-- ---- the answer at the end

first_told : {A B : Type 0} (f : A → B) (xs : List A) (ys : List B) (x : A) → Some x ≡ first xs → first (map f xs ++ ys) ≡ Some (f x)
first_told f [] ys x e = let off : Some x ≡ None = e in absurd (cc)
first_told f (y ∷ xs) ys x e = let same : x ≡ y = cc in ap (λ z. Some (f z)) (sym same)

none_told : {A : Type 0} (xs : List A) → None ≡ first xs → xs ≡ []
none_told [] e = refl
none_told (x ∷ xs) e = let off : None ≡ Some x = e in absurd (cc)

abbrev channel_error : ℕ → ScriptError
channel_error m = E.Channel m

abbrev number_error : ℕ → ScriptError
number_error m = E.Number m

abbrev numbers_at_fault : List Channel → ℕ → ℕ → List ScriptLine → List ℕ
numbers_at_fault channels n cycles lines = told_if (not (between 1 MOST_CYCLES cycles)) n ++ number_faults channels lines

-- behind channels without a fault the first fault is that of the numbers
behind : (channels : List Channel) (n cycles : ℕ) (lines : List ScriptLine) → channel_faults channels lines ≡ []
    → later_faults channels n cycles lines ≡ map number_error (numbers_at_fault channels n cycles lines)
behind channels n cycles lines none = ap (λ xs. map channel_error xs ++ map number_error (numbers_at_fault channels n cycles lines)) none

pub channel_refused : (channels : List Channel) (n cycles : ℕ) (lines : List ScriptLine) (line : ℕ)
    → Some line ≡ first (channel_faults channels lines) → Finishes channels n cycles lines (Err (E.Channel line))
channel_refused channels n cycles lines line e = first_told channel_error (channel_faults channels lines) _ line e

number_first : (channels : List Channel) (n cycles : ℕ) (lines : List ScriptLine) (line : ℕ)
    → None ≡ first (channel_faults channels lines)
    → Some line ≡ first (numbers_at_fault channels n cycles lines) → Finishes channels n cycles lines (Err (E.Number line))
number_first channels n cycles lines line none e =
    ap first (behind channels n cycles lines (none_told _ none) ∙ sym (append-nil _))
    ∙ first_told number_error (numbers_at_fault channels n cycles lines) [] line e

pub cycles_refused : (channels : List Channel) (n cycles : ℕ) (lines : List ScriptLine)
    → None ≡ first (channel_faults channels lines)
    → between 1 MOST_CYCLES cycles ≡ false → Finishes channels n cycles lines (Err (E.Number n))
cycles_refused channels n cycles lines none e =
    number_first channels n cycles lines n none (ap (λ b. first (told_if (not b) n ++ number_faults channels lines)) (sym e))

pub number_refused : (channels : List Channel) (n cycles : ℕ) (lines : List ScriptLine) (line : ℕ)
    → None ≡ first (channel_faults channels lines)
    → between 1 MOST_CYCLES cycles ≡ true → Some line ≡ first (number_faults channels lines)
    → Finishes channels n cycles lines (Err (E.Number line))
number_refused channels n cycles lines line none fine e =
    number_first channels n cycles lines line none (e ∙ ap (λ b. first (told_if (not b) n ++ number_faults channels lines)) (sym fine))

pub script_made : (channels : List Channel) (n cycles : ℕ) (lines : List ScriptLine) (g : Gathered) (script : Script)
    → IsGathered channels lines g
    → g.channel ≡ None → g.number ≡ None → between 1 MOST_CYCLES cycles ≡ true → script.cycles ≡ cycles → script.steps ≡ g.steps
    → script.resets ≡ g.resets
    → Finishes channels n cycles lines (Ok script)
script_made channels n cycles lines g script is no_channel no_number fine cycles_are steps_are resets_are =
    let named : channel_faults channels lines ≡ [] = none_told _ (sym no_channel ∙ is.channel) in
    let fitting : number_faults channels lines ≡ [] = none_told _ (sym no_number ∙ is.number) in
    let lawful = all_lawful channels 0 lines named fitting in
    let lists : length script.steps ≡ length channels = ap length steps_are ∙ is.lists in
    let steps : (c : ℕ) → c < length channels → steps_of script c ≡ steps_for c lines =
    λ c within. ap (λ (xs : List (List Step)). get_or xs c []) steps_are ∙ is.steps lawful c within in
    let resets : script.resets ≡ times_of lines = resets_are ∙ is.resets in (
      behind channels n cycles lines named
          ∙ ap (λ b. map number_error (told_if (not b) n ++ number_faults channels lines)) fine ∙ ap (map number_error) fitting,
      record { cycles_are = cycles_are; lists = lists; steps = steps; resets_are = resets },
      record {
        lists = lists;
        some = omega (arith, some_between 1 MOST_CYCLES cycles fine, cycles_are);
        few = omega (arith, few_between 1 MOST_CYCLES cycles fine, cycles_are);
        fits = λ c channel at. subst (AllFit channels channel) (sym (steps c (slice_get_within channels c channel at)))
            (steps_fit channels channel c lines at lawful);
        times = subst AreTimes (sym resets) (are-times channels lines fitting);
      },
    )

-- ---- the ports of a content, one by one

pub ports_more : (widths content : List ℕ) (i : ℕ) → length widths ≡ length content → i < length content
    → fits_ports (drop i widths) (drop i content) ≡ (ltb (get_or content i 0) (2 ^ get_or widths i 0)
    && fits_ports (drop (i + 1) widths) (drop (i + 1) content))
ports_more widths content i same within =
    let w : i < length widths = omega arith in
    ap (λ ws. fits_ports ws (drop i content)) (drop_more widths i 0 w)
    ∙ ap (λ xs. fits_ports (get_or widths i 0 ∷ drop (i + 1) widths) xs) (drop_more content i 0 within)

pub ports_differ : (widths content : List ℕ) → length widths ≢ length content → fits_ports widths content ≡ false
ports_differ [] [] differ = absurd (differ refl)
ports_differ [] (x ∷ xs) differ = refl
ports_differ (w ∷ ws) [] differ = refl
ports_differ (w ∷ ws) (x ∷ xs) differ =
    and_right (ltb x (2 ^ w)) (fits_ports ws xs) (ports_differ ws xs (λ same. differ (omega (arith, same))))

-- ---- a line that is refused

pub line_refused : (faults rest : List ℕ) (e : ScriptError) → IsFirstLine faults e → IsFirstLine (faults ++ rest) e
line_refused faults rest E.Memory is = tt
line_refused [] rest (E.Line line) is = let off : None ≡ Some line = is in absurd (cc)
line_refused (x ∷ faults) rest (E.Line line) is = is
line_refused faults rest (E.Channel line) is = is
line_refused faults rest (E.Number line) is = is
