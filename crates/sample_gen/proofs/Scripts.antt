-- The script of a sample has no finding.
use Rattle.std.proofs.Common.{◌≡◌, ℕ, zero, suc, ◌+◌, ◌*◌, ◌/◌, ◌%◌, ◌≤◌, ◌&&◌, Bool, true, false, cond, not, List, [], ◌∷◌, ◌++◌, Option}
use Rattle.std.proofs.Common.{None, Some, map, drop, refl, sym, ap, subst, ◌∙◌, arith, append_assoc}
use Rattle.std.specs.Prelude.{codes, decimal}
use Rattle.std.specs.Fmt.{digits}
use Rattle.std.specs.List.{flat_map, list_all, range_with_len, prefix_len}
use Rattle.std.proofs.lemmas.Bool.{and_parts, false≢true}
use Rattle.room_ledger.specs.trace_model.Channel.{between}
use Rattle.room_ledger.specs.vidi_bits.Findings.{told_if}
use Rattle.env_script.specs.vidi_lines.declared.lines.Line.{Line}
use Rattle.env_script.specs.vidi_lines.Lines.{file_lines, line_unless_bad, is_bad, words_between}
use Rattle.room_ledger.specs.trace_model.declared.packet.TheConstants.{MOST_CYCLES}
use Rattle.env_script.specs.declared.said.ScriptLine.{ScriptLine}
use Rattle.env_script.specs.declared.said.ScriptLine.TheVariants.{Step, Reset}
use Rattle.env_script.specs.declared.error.ScriptError.{ScriptError}
use Rattle.env_script.specs.declared.error.ScriptError.TheVariants as E
use Rattle.env_script.specs.Used.{is_blank, number_in}
use Rattle.env_script.specs.Forms.{keyword_of}
use Rattle.env_script.specs.Reasons.{read_lines, said, has_form, form_faults, all_said, names_channels, fits_numbers, channel_faults, number_faults}
use Rattle.env_script.specs.Reasons.{faults_behind, faults_from, script_faults}
use Rattle.sample_gen.specs.Sequence.{drawn}
use Rattle.sample_gen.specs.Sample.{cycles, send_line, script}
use Rattle.sample_gen.specs.Accepted.{channels}
use Rattle.sample_gen.proofs.Taken.{is_line, line_taken, each_in, off}

-- ---- lines without findings

-- lines from the one with number m on
record Fine (m : ℕ) (lines : List (Option Line)) : Type 0 where
  forms : form_faults channels m lines ≡ []
  named : channel_faults channels (all_said channels m lines) ≡ []
  fitting : number_faults channels (all_said channels m lines) ≡ []

-- a step on a channel that is there, with numbers that fit; a sample has no reset
abbrev is_fine : ScriptLine → Bool
is_fine (Step l) = names_channels channels l && fits_numbers channels l
is_fine (Reset line time) = false

abbrev line_test : ℕ → Option Line → Bool
line_test m line = has_form channels m line && list_all is_fine (said channels m line)

passing_names : (xs ys : List ScriptLine) → list_all is_fine xs ≡ true → channel_faults channels ys ≡ []
    → channel_faults channels (xs ++ ys) ≡ []
passing_names [] ys all rest = rest
passing_names (Step l ∷ xs) ys all rest =
    let parts = and_parts (is_fine (Step l)) (list_all is_fine xs) all in
    let here = and_parts (names_channels channels l) (fits_numbers channels l) parts.0 in
    ap (λ (t : Bool). told_if (not t) l.line ++ channel_faults channels (xs ++ ys)) here.0 ∙ passing_names xs ys parts.1 rest
passing_names (Reset line time ∷ xs) ys all rest = absurd (false≢true all)

passing_numbers : (xs ys : List ScriptLine) → list_all is_fine xs ≡ true → number_faults channels ys ≡ []
    → number_faults channels (xs ++ ys) ≡ []
passing_numbers [] ys all rest = rest
passing_numbers (Step l ∷ xs) ys all rest =
    let parts = and_parts (is_fine (Step l)) (list_all is_fine xs) all in
    let here = and_parts (names_channels channels l) (fits_numbers channels l) parts.0 in
    ap (λ (t : Bool). told_if (not t) l.line ++ number_faults channels (xs ++ ys)) here.1 ∙ passing_numbers xs ys parts.1 rest
passing_numbers (Reset line time ∷ xs) ys all rest = absurd (false≢true all)

fine_more : (m : ℕ) (line : Option Line) (lines : List (Option Line)) → line_test m line ≡ true → Fine (m + 1) lines → Fine m (line ∷ lines)
fine_more m line lines passes fine =
    let parts = and_parts (has_form channels m line) (list_all is_fine (said channels m line)) passes in
    record {
      forms = ap (λ (t : Bool). told_if (not t) m ++ form_faults channels (m + 1) lines) parts.0 ∙ fine.forms;
      named = passing_names (said channels m line) (all_said channels (m + 1) lines) parts.1 fine.named;
      fitting = passing_numbers (said channels m line) (all_said channels (m + 1) lines) parts.1 fine.fitting;
    }

-- ---- what is sent
abbrev send_text : ℕ → List ℕ
send_text c = codes "a send " ++ decimal c

abbrev send_test : ℕ → ℕ → Bool
send_test m c = is_line (send_text c) && line_test m (line_unless_bad (send_text c))

sends_pass : (m : ℕ) → list_all (send_test m) (range_with_len 0 256) ≡ true
unfolding digits is_bad words_between keyword_of
sends_pass m = refl

send_read : (m y : ℕ) → send_test m (y % 256) ≡ true
send_read m y = each_in (send_test m) 0 256 (y % 256) (sends_pass m) (omega arith) (omega arith)

abbrev last : List ℕ
last = codes "b take all\n"

last_fine : (m : ℕ) → Fine m (read_lines last)
unfolding file_lines is_bad words_between keyword_of
last_fine m = record { forms = refl; named = refl; fitting = refl }

send_spelled : (y : ℕ) (more : List ℕ) → (send_line y ++ more) ++ last ≡ send_text (y % 256) ++ 10 ∷ (more ++ last)
send_spelled y more =
    append_assoc (send_line y) more last
    ∙ append_assoc (send_text (y % 256)) (10 ∷ []) (more ++ last)

sends_fine : (f : ℕ → ℕ) (m a k : ℕ) → Fine m (read_lines (flat_map (λ i. send_line (f i)) (range_with_len a k) ++ last))
sends_fine f m a zero = last_fine m
sends_fine f m a (suc k) =
    let more : List ℕ = flat_map (λ i. send_line (f i)) (range_with_len (a + 1) k) in
    let text : List ℕ = send_text (f a % 256) in
    let parts = and_parts (is_line text) (line_test m (line_unless_bad text)) (send_read m (f a)) in
    subst (λ (t : List ℕ). Fine m (read_lines t)) (sym (send_spelled (f a) more))
    (subst (λ (ls : List (Option Line)). Fine m ls) (sym (line_taken text (more ++ last) parts.0))
    (fine_more m (line_unless_bad text) (read_lines (more ++ last)) parts.1 (sends_fine f (m + 1) (a + 1) k)))

-- ---- the cycles
abbrev cycles_text : ℕ → List ℕ
cycles_text n = codes "cycles " ++ decimal n

abbrev within : Option ℕ → Bool
within None = false
within (Some n) = between 1 MOST_CYCLES n

abbrev cycles_test : ℕ → Bool
cycles_test n = is_line (cycles_text n)
    && (not (is_blank (line_unless_bad (cycles_text n))) && within (number_in (codes "cycles") (line_unless_bad (cycles_text n))))

-- of a hundred samples
abbrev hundred_test : ℕ → Bool
hundred_test h = list_all (λ k. cycles_test (100 + 8 * (100 * h + k))) (range_with_len 0 100)

all_cycles_pass : list_all hundred_test (range_with_len 0 61) ≡ true
unfolding digits is_bad words_between
all_cycles_pass = refl

cycles_read : (s : ℕ) → s ≤ 6000 → cycles_test (cycles s) ≡ true
cycles_read s few =
    let h : ℕ = s / 100 in
    let k : ℕ = s % 100 in
    let e : 100 + 8 * (100 * h + k) ≡ 100 + 8 * s = omega arith in
    sym (ap cycles_test e)
    ∙ each_in (λ j. cycles_test (100 + 8 * (100 * h + j))) 0 100 k
    (each_in hundred_test 0 61 h all_cycles_pass (omega arith) (omega (arith, few))) (omega arith) (omega arith)

abbrev errors : List ℕ → List ℕ → Bool → List ℕ → List ScriptError
errors a b t d = map (λ (m : ℕ). E.Line m) a ++ (map (λ (m : ℕ). E.Channel m) b ++ map (λ (m : ℕ). E.Number m) (told_if (not t) 1 ++ d))

some_cycles : (o : Option ℕ) (lines : List (Option Line)) → within o ≡ true → Fine 2 lines → faults_behind channels 1 o lines ≡ []
some_cycles None lines h fine = absurd (false≢true h)
some_cycles (Some n) lines h fine =
    let said' : List ScriptLine = all_said channels 2 lines in
    ap (λ (a : List ℕ). errors a (channel_faults channels said') (between 1 MOST_CYCLES n) (number_faults channels said')) fine.forms
    ∙ ap (λ (b : List ℕ). errors [] b (between 1 MOST_CYCLES n) (number_faults channels said')) fine.named
    ∙ ap (λ (t : Bool). errors [] [] t (number_faults channels said')) h
    ∙ ap (λ (d : List ℕ). errors [] [] true d) fine.fitting

headed : (head : Option Line) (lines : List (Option Line)) → is_blank head ≡ false → within (number_in (codes "cycles") head) ≡ true
    → Fine 2 lines → script_faults channels (head ∷ lines) ≡ []
headed head lines seen there fine =
    ap (λ (t : Bool). faults_from channels (cond t (1 + prefix_len is_blank lines) 0 + 1)
    (drop (cond t (1 + prefix_len is_blank lines) 0) (head ∷ lines))) seen
    ∙ some_cycles (number_in (codes "cycles") head) lines there fine

pub scripts_read : (s : ℕ) → s ≤ 6000 → script_faults channels (read_lines (script s)) ≡ []
scripts_read s few =
    let text : List ℕ = cycles_text (cycles s) in
    let sends : List ℕ = flat_map (λ i. send_line (drawn s i)) (range_with_len 1 s) in
    let head : Option Line = line_unless_bad text in
    let parts = and_parts (is_line text) (not (is_blank head) && within (number_in (codes "cycles") head)) (cycles_read s few) in
    let more = and_parts (not (is_blank head)) (within (number_in (codes "cycles") head)) parts.1 in
    ap (λ (t : List ℕ). script_faults channels (read_lines t))
    (append_assoc (text ++ 10 ∷ []) sends last ∙ append_assoc text (10 ∷ []) (sends ++ last))
    ∙ ap (script_faults channels) (line_taken text (sends ++ last) parts.0)
    ∙ headed head (read_lines (sends ++ last)) (off (is_blank head) more.0) more.1 (sends_fine (λ i. drawn s i) 2 1 s)
