-- The plan of a sample has no finding.
use Rattle.std.proofs.Common.{◌≡◌, ℕ, zero, suc, ◌+◌, ◌%◌, ◌&&◌, Bool, true, false, cond, not, List, [], ◌∷◌, ◌++◌, Option, None, Some}
use Rattle.std.proofs.Common.{is_some, drop, refl, sym, ap, ◌∙◌, arith, append_assoc}
use Rattle.std.specs.Prelude.{codes, decimal}
use Rattle.std.specs.Fmt.{digits}
use Rattle.std.specs.List.{flat_map, list_all, range_with_len, prefix_len}
use Rattle.std.proofs.lemmas.Bool.{and_parts, false≢true}
use Rattle.room_ledger.specs.vidi_bits.Findings.{told_if}
use Rattle.env_script.specs.vidi_lines.declared.lines.Line.{Line}
use Rattle.env_script.specs.vidi_lines.Lines.{line_unless_bad, is_bad, words_between}
use Rattle.env_script.specs.Used.{is_blank}
use Rattle.env_script.specs.Reasons.{read_lines}
use Rattle.env_script.specs.Stalls.{capacity_in, is_drain, drain_faults, plan_behind, plan_from, plan_faults}
use Rattle.sample_gen.specs.Sequence.{drawn}
use Rattle.sample_gen.specs.Sample.{drain_line, stalls}
use Rattle.sample_gen.proofs.Taken.{is_line, line_taken, no_lines, each_in, off}

abbrev drain_text : ℕ → List ℕ
drain_text b = codes "drain " ++ decimal b ++ codes " 1"

abbrev drain_test : ℕ → Bool
drain_test b = is_line (drain_text b) && is_drain (line_unless_bad (drain_text b))

drains_pass : list_all drain_test (range_with_len 1 8) ≡ true
unfolding digits is_bad words_between
drains_pass = refl

drain_read : (y : ℕ) → drain_test (1 + y % 8) ≡ true
drain_read y = each_in drain_test 1 8 (1 + y % 8) drains_pass (omega arith) (omega arith)

drain_spelled : (y : ℕ) (rest : List ℕ) → drain_line y ++ rest ≡ drain_text (1 + y % 8) ++ 10 ∷ rest
drain_spelled y rest =
    append_assoc (codes "drain " ++ decimal (1 + y % 8)) (codes " 1\n") rest
    ∙ sym (append_assoc (codes "drain " ++ decimal (1 + y % 8)) (codes " 1") (10 ∷ rest))

drains_read : (f : ℕ → ℕ) (n a k : ℕ) → drain_faults n (read_lines (flat_map (λ i. drain_line (f i)) (range_with_len a k))) ≡ []
drains_read f n a zero = ap (drain_faults n) no_lines
drains_read f n a (suc k) =
    let rest : List ℕ = flat_map (λ i. drain_line (f i)) (range_with_len (a + 1) k) in
    let text : List ℕ = drain_text (1 + f a % 8) in
    let parts = and_parts (is_line text) (is_drain (line_unless_bad text)) (drain_read (f a)) in
    ap (λ (t : List ℕ). drain_faults n (read_lines t)) (drain_spelled (f a) rest)
    ∙ ap (drain_faults n) (line_taken text rest parts.0)
    ∙ ap (λ (t : Bool). told_if (not t) n ++ drain_faults (n + 1) (read_lines rest)) parts.1
    ∙ drains_read f (n + 1) (a + 1) k

abbrev capacity_text : ℕ → List ℕ
capacity_text n = codes "capacity " ++ decimal n

abbrev capacity_test : ℕ → Bool
capacity_test n = is_line (capacity_text n)
    && (not (is_blank (line_unless_bad (capacity_text n))) && is_some (capacity_in (line_unless_bad (capacity_text n))))

capacities_pass : list_all capacity_test (range_with_len 22 32) ≡ true
unfolding digits is_bad words_between
capacities_pass = refl

capacity_read : (s : ℕ) → capacity_test (22 + s % 32) ≡ true
capacity_read s = each_in capacity_test 22 32 (22 + s % 32) capacities_pass (omega arith) (omega arith)

some_capacity : (n : ℕ) (o : Option ℕ) (lines : List (Option Line)) → is_some o ≡ true → plan_behind n o lines ≡ drain_faults (n + 1) lines
some_capacity n None lines h = absurd (false≢true h)
some_capacity n (Some x) lines h = refl

-- a first line with words is the one that counts
headed : (head : Option Line) (lines : List (Option Line)) → is_blank head ≡ false → is_some (capacity_in head) ≡ true
    → plan_faults (head ∷ lines) ≡ drain_faults 2 lines
headed head lines seen there =
    ap (λ (t : Bool). plan_from (cond t (1 + prefix_len is_blank lines) 0 + 1) (drop (cond t (1 + prefix_len is_blank lines) 0) (head ∷ lines))) seen
    ∙ some_capacity 1 (capacity_in head) lines there

pub plans_read : (s : ℕ) → plan_faults (read_lines (stalls s)) ≡ []
plans_read s =
    let text : List ℕ = capacity_text (22 + s % 32) in
    let rest : List ℕ = flat_map (λ i. drain_line (drawn s (s + i))) (range_with_len 1 8) in
    let parts = and_parts (is_line text) (not (is_blank (line_unless_bad text)) && is_some (capacity_in (line_unless_bad text)))
    (capacity_read s) in
    let more = and_parts (not (is_blank (line_unless_bad text))) (is_some (capacity_in (line_unless_bad text))) parts.1 in
    ap (λ (t : List ℕ). plan_faults (read_lines t)) (append_assoc text (10 ∷ []) rest)
    ∙ ap plan_faults (line_taken text rest parts.0)
    ∙ headed (line_unless_bad text) (read_lines rest) (off (is_blank (line_unless_bad text)) more.0) more.1
    ∙ drains_read (λ i. drawn s (s + i)) 2 1 8
