use Rattle.std.proofs.Common.{rules, ◌≡◌, ◌-◌, ◌∷◌, List, Option, length, take, drop, sym, ap, ◌∙◌, arith}
use Rattle.std.specs.List.{prefix_len}
use Rattle.std.proofs.lemmas.List.{take_all, length-drop}
use Rattle.run_model.specs.chan_map.vidi_lines.declared.lines.Line.{Line}
use Rattle.env_script.specs.Reasons.{read_lines}
use Rattle.env_script.specs.Used.{is_blank}
use Rattle.env_script.proofs.Gathering.{text-read}
use Rattle.env_script.proofs.reading.read_script.Goals as goal

pub returns : goal.returns
returns c =
    let lines = c.as_slice-2.result.now in let blank = c.blank_lines-blank.result in
    let same : lines ≡ read_lines c.args.bytes.now = c.as_slice-2.ensures ∙ c.in_ok-lines.ensures.lines in
    let passed : blank ≡ prefix_len is_blank lines =
    c.blank_lines-blank.ensures.value ∙ ap (prefix_len is_blank) (c.as_slice.ensures ∙ sym c.as_slice-2.ensures) in
    let whole : take (length lines - blank) (drop blank lines) ≡ drop blank lines =
    take_all (length lines - blank) (drop blank lines) (omega (arith, length-drop blank lines)) in
    let first-is : drop (prefix_len is_blank (read_lines c.args.bytes.now)) (read_lines c.args.bytes.now)
    ≡ c.in-Some.head.now ∷ c.in-Some.others.now =
    ap (λ (ls : List (Option Line)). drop (prefix_len is_blank ls) ls) (sym same) ∙ ap (λ n. drop n lines) (sym passed) ∙ sym whole
    ∙ c.in-Some.ensures.cases.0 in
    text-read c.args.map.now.channels (read_lines c.args.bytes.now) c.in-Some.others.now c.in-Some.head.now c.in-Some-number_in.cycles _
    c.in_ok-gathered.gathered c.finished.result first-is (search rules) (search rules) (search rules) c.finished.ensures
