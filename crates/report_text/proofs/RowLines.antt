-- The content of a channel in a row, read channel by channel.
use Rattle.std.proofs.Common.{◌≡◌, ℕ, ◌+◌, ◌<◌, List, [], ◌∷◌, ◌++◌, Option, Some, length, get_or, take, drop, cond}
use Rattle.std.proofs.Common.{slice_get, codes, decimal, refl, sym, ap, ◌∙◌}
use Rattle.std.proofs.lemmas.List.{take_more, drop-drop, append-nil, length-append}
use Rattle.std.proofs.lemmas.Option.{slice_get_read}
use Rattle.std.proofs.lemmas.List.Concat.{flat_map-append}
use Rattle.text_page.specs.vidi_io.vidi_bits.Number.{has}
use Rattle.run_model.specs.trace_model.declared.channel.Channel.{Channel}
use Rattle.run_model.specs.trace_model.declared.row.Row.{Row}
use Rattle.run_model.specs.trace_model.Packet.{widths_of}
use Rattle.run_model.specs.trace_model.Row.{all_widths, content_at}
use Rattle.report_text.specs.Text.{newline, spaced}
use Rattle.report_text.specs.Rows.{row_start}

widths-more : (cs : List Channel) (i : ℕ) (c : Channel) → i < length cs → c ≡ get_or cs i c
    → all_widths (take (i + 1) cs) ≡ all_widths (take i cs) ++ c.widths
widths-more cs i c l e =
    let here : take (i + 1) cs ≡ take i cs ++ c ∷ [] = take_more cs i c l ∙ ap (λ y. take i cs ++ y ∷ []) (sym e) in
    ap all_widths here ∙ flat_map-append (λ (x : Channel). x.widths) (take i cs) (c ∷ [])
    ∙ ap (λ ws. all_widths (take i cs) ++ ws) (append-nil c.widths)

content-there : (channels : List Channel) (contents : List ℕ) (i : ℕ) (channel : Channel) (rest content : List ℕ) → i < length channels
    → channel ≡ get_or channels i channel → rest ≡ drop (length (all_widths (take i channels))) contents
    → content ≡ take (length channel.widths) rest → content ≡ content_at channels contents i
content-there channels contents i channel rest content l e at is =
    let there : slice_get channels i ≡ Some channel = slice_get_read channels (length channels) i channel refl l e in
    is ∙ ap (take (length channel.widths)) at
    ∙ ap (λ (o : Option Channel). take (length (widths_of o)) (drop (length (all_widths (take i channels))) contents)) (sym there)

pub row_rest : (contents : List ℕ) (channels : List Channel) (i : ℕ) (channel : Channel) (rest after : List ℕ)
    → i < length channels → channel ≡ get_or channels i channel
    → rest ≡ drop (length (all_widths (take i channels))) contents → after ≡ drop (length channel.widths) rest
    → after ≡ drop (length (all_widths (take (i + 1) channels))) contents
row_rest contents channels i channel rest after l e at next =
    next
    ∙ ap (drop (length channel.widths)) at
    ∙ drop-drop (length channel.widths) (length (all_widths (take i channels))) contents
    ∙ ap (λ n. drop n contents) (sym (length-append (all_widths (take i channels)) channel.widths))
    ∙ ap (λ (ws : List ℕ). drop (length ws) contents) (sym (widths-more channels i channel l e))

-- the line of a channel, if it starts
pub row_there : (channels : List Channel) (row : Row) (t i : ℕ) (channel : Channel) (rest content : List ℕ) → i < length channels
    → channel ≡ get_or channels i channel → rest ≡ drop (length (all_widths (take i channels))) row.contents
    → content ≡ take (length channel.widths) rest
    → cond (has row.starts i) (decimal t ++ (codes " start " ++ (channel.name ++ (spaced content ++ newline)))) []
    ≡ cond (has row.starts i) (row_start channels t row (i, channel)) []
row_there channels row t i channel rest content l e at is =
    ap (λ (x : List ℕ). cond (has row.starts i) (decimal t ++ (codes " start " ++ (channel.name ++ (spaced x ++ newline)))) [])
    (content-there channels row.contents i channel rest content l e at is)
