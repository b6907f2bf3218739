-- Lines that are printed item by item.
use Rattle.std.proofs.Common.{◌≡◌, ℕ, ◌+◌, ◌<◌, List, [], ◌∷◌, ◌++◌, length, get_or, take, drop, cond, codes}
use Rattle.std.proofs.Common.{decimal, sym, ap, ◌∙◌, arith}
use Rattle.std.proofs.lemmas.List.{take_more, append-nil, length-take-le, take-append-drop}
use Rattle.std.proofs.lemmas.List.Concat.{flat_map-append}
use Rattle.std.specs.List.{flat_map, enumerate_from}
use Rattle.text_page.specs.vidi_io.vidi_bits.Number.{has}
use Rattle.run_model.proofs.trace_model_lemmas.ContentsLemmas.{content-there, enumerate-append}
use Rattle.run_model.specs.trace_model.declared.channel.Channel.{Channel}
use Rattle.run_model.specs.trace_model.declared.packet.Packet.{Packet}
use Rattle.run_model.specs.trace_model.Packet.{widths_under}
use Rattle.text_page.proofs.Items.{enumerate-push}
use Rattle.report_text.specs.Text.{spaced}
use Rattle.report_text.specs.Trace.{start_line}

-- those printed so far and all others
pub halves : {X : Type 0} (F : ℕ × X → List ℕ) (xs : List X) (i : ℕ)
    → flat_map F (enumerate_from 0 (take i xs)) ++ flat_map F (enumerate_from (0 + length (take i xs)) (drop i xs))
    ≡ flat_map F (enumerate_from 0 xs)
halves F xs i =
    sym (flat_map-append F (enumerate_from 0 (take i xs)) (enumerate_from (0 + length (take i xs)) (drop i xs)))
    ∙ ap (flat_map F) (sym (enumerate-append 0 (take i xs) (drop i xs)))
    ∙ ap (λ ys. flat_map F (enumerate_from 0 ys)) (take-append-drop i xs)

widths-more : (mask : ℕ) (cs : List Channel) (i : ℕ) (c : Channel) → i < length cs → c ≡ get_or cs i c
    → widths_under mask (take (i + 1) cs) ≡ widths_under mask (take i cs) ++ cond (has mask i) c.widths []
widths-more mask cs i c l e =
    let F : ℕ × Channel → List ℕ = λ x. cond (has mask x.0) x.1.widths [] in
    let here : take (i + 1) cs ≡ take i cs ++ c ∷ [] = take_more cs i c l ∙ ap (λ y. take i cs ++ y ∷ []) (sym e) in
    let long : length (take i cs) ≡ i = length-take-le i cs (omega arith) in
    ap (widths_under mask) here
    ∙ ap (flat_map F) (enumerate-push 0 i (take i cs) c (omega (arith, long)))
    ∙ flat_map-append F (enumerate_from 0 (take i cs)) ((i, c) ∷ [])
    ∙ ap (λ ws. widths_under mask (take i cs) ++ ws) (append-nil (F (i, c)))

-- the line of a channel, if it starts
pub start-there : (channels : List Channel) (packet : Packet) (number : ℕ) (clock : List ℕ) (i : ℕ) (channel : Channel) (rest : List ℕ)
    → i < length channels → channel ≡ get_or channels i channel
    → rest ≡ drop (length (widths_under packet.starts (take i channels))) packet.contents
    → cond (has packet.starts i) (decimal number ++ (codes " start " ++
    (channel.name ++ (spaced (take (length channel.widths) rest) ++ clock)))) []
    ≡ cond (has packet.starts i) (start_line channels number packet clock (i, channel)) []
start-there channels packet number clock i channel rest l e at =
    ap (λ (content : List ℕ). cond (has packet.starts i) (decimal number
    ++ (codes " start " ++ (channel.name ++ (spaced content ++ clock)))) []) (content-there channels packet i channel rest l e at)
