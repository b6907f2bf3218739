-- The texts of a design, a map and a script: no failed write among the answers of their steps, and the same where no read failed.
use Rattle.std.proofs.Common.{ℕ, List, Option, Ok, inl, inr, map}
use Rattle.vlog_parse.specs.vlog_lex.declared.token.Token.{Token}
use Rattle.vlog_parse.specs.vlog_lex.Reading.{HasTokens}
use Rattle.vlog_tree.specs.Tree.{FileOf}
use Rattle.net_design.specs.declared.design.Design.{Design}
use Rattle.vlog_design.specs.net_order.Order.{IsOrder}
use Rattle.env_script.specs.chan_map.declared.text.MapText.{MapText}
use Rattle.env_script.specs.chan_map.declared.pins.Map.{Map}
use Rattle.env_script.specs.chan_map.Text.{ReadsMap}
use Rattle.env_script.specs.chan_map.Bound.{BindsMap}
use Rattle.vidi_answer.specs.vidi_io.Shelf.{Files}
use Rattle.vidi_answer.specs.report_text.declared.reason.Word.TheVariants as words
use Rattle.vidi_answer.specs.report_text.declared.reason.Reason.TheVariants.{Word, Deep, Item, Loop}
use Rattle.vidi_bench.specs.Benches.{IsNoScript, RefusedTexts, ReadTexts}
use Rattle.vidi_bench.specs.Design.{text_limit, line_of, IsNoWord, IsNoTree, IsNoText, IsRefusedFile, IsAccepted, IsLooped, Spells}
use Rattle.vidi_bench.specs.Design.{Building, Spelling}
use Rattle.vidi_bench.specs.Devices.{Binding, IsNoMap, IsUnbound, Mapping, Wiring}
use Rattle.vidi_answer.specs.Reading.{Reading}
use Rattle.vidi_answer.specs.Steps.{Ending, Step}
use Rattle.vidi_answer.proofs.Chain.{Implies}
use Rattle.vidi_answer.proofs.Quiet.{Mute, mute-step, mute-reading, mute-refusal, quiet-reading}

-- ---- no failed write: the text of a design, and the design
mute-no_word : (text : List ℕ) → Mute (IsNoWord text)
mute-no_word text x (l, stuck, s) = mute-refusal words.Design (Word l) x s

mute-no_tree : (tokens : List Token) → Mute (IsNoTree tokens)
mute-no_tree tokens x (inl (l, deep, s)) = mute-refusal words.Design (Deep l) x s
mute-no_tree tokens x (inr (l, its, shallow, none, s)) = mute-refusal words.Design (Item l) x s

pub mute-spelling : (text : List ℕ) (Next : FileOf ℕ → Ending) → ((f : FileOf ℕ) → Mute (Next f)) → Mute (Spelling text Next)
mute-spelling text Next mute = mute-step (IsNoText text) (Spells text) Next
    (mute-step (IsNoWord text) (HasTokens text) IsNoTree (mute-no_word text) mute-no_tree) mute

mute-refused : (top : List ℕ) (f : FileOf ℕ) → Mute (IsRefusedFile top f)
mute-refused top f x (error, is, (reason, names, said)) = mute-refusal words.Design reason x said

mute-looped : (d : Design) → Mute (IsLooped d)
mute-looped d x (loop, is, said) = mute-refusal words.Design (Loop (map (line_of d.drivers) loop)) x said

pub mute-building : (top : List ℕ) (f : FileOf ℕ) (Next : Design → Ending) → ((d : Design) → Mute (Next d)) → Mute (Building top f Next)
mute-building top f Next mute = mute-step (IsRefusedFile top f) (IsAccepted top f)
    (λ (d : Design). Step (IsLooped d) (IsOrder d) (λ _. Next d)) (mute-refused top f)
    (λ d. mute-step (IsLooped d) (IsOrder d) (λ (_ : List ℕ). Next d) (mute-looped d) (λ order. mute d))

-- ---- the three texts
pub mute-no_map : (bytes : List ℕ) → Mute (IsNoMap bytes)
mute-no_map bytes x (error, is, (reason, names, said)) = mute-refusal words.Map reason x said

pub mute-unbound : (text : MapText) (d : Design) → Mute (IsUnbound text d)
mute-unbound text d x (error, is, (reason, names, said)) = mute-refusal words.Map reason x said

mute-no_script : (bytes : List ℕ) (m : Map) → Mute (IsNoScript bytes m)
mute-no_script bytes m x (error, is, (reason, names, said)) = mute-refusal words.Script reason x said

pub mute-wiring : (design m : List ℕ) (Next : Map → Ending) → ((k : Map) → Mute (Next k)) → Mute (Wiring design m Next)
mute-wiring design m Next mute = mute-spelling design (λ f. Mapping m f Next) (λ f.
    mute-step (IsNoMap m) (λ (text : MapText). ReadsMap m (Ok text)) (λ (text : MapText). Building text.top f (λ d. Binding text d Next))
    (mute-no_map m) (λ text. mute-building text.top f (λ d. Binding text d Next) (λ d.
    mute-step (IsUnbound text d) (λ (k : Map). BindsMap text d (Ok k)) Next (mute-unbound text d) mute)))

pub mute-refused_texts : (design m script : List ℕ) → Mute (RefusedTexts design m script)
mute-refused_texts design m script = mute-wiring design m (IsNoScript script) (mute-no_script script)

pub mute-texts : (design m script : List ℕ) (files : Option Files) (F : List ℕ → Type 0) (Next : List ℕ → List ℕ → List ℕ → Ending)
    → ((d n s : List ℕ) → Mute (Next d n s)) → Mute (ReadTexts design m script files F Next)
mute-texts design m script files F Next mute = mute-reading text_limit words.Design design files F
    (λ d. Reading text_limit words.Map m files F (λ n. Reading text_limit words.Script script files F (Next d n)))
    (λ d. mute-reading text_limit words.Map m files F (λ n. Reading text_limit words.Script script files F (Next d n))
    (λ n. mute-reading text_limit words.Script script files F (Next d n) (mute d n)))

-- ---- where no read failed
pub quiet-texts : (design m script : List ℕ) (files : Option Files) (F : List ℕ → Type 0) (Next Then : List ℕ → List ℕ → List ℕ → Ending)
    → ((name : List ℕ) → ¬ F name) → ((d n s : List ℕ) → Implies (Next d n s) (Then d n s))
    → Implies (ReadTexts design m script files F Next) (ReadTexts design m script files (λ _. ⊥) Then)
quiet-texts design m script files F Next Then quiet on = quiet-reading text_limit words.Design design files F _ _ (quiet design)
    (λ d. quiet-reading text_limit words.Map m files F _ _ (quiet m)
    (λ n. quiet-reading text_limit words.Script script files F (Next d n) (Then d n) (quiet script) (on d n)))
