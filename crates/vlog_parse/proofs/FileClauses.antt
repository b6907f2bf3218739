-- The clauses of the reader of whole files.
use Rattle.std.proofs.Common.{◌≡◌, ℕ, ◌+◌, ◌≤◌, Option, Some, Result, Ok, Err, List, [], ◌∷◌, refl, sym, ap, subst, ◌∙◌, length}
use Rattle.std.proofs.Common.{map}
use Rattle.std.proofs.Common.{arith}
use Rattle.std.specs.Prelude.{IfOk, MatchResult, option_map}
use Rattle.vlog_item.proofs.vidi_bits_lemmas.Lists.{some_same}
use Rattle.vlog_item.specs.vlog_lex.declared.token.Token.{Token}
use Rattle.vlog_tree.specs.declared.module.File.{File}
use Rattle.vlog_tree.specs.Words.{WordOf, NameWord, Fixed, NameAt, NumberAt, FixedAt, token_of, tokens_of, map_word}
use Rattle.vlog_tree.specs.Tree.{FileOf}
use Rattle.vlog_tree.specs.Plain.{plain}
use Rattle.vlog_tree.specs.Lines.{no_mark, bare}
use Rattle.vlog_tree.specs.Spelling.{toks, file_words}
use Rattle.vlog_tree.specs.Shape.{IsGood}
use Rattle.vlog_tree.proofs.Marks.{file_mapped, toks_bare}
use Rattle.vlog_item.specs.vlog_expr.declared.unread.Unread.{Unread}
use Rattle.vlog_item.specs.vlog_expr.declared.unread.Unread.TheVariants as unread
use Rattle.vlog_item.specs.vlog_expr.Marks.{TokenOf, Toks, spelled, spell, IsWord, AreWords, all_marked, AreLawful}
use Rattle.vlog_item.specs.vlog_expr.Bare.{forget, forget_all, without_lines}
use Rattle.vlog_item.specs.vlog_expr.Reader.{fuel_for}
use Rattle.vlog_parse.specs.FileReader.{file_at, file_of}
use Rattle.vlog_item.specs.vlog_expr.Laws.{Holds}
use Rattle.vlog_item.specs.vlog_expr.Given.{Gives}
use Rattle.vlog_item.proofs.vlog_expr_lemmas.Whole.{words_tokens, spell_lawful, none_some}
use Rattle.vlog_parse.specs.Parsing.{IsFileOf, IsLinedFileOf, OneFile, OneLinedFile, LinedFilesAreFiles}
use Rattle.vlog_parse.proofs.FileSpelled.{file_read}
use Rattle.vlog_parse.proofs.FileNatural.{file_natural}
use Rattle.vlog_parse.proofs.FileFound.{file_spelled}
use Rattle.vlog_parse.proofs.FileWhole.{file_lawful, file_found, file_again}

abbrev U : Type 0
U = Unit {0}

forgotten_lawful : (ws : Toks ℕ) → AreLawful ws → AreLawful (forget_all ws)
forgotten_lawful [] h = tt
forgotten_lawful (token ∷ ws) h = (h.0, forgotten_lawful ws h.1)

-- a file of good shape is read from its words
abbrev alone : FileOf ℕ → Toks ℕ
alone f = spell 0 (file_words f) []

bare_read : (f : FileOf ℕ) (n : ℕ) → IsGood f → fuel_for (length (file_words f)) ≤ n → file_at n (forget_all (alone f)) ≡ Some (bare f)
bare_read f n g h = file_natural ℕ n (alone f) ∙ ap (λ (o : Option (FileOf ℕ)). option_map bare o) (file_read ℕ 0 f n g h)

good_bare : (f : FileOf ℕ) → IsGood f → IsGood (bare f)
good_bare f g =
    let n = fuel_for (length (file_words f)) in
    let lawful = forgotten_lawful (alone f) (spell_lawful 0 (file_words f) (file_lawful ℕ f g)) in
    let s = subst (λ (o : Option (FileOf U)). Holds o (λ (x : FileOf U). IsGood x × AreWords (file_words x) (forget_all (alone f)) []))
    (bare_read f n g (omega arith)) (file_spelled U n (forget_all (alone f)) lawful) in
    s.0

pub lined_files : LinedFilesAreFiles
lined_files tokens f is = (good_bare f is.0, toks_bare f ∙ words_tokens (file_words f) tokens is.1)

-- words with a line are what their tokens and the words without it make them
relined : (w : WordOf ℕ) (token : TokenOf ℕ) → IsWord w token → w ≡ map_word (λ (x : U). token.line) (map_word no_mark w)
relined (NameWord text) token h = refl
relined (Fixed t) token h = refl
relined (NameAt text line) token h = ap (NameAt text) (sym (ap (λ (x : TokenOf ℕ). x.line) h))
relined (NumberAt kind text line) token h = ap (NumberAt kind text) (sym (ap (λ (x : TokenOf ℕ). x.line) h))
relined (FixedAt t line) token h = ap (FixedAt t) (sym (ap (λ (x : TokenOf ℕ). x.line) h))

abbrev with_lines : List (WordOf U) → Toks ℕ → List (WordOf ℕ)
with_lines [] ws = []
with_lines (u ∷ us) [] = []
with_lines (u ∷ us) (token ∷ ws) = map_word (λ (x : U). token.line) u ∷ with_lines us ws

all_relined : (us : List (WordOf ℕ)) (ws rest : Toks ℕ) → AreWords us ws rest → us ≡ with_lines (map (map_word no_mark) us) ws
all_relined [] ws rest h = refl
all_relined (u ∷ us) [] rest h = absurd h
all_relined (u ∷ us) (token ∷ ws) rest h = λ i. relined u token h.0 i ∷ all_relined us ws rest h.1 i

-- their tokens are the same but for lines that aren't kept
word_forgotten : (k l : ℕ) (w : WordOf ℕ) → forget (spelled k w) ≡ forget (spelled l w)
word_forgotten k l (NameWord text) = refl
word_forgotten k l (Fixed t) = refl
word_forgotten k l (NameAt text line) = refl
word_forgotten k l (NumberAt kind text line) = refl
word_forgotten k l (FixedAt t line) = refl

words_forgotten : (us : List (WordOf ℕ)) (ws : Toks ℕ) → AreWords us ws [] → forget_all (spell 0 us []) ≡ forget_all ws
words_forgotten [] ws h = ap (λ (vs : Toks ℕ). forget_all vs) (sym h)
words_forgotten (u ∷ us) [] h = absurd h
words_forgotten (u ∷ us) (token ∷ ws) h =
    let first : forget (spelled 0 u) ≡ forget token = word_forgotten 0 token.line u ∙ sym (ap forget h.0) in
    λ i. first i ∷ words_forgotten us ws h.1 i

same_words : (ts : List Token) (a b : FileOf ℕ) → bare a ≡ bare b → IsLinedFileOf ts a → IsLinedFileOf ts b → file_words a ≡ file_words b
same_words ts a b e ia ib =
    let words : map (map_word no_mark) (file_words a) ≡ map (map_word no_mark) (file_words b) =
    sym (file_mapped no_mark a) ∙ ap (λ (f : FileOf U). file_words f) e ∙ file_mapped no_mark b in
    all_relined (file_words a) (all_marked ts) [] ia.1 ∙ ap (λ (us : List (WordOf U)). with_lines us (all_marked ts)) words
    ∙ sym (all_relined (file_words b) (all_marked ts) [] ib.1)

pub one_lined_file : OneLinedFile
one_lined_file ts a b ia ib =
    let n = fuel_for (length (file_words a) + length (file_words b)) in
    let forgotten = words_forgotten (file_words a) (all_marked ts) ia.1 ∙ sym (words_forgotten (file_words b) (all_marked ts) ib.1) in
    let same = some_same (bare a) (bare b) (sym (bare_read a n ia.0 (omega arith))
    ∙ ap (λ (ws : Toks U). file_at n ws) forgotten ∙ bare_read b n ib.0 (omega arith)) in
    some_same a b (sym (file_read ℕ 0 a n ia.0 (omega arith))
    ∙ ap (λ (us : List (WordOf ℕ)). file_at n (spell 0 us [])) (same_words ts a b same ia ib) ∙ file_read ℕ 0 b n ib.0 (omega arith))

pub found_clause : (r : Result File Unread) (ts : List Token) → AreLawful (all_marked ts) → Gives plain r (file_of (all_marked ts))
    → IfOk r (λ f. IsLinedFileOf ts (plain f))
found_clause (Err e) ts l h = tt
found_clause (Ok f) ts l h = file_found ts (plain f) l h

pub only_clause : (r : Result File Unread) (ts : List Token) → Gives plain r (file_of (all_marked ts)) → (f : FileOf U) → IsFileOf ts f
    → MatchResult r (λ g. bare (plain g) ≡ f) (λ e. e ≡ unread.Memory)
only_clause (Ok g) ts h f is =
    let a = file_again (file_read U tt) (file_natural ℕ) ts f is.0 is.1 in
    ap (λ (x : FileOf ℕ). bare x) (some_same (plain g) a.0 (sym h ∙ a.1)) ∙ a.2
only_clause (Err unread.Memory) ts h f is = refl
only_clause (Err unread.Fault) ts h f is =
    let a = file_again (file_read U tt) (file_natural ℕ) ts f is.0 is.1 in
    absurd (none_some a.0 (sym h ∙ a.1))

word_gone : (w : WordOf U) → token_of w ≡ record { kind = (token_of w).kind; text = (token_of w).text; line = 0 }
word_gone (NameWord text) = refl
word_gone (Fixed t) = refl
word_gone (NameAt text line) = refl
word_gone (NumberAt kind text line) = refl
word_gone (FixedAt t line) = refl

lines_gone : (ws : List (WordOf U)) → tokens_of ws ≡ without_lines (tokens_of ws)
lines_gone [] = refl
lines_gone (w ∷ ws) = λ i. word_gone w i ∷ lines_gone ws i

pub one_file : OneFile
one_file a b ga gb e =
    let x = file_again (file_read U tt) (file_natural ℕ) (toks a) a ga (lines_gone (file_words a)) in
    let y = file_again (file_read U tt) (file_natural ℕ) (toks a) b gb (sym e ∙ lines_gone (file_words a)) in
    sym x.2 ∙ ap (λ (f : FileOf ℕ). bare f) (some_same x.0 y.0 (sym x.1 ∙ y.1)) ∙ y.2
