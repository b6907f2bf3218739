-- The text of a design, and its design: one answer; and so of `check`.
use Rattle.std.proofs.Common.{◌≡◌, ◌⊎◌, ℕ, List, None, Some, inl, inr, sym, ap, subst, ◌∙◌, map}
use Rattle.vidi_commands.specs.vlog_lex.declared.token.Token.{Token}
use Rattle.vidi_commands.specs.vlog_lex.Reading.{HasTokens, OneReading, OneStuckLine, ReadOrStuck}
use Rattle.vlog_tree.specs.Tree.{FileOf}
use Rattle.vlog_tree.specs.Lines.{bare}
use Rattle.vidi_commands.specs.vlog_parse.Marks.{all_marked}
use Rattle.vidi_commands.specs.vlog_parse.Depth.{OneDepth}
use Rattle.vidi_commands.specs.vlog_parse.Parsing.{LinedFilesAreFiles, OneLinedFile}
use Rattle.vidi_commands.specs.vlog_parse.Units.{OneItemLine}
use Rattle.net_design.specs.declared.design.Design.{Design}
use Rattle.vidi_commands.specs.net_order.Order.{IsOrder}
use Rattle.vidi_commands.specs.vlog_design.Design.{IsDesignOf, file_counts}
use Rattle.vidi_commands.specs.vlog_design.Laws.{LoopsAlike}
use Rattle.vidi_commands.specs.vlog_elab.declared.error.ElabError.{ElabError}
use Rattle.vidi_commands.specs.vlog_elab.declared.error.ElabError.TheVariants.{Memory}
use Rattle.vidi_commands.specs.vidi_io.Shelf.{Files}
use Rattle.vidi_commands.specs.report_text.declared.reason.Word.TheVariants as words
use Rattle.vidi_commands.specs.report_text.declared.reason.Reason.{Reason}
use Rattle.vidi_commands.specs.report_text.declared.reason.Reason.TheVariants.{Word, Deep, Item, Loop}
use Rattle.vidi_commands.specs.report_text.Reason.{reason_line}
use Rattle.vidi_commands.specs.vidi_bench.vidi_answer.declared.status.Status.{Status}
use Rattle.vidi_commands.specs.vidi_bench.vidi_answer.declared.status.Status.TheVariants.{Done, Refused}
use Rattle.vidi_commands.specs.vidi_bench.Reasons.{elab_reason}
use Rattle.vidi_commands.specs.vidi_bench.Steps.{Ending, IsRefusal, IsSaid, Step}
use Rattle.vidi_commands.specs.vidi_bench.Design.{text_limit, line_of, IsNoWord, IsTooDeep, IsNoFile, IsFile, IsNoTree, IsNoText, Spells}
use Rattle.vidi_commands.specs.vidi_bench.Design.{IsRefusedFile, IsAccepted, IsLooped, Building, Spelling}
use Rattle.vidi_commands.specs.run_commands.Checks.{Checked, Checks}
use Rattle.vidi_laws.specs.OneAnswer.{NamesLoop}
use Rattle.vidi_commands.specs.run_commands.Said.{check_text}
use Rattle.vidi_laws.proofs.OneEnding.{Same, Meet, Apart, One, OneBy, one-said, one-step-by, step-meets, one-reading-by}
use Rattle.vidi_laws.proofs.OneRefusal.{one_refusal, refused_clear}

-- the laws of the reader of design texts
pub record TextLaws : Type 0 where
  pub reading : OneReading
  pub stuck : ReadOrStuck
  pub file : OneLinedFile
  pub plain : LinedFilesAreFiles
  pub depth : OneDepth ℕ
  pub word : OneStuckLine
  pub item : OneItemLine
  pub loops : LoopsAlike

one-no_word : TextLaws → (text : List ℕ) → One (IsNoWord text)
one-no_word laws text a b x y (l, stuck, s) (k, stuck', s') =
    one-said (Refused words.Design (Word l)) (reason_line words.Design (Word l)) a b x y s
    (subst (λ (n : ℕ). IsRefusal words.Design (Word n) b y) (laws.word text k l stuck' stuck) s')

one-too_deep : TextLaws → (tokens : List Token) → One (IsTooDeep tokens)
one-too_deep laws tokens a b x y (l, deep, s) (k, deep', s') =
    one-said (Refused words.Design (Deep l)) (reason_line words.Design (Deep l)) a b x y s
    (subst (λ (n : ℕ). IsRefusal words.Design (Deep n) b y) (laws.depth.line (all_marked tokens) k l deep' deep) s')

one-no_file : TextLaws → (tokens : List Token) → One (IsNoFile tokens)
one-no_file laws tokens a b x y (l, its, shallow, none, s) (k, its', shallow', none', s') =
    one-said (Refused words.Design (Item l)) (reason_line words.Design (Item l)) a b x y s
    (subst (λ (n : ℕ). IsRefusal words.Design (Item n) b y) (laws.item (all_marked tokens) k l its' its) s')

one-none : TextLaws → (tokens : List Token) → One (IsNoTree tokens)
one-none laws tokens a b x y (inl deep) (inl deep') = one-too_deep laws tokens a b x y deep deep'
one-none laws tokens a b x y (inl (l, deep, s)) (inr (k, its, shallow, none, s')) =
    absurd (laws.depth.apart (all_marked tokens) l deep shallow)
one-none laws tokens a b x y (inr (k, its, shallow, none, s)) (inl (l, deep, s')) =
    absurd (laws.depth.apart (all_marked tokens) l deep shallow)
one-none laws tokens a b x y (inr gone) (inr gone') = one-no_file laws tokens a b x y gone gone'

one-file : TextLaws → (tokens : List Token) (f g : FileOf ℕ) → IsFile tokens f → IsFile tokens g → f ≡ g
one-file laws tokens f g (shallow, is) (shallow', is') = laws.file tokens f g is is'

none-file : TextLaws → (tokens : List Token) (a : Status) (x : List ℕ) (f : FileOf ℕ) → IsNoTree tokens a x → IsFile tokens f → ⊥
none-file laws tokens a x f (inl (l, deep, s)) (shallow, is) = laws.depth.apart (all_marked tokens) l deep shallow
none-file laws tokens a x f (inr (l, its, shallow, none, s)) (shallow', is) = none (bare f) (laws.plain tokens f is)

same_reason : (error : ElabError) (r s : Reason) → elab_reason error ≡ Some r → elab_reason error ≡ Some s → r ≡ s
same_reason error r s e f = let same : Some r ≡ Some s = sym e ∙ f in cc

pub no_reason : (error : ElabError) (r : Reason) → elab_reason error ≡ Some r → error ≡ Memory → ⊥
no_reason error r e memory = let none : None ≡ Some r = ap elab_reason (sym memory) ∙ e in cc

one-refused_file : (top : List ℕ) (f : FileOf ℕ) → One (IsRefusedFile top f)
one-refused_file top f a b x y (e, is, (r, names, s)) (d, is', (q, names', s')) = elim (one_refusal f top e d is is') [
  | inl memory ↦ absurd (no_reason e r names memory)
  | inr rest ↦ elim rest [
    | inl memory ↦ absurd (no_reason d q names' memory)
    | inr same ↦
        let reason = same_reason d q r names' (ap elab_reason (sym same) ∙ names) in
        one-said (Refused words.Design r) (reason_line words.Design r) a b x y s
        (subst (λ (k : Reason). IsRefusal words.Design k b y) reason s')
  ]
]

-- the same answer, or both name a loop
abbrev pub Alike : Status → Status → List ℕ → List ℕ → Type 0
Alike a b x y = (NamesLoop a × NamesLoop b) ⊎ Same a b x y

pub alike : (a b : Status) (x y : List ℕ) → Same a b x y → Alike a b x y
alike a b x y same = inr same

pub names-loop : (a : Status) (x lines : List ℕ) → IsRefusal words.Design (Loop lines) a x → NamesLoop a
names-loop a x lines s = subst NamesLoop (sym s.0) tt

-- ---- a text that spells a tree
one-no_text : TextLaws → (text : List ℕ) → One (IsNoText text)
one-no_text laws text = one-step-by Same (IsNoWord text) (HasTokens text) IsNoTree (one-no_word laws text) (laws.reading text)
    (λ a x tokens bad has. laws.stuck text tokens has bad.1.0) (λ (tokens : List Token) _. one-none laws tokens)

pub one-spelled : TextLaws → (text : List ℕ) (f g : FileOf ℕ) → Spells text f → Spells text g → f ≡ g
one-spelled laws text f g (tokens, has, is) (others, has', is') =
    let same = laws.reading text others tokens has' has in
    one-file laws tokens f g is (subst (λ (ts : List Token). IsFile ts g) same is')

pub text-apart : TextLaws → (text : List ℕ) → Apart (IsNoText text) (Spells text)
text-apart laws text a x f (inl bad) (tokens, has, is) = laws.stuck text tokens has bad.1.0
text-apart laws text a x f (inr (others, has', none)) (tokens, has, is) =
    let same = laws.reading text others tokens has' has in
    none-file laws tokens a x f (subst (λ (ts : List Token). IsNoTree ts a x) same none) is

pub one-spelling : TextLaws → (text : List ℕ) (Next : FileOf ℕ → Ending) → ((f : FileOf ℕ) → OneBy Alike (Next f))
    → OneBy Alike (Spelling text Next)
one-spelling laws text Next one = one-step-by Alike (IsNoText text) (Spells text) Next
    (λ a b x y u v. alike a b x y (one-no_text laws text a b x y u v)) (one-spelled laws text) (text-apart laws text) (λ f _. one f)

-- ---- a tree and a top that have a design
pub file-apart : (top : List ℕ) (f : FileOf ℕ) → Apart (IsRefusedFile top f) (IsAccepted top f)
file-apart top f a x d (e, is, (r, names, s)) (clear, of) = no_reason e r names (refused_clear f top e is clear)

looped-meet : (d e : Design) → Meet Alike (IsLooped d) (IsLooped e)
looped-meet d e a b x y (loop, is, s) (loop', is', s') =
    inl (names-loop a x (map (line_of d.drivers) loop) s, names-loop b y (map (line_of e.drivers) loop') s')

pub looped-apart : TextLaws → (top : List ℕ) (f : FileOf ℕ) (d e : Design) → IsDesignOf f top d → IsDesignOf f top e
    → Apart (IsLooped d) (IsOrder e)
looped-apart laws top f d e of of' a x order (loop, is, s) ordered = laws.loops f top d e of of' loop order is ordered

pub one-building : TextLaws → (top : List ℕ) (f : FileOf ℕ) (Next : Design → Ending)
    → ((d e : Design) → IsDesignOf f top d → IsDesignOf f top e → Meet Alike (Next d) (Next e)) → OneBy Alike (Building top f Next)
one-building laws top f Next next = step-meets Alike (IsRefusedFile top f) (IsRefusedFile top f) (IsAccepted top f) (IsAccepted top f)
    (λ (d : Design). Step (IsLooped d) (IsOrder d) (λ _. Next d)) (λ (d : Design). Step (IsLooped d) (IsOrder d) (λ _. Next d))
    (λ a b x y u v. alike a b x y (one-refused_file top f a b x y u v)) (file-apart top f) (file-apart top f)
    (λ d e is is'. step-meets Alike (IsLooped d) (IsLooped e) (IsOrder d) (IsOrder e) (λ (_ : List ℕ). Next d) (λ (_ : List ℕ). Next e)
    (looped-meet d e) (looped-apart laws top f d e is.1 is'.1) (looped-apart laws top f e d is'.1 is.1)
    (λ order others _ _. next d e is.1 is'.1))

-- ---- the command
pub one_check : TextLaws → (design top : List ℕ) (files : Files) → OneBy Alike (Checks design top (Some files) (λ _. ⊥))
one_check laws design top files = one-reading-by Alike alike text_limit words.Design design files (Checked top) (λ text.
    one-spelling laws text (λ f. Building top f (λ _. IsSaid Done (check_text f (file_counts f top)))) (λ f. one-building laws top f (λ _. IsSaid Done (check_text f (file_counts f top)))
    (λ d e of of' a b x y s s'. inr (one-said Done (check_text f (file_counts f top)) a b x y s s'))))
