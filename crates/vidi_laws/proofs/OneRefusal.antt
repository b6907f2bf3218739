-- The reasons for which a file with a top is refused: no two of them hold, and none where none is to hold. Want of memory is free.
use Rattle.std.proofs.Common.{◌≡◌, ℕ, ◌<◌, ◌⊎◌, List, [], Option, None, Some, inl, inr, refl, sym, ap, ◌∙◌, map, ⊎_elim}
use Rattle.std.specs.Prelude.{slice_get}
use Rattle.std.proofs.lemmas.Bool.{cases_order}
use Rattle.vidi_commands.specs.vidi_bits.Findings.{first}
use Rattle.vlog_tree.specs.Tree.{ModuleOf, FileOf}
use Rattle.vidi_commands.specs.vlog_elab.Outlines.{Outline, place_of, outlines_of}
use Rattle.vidi_commands.specs.vlog_elab.Nested.{IsNestedAnswer}
use Rattle.vidi_commands.specs.vlog_elab.declared.error.ElabError.{ElabError}
use Rattle.vidi_commands.specs.vlog_elab.declared.error.ElabError.TheVariants.{Twice, Unknown, Kind, Nested, TooBig, Const, Width, Clock, Latch, Drive}
use Rattle.vidi_commands.specs.vlog_elab.declared.error.ElabError.TheVariants.{Memory}
use Rattle.vidi_commands.specs.vidi_bits.Findings.{IsFirst}
use Rattle.vidi_commands.specs.vlog_elab.Told.{elab_told}
use Rattle.vidi_commands.specs.vlog_elab.Reasons.{Then, IsNestedName, IsNotNested, NestedFinding, RefusedLater, ClearLater}
use Rattle.vidi_commands.specs.vlog_elab.Reasons.{text_findings, size_findings}
use Rattle.vidi_commands.specs.vlog_elab.Reasons as elab
use Rattle.vidi_commands.specs.vlog_design.Reasons.{Refused, Clear, code_findings}

-- the same reason, unless memory was wanting
abbrev pub Agree : ElabError → ElabError → Type 0
Agree e d = (e ≡ Memory) ⊎ (d ≡ Memory) ⊎ (e ≡ d)

abbrev OneOf : (ElabError → Type 0) → Type 0
OneOf Here = (e d : ElabError) → Here e → Here d → Agree e d

abbrev Apart : (ElabError → Type 0) → Type 0 → Type 0
Apart Here Clear = (e : ElabError) → Here e → Clear → e ≡ Memory

one-then : (Here Later : ElabError → Type 0) (Clear : Type 0) → OneOf Here → Apart Here Clear → OneOf Later → OneOf (Then Here Clear Later)
one-then Here Later Clear one apart later e d (inl h) (inl i) = one e d h i
one-then Here Later Clear one apart later e d (inl h) (inr (clear, l)) = inl (apart e h clear)
one-then Here Later Clear one apart later e d (inr (clear, l)) (inl h) = inr (inl (apart d h clear))
one-then Here Later Clear one apart later e d (inr (clear, l)) (inr (clear', m)) = later e d l m

apart-then : (Here Later : ElabError → Type 0) (Clear After : Type 0) → Apart Here Clear → Apart Later After
    → Apart (Then Here Clear Later) (Clear × After)
apart-then Here Later Clear After apart later e (inl h) (clear, after) = apart e h clear
apart-then Here Later Clear After apart later e (inr (clear, l)) (clear', after) = later e l after

-- ---- the first of a list of findings
is-first : (findings : List ElabError) (e : ElabError) → IsFirst elab_told findings e → (e ≡ Memory) ⊎ (first findings ≡ Some e)
is-first findings (Twice name) is = inr is
is-first findings (Unknown name) is = inr is
is-first findings (Kind line) is = inr is
is-first findings (Nested name) is = inr is
is-first findings (TooBig what) is = inr is
is-first findings (Const line) is = inr is
is-first findings (Width line got) is = inr is
is-first findings (Clock line) is = inr is
is-first findings (Latch name line) is = inr is
is-first findings (Drive name bit drivers) is = inr is
is-first findings Memory is = inl refl

same_some : (e d : ElabError) → Some e ≡ Some d → e ≡ d
same_some e d h = cc

none_some : (e : ElabError) → first [] ≡ Some e → ⊥
none_some e h = cc

one-first : (findings : List ElabError) → OneOf (IsFirst elab_told findings)
one-first findings e d is is' = elim (is-first findings e is) [
  | inl memory ↦ inl memory
  | inr told ↦ elim (is-first findings d is') [
    | inl memory ↦ inr (inl memory)
    | inr told' ↦ inr (inr (same_some e d (sym told ∙ told')))
  ]
]

apart-first : (findings : List ElabError) → Apart (IsFirst elab_told findings) (findings ≡ [])
apart-first findings e is none = elim (is-first findings e is) [
  | inl memory ↦ memory
  | inr told ↦ absurd (none_some e (ap first (sym none) ∙ told))
]

-- ---- E11
is-nested : (file : FileOf ℕ) (top : List ℕ) (e : ElabError) → NestedFinding file top e
    → (e ≡ Memory) ⊎ ((name : List ℕ) × (e ≡ Nested name) × IsNestedName file top name)
is-nested file top (Twice name) is = absurd is
is-nested file top (Unknown name) is = absurd is
is-nested file top (Kind line) is = absurd is
is-nested file top (Nested name) is = inr (name, refl, is)
is-nested file top (TooBig what) is = absurd is
is-nested file top (Const line) is = absurd is
is-nested file top (Width line got) is = absurd is
is-nested file top (Clock line) is = absurd is
is-nested file top (Latch name line) is = absurd is
is-nested file top (Drive name bit drivers) is = absurd is
is-nested file top Memory is = inl refl

no-place : (k : ℕ) → Some k ≡ None → ⊥
no-place k e = cc

one-place : (os : List Outline) (top : Option ℕ) (j k : ℕ) → IsNestedAnswer os top (Some j) → IsNestedAnswer os top (Some k) → j ≡ k
one-place os None j k a b = absurd (no-place j a)
one-place os (Some t) j k (at, least) (at', least') = ⊎_elim
    (λ (e : j ≡ k). e)
    (λ (ne : (j < k) ⊎ (k < j)). ⊎_elim
    (λ (l : j < k). absurd (least' j l at))
    (λ (l : k < j). absurd (least k l at'))
    ne)
    (cases_order j k)

no-place-nested : (os : List Outline) (top : Option ℕ) (k : ℕ) → IsNestedAnswer os top (Some k) → IsNestedAnswer os top None → ⊥
no-place-nested os None k a b = no-place k a
no-place-nested os (Some t) k (at, least) none = none k at

one-name : (file : FileOf ℕ) (top n m : List ℕ) → IsNestedName file top n → IsNestedName file top m → n ≡ m
one-name file top n m (j, (at, is)) (k, (at', is')) =
    let names = map (λ (x : ModuleOf ℕ). x.name) file.modules in
    let same : j ≡ k = one-place (outlines_of file.modules) (place_of file.modules top) j k at at' in
    let there : Some n ≡ Some m = sym is ∙ ap (λ (p : ℕ). slice_get names p) same ∙ is' in cc

one-nested : (file : FileOf ℕ) (top : List ℕ) → OneOf (NestedFinding file top)
one-nested file top e d is is' = elim (is-nested file top e is) [
  | inl memory ↦ inl memory
  | inr here ↦ elim (is-nested file top d is') [
    | inl memory ↦ inr (inl memory)
    | inr there ↦ inr (inr (here.1 ∙ ap Nested (one-name file top here.0 there.0 here.2 there.2) ∙ sym there.1))
  ]
]

apart-nested : (file : FileOf ℕ) (top : List ℕ) → Apart (NestedFinding file top) (IsNotNested file top)
apart-nested file top e is none = elim (is-nested file top e is) [
  | inl memory ↦ memory
  | inr here ↦ absurd (no-place-nested (outlines_of file.modules) (place_of file.modules top) here.2.0 here.2.1.0 none)
]

-- ---- all reasons
one-later : (file : FileOf ℕ) (top : List ℕ) → OneOf (RefusedLater file top)
one-later file top = one-then (NestedFinding file top) (IsFirst elab_told (size_findings file top)) (IsNotNested file top)
    (one-nested file top) (apart-nested file top) (one-first (size_findings file top))

one-text : (file : FileOf ℕ) (top : List ℕ) → OneOf (elab.Refused file top)
one-text file top = one-then (IsFirst elab_told (text_findings file top)) (RefusedLater file top) (text_findings file top ≡ [])
    (one-first (text_findings file top)) (apart-first (text_findings file top)) (one-later file top)

text-clear : (file : FileOf ℕ) (top : List ℕ) → Apart (elab.Refused file top) (elab.Clear file top)
text-clear file top = apart-then (IsFirst elab_told (text_findings file top)) (RefusedLater file top) (text_findings file top ≡ [])
    (ClearLater file top) (apart-first (text_findings file top))
    (apart-then (NestedFinding file top) (IsFirst elab_told (size_findings file top)) (IsNotNested file top) (size_findings file top ≡ [])
    (apart-nested file top) (apart-first (size_findings file top)))

pub one_refusal : (file : FileOf ℕ) (top : List ℕ) → OneOf (Refused file top)
one_refusal file top = one-then (elab.Refused file top) (IsFirst elab_told (code_findings file top)) (elab.Clear file top)
    (one-text file top) (text-clear file top) (one-first (code_findings file top))

pub refused_clear : (file : FileOf ℕ) (top : List ℕ) → Apart (Refused file top) (Clear file top)
refused_clear file top = apart-then (elab.Refused file top) (IsFirst elab_told (code_findings file top)) (elab.Clear file top)
    (code_findings file top ≡ []) (text-clear file top) (apart-first (code_findings file top))
