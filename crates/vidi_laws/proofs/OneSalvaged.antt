-- `salvage`: one answer with one set of files.
use Rattle.std.proofs.Common.{◌≡◌, ◌⊎◌, ℕ, Bool, List, ◌++◌, Option, Some, Result, Ok, Err, inl, inr, subst}
use Rattle.std.specs.List.{flat_map}
use Rattle.vidi_commands.specs.trace_model.declared.trace.Trace.{Trace}
use Rattle.vidi_commands.specs.trace_code.declared.error.CodeError.{CodeError}
use Rattle.vidi_commands.specs.trace_code.declared.error.CodeError.TheVariants as errors
use Rattle.vidi_commands.specs.trace_code.Encoding.{packet_bytes}
use Rattle.vidi_commands.specs.trace_code.Decoding.{HasNoHeader}
use Rattle.vidi_commands.specs.trace_code.Salvage.{Salvages, OneSalvage}
use Rattle.vidi_commands.specs.trace_v2.Old.{old_packet_bytes}
use Rattle.vidi_commands.specs.trace_v2.OldDecoding.{HasNoOldHeader, SalvagesOld, OneOldSalvage}
use Rattle.vidi_commands.specs.vidi_io.Shelf.{Files}
use Rattle.vidi_commands.specs.report_text.declared.reason.Word.TheVariants as words
use Rattle.vidi_commands.specs.report_text.declared.reason.Reason.TheVariants.{BadTrace}
use Rattle.vidi_commands.specs.vidi_bench.vidi_answer.declared.status.Status.{Status}
use Rattle.vidi_commands.specs.vidi_bench.vidi_answer.declared.status.Status.TheVariants.{Refused}
use Rattle.vidi_commands.specs.report_text.Reason.{reason_line}
use Rattle.vidi_commands.specs.vidi_bench.Steps.{IsRefusal}
use Rattle.vidi_commands.specs.Said.{salvaged_line}
use Rattle.vidi_commands.specs.trace_commands.Traces.{trace_limit, IsHeaderless, IsUnsaved, IsWhole, IsWholeIn, Saves}
use Rattle.vidi_laws.proofs.OneEnding.{Apart, One, one-said, one-reading, unread-read, one-read}
use Rattle.vidi_laws.proofs.OneTraces.{old-or-new}
use Rattle.vidi_laws.proofs.OneWritten.{one_written}

refused-headerless : (file : List ℕ) (a : Status) (x : List ℕ) → IsHeaderless file a x → IsRefusal words.Trace (BadTrace 0) a x
refused-headerless file a x (inl (old, (none, s))) = s
refused-headerless file a x (inr (new, (none, s))) = s

one-headerless : (file : List ℕ) → One (IsHeaderless file)
one-headerless file a b x y u v = one-said (Refused words.Trace (BadTrace 0)) (reason_line words.Trace (BadTrace 0)) a b x y
    (refused-headerless file a x u) (refused-headerless file b y v)

abbrev pub found : Trace → Result Trace CodeError
found t = Ok t

abbrev pub wanting : Result Trace CodeError
wanting = Err errors.Memory

pub same_found : (t u : Trace) → found t ≡ found u → t ≡ u
same_found t u e = cc

pub no_memory : (t : Trace) → found t ≡ wanting → ⊥
no_memory t e = cc

-- two that were found are one, unless memory was wanting
one-found : (t u : Trace) → (found t ≡ wanting) ⊎ (found u ≡ wanting) ⊎ (found t ≡ found u) → t ≡ u
one-found t u (inl e) = absurd (no_memory t e)
one-found t u (inr (inl e)) = absurd (no_memory u e)
one-found t u (inr (inr e)) = same_found t u e

no_header : (file : List ℕ) (t : Trace) → Salvages file (Ok t) → HasNoHeader file → ⊥
no_header file t (rest, longest) none =
    none t.channels (flat_map (packet_bytes t.channels) t.packets ++ rest) longest.splits.table longest.splits.parts

no_old_header : (file : List ℕ) (t : Trace) → SalvagesOld file (Ok t) → HasNoOldHeader file → ⊥
no_old_header file t (rest, longest) none =
    none t.channels (flat_map (old_packet_bytes t.channels) t.packets ++ rest) longest.splits.table longest.splits.parts

pub headerless-whole : (file : List ℕ) → Apart (IsHeaderless file) (IsWholeIn file)
headerless-whole file a x t (inl (old, (none, s))) (inl (old', whole)) = no_old_header file t whole none
headerless-whole file a x t (inl (old, lacks)) (inr (new, whole)) = old-or-new file old new
headerless-whole file a x t (inr (new, lacks)) (inl (old, whole)) = old-or-new file old new
headerless-whole file a x t (inr (new, (none, s))) (inr (new', whole)) = no_header file t whole none

module _ (one : OneSalvage) (one_old : OneOldSalvage) where
  one-whole_in : (file : List ℕ) (t u : Trace) → IsWholeIn file t → IsWholeIn file u → t ≡ u
  one-whole_in file t u (inl (old, whole)) (inl (old', whole')) = one-found t u (one_old file (found t) (found u) whole whole')
  one-whole_in file t u (inl (old, whole)) (inr (new, whole')) = absurd (old-or-new file old new)
  one-whole_in file t u (inr (new, whole)) (inl (old, whole')) = absurd (old-or-new file old new)
  one-whole_in file t u (inr (new, whole)) (inr (new', whole')) = one-found t u (one file (found t) (found u) whole whole')

  one-whole : (trace : List ℕ) (files : Files) (t u : Trace) → IsWhole trace (Some files) t → IsWhole trace (Some files) u → t ≡ u
  one-whole trace files t u (f, read, whole) (g, read', whole') =
      let same = one-read trace_limit trace files g f read' read in
      one-whole_in f t u whole (subst (λ (h : List ℕ). IsWholeIn h u) same whole')

  unsaved-whole : (trace : List ℕ) (files : Files) → Apart (IsUnsaved trace (Some files) (λ _. ⊥)) (IsWhole trace (Some files))
  unsaved-whole trace files a x t (inl u) (f, read, whole) = unread-read trace_limit words.Trace trace files a x f u read
  unsaved-whole trace files a x t (inr (g, read', lacks)) (f, read, whole) =
      headerless-whole f a x t (subst (λ (h : List ℕ). IsHeaderless h a x) (one-read trace_limit trace files g f read' read) lacks) whole

  pub one_salvaged : (trace out : List ℕ) (files : Files) (P Q : Bool → Type 0) (a b : Status) (x y : List ℕ)
      (left right : Option Files) → Saves trace out (Some files) (λ _. ⊥) P a x left → Saves trace out (Some files) (λ _. ⊥) Q b y right
      → (a ≡ b) × (x ≡ y) × (left ≡ right)
  one_salvaged trace out files = one_written (IsUnsaved trace (Some files) (λ _. ⊥)) (IsWhole trace (Some files)) salvaged_line out files
      (one-reading trace_limit words.Trace trace files IsHeaderless one-headerless) (one-whole trace files) (unsaved-whole trace files)
