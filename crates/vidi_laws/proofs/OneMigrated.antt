-- `migrate`: one answer with one set of files.
use Rattle.std.proofs.Common.{◌≡◌, ℕ, Bool, List, Option, Some, inl, inr, subst}
use Rattle.vidi_commands.specs.trace_model.declared.trace.Trace.{Trace}
use Rattle.vidi_commands.specs.trace_v2.Old.{EncodesOld}
use Rattle.vidi_commands.specs.trace_v2.OldDecoding.{OneOldPlace, OneOldReading}
use Rattle.vidi_commands.specs.vidi_io.Shelf.{Files}
use Rattle.vidi_commands.specs.report_text.declared.reason.Word.TheVariants as words
use Rattle.vidi_commands.specs.report_text.declared.reason.Reason.TheVariants.{BadTrace}
use Rattle.vidi_commands.specs.vidi_bench.vidi_answer.declared.status.Status.{Status}
use Rattle.vidi_commands.specs.vidi_bench.vidi_answer.declared.status.Status.TheVariants.{Refused}
use Rattle.vidi_commands.specs.report_text.Reason.{reason_line}
use Rattle.vidi_commands.specs.vidi_bench.Steps.{IsRefusal}
use Rattle.vidi_commands.specs.Said.{migrated_line}
use Rattle.vidi_commands.specs.trace_commands.Migrating.{old_trace_limit, IsNoOldTrace, IsOldTraceOf, IsUnmigrated, Migrates}
use Rattle.vidi_laws.proofs.OneEnding.{Apart, One, one-said, one-reading, unread-read, one-read}
use Rattle.vidi_laws.proofs.OneWritten.{one_written}

module _ (reading : OneOldReading) (place : OneOldPlace) where
  one-no_old_trace : (file : List ℕ) → One (IsNoOldTrace file)
  one-no_old_trace file a b x y (m, fault, none, s) (n, fault', none', t) =
      one-said (Refused words.Trace (BadTrace m)) (reason_line words.Trace (BadTrace m)) a b x y s
      (subst (λ (k : ℕ). IsRefusal words.Trace (BadTrace k) b y) (place file n m fault' fault) t)

  one-old_trace : (trace : List ℕ) (files : Files) (t u : Trace) → IsOldTraceOf trace (Some files) t → IsOldTraceOf trace (Some files) u
      → t ≡ u
  one-old_trace trace files t u (f, read, code) (g, read', code') =
      reading f t u code (subst (λ (h : List ℕ). EncodesOld u h) (one-read old_trace_limit trace files g f read' read) code')

  unmigrated-apart : (trace : List ℕ) (files : Files) → Apart (IsUnmigrated trace (Some files) (λ _. ⊥)) (IsOldTraceOf trace (Some files))
  unmigrated-apart trace files a x t (inl u) (f, read, code) = unread-read old_trace_limit words.Trace trace files a x f u read
  unmigrated-apart trace files a x t (inr (g, read', (at, fault, none, s))) (f, read, code) =
      none t (subst (λ (h : List ℕ). EncodesOld t h) (one-read old_trace_limit trace files f g read read') code)

  pub one_migrated : (trace out : List ℕ) (files : Files) (P Q : Bool → Type 0) (a b : Status) (x y : List ℕ)
      (left right : Option Files) → Migrates trace out (Some files) (λ _. ⊥) P a x left → Migrates trace out (Some files) (λ _. ⊥) Q b y right
      → (a ≡ b) × (x ≡ y) × (left ≡ right)
  one_migrated trace out files = one_written (IsUnmigrated trace (Some files) (λ _. ⊥)) (IsOldTraceOf trace (Some files)) migrated_line out files
      (one-reading old_trace_limit words.Trace trace files IsNoOldTrace one-no_old_trace) (one-old_trace trace files)
      (unmigrated-apart trace files)
