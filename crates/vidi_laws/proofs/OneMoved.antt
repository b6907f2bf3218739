-- `move`: one answer with one set of files.
use Rattle.std.proofs.Common.{◌≡◌, ◌⊎◌, ℕ, Bool, List, Option, None, Some, Result, Ok, Err, inl, inr, sym, ap, subst, ◌∙◌}
use Rattle.vidi_commands.proofs.vidi_bits_lemmas.Lists.{some_same}
use Rattle.vidi_commands.specs.trace_model.declared.trace.Trace.{Trace}
use Rattle.vidi_commands.specs.trace_code.Decoding.{OnePlace, OneReading}
use Rattle.vidi_commands.specs.trace_edit.declared.error.EditError.{EditError}
use Rattle.vidi_commands.specs.trace_edit.declared.error.EditError.TheVariants as edits
use Rattle.vidi_commands.specs.trace_edit.Laws.{OneMove}
use Rattle.vidi_commands.specs.trace_edit.Moved.{Moves}
use Rattle.vidi_commands.specs.vidi_io.Shelf.{Files}
use Rattle.vidi_commands.specs.report_text.declared.reason.Word.TheVariants as words
use Rattle.vidi_commands.specs.report_text.declared.reason.Reason.{Reason}
use Rattle.vidi_commands.specs.report_text.Reason.{reason_line}
use Rattle.vidi_commands.specs.vidi_bench.vidi_answer.declared.status.Status.{Status}
use Rattle.vidi_commands.specs.vidi_bench.vidi_answer.declared.status.Status.TheVariants.{Refused}
use Rattle.vidi_commands.specs.vidi_bench.Steps.{IsRefusal}
use Rattle.vidi_commands.specs.Said.{moved_line}
use Rattle.vidi_commands.specs.trace_commands.Moves.{end_named, reason_of, IsMovedIn, IsMovedOf, IsUnmoved, IsUnmovedIn, MovesEnd, Refuses, Wanted}
use Rattle.vidi_commands.specs.trace_commands.Traces.{trace_limit}
use Rattle.vidi_laws.proofs.OneEnding.{Apart, One, one-said, one-reading, unread-read, one-read}
use Rattle.vidi_laws.proofs.OneTraces.{no_trace-apart, one-decoding}
use Rattle.vidi_laws.proofs.OneWritten.{one_written}

abbrev made : Trace → Result Trace EditError
made t = Ok t

abbrev failed : EditError → Result Trace EditError
failed e = Err e

same-made : (t u : Trace) → made t ≡ made u → t ≡ u
same-made t u e = cc

same-failed : (e f : EditError) → failed e ≡ failed f → e ≡ f
same-failed e f is = cc

made-failed : (t : Trace) (e : EditError) → made t ≡ failed e → ⊥
made-failed t e is = cc

-- want of memory is no reason
memory-none : (e : EditError) (r : Reason) → failed e ≡ failed edits.Memory → reason_of e ≡ Some r → ⊥
memory-none e r is names =
    let none : None ≡ Some r = sym (ap reason_of (same-failed e edits.Memory is)) ∙ names in cc

-- what the words ask for, over the channels of a trace
abbrev Asked : Wanted → Trace → Result Trace EditError → Type 0
Asked w t result = Moves t (end_named t.channels w.channel w.index) (end_named t.channels w.other w.other_index) w.after result

module _ (move : OneMove) (w : Wanted) (t : Trace) where
  two : (a b : Result Trace EditError) → Asked w t a → Asked w t b → (a ≡ failed edits.Memory) ⊎ (b ≡ failed edits.Memory) ⊎ (a ≡ b)
  two = move t (end_named t.channels w.channel w.index) (end_named t.channels w.other w.other_index) w.after

  one-error : (e f : EditError) (r q : Reason) → Asked w t (failed e) → Asked w t (failed f) → reason_of e ≡ Some r → reason_of f ≡ Some q
      → q ≡ r
  one-error e f r q asked asked' is is' = go (two (failed e) (failed f) asked asked')
    where
      go : (failed e ≡ failed edits.Memory) ⊎ (failed f ≡ failed edits.Memory) ⊎ (failed e ≡ failed f) → q ≡ r
      go (inl m) = absurd (memory-none e r m is)
      go (inr (inl m)) = absurd (memory-none f q m is')
      go (inr (inr same)) = some_same q r (sym is' ∙ ap reason_of (sym (same-failed e f same)) ∙ is)

  pub one-refuses : One (Refuses w t)
  one-refuses a b x y (e, asked, (r, is, s)) (f, asked', (q, is', s')) =
      one-said (Refused words.Trace r) (reason_line words.Trace r) a b x y s
      (subst (λ (k : Reason). IsRefusal words.Trace k b y) (one-error e f r q asked asked' is is') s')

  pub one-made : (u v : Trace) → Asked w t (made u) → Asked w t (made v) → u ≡ v
  one-made u v asked asked' = go (two (made u) (made v) asked asked')
    where
      go : (made u ≡ failed edits.Memory) ⊎ (made v ≡ failed edits.Memory) ⊎ (made u ≡ made v) → u ≡ v
      go (inl m) = absurd (made-failed u edits.Memory m)
      go (inr (inl m)) = absurd (made-failed v edits.Memory m)
      go (inr (inr same)) = same-made u v same

  pub refuses-made : (u : Trace) (a : Status) (x : List ℕ) → Refuses w t a x → Asked w t (made u) → ⊥
  refuses-made u a x (e, asked, (r, is, s)) asked' = go (two (made u) (failed e) asked' asked)
    where
      go : (made u ≡ failed edits.Memory) ⊎ (failed e ≡ failed edits.Memory) ⊎ (made u ≡ failed e) → ⊥
      go (inl m) = made-failed u edits.Memory m
      go (inr (inl m)) = memory-none e r m is
      go (inr (inr same)) = made-failed u e same

module _ (reading : OneReading) (place : OnePlace) (move : OneMove) where
  unmoved-moved : (w : Wanted) (file : List ℕ) → Apart (IsUnmovedIn w file) (IsMovedIn w file)
  unmoved-moved w file a x u (inl bad) (t, code, asked) = no_trace-apart words.Trace file a x t bad code
  unmoved-moved w file a x u (inr (k, code', refuses)) (t, code, asked) =
      refuses-made move w t u a x (subst (λ (v : Trace). Refuses w v a x) (reading file k t code' code) refuses) asked

  one-moved_in : (w : Wanted) (file : List ℕ) (u v : Trace) → IsMovedIn w file u → IsMovedIn w file v → u ≡ v
  one-moved_in w file u v (t, code, asked) (k, code', asked') =
      one-made move w t u v asked (subst (λ (m : Trace). Asked w m (made v)) (reading file k t code' code) asked')

  one-moved : (trace : List ℕ) (w : Wanted) (files : Files) (u v : Trace) → IsMovedOf trace w (Some files) u → IsMovedOf trace w (Some files) v
      → u ≡ v
  one-moved trace w files u v (f, read, is) (g, read', is') =
      one-moved_in w f u v is (subst (λ (h : List ℕ). IsMovedIn w h v) (one-read trace_limit trace files g f read' read) is')

  unmoved-apart : (trace : List ℕ) (w : Wanted) (files : Files) → Apart (IsUnmoved trace w (Some files) (λ _. ⊥)) (IsMovedOf trace w (Some files))
  unmoved-apart trace w files a x u (inl unread) (f, read, is) = unread-read trace_limit words.Trace trace files a x f unread read
  unmoved-apart trace w files a x u (inr (g, read', refuses)) (f, read, is) =
      unmoved-moved w f a x u (subst (λ (h : List ℕ). IsUnmovedIn w h a x) (one-read trace_limit trace files g f read' read) refuses) is

  pub one_moved : (trace : List ℕ) (w : Wanted) (out : List ℕ) (files : Files) (P Q : Bool → Type 0) (a b : Status) (x y : List ℕ)
      (left right : Option Files) → MovesEnd trace w out (Some files) (λ _. ⊥) P a x left → MovesEnd trace w out (Some files) (λ _. ⊥) Q b y right
      → (a ≡ b) × (x ≡ y) × (left ≡ right)
  one_moved trace w out files = one_written (IsUnmoved trace w (Some files) (λ _. ⊥)) (IsMovedOf trace w (Some files)) moved_line out files
      (one-reading trace_limit words.Trace trace files (IsUnmovedIn w)
      (λ file. one-decoding reading place words.Trace file (Refuses w) (λ t. one-refuses move w t)))
      (one-moved trace w files) (unmoved-apart trace w files)
