-- A command that writes a trace: one answer with one set of files.
use Rattle.std.proofs.Common.{◌≡◌, ℕ, Bool, List, Option, Some, length, inl, inr, sym, ap, ◌∙◌}
use Rattle.vidi_commands.specs.trace_model.declared.trace.Trace.{Trace}
use Rattle.vidi_commands.specs.trace_code.Encoding.{encode}
use Rattle.vidi_commands.specs.vidi_io.Shelf.{Files, holding}
use Rattle.vidi_commands.specs.vidi_bench.vidi_answer.declared.status.Status.{Status}
use Rattle.vidi_commands.specs.vidi_bench.Steps.{Ending}
use Rattle.vidi_commands.specs.trace_commands.Written.{Writes}
use Rattle.vidi_laws.proofs.OneEnding.{Apart, One}

pub one_written : (Refuses : Ending) (Gives : Trace → Type 0) (line : ℕ → List ℕ) (out : List ℕ) (files : Files) → One Refuses
    → ((t u : Trace) → Gives t → Gives u → t ≡ u) → Apart Refuses Gives → (P Q : Bool → Type 0) (a b : Status) (x y : List ℕ)
    (left right : Option Files) → Writes Refuses Gives line out (Some files) P a x left → Writes Refuses Gives line out (Some files) Q b y right
    → (a ≡ b) × (x ≡ y) × (left ≡ right)
one_written Refuses Gives line out files one same apart P Q a b x y left right (inl (u, (kept, _))) (inl (v, (kept', _))) =
    let e = one a b x y u v in (e.0, e.1, kept ∙ sym kept')
one_written Refuses Gives line out files one same apart P Q a b x y left right (inl (u, kept)) (inr (t, given, s, held)) =
    absurd (apart a x t u given)
one_written Refuses Gives line out files one same apart P Q a b x y left right (inr (t, given, s, held)) (inl (u, kept)) =
    absurd (apart b y t u given)
one_written Refuses Gives line out files one same apart P Q a b x y left right (inr (t, given, s, (held, _)))
    (inr (u, given', s', (held', _))) =
    let e = same t u given given' in (
      s.0 ∙ sym s'.0,
      s.1 ∙ ap (λ (v : Trace). line (length v.packets)) e ∙ sym s'.1,
      held ∙ ap (λ (v : Trace). holding (Some files) out (encode v)) e ∙ sym held',
    )
