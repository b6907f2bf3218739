-- Where a cursor stands before and behind a step.
use Rattle.std.proofs.Common.{◌≡◌, ℕ, ◌+◌, ◌<◌, ◌≤◌, Bool, false, ⊎_elim, sym, subst, ◌∙◌}
use Rattle.std.specs.Prelude.{◌↔◌, IsTrue}
use Rattle.std.proofs.lemmas.Bool.{cases_lt, false≢true}
use Rattle.trace_v2.specs.trace_model.declared.event.Kind.TheVariants.{Start}
use Rattle.trace_v2.specs.trace_model.declared.trace.Trace.{Trace}
use Rattle.trace_v2.specs.trace_model.Packet.{count}
use Rattle.trace_v2.specs.trace_code.declared.cursor.Cursor.{Cursor}
use Rattle.trace_v2.specs.trace_code.Stands.{Stands, WalksOver}

-- what at_end says
abbrev pub Says : Cursor → Bool → Type 0
Says k b = (t : Trace) (j : ℕ) → Stands k t j → IsTrue b ↔ (count k.kind k.channel t.packets ≤ j)

more-left : (b : Bool) (m j : ℕ) → b ≡ false → (IsTrue b ↔ (m ≤ j)) → j < m
more-left b m j f says = ⊎_elim (λ (l : j < m). l) (λ (l : m ≤ j). absurd (false≢true (sym f ∙ says.1 l))) (cases_lt j m)

pub step-needs : (k : Cursor) (t : Trace) (b : Bool) → ((j : ℕ) × Stands k t j) → b ≡ false → Says k b
    → (u : Trace) × (j : ℕ) × Stands k u j × (j < count k.kind k.channel u.packets)
step-needs k t b (j, s) f says = (t, j, s, more-left b (count k.kind k.channel t.packets) j f (says t j s))

pub stepped : (k n : Cursor) (t : Trace) (b : Bool)
    → ((u : Trace) (j : ℕ) → Stands k u j → j < count k.kind k.channel u.packets → Stands n u (j + 1))
    → ((j : ℕ) × Stands k t j) → b ≡ false → Says k b → (j : ℕ) × Stands n t j
stepped k n t b step (j, s) f says = (j + 1, step t j s (more-left b (count k.kind k.channel t.packets) j f (says t j s)))

pub has-more : (k : Cursor) (t : Trace) (b : Bool) (c : ℕ) → WalksOver k Start c → ((j : ℕ) × Stands k t j) → b ≡ false → Says k b
    → (j : ℕ) × Stands k t j × (j < count Start c t.packets)
has-more k t b c over (j, s) f says = (
  j,
  s,
  subst (λ kind. j < count kind c t.packets) over.0 (subst (λ d. j < count k.kind d t.packets) over.1
      (more-left b (count k.kind k.channel t.packets) j f (says t j s))),
)
