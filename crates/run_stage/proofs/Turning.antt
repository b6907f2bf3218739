-- Played rows, one row longer.
use Rattle.std.proofs.Common.{◌≡◌, ℕ, zero, suc, ◌<◌, ◌≤◌, ◌&&◌, ◌==◌, true, false, not, List, [], ◌∷◌, ◌++◌, Option}
use Rattle.std.proofs.Common.{Some, None}
use Rattle.std.proofs.Common.{length, slice_get, take, refl, ap, sym, subst, ◌∙◌, arith, ⊎_elim}
use Rattle.std.proofs.Math.Logic.{∥∥₁_elim}
use Rattle.std.proofs.Props.{props}
use Rattle.std.proofs.lemmas.Bool.{false≢true}
use Rattle.std.proofs.lemmas.List.{take-append-le, take_all}
use Rattle.std.proofs.lemmas.Nat.Bits.{bit_at-zero}
use Rattle.std.proofs.lemmas.Option.{same_Some}
use Rattle.chan_replayer.specs.trace_model.declared.channel.Channel.{Channel}
use Rattle.chan_replayer.specs.trace_model.declared.row.Row.{Row}
use Rattle.chan_replayer.specs.chan_monitor.vidi_bits.Number.{has}
use Rattle.chan_replayer.specs.trace_model.Row.{completes, row_before, IsMarked, IsOver}
use Rattle.chan_replayer.specs.trace_model.Stability.{waits, IsLowestUnstable, IsUnstable, IsUnstableAt}
use Rattle.chan_replayer.proofs.trace_model_lemmas.RowLemmas.{before-last}
use Rattle.chan_replayer.proofs.trace_model_lemmas.ContentsLemmas.{fit_prop}
use Rattle.chan_replayer.proofs.trace_model_lemmas.CountingLemmas.{slice_get-append_left, slice_get-last, slice_get-push}
use Rattle.net_design.specs.declared.design.Design.{Design}
use Rattle.net_design.specs.declared.values.Values.{Values}
use Rattle.chan_replayer.specs.chan_map.declared.pins.Map.{Map}
use Rattle.chan_replayer.specs.run_model.Played.{AreStable, IsPlayed}
use Rattle.chan_replayer.proofs.run_model_lemmas.PlayedLaws.{played-nil}
use Rattle.run_stage.specs.Playing.{AreRuled, Begins, IsLast, Plays}

-- ---- the last row
pub last-push : (rows : List Row) (row last : Row) → last ≡ row → IsLast (row_before (rows ++ row ∷ []) (length (rows ++ row ∷ []))) last
last-push rows row last e = subst (λ (o : Option Row). IsLast o last) (sym (before-last rows row)) e

pub before-append : (rows : List Row) (row : Row) (t : ℕ) → t ≤ length rows → row_before (rows ++ row ∷ []) t ≡ row_before rows t
before-append rows row zero l = refl
before-append rows row (suc t) l = slice_get-append_left rows (row ∷ []) t (omega arith)

-- ---- stability
stable-last : (channels : List Channel) (o : Option Row) (last row before : Row) → IsLast o last → o ≡ Some before
    → IsLowestUnstable channels last row None → (c : ℕ) → IsUnstable channels before row c → ⊥
stable-last channels None last row before is e none c bad = absurd (cc)
stable-last channels (Some b) last row before is e none c bad =
    let same : last ≡ before = is ∙ same_Some b before e in
    none c (subst (λ (r : Row). IsUnstable channels r row c) (sym same) bad)

pub stable-push : (channels : List Channel) (rows : List Row) (last row : Row) → AreStable channels rows
    → IsLast (row_before rows (length rows)) last → IsLowestUnstable channels last row None → AreStable channels (rows ++ row ∷ [])
stable-push channels rows last row stable is none t before now b at c bad = ⊎_elim
    (λ (h : (t < length rows) × (slice_get rows t ≡ Some now)).
    stable t before now (sym (before-append rows row t (omega (arith, h.0))) ∙ b) h.1 c bad)
    (λ (h : (t ≡ length rows) × (row ≡ now)).
    stable-last channels (row_before rows (length rows)) last row before is
    (ap (row_before rows) (sym h.0) ∙ sym (before-append rows row t (omega (arith, h.0))) ∙ b) none c
    (subst (λ (r : Row). IsUnstable channels before r c) (sym h.1) bad))
    (slice_get-push rows row now t at)

-- the row is kept as the last one
pub stable-kept : (channels : List Channel) (rows : List Row) (last row kept : Row) → kept ≡ row → AreStable channels rows
    → IsLast (row_before rows (length rows)) last → IsLowestUnstable channels last row None → AreStable channels (rows ++ kept ∷ [])
stable-kept channels rows last row kept e stable is none = subst (λ (r : Row). AreStable channels (rows ++ r ∷ [])) (sym e)
    (stable-push channels rows last row stable is none)

pub no-wait : (row : Row) (c : ℕ) → row.valids ≡ 0 → waits row c ≡ true → ⊥
no-wait row c e h =
    let none : has row.valids c ≡ false = ap (λ m. has m c) e ∙ ap (λ k. k == 1) (bit_at-zero c) in
    false≢true (sym (ap (λ v. v && not (completes row c)) none) ∙ h)

pub unstable-now : (channels : List Channel) (rows : List Row) (last row : Row) (c : ℕ) → IsLast (row_before rows (length rows)) last
    → IsLowestUnstable channels last row (Some c) → IsUnstableAt channels (rows ++ row ∷ []) (length rows) c
unstable-now channels rows last row c is low = record {
  before = last;
  now = row;
  before_is = before-append rows row (length rows) (omega arith) ∙ some (row_before rows (length rows)) is;
  now_is = slice_get-last rows row;
  lowest = low;
}
  where
    some : (o : Option Row) → IsLast o last → o ≡ Some last
    some None e = absurd (no-wait last c e low.0.waited)
    some (Some b) e = ap Some (sym e)

-- ---- before the first row
pub stable-nil : (channels : List Channel) → AreStable channels []
stable-nil channels t before now b at c bad = absurd (cc)

pub first : (d : Design) (m : Map) (rule : List Row → Row → Type 0) (runs : Design → Values → List Row → Type 0) (last : Row)
    → last.valids ≡ 0 → Begins d m runs → Plays d m rule runs last []
first d m rule runs last silent (s, is, on) =
    let g = played-nil d m rule s is in
    record {
      played = g.played;
      at = subst (λ (v : Values). runs d v []) (sym g.state) on;
      stable = stable-nil m.channels;
      last_is = silent;
    }

-- ---- the last row of those that a design plays
pub record IsLastOf (m : Map) (rule : List Row → Row → Type 0) (rows : List Row) (row : Row) : Type 0 where
  pub over : IsOver m.channels row
  pub marked : IsMarked (row_before rows (length rows)) row
  pub ruled : rule rows row

pub last-of : (d : Design) (m : Map) (rule : List Row → Row → Type 0) (rows : List Row) (row : Row) → IsPlayed d m rule (rows ++ row ∷ [])
    → IsLastOf m rule rows row
last-of d m rule rows row played =
    let at = slice_get-last rows row in
    let both = played.marked (length rows) row at in
    let front : take (length rows) (rows ++ row ∷ []) ≡ rows =
    take-append-le (length rows) rows (row ∷ []) (omega arith) ∙ take_all (length rows) rows (omega arith) in
    record {
      over = both.0;
      marked = subst (λ (o : Option Row). IsMarked o row) (before-append rows row (length rows) (omega arith)) both.1;
      ruled = subst (λ (rs : List Row). rule rs row) front (played.ruled (length rows) row at);
    }

pub over_prop : (channels : List Channel) (row : Row) → IsProp (IsOver channels row)
over_prop channels row = hlevel (props, fit_prop)

pub over-last : (m : Map) (rule : List Row → Row → Type 0) (rows : List Row) (row : Row) → AreRuled m rule (rows ++ row ∷ [])
    → IsOver m.channels row
over-last m rule rows row are = ∥∥₁_elim are.played (over_prop m.channels row)
    (λ (x : (d : Design) × IsPlayed d m rule (rows ++ row ∷ [])). (last-of x.0 m rule rows row x.1).over)
