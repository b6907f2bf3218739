-- Recordings of one design are one.
use Rattle.std.proofs.Common.{◌≡◌, ℕ, List, length, Option, None, Some, refl, sym, ap, ◌∙◌}
use Rattle.std.specs.Io.KnownBytes.{append_known}
use Rattle.replay_run.specs.trace_model.declared.row.Row.{Row}
use Rattle.replay_run.specs.trace_model.Recording.{trace_of}
use Rattle.replay_run.specs.trace_code.Encoding.{encode}
use Rattle.net_design.specs.declared.design.Design.{Design}
use Rattle.net_design.specs.declared.values.Values.{Values}
use Rattle.vidi_recorder.specs.declared.error.Outcome.{Outcome}
use Rattle.vidi_recorder.specs.declared.error.Outcome.TheVariants.{Whole, Unstable}
use Rattle.vidi_recorder.specs.Course.{Course, course, IsTheRunOf}
use Rattle.vidi_recorder.specs.Recording.{EndsWith, IsRecorded}
use Rattle.replay_run.specs.run_model.Laws.{OneThatEnds}
use Rattle.vidi_recorder.proofs.Runs.{one-recorded}
use Rattle.shim_cosim.specs.Records.{RecordsAlike}

same_told : (w : Course) (p q : Design → Values → Option Row → Type 0) (f g : List Row → Type 0) (xs ys : List Row) (old one other : Option (List ℕ)) (m n : ℕ) → xs ≡ ys
    → IsRecorded w p f xs old one m → IsRecorded w q g ys old other n → (m ≡ n) × (one ≡ other)
same_told w p q f g xs ys old one other m n same x y = (
  x.count ∙ ap (λ (rows : List Row). length (trace_of w.bound.channels rows).packets) same ∙ sym y.count,
  x.told ∙ ap (λ (rows : List Row). append_known old (encode (trace_of w.bound.channels rows))) same ∙ sym y.told,
)

same_channel : (i j : ℕ) → Some i ≡ Some j → i ≡ j
same_channel i j h = (cc)

same_ends : (w : Course) → OneThatEnds (IsTheRunOf w) → (p q : Design → Values → Option Row → Type 0) (f g : List Row → Type 0) (old one other : Option (List ℕ))
    (a b : Outcome) → EndsWith w p f old one a → EndsWith w q g old other b → (a ≡ b) × (one ≡ other)
same_ends w single p q f g old one other (Whole m) (Whole n) x y =
    let same = single.1 x.0 y.0 None None x.1 y.1 in
    let told = same_told w p q f g x.0 y.0 old one other m n same.0 x.2 y.2 in
    (ap Whole told.0, told.1)
same_ends w single p q f g old one other (Whole m) (Unstable j u n) x y =
    let wrong = (single.1 x.0 y.0 None (Some j) x.1 y.1).1 in
    absurd (cc)
same_ends w single p q f g old one other (Unstable i t m) (Whole n) x y =
    let wrong = (single.1 x.0 y.0 (Some i) None x.1 y.1).1 in
    absurd (cc)
same_ends w single p q f g old one other (Unstable i t m) (Unstable j u n) x y =
    let same = single.1 x.0 y.0 (Some i) (Some j) x.1 y.1 in
    let told = same_told w p q f g x.0 y.0 old one other m n same.0 x.3 y.3 in
    let channel : i ≡ j = same_channel i j same.1 in
    let cycle : t ≡ u = x.2 ∙ ap (λ (rows : List Row). length rows) same.0 ∙ sym y.2 in
    let packets : m ≡ n = told.0 in
    (rw (channel, cycle, packets) refl, told.1)

pub records_alike : (p q : Design → Values → Option Row → Type 0) (f g : List Row → Type 0) → RecordsAlike p q f g
records_alike p q f g d m offer stalls times cycles ready lasting old one other a b x y =
    same_ends (course d m offer stalls times cycles) (one-recorded d m offer stalls times cycles ready lasting).1 p q f g old one other a b x y
