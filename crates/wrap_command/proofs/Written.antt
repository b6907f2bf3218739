-- From the texts of a design and a map, and from the wrapped tree, to the answer of `wrap`.
use Rattle.std.proofs.Common.{◌≡◌, ℕ, Bool, true, false, List, Option, Result, Ok, Err, length, inl, inr, ap, subst, ◌∙◌}
use Rattle.std.specs.Prelude.{IfOk, IfErr}
use Rattle.vlog_tree.specs.Tree.{FileOf}
use Rattle.vidi_bench.specs.vidi_io.Shelf.{Files, holding}
use Rattle.vidi_bench.specs.vidi_io.Writing.{IsCutOff, IsKept}
use Rattle.vidi_bench.proofs.vidi_io_lemmas.Cut.{cut-knowing}
use Rattle.shim_gen.specs.chan_map.declared.pins.Map.{Map}
use Rattle.shim_gen.specs.chan_map.declared.text.MapText.{MapText}
use Rattle.shim_gen.specs.chan_map.Text.{ReadsMap}
use Rattle.shim_gen.specs.shim_trees.Wrapped.{wrapped}
use Rattle.vidi_bench.specs.vidi_answer.declared.answer.Answer.{Answer}
use Rattle.vidi_bench.specs.vidi_answer.declared.answer.Ended.{Ended}
use Rattle.vidi_bench.specs.vidi_answer.declared.answer.Ended.TheVariants as ends
use Rattle.vidi_bench.specs.vidi_answer.declared.status.Status.TheVariants.{Done}
use Rattle.wrap_command.specs.declared.wrapping.Wrapping.{Wrapping}
use Rattle.vidi_bench.specs.AnswerText.{text_of}
use Rattle.vidi_bench.specs.Design.{text_limit, Building, Spells}
use Rattle.vidi_bench.specs.Devices.{Binding}
use Rattle.vidi_bench.specs.Ended.{IsStopped, Owes}
use Rattle.vidi_bench.specs.Reading.{IsRead}
use Rattle.wrap_command.specs.Said.{wrapped_line}
use Rattle.wrap_command.specs.Shims.{file_text, IsUnwrapped, IsWrapped}
use Rattle.vidi_bench.specs.Steps.{Ending, IsSaid, Never}
use Rattle.wrap_command.specs.Wraps.{IsFitted, IsPlanned, IsPlannedTexts, RefusedWrap, StopsWrapping, Wraps}
use Rattle.vidi_bench.proofs.Chain.{Implies}

-- ---- the steps of two texts

-- a design or a map of its ports that isn't accepted ends the command, whatever comes of the bound map
pub never-built : (top : List ℕ) (text : MapText) (f : FileOf ℕ) (Next : Map → Ending)
    → Implies (Building top f (λ d. Binding text d (λ _. Never))) (Building top f (λ d. Binding text d Next))
never-built top text f Next a x (inl refused) = inl refused
never-built top text f Next a x (inr (d, accepted, inl looped)) = inr (d, accepted, inl looped)
never-built top text f Next a x (inr (d, accepted, inr (order, ordered, inl unbound))) =
    inr (d, accepted, inr (order, ordered, inl unbound))
never-built top text f Next a x (inr (d, accepted, inr (order, ordered, inr (m, bound, never)))) = absurd never

-- where they are accepted, what comes of the file and the bound map comes of the texts
pub fitted-then : (design map : List ℕ) (f : FileOf ℕ) (text : MapText) (m : Map) → Spells design f → ReadsMap map (Ok text)
    → IsFitted text f m → Implies (IsUnwrapped f m) (RefusedWrap design map)
fitted-then design map f text m spelled mapped is a x next =
    inr (f, spelled, inr (text, mapped, inr (is.design, is.accepted, inr (is.drivers, is.ordered, inr (m, is.bound, next)))))

-- ---- what the two texts say
pub texts-said : (design map : List ℕ) (f : FileOf ℕ) (text : MapText) (m : Map) (bytes : List ℕ) (channels : ℕ) → Spells design f
    → ReadsMap map (Ok text) → IsFitted text f m → IsWrapped f m → bytes ≡ file_text (wrapped f m) → channels ≡ length m.channels
    → IsPlannedTexts design map bytes channels
texts-said design map f text m bytes channels spelled mapped fitted whole same count = (
  f,
  m,
  record { spelled = spelled; text = text; mapped = mapped; fitted = fitted; wrapped = whole },
  same,
  count,
)

-- ---- what the files say
pub planned-said : (design map : List ℕ) (files : Option Files) (d m : List ℕ) (r : Result Wrapping Ended)
    → IsRead text_limit design files d → IsRead text_limit map files m → IfOk r (λ p. IsPlannedTexts d m p.text p.channels)
    → IfOk r (λ p. IsPlanned design map files p.text p.channels)
planned-said design map files d m (Ok p) first second (f, k, is, text, channels) = (
  f,
  k,
  record { design_text = d; map_text = m; design_read = first; map_read = second; wrapping = is },
  text,
  channels,
)
planned-said design map files d m (Err e) first second planned = tt

-- ---- what is owed for what is written
pub written-owed : (design map out : List ℕ) (files now left : Option Files) (F : List ℕ → Type 0) (p : Wrapping) (V W : Type 0)
    (P Q : Bool → Type 0) (r : Result Answer Ended) → now ≡ files → IsPlanned design map files p.text p.channels → (V → W)
    → ((once : Bool) → P once → Q once)
    → IfOk r (λ a. IsSaid Done (wrapped_line p.channels) a.status (text_of a.text))
    → IfOk r (λ a. left ≡ holding now out p.text) → IfOk r (λ a. P true)
    → IfErr r (IsStopped (IsCutOff now out p.text P) V (IsKept now P) left)
    → Owes (Wraps design map out files F Q) (StopsWrapping design map out files Q) W (IsKept files Q) left r
written-owed design map out files now left F p V W P Q (Ok a) same (f, m, is, text, channels) why kept said holds once stopped = inr (
  f,
  m,
  is,
  (
    (said.0, said.1 ∙ ap (λ (n : ℕ). wrapped_line n) channels),
    (
      holds ∙ ap (λ (fs : Option Files). holding fs out p.text) same ∙ ap (λ (b : List ℕ). holding files out b) text,
      kept true once,
    ),
  ),
)
written-owed design map out files now left F p V W P Q (Err (ends.Refused a)) same is why kept said holds once stopped = absurd stopped
written-owed design map out files now left F p V W P Q (Err ends.WriteFault) same (f, m, is, text, channels) why kept said holds once
    (failed, cut) = (
      why failed,
      (
        f,
        m,
        is,
        subst (λ (b : List ℕ). IsCutOff files out b Q left) text
            (subst (λ (fs : Option Files). IsCutOff fs out p.text Q left) same (cut-knowing now left out p.text P Q kept cut)),
      ),
    )
written-owed design map out files now left F p V W P Q (Err ends.Memory) same is why kept said holds once (stays, none) =
    (stays ∙ same, kept false none)
