-- The command `wrap`: no failed write among its answers, and the same where no read failed.
use Rattle.std.proofs.Common.{ℕ, Bool, List, Option, length, inl, inr}
use Rattle.vlog_tree.specs.Tree.{FileOf}
use Rattle.shim_gen.specs.chan_map.declared.pins.Map.{Map}
use Rattle.shim_gen.specs.chan_map.declared.text.MapText.{MapText}
use Rattle.shim_gen.specs.chan_map.Bound.{BindsMap}
use Rattle.shim_gen.specs.chan_map.Text.{ReadsMap}
use Rattle.std.specs.Prelude.{Ok}
use Rattle.vidi_bench.specs.vidi_io.Shelf.{Files}
use Rattle.shim_gen.specs.shim_trees.RecordTop.{record_name}
use Rattle.shim_gen.specs.shim_trees.ReplayTop.{replay_name}
use Rattle.shim_gen.specs.shim_trees.Wrapped.{wrapped}
use Rattle.vidi_bench.specs.report_text.declared.reason.Word.TheVariants as words
use Rattle.vidi_bench.specs.report_text.declared.reason.Reason.TheVariants as reasons
use Rattle.vidi_bench.specs.vidi_answer.declared.status.Status.{Status}
use Rattle.vidi_bench.specs.vidi_answer.declared.status.Status.TheVariants.{Done, WriteFault}
use Rattle.vidi_bench.specs.Design.{text_limit, Building}
use Rattle.vidi_bench.specs.Devices.{Binding, IsNoMap, IsUnbound, Mapping}
use Rattle.vidi_bench.specs.Reading.{Reading}
use Rattle.wrap_command.specs.Said.{wrapped_line}
use Rattle.wrap_command.specs.Shims.{IsFaulty, IsFaultyTop, IsFaultyTree, IsUnwrapped}
use Rattle.wrap_command.specs.Wraps.{IsUnwritten, RefusedWrap, Wraps}
use Rattle.vidi_bench.proofs.Quiet.{Mute, mute-step, mute-reading, mute-refusal, mute-said, done-goes, quiet-reading}
use Rattle.vidi_bench.proofs.QuietTexts.{mute-spelling, mute-building, mute-no_map, mute-unbound}

-- ---- no failed write
mute-faulty : (n : ℕ) → Mute (IsFaulty n)
mute-faulty n = mute-refusal words.Design (reasons.Wrapped n)

mute-top : (top : List ℕ) (w : FileOf ℕ) → Mute (IsFaultyTop top w)
mute-top top w x (inl (error, is, (n, names, s))) = mute-faulty n x s
mute-top top w x (inr (d, accepted, (loop, is, s))) = mute-faulty 10 x s

mute-tree : (w : FileOf ℕ) → Mute (IsFaultyTree w)
mute-tree w x (inl (line, deep, s)) = mute-faulty 14 x s
mute-tree w x (inr (shallow, inl recording)) = mute-top record_name w x recording
mute-tree w x (inr (shallow, inr (clear, replaying))) = mute-top replay_name w x replaying

mute-unwrapped : (f : FileOf ℕ) (m : Map) → Mute (IsUnwrapped f m)
mute-unwrapped f m x (inl (name, is, s)) = mute-refusal words.Design (reasons.Reserved name) x s
mute-unwrapped f m x (inr (none, inl faulty)) = mute-tree (wrapped f m) x faulty
mute-unwrapped f m x (inr (none, inr (clear, (long, s)))) = mute-refusal words.Design reasons.WrapLong x s

mute-refused_wrap : (design map : List ℕ) → Mute (RefusedWrap design map)
mute-refused_wrap design map = mute-spelling design (λ f. Mapping map f (IsUnwrapped f)) (λ f.
    mute-step (IsNoMap map) (λ (text : MapText). ReadsMap map (Ok text))
    (λ (text : MapText). Building text.top f (λ d. Binding text d (IsUnwrapped f)))
    (mute-no_map map) (λ text. mute-building text.top f (λ d. Binding text d (IsUnwrapped f)) (λ d.
    mute-step (IsUnbound text d) (λ (k : Map). BindsMap text d (Ok k)) (IsUnwrapped f) (mute-unbound text d) (mute-unwrapped f))))

mute-unwritten : (design map : List ℕ) (files : Option Files) (F : List ℕ → Type 0) → Mute (IsUnwritten design map files F)
mute-unwritten design map files F = mute-reading text_limit words.Design design files F
    (λ d. Reading text_limit words.Map map files F (RefusedWrap d))
    (λ d. mute-reading text_limit words.Map map files F (RefusedWrap d) (λ m. mute-refused_wrap d m))

pub mute-wraps : (design map out : List ℕ) (files : Option Files) (F : List ℕ → Type 0) (P : Bool → Type 0) (x : List ℕ)
    (left : Option Files) → Wraps design map out files F P WriteFault x left → ⊥
mute-wraps design map out files F P x left (inl (unwritten, same)) = mute-unwritten design map files F x unwritten
mute-wraps design map out files F P x left (inr (f, m, wrappable, (said, held))) =
    mute-said Done (wrapped_line (length m.channels)) done-goes x said

-- ---- where no read failed
pub quiet-wraps : (design map out : List ℕ) (files : Option Files) (F : List ℕ → Type 0) (P : Bool → Type 0) (a : Status) (x : List ℕ)
    (left : Option Files) → ((name : List ℕ) → ¬ F name) → Wraps design map out files F P a x left
    → Wraps design map out files (λ _. ⊥) P a x left
quiet-wraps design map out files F P a x left quiet (inl (unwritten, same)) =
    inl (
      quiet-reading text_limit words.Design design files F _ _ (quiet design)
          (λ d. quiet-reading text_limit words.Map map files F (RefusedWrap d) (RefusedWrap d) (quiet map)
          (λ m b y rest. rest)) a x unwritten,
      same,
    )
quiet-wraps design map out files F P a x left quiet (inr wrote) = inr wrote
