-- What is known of `wrap`.
use Rattle.std.proofs.Common.{◌≡◌, ℕ, Bool, true, false, List, Option, inl, inr}
use Rattle.wrap_command.specs.vidi_io.Shelf.{Files}
use Rattle.wrap_command.specs.vidi_bench.vidi_answer.declared.status.Status.{Status}
use Rattle.wrap_command.specs.Wraps.{StopsWrapping, Wraps}
use Rattle.vidi_commands.specs.Answer.{StartsNone}
use Rattle.wrap_command.proofs.QuietWraps.{mute-wraps, quiet-wraps}
use Rattle.vidi_commands.proofs.Facts.{Facts, Once, cut-once, done-starts}

wraps-once : (design map out : List ℕ) (files : Option Files) (F : List ℕ → Type 0)
    (P : Bool → Type 0) (status : Status) (text : List ℕ) (left : Option Files)
    → Wraps design map out files F P status text left → Once P
wraps-once design map out files F P status text left (inl (u, (same, none))) = (false, none)
wraps-once design map out files F P status text left (inr (f, m, is, (said, (held, once)))) = (true, once)

wraps-none : (design map out : List ℕ) (files : Option Files) (F : List ℕ → Type 0)
    (P : Bool → Type 0) (status : Status) (text : List ℕ) (left : Option Files)
    → Wraps design map out files F P status text left → StartsNone status → P false
wraps-none design map out files F P status text left (inl (u, (same, none))) is = none
wraps-none design map out files F P status text left (inr (f, m, able, (said, held))) is = absurd (done-starts status said.0 is)

stopped-once : (design map out : List ℕ) (files : Option Files) (P : Bool → Type 0) (left : Option Files)
    → StopsWrapping design map out files P left → Once P
stopped-once design map out files P left (f, m, is, cut) = cut-once files out _ P left cut

pub wrap-facts : (design map out : List ℕ) → Facts (Wraps design map out) (StopsWrapping design map out)
wrap-facts design map out = record {
  mute = mute-wraps design map out;
  quiet = quiet-wraps design map out;
  once = wraps-once design map out;
  none = wraps-none design map out;
  stopped = stopped-once design map out;
}
