-- How many files a call has started, by its answer.
use Rattle.std.proofs.Common.{ℕ, Bool, false, List, Option, inl, inr}
use Rattle.wrap_command.specs.vidi_io.Shelf.{Files}
use Rattle.wrap_command.specs.vidi_bench.vidi_answer.declared.status.Status.{Status}
use Rattle.wrap_command.specs.vidi_bench.vidi_answer.declared.status.Status.TheVariants.{Done, Usage, ReadFault, WriteFault, Refused, Unstable, Short, Diverged, Memory}
use Rattle.vidi_commands.specs.Answer.{Answers, Earns, StartsNone, Stops}
use Rattle.vidi_commands.proofs.CommandFacts.{facts}
use Rattle.vidi_commands.proofs.Facts.{Once}

-- ---- one file at most
pub earns-once : (words : List (List ℕ)) (files : Option Files) (F : List ℕ → Type 0) (P : Bool → Type 0) (status : Status)
    (text : List ℕ) (left : Option Files) → Earns words files F P status text left → Once P
earns-once words files F P status text left (inl (given, said, (same, none))) = (false, none)
earns-once words files F P status text left (inr (inl (said, (same, none)))) = (false, none)
earns-once words files F P status text left (inr (inr (c, given, d))) = (facts c).once files F P status text left d

pub stopped-once : (words : List (List ℕ)) (files : Option Files) (P : Bool → Type 0) (left : Option Files) → Stops words files P left
    → Once P
stopped-once words files P left (c, given, is) = (facts c).stopped files P left is

pub answers-once : (words : List (List ℕ)) (files : Option Files) (F : List ℕ → Type 0) (P : Bool → Type 0) (W V : Type 0)
    (old new : Option (List ℕ)) (left : Option Files) (status : Status)
    → Answers (Earns words files F P) (Stops words files P) W V old new left status → Once P
answers-once words files F P W V old new left WriteFault (inl (failed, (status, text, e, some))) =
    earns-once words files F P status text left e
answers-once words files F P W V old new left WriteFault (inr (failed, stopped, same)) = stopped-once words files P left stopped
answers-once words files F P W V old new left Done (text, e, told) = earns-once words files F P Done text left e
answers-once words files F P W V old new left Usage (text, e, told) = earns-once words files F P Usage text left e
answers-once words files F P W V old new left (ReadFault word) (text, e, told) = earns-once words files F P (ReadFault word) text left e
answers-once words files F P W V old new left (Refused word reason) (text, e, told) = earns-once words files F P (Refused word reason) text left e
answers-once words files F P W V old new left (Unstable channel cycle) (text, e, told) = earns-once words files F P (Unstable channel cycle) text left e
answers-once words files F P W V old new left (Short helds events) (text, e, told) = earns-once words files F P (Short helds events) text left e
answers-once words files F P W V old new left Diverged (text, e, told) = earns-once words files F P Diverged text left e
answers-once words files F P W V old new left Memory (text, e, told) = earns-once words files F P Memory text left e

-- ---- none before an answer that refuses
earns-none : (words : List (List ℕ)) (files : Option Files) (F : List ℕ → Type 0) (P : Bool → Type 0) (status : Status)
    (text : List ℕ) (left : Option Files) → Earns words files F P status text left → StartsNone status → P false
earns-none words files F P status text left (inl (given, said, (same, none))) is = none
earns-none words files F P status text left (inr (inl (said, (same, none)))) is = none
earns-none words files F P status text left (inr (inr (c, given, d))) is = (facts c).none files F P status text left d is

pub answers-none : (words : List (List ℕ)) (files : Option Files) (F : List ℕ → Type 0) (P : Bool → Type 0) (S : Option Files → Type 0)
    (W V : Type 0) (old new : Option (List ℕ)) (left : Option Files) (status : Status)
    → Answers (Earns words files F P) S W V old new left status → StartsNone status → P false
answers-none words files F P S W V old new left Done answer is = absurd is
answers-none words files F P S W V old new left Usage (text, e, told) is = earns-none words files F P Usage text left e is
answers-none words files F P S W V old new left (ReadFault word) (text, e, told) is = earns-none words files F P (ReadFault word) text left e is
answers-none words files F P S W V old new left WriteFault answer is = absurd is
answers-none words files F P S W V old new left (Refused word reason) (text, e, told) is = earns-none words files F P (Refused word reason) text left e is
answers-none words files F P S W V old new left (Unstable channel cycle) answer is = absurd is
answers-none words files F P S W V old new left (Short helds events) answer is = absurd is
answers-none words files F P S W V old new left Diverged answer is = absurd is
answers-none words files F P S W V old new left Memory (text, e, told) is = earns-none words files F P Memory text left e is
