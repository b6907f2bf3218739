-- From what ends one step of a command to what the command gives.
use Rattle.std.proofs.Common.{◌≡◌, ℕ, ◌≤◌, List, Option, Result, Ok, Err, inl, inr, refl, sym, subst, arith}
use Rattle.std.specs.Prelude.{IfErr, IfOk}
use Rattle.std.specs.Result.{IsErrAnd}
use Rattle.report_text.specs.vidi_io.Cause.{Rose}
use Rattle.report_text.specs.vidi_io.Shelf.{Files}
use Rattle.report_text.specs.declared.reason.Word.{Word}
use Rattle.vidi_answer.specs.declared.answer.Answer.{Answer}
use Rattle.vidi_answer.specs.declared.answer.Ended.{Ended}
use Rattle.vidi_answer.specs.declared.answer.Ended.TheVariants.{Refused, WriteFault, Memory}
use Rattle.vidi_answer.specs.declared.status.Status.{Status}
use Rattle.vidi_answer.specs.AnswerText.{text_of}
use Rattle.vidi_answer.specs.Ended.{EndsWith, IsAnswered, Owes}
use Rattle.vidi_answer.specs.Reading.{IsRead, IsUnread}
use Rattle.vidi_answer.specs.Steps.{Ending}

abbrev pub Implies : Ending → Ending → Type 0
Implies E G = (a : Status) (x : List ℕ) → E a x → G a x

-- what ends it in one way ends it in another
pub ends-as : (E G : Ending) (e : Ended) → Implies E G → EndsWith E e → EndsWith G e
ends-as E G (Refused a) on is = on a.status (text_of a.text) is
ends-as E G WriteFault on is = is
ends-as E G Memory on is = tt

-- of whatever is made after it
pub all-as : {X : Type 0} (E G : Ending) (r : Result X Ended) → Implies E G → IfErr r (EndsWith E) → IfErr r (EndsWith G)
all-as E G (Ok x) on is = tt
all-as E G (Err e) on is = ends-as E G e on is

-- of the answer of a command that writes no file
pub all-answered : (E G : Ending) (r : Result Answer Ended) → Implies E G → IsAnswered E r → IsAnswered G r
all-answered E G (Ok a) on is = on a.status (text_of a.text) is
all-answered E G (Err e) on is = ends-as E G e on is

-- ---- what `?` passes on
pub passed-as : {X : Type 0} (E G : Ending) (e : Ended) (r : Result X Ended) → IsErrAnd r (λ made. made ≡ e) → Implies E G
    → EndsWith E e → IfErr r (EndsWith G)
passed-as E G e (Ok x) made on is = absurd made
passed-as E G e (Err d) made on is = subst (λ (k : Ended). EndsWith G k) (sym made) (ends-as E G e on is)

-- as the end of a command that writes no file
pub answered-as : (E G : Ending) (e : Ended) (r : Result Answer Ended) → IsErrAnd r (λ made. made ≡ e) → Implies E G → EndsWith E e
    → IsAnswered G r
answered-as E G e (Ok a) made on is = absurd made
answered-as E G e (Err d) made on is = subst (λ (k : Ended). EndsWith G k) (sym made) (ends-as E G e on is)

-- ---- what a command owes, all left as it was
ended-owed : (E : Ending) (Earned : Status → List ℕ → Option Files → Type 0) (CutOff : Option Files → Type 0) (W : Type 0)
    (Kept : Option Files → Type 0) (left : Option Files) (e : Ended) → Kept left
    → ((a : Status) (x : List ℕ) → E a x → Earned a x left) → EndsWith E e → Owes Earned CutOff W Kept left (Err e)
ended-owed E Earned CutOff W Kept left (Refused a) same on is = on a.status (text_of a.text) is
ended-owed E Earned CutOff W Kept left WriteFault same on is = absurd is
ended-owed E Earned CutOff W Kept left Memory same on is = same

-- by its answer
pub owed : (E : Ending) (Earned : Status → List ℕ → Option Files → Type 0) (CutOff : Option Files → Type 0) (W : Type 0)
    (Kept : Option Files → Type 0) (left : Option Files) (r : Result Answer Ended) → Kept left
    → ((a : Status) (x : List ℕ) → E a x → Earned a x left) → IsAnswered E r → Owes Earned CutOff W Kept left r
owed E Earned CutOff W Kept left (Ok a) same on is = on a.status (text_of a.text) is
owed E Earned CutOff W Kept left (Err e) same on is = ended-owed E Earned CutOff W Kept left e same on is

-- by what ends it
pub passed-owed : (E : Ending) (Earned : Status → List ℕ → Option Files → Type 0) (CutOff : Option Files → Type 0) (W : Type 0)
    (Kept : Option Files → Type 0) (left : Option Files) (e : Ended) (r : Result Answer Ended) → IsErrAnd r (λ made. made ≡ e) → Kept left
    → ((a : Status) (x : List ℕ) → E a x → Earned a x left) → EndsWith E e → Owes Earned CutOff W Kept left r
passed-owed E Earned CutOff W Kept left e r made same on is =
    owed E Earned CutOff W Kept left r same on (answered-as E E e r made (λ a x it. it) is)

-- of what is owed to more
pub owed-as : (Earned Others : Status → List ℕ → Option Files → Type 0) (CutOff Cut : Option Files → Type 0) (W : Type 0)
    (Kept : Option Files → Type 0) (left : Option Files) (r : Result Answer Ended)
    → ((a : Status) (x : List ℕ) → Earned a x left → Others a x left) → (CutOff left → Cut left) → Owes Earned CutOff W Kept left r
    → Owes Others Cut W Kept left r
owed-as Earned Others CutOff Cut W Kept left (Ok a) on cut is = on a.status (text_of a.text) is
owed-as Earned Others CutOff Cut W Kept left (Err (Refused a)) on cut is = on a.status (text_of a.text) is
owed-as Earned Others CutOff Cut W Kept left (Err WriteFault) on cut (failed, is) = (failed, cut is)
owed-as Earned Others CutOff Cut W Kept left (Err Memory) on cut is = is

-- ---- files that are read one after another
-- a count that rose since a later place rose since an earlier one
pub rose-since : (first middle now : ℕ) → first ≤ middle → Rose middle now → Rose first now
rose-since first middle now later rose = omega (arith, later, rose)

-- a file that wasn't read at first isn't read at all
pub unread-as : (limit : ℕ) (word : Word) (name : List ℕ) (files now : Option Files) (F G : List ℕ → Type 0) → now ≡ files
    → (F name → G name) → Implies (IsUnread limit word name now F) (IsUnread limit word name files G)
unread-as limit word name files now F G same on a x (inl (inl absent, said)) =
    subst (λ (fs : Option Files). IsUnread limit word name fs G a x) same (inl (inl absent, said))
unread-as limit word name files now F G same on a x (inl (inr failed, said)) = inl (inr (on failed), said)
unread-as limit word name files now F G same on a x (inr long) =
    subst (λ (fs : Option Files). IsUnread limit word name fs G a x) same (inr long)

-- the bytes that were read are those of the file at first
pub read-as : (limit : ℕ) (name : List ℕ) (files now : Option Files) (bytes : List ℕ) → now ≡ files → IsRead limit name now bytes
    → IsRead limit name files bytes
read-as limit name files now bytes same read = subst (λ (fs : Option Files). IsRead limit name fs bytes) same read

-- ---- what a result holds
pub if-ends : {X E : Type 0} {P Q : X → Type 0} (r : Result X E) → IfOk r P → ((x : X) → P x → Q x) → IfOk r Q
if-ends (Ok x) p f = f x p
if-ends (Err e) p f = tt

pub if-fails : {X E : Type 0} {P Q : E → Type 0} (r : Result X E) → IfErr r P → ((e : E) → r ≡ Err e → P e → Q e) → IfErr r Q
if-fails (Ok x) p f = tt
if-fails (Err e) p f = f e refl p
