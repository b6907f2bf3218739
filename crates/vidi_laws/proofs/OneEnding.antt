-- Steps of commands: one answer each.
use Rattle.std.proofs.Common.{◌≡◌, ℕ, ◌<◌, List, Some, length, inl, inr, sym, ap, subst, ◌∙◌, arith}
use Rattle.std.specs.FinMap.{get}
use Rattle.vidi_commands.specs.vidi_io.Shelf.{Files}
use Rattle.vidi_commands.specs.report_text.declared.reason.Word.{Word}
use Rattle.vidi_commands.specs.report_text.declared.reason.Reason.TheVariants.{TooLong}
use Rattle.vidi_commands.specs.vidi_bench.vidi_answer.declared.status.Status.{Status}
use Rattle.vidi_commands.specs.vidi_bench.vidi_answer.declared.status.Status.TheVariants.{ReadFault, Refused}
use Rattle.vidi_commands.specs.report_text.Reason.{reason_line, read_fault_line}
use Rattle.vidi_commands.specs.vidi_bench.Steps.{Ending, IsSaid, Step}
use Rattle.vidi_commands.specs.vidi_bench.Reading.{IsUnread, IsRead, Reading}
use Rattle.vidi_laws.proofs.Told.{both, there}

-- ---- what two answers have in common
abbrev pub Same : Status → Status → List ℕ → List ℕ → Type 0
Same a b x y = (a ≡ b) × (x ≡ y)

abbrev pub Meet : (Status → Status → List ℕ → List ℕ → Type 0) → Ending → Ending → Type 0
Meet R E F = (a b : Status) (x y : List ℕ) → E a x → F b y → R a b x y

abbrev pub OneBy : (Status → Status → List ℕ → List ℕ → Type 0) → Ending → Type 0
OneBy R E = Meet R E E

abbrev pub One : Ending → Type 0
One E = OneBy Same E

-- an ending isn't there where something is given to go on with
abbrev pub Apart : {X : Type 0} → Ending → (X → Type 0) → Type 0
Apart {X} Ends Gives = (a : Status) (x : List ℕ) (k : X) → Ends a x → Gives k → ⊥

pub one-said : (s : Status) (t : List ℕ) → One (IsSaid s t)
one-said s t a b x y p q = (p.0 ∙ sym q.0, p.1 ∙ sym q.1)

-- two endings, step by step
pub step-meets : {X Y : Type 0} (R : Status → Status → List ℕ → List ℕ → Type 0) (Ends Others : Ending) (Gives : X → Type 0)
    (Takes : Y → Type 0) (Next : X → Ending) (After : Y → Ending) → Meet R Ends Others → Apart Ends Takes → Apart Others Gives
    → ((k : X) (m : Y) → Gives k → Takes m → Meet R (Next k) (After m)) → Meet R (Step Ends Gives Next) (Step Others Takes After)
step-meets R Ends Others Gives Takes Next After ends apart others next a b x y (inl e) (inl f) = ends a b x y e f
step-meets R Ends Others Gives Takes Next After ends apart others next a b x y (inl e) (inr (m, h, n)) = absurd (apart a x m e h)
step-meets R Ends Others Gives Takes Next After ends apart others next a b x y (inr (k, g, n)) (inl f) = absurd (others b y k f g)
step-meets R Ends Others Gives Takes Next After ends apart others next a b x y (inr (k, g, n)) (inr (m, h, o)) =
    next k m g h a b x y n o

-- a step that gives one thing
pub one-step-by : {X : Type 0} (R : Status → Status → List ℕ → List ℕ → Type 0) (Ends : Ending) (Gives : X → Type 0) (Next : X → Ending)
    → OneBy R Ends → ((x y : X) → Gives x → Gives y → x ≡ y) → Apart Ends Gives → ((x : X) → Gives x → OneBy R (Next x))
    → OneBy R (Step Ends Gives Next)
one-step-by {X} R Ends Gives Next one same apart next = step-meets R Ends Ends Gives Gives Next Next one apart apart
    (λ k m g h. subst (λ (z : X). Meet R (Next k) (Next z)) (same k m g h) (next k g))

-- ---- a file that is read
pub one-unread : (limit : ℕ) (word : Word) (name : List ℕ) (files : Files) → One (IsUnread limit word name (Some files) (λ _. ⊥))
one-unread limit word name files a b x y (inl (u, s)) (inl (v, t)) = one-said (ReadFault word) (read_fault_line word) a b x y s t
one-unread limit word name files a b x y (inl (u, s)) (inr (long, t)) = absurd (there (get files name) (λ file. limit < length file) long u)
one-unread limit word name files a b x y (inr (long, s)) (inl (v, t)) = absurd (there (get files name) (λ file. limit < length file) long v)
one-unread limit word name files a b x y (inr (long, s)) (inr (more, t)) =
    one-said (Refused word (TooLong limit)) (reason_line word (TooLong limit)) a b x y s t

pub unread-read : (limit : ℕ) (word : Word) (name : List ℕ) (files : Files) (a : Status) (x file : List ℕ)
    → IsUnread limit word name (Some files) (λ _. ⊥) a x → IsRead limit name (Some files) file → ⊥
unread-read limit word name files a x file (inl (u, s)) (told, small) = there (get files name) (λ t. t ≡ file) told u
unread-read limit word name files a x file (inr (long, s)) (told, small) =
    let f = both (get files name) (λ t. t ≡ file) (λ t. limit < length t) told long in
    let same : length f.0 ≡ length file = ap length f.1 in
    let longer : limit < length f.0 = f.2 in
    omega (arith, same, longer, small)

pub one-read : (limit : ℕ) (name : List ℕ) (files : Files) (f g : List ℕ) → IsRead limit name (Some files) f
    → IsRead limit name (Some files) g → f ≡ g
one-read limit name files f g (told, small) (told', small') =
    let h = both (get files name) (λ t. t ≡ f) (λ t. t ≡ g) told told' in sym h.1 ∙ h.2

-- where a file is read, nothing but what comes of its bytes ends the command
pub reading-apart : (limit : ℕ) (word : Word) (name : List ℕ) (files : Files) (Next : List ℕ → Ending) (file : List ℕ)
    → IsRead limit name (Some files) file → (a : Status) (x : List ℕ) → (Next file a x → ⊥)
    → Reading limit word name (Some files) (λ _. ⊥) Next a x → ⊥
reading-apart limit word name files Next file read a x apart (inl unread) = unread-read limit word name files a x file unread read
reading-apart limit word name files Next file read a x apart (inr (bytes, read', rest)) =
    apart (subst (λ (f : List ℕ). Next f a x) (one-read limit name files bytes file read' read) rest)

pub one-reading-by : (R : Status → Status → List ℕ → List ℕ → Type 0)
    → ((a b : Status) (x y : List ℕ) → Same a b x y → R a b x y)
    → (limit : ℕ) (word : Word) (name : List ℕ) (files : Files) (Next : List ℕ → Ending) → ((file : List ℕ) → OneBy R (Next file))
    → OneBy R (Reading limit word name (Some files) (λ _. ⊥) Next)
one-reading-by R up limit word name files Next one =
    one-step-by R (IsUnread limit word name (Some files) (λ _. ⊥)) (IsRead limit name (Some files)) Next
    (λ a b x y e f. up a b x y (one-unread limit word name files a b x y e f)) (one-read limit name files)
    (unread-read limit word name files) (λ file _. one file)

pub one-reading : (limit : ℕ) (word : Word) (name : List ℕ) (files : Files) (Next : List ℕ → Ending) → ((file : List ℕ) → One (Next file))
    → One (Reading limit word name (Some files) (λ _. ⊥) Next)
one-reading limit word name files Next one = one-reading-by Same (λ a b x y same. same) limit word name files Next one
