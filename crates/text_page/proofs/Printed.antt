-- What is printed goes on.
use Rattle.std.proofs.Common.{◌≡◌, ℕ, ◌++◌, Bool, true, false, List, [], Option, Some, None, Result, Ok, Err}
use Rattle.std.proofs.Common.{refl, sym, ap, subst, ◌∙◌, append_assoc}
use Rattle.std.proofs.lemmas.List.{append-nil}
use Rattle.std.specs.Prelude.{OnOk, OnErr}
use Rattle.std.specs.Io.KnownBytes.{append_known}
use Rattle.vidi_io.specs.Sink.{AppendsSome}
use Rattle.text_page.specs.Printing.{IsHeld, IsPrinted, Prints, Sends}

known_assoc : (base : Option (List ℕ)) (a b : List ℕ) → append_known (append_known base a) b ≡ append_known base (a ++ b)
known_assoc None a b = refl
known_assoc (Some x) a b = ap Some (append_assoc x a b)

known_nothing : (base : Option (List ℕ)) → append_known base [] ≡ base
known_nothing None = refl
known_nothing (Some x) = ap Some (append-nil x)

-- a front of a text is a front of a longer one
widened : (base told : Option (List ℕ)) (before text : List ℕ) → AppendsSome base told before → AppendsSome base told (before ++ text)
widened base told before text some = record {
  kept = some.kept;
  lost = some.lost ++ text;
  split = ap (λ (x : List ℕ). x ++ text) some.split ∙ append_assoc some.kept some.lost text;
  told = some.told;
}

pub lost_stays : (told : Option (List ℕ)) (held : List ℕ) (lost : Bool) → lost ≡ true → (text : List ℕ)
    → Prints told held lost told held lost text
lost_stays told held true e text = λ base before some. widened base told before text some
lost_stays told held false e text = let no : false ≡ true = e in cc

-- a piece that the pad takes
pub kept : (told : Option (List ℕ)) (held held' : List ℕ) (lost : Bool) (piece : List ℕ) → held' ≡ held ++ piece
    → Prints told held lost told held' lost piece
kept told held held' true piece e = lost_stays told held' true refl piece
kept told held held' false piece e = λ base before is. record {
  pushed = is.pushed;
  told_is = is.told_is;
  text_is = ap (λ (x : List ℕ). x ++ piece) is.text_is ∙ append_assoc is.pushed held piece ∙ ap (λ (x : List ℕ). is.pushed ++ x) (sym e);
}

-- a piece that is pushed while the pad is empty
pub pushed : (told told' : Option (List ℕ)) (held held' : List ℕ) (lost lost' : Bool) (piece : List ℕ) → held ≡ [] → held' ≡ []
    → Sends told lost told' lost' piece → Prints told held lost told' held' lost' piece
pushed told told' held held' true true piece none none' (is, same) = λ base before some.
    widened base told' before piece (subst (λ (t : Option (List ℕ)). AppendsSome base t before) (sym same) some)
pushed told told' held held' true false piece none none' (is, same) = let no : false ≡ true = is in cc
pushed told told' held held' false true piece none none' some = λ base before is. record {
  kept = is.pushed ++ some.kept;
  lost = some.lost;
  split = let whole : before ≡ is.pushed = is.text_is ∙ ap (λ (h : List ℕ). is.pushed ++ h) none ∙ append-nil is.pushed in
      ap (λ (b : List ℕ). b ++ piece) whole ∙ ap (λ (p : List ℕ). is.pushed ++ p) some.split
      ∙ sym (append_assoc is.pushed some.kept some.lost);
  told = some.told ∙ ap (λ (t : Option (List ℕ)). append_known t some.kept) is.told_is ∙ known_assoc base is.pushed some.kept;
}
pushed told told' held held' false false piece none none' sent = λ base before is. record {
  pushed = is.pushed ++ piece;
  told_is = sent ∙ ap (λ (t : Option (List ℕ)). append_known t piece) is.told_is ∙ known_assoc base is.pushed piece;
  text_is = let whole : before ≡ is.pushed = is.text_is ∙ ap (λ (h : List ℕ). is.pushed ++ h) none ∙ append-nil is.pushed in
      ap (λ (b : List ℕ). b ++ piece) whole ∙ sym (append-nil (is.pushed ++ piece))
      ∙ ap (λ (h : List ℕ). (is.pushed ++ piece) ++ h) (sym none');
}

-- what the pad held is pushed
pub flushed : (told told' : Option (List ℕ)) (held held' : List ℕ) (lost lost' : Bool) → held' ≡ []
    → Sends told lost told' lost' held → Prints told held lost told' held' lost' []
flushed told told' held held' true true none (is, same) = λ base before some.
    widened base told' before [] (subst (λ (t : Option (List ℕ)). AppendsSome base t before) (sym same) some)
flushed told told' held held' true false none (is, same) = let no : false ≡ true = is in cc
flushed told told' held held' false true none some = λ base before is. record {
  kept = is.pushed ++ some.kept;
  lost = some.lost;
  split = append-nil before ∙ is.text_is ∙ ap (λ (p : List ℕ). is.pushed ++ p) some.split
      ∙ sym (append_assoc is.pushed some.kept some.lost);
  told = some.told ∙ ap (λ (t : Option (List ℕ)). append_known t some.kept) is.told_is ∙ known_assoc base is.pushed some.kept;
}
flushed told told' held held' false false none sent = λ base before is. record {
  pushed = is.pushed ++ held;
  told_is = sent ∙ ap (λ (t : Option (List ℕ)). append_known t held) is.told_is ∙ known_assoc base is.pushed held;
  text_is = append-nil before ∙ is.text_is ∙ sym (append-nil (is.pushed ++ held))
      ∙ ap (λ (h : List ℕ). (is.pushed ++ held) ++ h) (sym none);
}

-- what was pushed after all, from an empty pad on
all-printed : (told told' told'' : Option (List ℕ)) (held held' held'' : List ℕ) (lost lost' lost'' : Bool) (text : List ℕ)
    → held ≡ [] → lost ≡ false → Prints told held lost told' held' lost' text → Prints told' held' lost' told'' held'' lost'' []
    → IsPrinted told text told'' held'' lost''
all-printed told told' told'' held held' held'' lost lost' lost'' text none found first last =
    let start : IsPrinted told [] told held lost = subst (λ (l : Bool). IsPrinted told [] told held l) (sym found)
    (record { pushed = []; told_is = sym (known_nothing told); text_is = sym none }) in
    subst (λ (x : List ℕ). IsPrinted told x told'' held'' lost'') (append-nil text) (last told text (first told [] start))

pub printed_ok : (told told' told'' : Option (List ℕ)) (held held' held'' : List ℕ) (lost lost' lost'' : Bool) (text : List ℕ)
    → held ≡ [] → lost ≡ false → Prints told held lost told' held' lost' text → Prints told' held' lost' told'' held'' lost'' []
    → held'' ≡ [] → lost'' ≡ false → told'' ≡ append_known told text
printed_ok told told' told'' held held' held'' lost lost' lost'' text none found first last empty whole =
    let is : IsHeld told text told'' held'' = subst (λ (l : Bool). IsPrinted told text told'' held'' l) whole
    (all-printed told told' told'' held held' held'' lost lost' lost'' text none found first last) in
    let same : text ≡ is.pushed = is.text_is ∙ ap (λ (h : List ℕ). is.pushed ++ h) empty ∙ append-nil is.pushed in
    is.told_is ∙ ap (λ (x : List ℕ). append_known told x) (sym same)

pub printed_err : (told told' told'' : Option (List ℕ)) (held held' held'' : List ℕ) (lost lost' lost'' : Bool) (text : List ℕ)
    → held ≡ [] → lost ≡ false → Prints told held lost told' held' lost' text → Prints told' held' lost' told'' held'' lost'' []
    → lost'' ≡ true → AppendsSome told told'' text
printed_err told told' told'' held held' held'' lost lost' lost'' text none found first last broken =
    subst (λ (l : Bool). IsPrinted told text told'' held'' l) broken
    (all-printed told told' told'' held held' held'' lost lost' lost'' text none found first last)

pub mapped_ok : {T E : Type 0} (r : Result T E) {P Q : Type 0} → (P → Q) → OnOk r P → OnOk r Q
mapped_ok (Ok x) f p = f p
mapped_ok (Err e) f p = tt

pub mapped_err : {T E : Type 0} (r : Result T E) {P Q : Type 0} → (P → Q) → OnErr r P → OnErr r Q
mapped_err (Ok x) f p = tt
mapped_err (Err e) f p = f p
