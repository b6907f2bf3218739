-- The bytes of a data bus that a file says are a power of two.
use Rattle.std.proofs.Common.{◌≡◌, ℕ, Bool, true, false, ◌&&◌, cond, List, [], ◌∷◌, ◌++◌, codes, refl, Option, None, Some, IfSome, sym, subst, ⊎_elim, ap, ◌∙◌}
use Rattle.std.specs.Str.{bytes_eq}
use Rattle.std.proofs.lemmas.Bool.{cases_Bool}
use Rattle.std.proofs.lemmas.Option.{same_Some}
use Rattle.trace_model.proofs.vidi_bits_lemmas.Bools.{right_of}
use Rattle.vidi_lines.specs.Number.{number_of}
use Rattle.axi_burst.specs.declared.axi_text.Entry.{Entry}
use Rattle.axi_burst.specs.declared.reading.Known.{Known}
use Rattle.axi_burst.specs.Forms.{beat_from, beat_of, entry_of, is_beat}
use Rattle.axi_burst.specs.Kinds.{is_said}
use Rattle.axi_burst.specs.Reading.{begun, behind_some, behind_words, more}

abbrev pub HasBeat : Known → Type 0
HasBeat known = IfSome known.beat (λ n. is_beat n ≡ true)

from-lawful : (named : Bool) (o : Option ℕ) (n : ℕ) → beat_from named o ≡ Some n → is_beat n ≡ true
from-lawful named None n h = (cc)
from-lawful named (Some m) n h = ⊎_elim
    (λ (t : (named && is_beat m) ≡ true).
    let same : m ≡ n = same_Some m n (sym (ap (λ b. cond b (Some m) None) t) ∙ h) in
    ap is_beat (sym same) ∙ right_of named (is_beat m) t)
    (λ (t : (named && is_beat m) ≡ false).
    let none : None ≡ Some n = sym (ap (λ b. cond b (Some m) None) t) ∙ h in absurd (cc))
    (cases_Bool (named && is_beat m))

beat-lawful : (words : List (List ℕ)) (n : ℕ) → beat_of words ≡ Some n → is_beat n ≡ true
beat-lawful (first ∷ word ∷ []) n h = from-lawful (bytes_eq first (codes "beat")) (number_of word) n h
beat-lawful words n h = (cc)

begun-beat : (known new : Known) (words : List (List ℕ)) (o : Option ℕ) → beat_of words ≡ o → begun known o ≡ Some new → HasBeat new
begun-beat known new words None e h = (cc)
begun-beat known new words (Some n) e h =
    subst HasBeat (same_Some (record { beat = Some n; lines = known.lines }) new h) (beat-lawful words n e)

more-beat : (known new : Known) (n : ℕ) (o : Option Entry) → HasBeat known → more known n o ≡ Some new → HasBeat new
more-beat known new n None has h = (cc)
more-beat known new n (Some entry) has h =
    let next : Known = record { beat = known.beat; lines = known.lines ++ record { line = n; entry = entry } ∷ [] } in
    ⊎_elim
    (λ (t : is_said known.lines entry ≡ true).
    let none : None ≡ Some new = sym (ap (λ b. cond b None (Some next)) t) ∙ h in absurd (cc))
    (λ (t : is_said known.lines entry ≡ false).
    subst HasBeat (same_Some next new (sym (ap (λ b. cond b None (Some next)) t) ∙ h)) has)
    (cases_Bool (is_said known.lines entry))

some-beat : (five : Bool) (known new : Known) (o : Option ℕ) (n : ℕ) (words : List (List ℕ)) → HasBeat known
    → behind_some five known o n words ≡ Some new → HasBeat new
some-beat five known new None n words has h = begun-beat known new words (beat_of words) refl h
some-beat five known new (Some beat) n words has h = more-beat known new n (entry_of five words) has h

pub beat-kept : (five : Bool) (known new : Known) (n : ℕ) (words : List (List ℕ)) → HasBeat known
    → behind_words five known n words ≡ Some new → HasBeat new
beat-kept five known new n [] has h = subst HasBeat (same_Some known new h) has
beat-kept five known new n (word ∷ words) has h = some-beat five known new known.beat n (word ∷ words) has h
