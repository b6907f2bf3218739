-- Lines that follow one another, with one line more.
use Rattle.std.proofs.Common.{◌≡◌, true, List, [], ◌∷◌, ◌++◌, refl, sym, ap, ◌∙◌, append-nil, append_assoc}
use Rattle.std.specs.List.{list_all}
use Rattle.chan_map.specs.declared.map_text.Entry.{Entry}
use Rattle.std.proofs.lemmas.List.{map-append}
use Rattle.std.proofs.lemmas.Bool.{and_from}
use Rattle.vidi_lines.proofs.vidi_bits_lemmas.Bools.{left_of, right_of}
use Rattle.chan_map.specs.declared.map_text.MapLine.{MapLine}
use Rattle.chan_map.specs.Seen.{AreLawful}
use Rattle.chan_map.specs.Follow.{entries, may_follow, follow, is_named}

follow_grows : (b xs : List Entry) (e : Entry) → follow b xs ≡ true → may_follow (b ++ xs) e ≡ true → follow b (xs ++ e ∷ []) ≡ true
follow_grows b [] e f m = and_from (may_follow b e) true (ap (λ l. may_follow l e) (sym (append-nil b)) ∙ m) refl
follow_grows b (x ∷ xs) e f m =
    and_from (may_follow b x) _ (left_of (may_follow b x) _ f)
    (follow_grows (b ++ x ∷ []) xs e (right_of (may_follow b x) _ f) (ap (λ l. may_follow l e) (append_assoc b (x ∷ []) xs) ∙ m))

pub follow_push : (before : List Entry) (e : Entry) → follow [] before ≡ true → may_follow before e ≡ true
    → follow [] (before ++ e ∷ []) ≡ true
follow_push before e f m = follow_grows [] before e f m

pub named_push : (before : List Entry) (e : Entry) → list_all is_named before ≡ true → is_named e ≡ true
    → list_all is_named (before ++ e ∷ []) ≡ true
named_push [] e f m = and_from (is_named e) true m refl
named_push (x ∷ xs) e f m = and_from (is_named x) _ (left_of (is_named x) _ f) (named_push xs e (right_of (is_named x) _ f) m)

pub lawful_push : (old new : List MapLine) (l : MapLine) → new ≡ old ++ l ∷ [] → AreLawful (entries old)
    → may_follow (entries old) l.entry ≡ true → is_named l.entry ≡ true → AreLawful (entries new)
lawful_push old new l grown lawful m named =
    let more : entries new ≡ entries old ++ l.entry ∷ [] = ap entries grown ∙ map-append (λ (x : MapLine). x.entry) old (l ∷ []) in
    record {
      follows = ap (follow []) more ∙ follow_push (entries old) l.entry lawful.follows m;
      named = ap (list_all is_named) more ∙ named_push (entries old) l.entry lawful.named named;
    }
