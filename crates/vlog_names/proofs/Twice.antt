-- Names that stand twice in two lists one after the other.
use Rattle.std.proofs.Common.{◌≡◌, List, [], ◌∷◌, ◌++◌, sym, ap, ◌∙◌, append_assoc}
use Rattle.std.proofs.lemmas.List.{append-nil}
use Rattle.vlog_size.specs.Table.{Named}
use Rattle.vlog_names.specs.Twice.{twice_name, twice_among}

pub twice_append : {V : Type 0} → (before xs ys : List (Named V))
    → twice_among before (xs ++ ys) ≡ twice_among before xs ++ twice_among (before ++ xs) ys
twice_append before [] ys = ap (λ b. twice_among b ys) (sym (append-nil before))
twice_append before (x ∷ xs) ys =
    ap (λ l. twice_name before x.name ++ l)
    (twice_append (before ++ x ∷ []) xs ys
    ∙ ap (λ b. twice_among (before ++ x ∷ []) xs ++ twice_among b ys) (append_assoc before (x ∷ []) xs))
    ∙ sym (append_assoc (twice_name before x.name) _ _)
