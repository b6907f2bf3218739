-- A walk over what adds entries to a table.
use Rattle.std.proofs.Common.{◌≡◌, ℕ, ◌+◌, ◌<◌, List, ◌++◌, length, map, drop, get_or, sym, ap, ◌∙◌}
use Rattle.std.specs.List.{flat_map}
use Rattle.vlog_tree.specs.declared.module.Item.{Item}
use Rattle.vlog_tree.specs.Plain.{plain_item}
use Rattle.flat_parts.specs.vlog_size.declared.scope.Param.{Param}
use Rattle.flat_parts.specs.vlog_size.Table.{Named}
use Rattle.flat_parts.specs.vlog_scope.Scope.{after_item}
use Rattle.net_design.proofs.UpdateLaws.{from_here}
use Rattle.flat_parts.specs.vlog_driver.Placed.{Placed, placed}
use Rattle.flat_registers.specs.Tables.{with_entries}
use Rattle.flat_registers.proofs.Tables.{entries_append}

-- where what is left after a step splits so, it leads to the same table
entries_by : {V : Type 0} (own rest left old new whole : List (Named V)) → new ≡ with_entries old own → left ≡ own ++ rest
    → with_entries old left ≡ whole → with_entries new rest ≡ whole
entries_by own rest left old new whole is split e =
    ap (λ z. with_entries z rest) is ∙ sym (entries_append old own rest) ∙ ap (with_entries old) (sym split) ∙ e

pub entries_step : {V X Y : Type 0} (own : X → List (Named V)) (plain : Y → X) (xs : List Y) (i : ℕ) (x : Y)
    (old new whole : List (Named V))
    → i < length xs → x ≡ get_or xs i x → new ≡ with_entries old (own (plain x))
    → with_entries old (flat_map own (map plain (drop i xs))) ≡ whole
    → with_entries new (flat_map own (map plain (drop (i + 1) xs))) ≡ whole
entries_step own plain xs i x old new whole l at is e =
    entries_by (own (plain x)) (flat_map own (map plain (drop (i + 1) xs))) (flat_map own (map plain (drop i xs))) old new whole is
    (ap (λ z. flat_map own (map plain z)) (from_here xs i x l at)) e

pub items_step : {V : Type 0} (own : Placed → List (Named V)) (params : List (Named Param)) (k after : ℕ) (xs : List Item) (i : ℕ)
    (x : Item)
    (old new whole : List (Named V)) → i < length xs → x ≡ get_or xs i x
    → new ≡ with_entries old (own (record { declared = k; item = plain_item x })) → after ≡ after_item params k (plain_item x)
    → with_entries old (flat_map own (placed params k (map plain_item (drop i xs)))) ≡ whole
    → with_entries new (flat_map own (placed params after (map plain_item (drop (i + 1) xs)))) ≡ whole
items_step own params k after xs i x old new whole l at is past e =
    ap (λ n. with_entries new (flat_map own (placed params n (map plain_item (drop (i + 1) xs))))) past
    ∙ entries_by (own (record { declared = k; item = plain_item x }))
    (flat_map own (placed params (after_item params k (plain_item x)) (map plain_item (drop (i + 1) xs))))
    (flat_map own (placed params k (map plain_item (drop i xs)))) old new whole is
    (ap (λ z. flat_map own (placed params k (map plain_item z))) (from_here xs i x l at)) e
