-- The names of a module's inputs, port by port, and in a table.
use Rattle.std.proofs.Common.{◌≡◌, ℕ, ◌||◌, Bool, true, false, List, [], ◌∷◌, ◌++◌, Option, None, Some, is_some, not}
use Rattle.std.proofs.Common.{if◌then◌else◌, refl, sym, ap, ◌∙◌}
use Rattle.std.specs.List.{list_any}
use Rattle.std.specs.Str.{bytes_eq}
use Rattle.std.proofs.lemmas.Slice.Eq.{bytes_eq-Decides}
use Rattle.std.proofs.lemmas.List.Folds.{list_any-append}
use Rattle.flat_parts.proofs.vidi_bits_lemmas.Bools.{or_none}
use Rattle.flat_parts.specs.vidi_bits.Findings.{told_if}
use Rattle.vlog_tree.specs.Tree.{PortOf, PortHeadOf, ModuleOf}
use Rattle.vlog_tree.specs.declared.module.Direction.{Direction}
use Rattle.vlog_tree.specs.declared.module.Direction.TheVariants.{Input, Output}
use Rattle.flat_parts.specs.vlog_size.Table.{Named, value_of, added}
use Rattle.flat_parts.specs.vlog_names.declared.declaration.Declaration.{Declaration}
use Rattle.flat_parts.specs.vlog_names.Entries.{port_entries, port_as, no_port}
use Rattle.flat_parts.specs.vlog_names.Ports.{is_input_port, input_after, is_output_port}
use Rattle.flat_parts.specs.vlog_driver.Settled.{is_input, input_names}
use Rattle.flat_parts.specs.vlog_driver.Names.{Name}
use Rattle.flat_drive.specs.Marked.{inputs_after, is_listed, IsInputTable}

-- ---- ports

no_output : (d : Direction) → is_input_port d ≡ not (is_output_port d)
no_output (Input wire) = refl
no_output (Output kind) = refl

next_input : (d : Declaration) (h : Option (PortHeadOf ℕ)) → input_after (is_input d) h ≡ is_input (port_as d h)
next_input d None = refl
next_input d (Some h) = no_output h.direction

one_name : (b : Bool) (n : Name) (xs : List Name) → told_if b n ++ xs ≡ (if b then n ∷ xs else xs)
one_name true n xs = refl
one_name false n xs = refl

pub inputs_right : (d : Declaration) (ps : List (PortOf ℕ)) → inputs_after (is_input d) ps ≡ input_names (port_entries d ps)
inputs_right d [] = refl
inputs_right d (p ∷ ps) =
    ap (λ b. told_if b p.id.name ++ inputs_after b ps) (next_input d p.head)
    ∙ ap (λ ns. told_if (is_input (port_as d p.head)) p.id.name ++ ns) (inputs_right (port_as d p.head) ps)
    ∙ one_name (is_input (port_as d p.head)) p.id.name (input_names (port_entries (port_as d p.head) ps))

pub table_right : (m : ModuleOf ℕ) (table : List (Named Bool))
    → ((name : Name) → is_listed table name ≡ list_any (bytes_eq name) (inputs_after true m.ports)) → IsInputTable m table
table_right m table h name = h name ∙ ap (list_any (bytes_eq name)) (inputs_right no_port m.ports)

-- ---- the table

one_more : (b c : Bool) (n : Bool) (o : Option Bool) → is_some o ≡ (b || c) → is_some (if n then Some true else o) ≡ ((n || b) || c)
one_more b c true o h = refl
one_more b c false o h = h

listed_if : (b : Bool) (x : Bool) (o : Option Bool) → is_some (if b then Some x else o) ≡ (b || is_some o)
listed_if true x o = refl
listed_if false x o = refl

or_three : (a b c : Bool) → (a || (b || c)) ≡ ((a || b) || c)
or_three true b c = refl
or_three false b c = refl

at_end : (xs : List (Named Bool)) (name new : Name) (v : Bool)
    → is_listed (xs ++ record { name = new; value = v } ∷ []) name ≡ (is_listed xs name || bytes_eq name new)
at_end [] name new v = listed_if (bytes_eq name new) v None ∙ sym (or_none (bytes_eq name new))
at_end (x ∷ xs) name new v =
    listed_if (bytes_eq name x.name) x.value (value_of (xs ++ record { name = new; value = v } ∷ []) name)
    ∙ ap (λ b. bytes_eq name x.name || b) (at_end xs name new v)
    ∙ or_three (bytes_eq name x.name) (is_listed xs name) (bytes_eq name new)
    ∙ ap (λ b. b || bytes_eq name new) (sym (listed_if (bytes_eq name x.name) x.value (value_of xs name)))

there : (b c : Bool) → (c ≡ true → b ≡ true) → b ≡ (b || c)
there true c h = refl
there false true h = h refl
there false false h = refl

pick : (here : Bool) (xs ys : List (Named Bool)) (name : Name) (b : Bool) → (here ≡ true → is_listed xs name ≡ b) → is_listed ys name ≡ b
    → is_listed (if here then xs else ys) name ≡ b
pick true xs ys name b h k = h refl
pick false xs ys name b h k = k

added_listed : (xs : List (Named Bool)) (name new : Name) (v : Bool)
    → is_listed (added xs new v) name ≡ (is_listed xs name || bytes_eq name new)
added_listed xs name new v =
    pick (is_listed xs new) xs (xs ++ record { name = new; value = v } ∷ []) name (is_listed xs name || bytes_eq name new)
    (λ t. there (is_listed xs name) (bytes_eq name new) (λ e. ap (is_listed xs) ((bytes_eq-Decides name new).0 e) ∙ t))
    (at_end xs name new v)

-- a name more
pub one_added : (xs ys : List (Named Bool)) (new : Name) → ys ≡ added xs new true → (name : Name)
    → is_listed ys name ≡ (is_listed xs name || list_any (bytes_eq name) (told_if true new))
one_added xs ys new e name =
    ap (λ (t : List (Named Bool)). is_listed t name) e ∙ added_listed xs name new true
    ∙ ap (λ b. is_listed xs name || b) (or_none (bytes_eq name new))

pub none_added : (xs : List (Named Bool)) (new name : Name)
    → is_listed xs name ≡ (is_listed xs name || list_any (bytes_eq name) (told_if false new))
none_added xs new name = or_none (is_listed xs name)

-- one port more
pub step : (table new : List (Named Bool)) (b : Bool) (n : Name) (rest : List Name) (name : Name)
    → is_listed new name ≡ (is_listed table name || list_any (bytes_eq name) (told_if b n))
    → (is_listed new name || list_any (bytes_eq name) rest) ≡ (is_listed table name || list_any (bytes_eq name) (told_if b n ++ rest))
step table new b n rest name e =
    ap (λ c. c || list_any (bytes_eq name) rest) e
    ∙ sym (or_three (is_listed table name) (list_any (bytes_eq name) (told_if b n)) (list_any (bytes_eq name) rest))
    ∙ ap (λ c. is_listed table name || c) (sym (list_any-append (bytes_eq name) (told_if b n) rest))
