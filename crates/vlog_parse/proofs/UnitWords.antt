-- The units of a file are its words.
use Rattle.std.proofs.Common.{◌≡◌, List, [], ◌∷◌, ◌++◌, refl, sym, ap, ◌∙◌, append_assoc, map}
use Rattle.std.specs.List.{flat_map}
use Rattle.vlog_tree.specs.declared.terminal.Terminal.TheVariants as t
use Rattle.vlog_tree.specs.Words.{WordOf, NameWord, Fixed}
use Rattle.vlog_tree.specs.Tree.{ItemOf, ModuleOf}
use Rattle.vlog_tree.specs.Spelling.{with_commas, in_row, hash_words, parameter_words, port_words, item_words, module_words}
use Rattle.vlog_parse.specs.Units.{UnitOf, ItemUnit, Endmodule, module_units, unit_words, UnitsAreSpelled}

abbrev U : Type 0
U = Unit {0}

row_append : (us vs : List (UnitOf U)) → in_row unit_words (us ++ vs) ≡ in_row unit_words us ++ in_row unit_words vs
row_append [] vs = refl
row_append (u ∷ us) vs = ap (λ (ws : List (WordOf U)). unit_words u ++ ws) (row_append us vs)
    ∙ sym (append_assoc (unit_words u) (in_row unit_words us) (in_row unit_words vs))

row_items : (is : List (ItemOf U)) → in_row unit_words (map ItemUnit is) ≡ in_row item_words is
row_items [] = refl
row_items (i ∷ is) = ap (λ (ws : List (WordOf U)). item_words i ++ ws) (row_items is)

behind_items : (is : List (ItemOf U)) → in_row unit_words (map ItemUnit is ++ Endmodule ∷ []) ≡ in_row item_words is ++ Fixed t.Endmodule
    ∷ []
behind_items is = row_append (map ItemUnit is) (Endmodule ∷ []) ∙ ap (λ (ws : List (WordOf U)). ws ++ Fixed t.Endmodule ∷ []) (row_items is)

module_spelled : (m : ModuleOf U) → in_row unit_words (module_units m) ≡ module_words m
module_spelled m =
    let end = Fixed t.ParenClose ∷ Fixed t.Semicolon ∷ [] in
    let items = in_row unit_words (map ItemUnit m.items ++ Endmodule ∷ []) in
    ap (λ (ws : List (WordOf U)). Fixed t.Module ∷ NameWord m.name ∷ ws)
    (append_assoc (hash_words parameter_words m.parameters) (Fixed t.ParenOpen ∷ (with_commas port_words m.ports ++ end)) items
    ∙ ap (λ (ws : List (WordOf U)). hash_words parameter_words m.parameters ++ Fixed t.ParenOpen ∷ ws)
    (append_assoc (with_commas port_words m.ports) end items
    ∙ ap (λ (ws : List (WordOf U)). with_commas port_words m.ports ++ Fixed t.ParenClose ∷ Fixed t.Semicolon ∷ ws) (behind_items m.items)))

modules_spelled : (ms : List (ModuleOf U)) → in_row unit_words (flat_map module_units ms) ≡ in_row module_words ms
modules_spelled [] = refl
modules_spelled (m ∷ ms) =
    row_append (module_units m) (flat_map module_units ms)
    ∙ ap (λ (ws : List (WordOf U)). ws ++ in_row unit_words (flat_map module_units ms)) (module_spelled m)
    ∙ ap (λ (ws : List (WordOf U)). module_words m ++ ws) (modules_spelled ms)

pub units_spelled : UnitsAreSpelled
units_spelled f = modules_spelled f.modules
