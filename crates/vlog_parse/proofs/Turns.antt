-- One turn of each loop of the reader of files.
use Rattle.std.proofs.Common.{◌≡◌, ◌≢◌, ℕ, suc, length, refl, Option, None, Some, List, [], ◌∷◌, ◌++◌, ap, ◌∙◌}
use Rattle.vlog_tree.specs.declared.terminal.Terminal.TheVariants as t
use Rattle.vlog_tree.specs.Tree.{ItemOf, ModuleOf}
use Rattle.vlog_item.specs.vlog_lex.declared.token.Token.{Token}
use Rattle.vlog_item.specs.vlog_expr.Marks.{Toks, after, all_marked}
use Rattle.vlog_item.specs.vlog_expr.Reader.{◌>>=◌, found_or, Read}
use Rattle.vlog_parse.specs.FileReader.{items_at, module_at, modules_at}
use Rattle.vlog_item.specs.ItemReader.{item_at}

pub items_turn : {A : Type 0} (fuel m n : ℕ) (front : List (ItemOf A)) (ws : Toks A) (x : ItemOf A × Toks A)
    → m ≡ suc n → after t.Endmodule ws ≡ None → item_at fuel ws ≡ Some x → items_at fuel m front ws
    ≡ items_at fuel n (front ++ x.0 ∷ []) x.1
items_turn {A} fuel m n front ws x e h k =
    ap (λ (l : ℕ). items_at fuel l front ws) e
    ∙ ap (λ (o : Option (A × Toks A)). found_or o (item_at fuel ws >>= λ i. items_at fuel n (front ++ i.0 ∷ []) i.1)
    (λ o. Some (front, o.1))) h
    ∙ ap (λ (o : Read A (ItemOf A)). o >>= λ i. items_at fuel n (front ++ i.0 ∷ []) i.1) k

pub modules_turn : {A : Type 0} (fuel m n : ℕ) (front : List (ModuleOf A)) (ws : Toks A) (x : ModuleOf A × Toks A)
    → m ≡ suc n → (ws ≡ [] → ⊥) → module_at fuel ws ≡ Some x → modules_at fuel m front ws ≡ modules_at fuel n (front ++ x.0 ∷ []) x.1
modules_turn {A} fuel m n front [] x e some k = absurd (some refl)
modules_turn {A} fuel m n front (token ∷ ws) x e some k =
    ap (λ (l : ℕ). modules_at fuel l front (token ∷ ws)) e
    ∙ ap (λ (o : Read A (ModuleOf A)). o >>= λ i. modules_at fuel n (front ++ i.0 ∷ []) i.1) k

pub marked_some : (ts : List Token) → length ts ≢ 0 → all_marked ts ≡ [] → ⊥
marked_some [] some h = some refl
marked_some (t ∷ ts) some h = cc
