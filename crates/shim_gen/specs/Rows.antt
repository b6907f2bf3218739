-- What the code's rows of ports, items and connections stand for.
use Rattle.std.specs.Prelude.{ℕ, List, [], ◌∷◌, ◌++◌, Option, option_map}
use Rattle.vlog_tree.specs.Tree.{ExprOf, PortOf, ConnOf, ItemOf}
use Rattle.shim_trees.specs.Pieces.{ident, net, not_net, both, port, wire, reg, assign, next, at_clock, gated_content, each, upto}
use Rattle.shim_gen.specs.Labels.{text, text_at}
use Rattle.shim_gen.specs.declared.names.Label.{Label}
use Rattle.shim_gen.specs.declared.ports.PortRow.{PortRow}
use Rattle.shim_gen.specs.declared.ports.PortRow.TheVariants as ports
use Rattle.shim_gen.specs.declared.items.ItemRow.{ItemRow}
use Rattle.shim_gen.specs.declared.items.ItemRow.TheVariants as items
use Rattle.shim_gen.specs.declared.conns.ConnRow.{ConnRow}
use Rattle.shim_gen.specs.declared.conns.ConnRow.TheVariants as conns

-- one of one bit; one for each width, with its number; or so many of one width, with their numbers
abbrev pub ports_of : List PortRow → List (PortOf ℕ)
ports_of [] = []
ports_of (ports.One direction name ∷ rows) = port direction (text name) 1 ∷ ports_of rows
ports_of (ports.Each direction name widths ∷ rows) = each (λ i w. port direction (text_at name i) w) 0 widths.now ++ ports_of rows
ports_of (ports.Upto direction name count width ∷ rows) = upto (λ j. port direction (text_at name j) width) 0 count ++ ports_of rows

-- each as `ItemRow` says
abbrev pub items_of : List ItemRow → List (ItemOf ℕ)
items_of [] = []
items_of (items.Wire name ∷ rows) = wire (text name) 1 ∷ items_of rows
items_of (items.Wires name widths ∷ rows) = each (λ i w. wire (text_at name i) w) 0 widths.now ++ items_of rows
items_of (items.Reg name ∷ rows) = reg name.now 1 ∷ items_of rows
items_of (items.Both name left right ∷ rows) = assign name.now (both (net left.now) (net right.now)) ∷ items_of rows
items_of (items.Without name left right ∷ rows) = assign name.now (both (net left.now) (not_net right.now)) ∷ items_of rows
items_of (items.Next name left right ∷ rows) = at_clock (next name.now (both (net left.now) (not_net right.now))) ∷ items_of rows
items_of (items.Gated widths ∷ rows) = each gated_content 0 widths.now ++ items_of rows

-- the net of a label, where there is one; else nothing
abbrev pub joined : Option Label → Option (ExprOf ℕ)
joined label = option_map (λ (x : Label). net (text x)) label

-- that of a label with one number more
abbrev pub joined_at : Option Label → ℕ → Option (ExprOf ℕ)
joined_at label i = option_map (λ (x : Label). net (text_at x i)) label

-- `. name ( label )`, or `. name ( )`
abbrev pub conn_of : Label → Option Label → ConnOf ℕ
conn_of name label = record { line = 0; id = ident (text name); value = joined label }

-- that of both with one number more
abbrev pub conn_at : Label → Option Label → ℕ → ConnOf ℕ
conn_at name label i = record { line = 0; id = ident (text_at name i); value = joined_at label i }

-- one; one for each width, with its number; or so many, with their numbers
abbrev pub conns_of : List ConnRow → List (ConnOf ℕ)
conns_of [] = []
conns_of (conns.One name label ∷ rows) = conn_of name label ∷ conns_of rows
conns_of (conns.Each name label widths ∷ rows) = each (λ i _. conn_at name label i) 0 widths.now ++ conns_of rows
conns_of (conns.Upto name label count ∷ rows) = upto (λ j. conn_at name label j) 0 count ++ conns_of rows
