-- What is spelled is read: modules and files of good shape.
use Rattle.std.proofs.Common.{◌≡◌, ◌≢◌, ℕ, zero, suc, ◌<◌, ◌≤◌, true, false, Option, None, Some, List, [], ◌∷◌, ◌++◌, length, sym, refl}
use Rattle.std.proofs.Common.{ap}
use Rattle.std.proofs.Common.{◌∙◌, arith, append_assoc, append-nil, length-append}
use Rattle.std.specs.List.{AllByRecursion}
use Rattle.vlog_tree.specs.declared.module.Direction.{Direction}
use Rattle.vlog_tree.specs.declared.module.Direction.TheVariants as direction
use Rattle.vlog_tree.specs.declared.module.NetKind.TheVariants as kind
use Rattle.vlog_tree.specs.declared.terminal.Terminal.TheVariants as t
use Rattle.vlog_tree.specs.Words.{WordOf, NameWord, Fixed, NameAt}
use Rattle.vlog_tree.specs.Tree.{RangeOf, PortHeadOf, PortOf}
use Rattle.vlog_tree.specs.Tree.{ItemOf}
use Rattle.vlog_tree.specs.Tree.{ModuleOf, FileOf}
use Rattle.vlog_tree.specs.Spelling.{expr_words, after_commas, with_commas, in_row, range_words, optional}
use Rattle.vlog_tree.specs.Spelling.{direction_words, head_words, init_words, port_words}
use Rattle.vlog_tree.specs.Spelling.{item_words}
use Rattle.vlog_tree.specs.Spelling.{module_words, file_words}
use Rattle.vlog_tree.specs.Shape.{IsGoodOption, IsGoodHead, IsGoodPort, IsFirstDirected}
use Rattle.vlog_tree.specs.Shape.{AreSomeGood, IsGoodItem, IsGoodModule, IsGood}
use Rattle.vlog_item.specs.vlog_expr.Marks.{Toks, spelled, spell, after}
use Rattle.vlog_tree.specs.Tree.{ParameterHeadOf, ParameterOf}
use Rattle.vlog_tree.specs.Spelling.{parameter_head_words, parameter_words, hash_words}
use Rattle.vlog_tree.specs.Shape.{IsGoodParameterHead, IsGoodParameter, IsFirstHeaded}
use Rattle.vlog_item.specs.vlog_expr.Reader.{◌>>=◌, Read, fuel_for}
use Rattle.vlog_parse.specs.FileReader.{direction_front, head_front, port_at, where_given}
use Rattle.vlog_parse.specs.FileReader.{ports_at}
use Rattle.vlog_parse.specs.FileReader.{parameter_head_front, parameter_at, first_parameter_at, parameters_front}
use Rattle.vlog_parse.specs.FileReader.{items_at, header_at, module_at, modules_at, file_at}
use Rattle.vlog_item.proofs.vlog_expr_lemmas.Spelled.{spell_append, expr_read}
use Rattle.vlog_item.proofs.vlog_stmt_lemmas.Steps.{step, taken, skipped}
use Rattle.vlog_item.proofs.vlog_stmt_lemmas.ListSpelled.{semicolon, paren, parts_paren, parts_more, ReadsOne, more_read}
use Rattle.vlog_item.proofs.ItemSpelled.{init_read, item_read, no_else, no_endmodule, ranges_read, some_item, whole_before}

module _ (A : Type 0) (blank : A) where
  -- ports
  direction_read : (d : Direction) (r : Toks A) → after t.Wire r ≡ None → after t.Reg r ≡ None
      → direction_front (spell blank (direction_words d) r)
      ≡ Some (d, r)
  direction_read (direction.Input false) r w v = skipped _ w refl
  direction_read (direction.Input true) r w v = refl
  direction_read (direction.Output None) r w v = skipped _ w (skipped _ v refl)
  direction_read (direction.Output (Some kind.Wire)) r w v = refl
  direction_read (direction.Output (Some kind.Reg)) r w v = refl

  no_wire : (x : Option (RangeOf A)) (name : List ℕ) (l : A) (r : Toks A) → after t.Wire
      (spell blank (optional range_words x) (spelled blank (NameAt name l) ∷ r)) ≡ None
  no_wire None name l r = refl
  no_wire (Some x) name l r = refl

  no_reg : (x : Option (RangeOf A)) (name : List ℕ) (l : A) (r : Toks A) → after t.Reg (spell blank (optional range_words x)
      (spelled blank (NameAt name l) ∷ r))
      ≡ None
  no_reg None name l r = refl
  no_reg (Some x) name l r = refl

  head_read : (x : Option (PortHeadOf A)) (n : ℕ) (name : List ℕ) (l : A) (r : Toks A) → IsGoodOption IsGoodHead x
      → fuel_for (length (optional head_words x)) ≤ n
      → head_front n (spell blank (optional head_words x) (spelled blank (NameAt name l) ∷ r)) ≡ Some (x, spelled blank (NameAt name l) ∷ r)
  head_read None n name l r g h = refl
  head_read (Some x) n name l r g h =
      let long = length-append (direction_words x.direction) (optional range_words x.range) in
      let rest = spelled blank (NameAt name l) ∷ r in
      let behind = spell blank (optional range_words x.range) rest in
      taken _ _
      (ap (λ (ws : Toks A). direction_front ws) (spell_append A blank (direction_words x.direction) (optional range_words x.range) rest)
      ∙ direction_read x.direction behind (no_wire x.range name l r) (no_reg x.range name l r))
      (step _ (ranges_read A blank x.range n rest g refl (omega arith)) refl)

  port_read : (n : ℕ) → ReadsOne A blank port_words IsGoodPort (port_at n) n
  port_read n x r g p h =
      let tail = NameAt x.id.name x.id.line ∷ optional init_words x.init in
      let long = length-append (optional head_words x.head) tail in
      step _
      (ap (λ (ws : Toks A). head_front n ws) (spell_append A blank (optional head_words x.head) tail r)
      ∙ head_read x.head n x.id.name x.id.line (spell blank (optional init_words x.init) r) g.0 (omega arith))
      (step _ (init_read A blank x.init n r g.2 p (omega arith)) refl)

  given_some : {X Y : Type 0} (h : Option X) (y : Y) → h ≢ None → where_given h y ≡ Some y
  given_some None y g = absurd (g refl)
  given_some (Some h) y g = refl

  no_paren_direction : (d : Direction) (a b : List (WordOf A)) (r : Toks A) → after t.ParenClose (spell blank
      ((direction_words d ++ a) ++ b) r) ≡ None
  no_paren_direction (direction.Input false) a b r = refl
  no_paren_direction (direction.Input true) a b r = refl
  no_paren_direction (direction.Output None) a b r = refl
  no_paren_direction (direction.Output (Some kind.Wire)) a b r = refl
  no_paren_direction (direction.Output (Some kind.Reg)) a b r = refl

  no_paren_head : (h : Option (PortHeadOf A)) (name : List ℕ) (l : A) (b : List (WordOf A)) (r : Toks A)
      → after t.ParenClose (spell blank (optional head_words h ++ NameAt name l ∷ b) r) ≡ None
  no_paren_head None name l b r = refl
  no_paren_head (Some h) name l b r = no_paren_direction h.direction (optional range_words h.range) (NameAt name l ∷ b) r

  no_paren : (p : PortOf A) (r : Toks A) → after t.ParenClose (spell blank (port_words p) r) ≡ None
  no_paren p r = no_paren_head p.head p.id.name p.id.line (optional init_words p.init) r

  ports_read : (ps : List (PortOf A)) (n : ℕ) (r : Toks A) → IsFirstDirected ps → AllByRecursion IsGoodPort ps
      → fuel_for (length (with_commas port_words ps)) ≤ n
      → ports_at n (spell blank (with_commas port_words ps) (paren A blank r)) ≡ Some (ps, r)
  ports_read [] n r d g h = refl
  ports_read (p ∷ ps) n r d g h =
      let long = length-append (port_words p) (after_commas port_words ps) in
      let rest = spell blank (after_commas port_words ps) (paren A blank r) in
      ap (λ (ws : Toks A). ports_at n ws) (spell_append A blank (port_words p) (after_commas port_words ps) (paren A blank r))
      ∙ skipped _ (no_paren p rest)
      (step _
      (step _ (port_read n p rest g.0 (parts_more A blank port_words ps (paren A blank r) (parts_paren A blank r)) (omega arith))
      (given_some p.head (p, rest) d))
      (step _
      (more_read A blank port_words IsGoodPort (port_at n) n (port_read n) ps n (p ∷ []) (paren A blank r) g.1
      (parts_paren A blank r) refl (omega arith)
      (omega arith))
      refl))

  -- parameters
  parameter_head_read : (x : Option (ParameterHeadOf A)) (n : ℕ) (name : List ℕ) (l : A) (r : Toks A) → IsGoodOption IsGoodParameterHead x
      → fuel_for (length (optional parameter_head_words x)) ≤ n
      → parameter_head_front n (spell blank (optional parameter_head_words x) (spelled blank (NameAt name l) ∷ r))
      ≡ Some (x, spelled blank (NameAt name l) ∷ r)
  parameter_head_read None n name l r g h = refl
  parameter_head_read (Some x) n name l r g h = step _ (ranges_read A blank x.range n (spelled blank (NameAt name l) ∷ r) g refl (omega arith)) refl

  parameter_read : (n : ℕ) → ReadsOne A blank parameter_words IsGoodParameter (parameter_at n) n
  parameter_read n x r g p h =
      let tail = NameAt x.id.name x.id.line ∷ Fixed t.Equals ∷ expr_words x.value in
      let long = length-append (optional parameter_head_words x.head) tail in
      step _
      (ap (λ (ws : Toks A). parameter_head_front n ws) (spell_append A blank (optional parameter_head_words x.head) tail r)
      ∙ parameter_head_read x.head n x.id.name x.id.line (spelled blank (Fixed t.Equals) ∷ spell blank (expr_words x.value) r) g.0
      (omega arith))
      (step _ (expr_read A blank x.value r n g.2 p.ends (omega arith)) refl)

  abbrev open_paren : Toks A → Toks A
  open_paren r = spelled blank (Fixed t.ParenOpen) ∷ r

  parameters_read : (ps : List (ParameterOf A)) (n : ℕ) (r : Toks A) → IsFirstHeaded ps → AllByRecursion IsGoodParameter ps
      → fuel_for (length (hash_words parameter_words ps)) ≤ n
      → parameters_front n (spell blank (hash_words parameter_words ps) (open_paren r)) ≡ Some (ps, open_paren r)
  parameters_read [] n r d g h = refl
  parameters_read (p ∷ ps) n r d g h =
      let rest = open_paren r in
      let behind = spell blank (after_commas parameter_words ps) (paren A blank rest) in
      let long = length-append (with_commas parameter_words (p ∷ ps)) (Fixed t.ParenClose ∷ []) in
      let longer = length-append (parameter_words p) (after_commas parameter_words ps) in
      step _
      (ap (λ (ws : Toks A). first_parameter_at n ws) (spell_append A blank (with_commas parameter_words (p ∷ ps))
      (Fixed t.ParenClose ∷ []) rest
      ∙ spell_append A blank (parameter_words p) (after_commas parameter_words ps) (paren A blank rest))
      ∙ step _ (parameter_read n p behind g.0 (parts_more A blank parameter_words ps (paren A blank rest) (parts_paren A blank rest))
      (omega arith))
      (given_some p.head (p, behind) d))
      (step _
      (more_read A blank parameter_words IsGoodParameter (parameter_at n) n (parameter_read n) ps n (p ∷ []) (paren A blank rest) g.1
      (parts_paren A blank rest) refl
      (omega arith) (omega arith))
      refl)

  abbrev last : Toks A → Toks A
  last r = spelled blank (Fixed t.Endmodule) ∷ r

  no_else_in : (xs : List (ItemOf A)) (r : Toks A) → after t.Else (spell blank (in_row item_words xs) (last r)) ≡ None
  no_else_in [] r = refl
  no_else_in (x ∷ xs) r = ap (after t.Else) (spell_append A blank (item_words x) (in_row item_words xs) (last r))
      ∙ no_else A blank x (spell blank (in_row item_words xs) (last r))

  items_read : (xs : List (ItemOf A)) (n left : ℕ) (front : List (ItemOf A)) (r : Toks A) → AllByRecursion IsGoodItem xs
      → fuel_for (length (in_row item_words xs)) ≤ n → length (in_row item_words xs) < left
      → items_at n left front (spell blank (in_row item_words xs) (last r)) ≡ Some (front ++ xs, r)
  items_read [] n zero front r g h k = absurd (omega arith)
  items_read (x ∷ xs) n zero front r g h k = absurd (omega arith)
  items_read [] n (suc left) front r g h k = ap (λ (ys : List (ItemOf A)). Some (ys, r)) (sym (append-nil front))
  items_read (x ∷ xs) n (suc left) front r g h k =
      let long = length-append (item_words x) (in_row item_words xs) in
      let some = some_item A blank x in
      let rest = spell blank (in_row item_words xs) (last r) in
      ap (λ (ws : Toks A). items_at n (suc left) front ws) (spell_append A blank (item_words x) (in_row item_words xs) (last r))
      ∙ skipped _ (no_endmodule A blank x rest)
      (step _ (item_read A blank x n rest g.0 (whole_before A blank x rest (no_else_in xs r)) (omega arith))
      (items_read xs n left (front ++ x ∷ []) r g.1 (omega arith) (omega arith)
      ∙ ap (λ (ys : List (ItemOf A)). Some (ys, r)) (append_assoc front (x ∷ []) xs)))

  -- modules
  pub header_read : (name : List ℕ) (qs : List (ParameterOf A)) (ps : List (PortOf A)) (body : List (WordOf A)) (n : ℕ) (r : Toks A)
      → IsFirstHeaded qs → AllByRecursion IsGoodParameter qs → IsFirstDirected ps → AllByRecursion IsGoodPort ps
      → fuel_for (length (hash_words parameter_words qs)) ≤ n → fuel_for (length (with_commas port_words ps)) ≤ n
      → header_at n (spell blank (Fixed t.Module ∷ NameWord name ∷ (hash_words parameter_words qs ++ Fixed t.ParenOpen
      ∷ (with_commas port_words ps ++ Fixed t.ParenClose ∷ Fixed t.Semicolon ∷ body))) r) ≡ Some ((name, qs, ps), spell blank body r)
  header_read name qs ps body n r dq gq d g hq h =
      let end = Fixed t.ParenClose ∷ Fixed t.Semicolon ∷ body in
      let tail = with_commas port_words ps ++ end in
      step _
      (ap (λ (ws : Toks A). parameters_front n ws) (spell_append A blank (hash_words parameter_words qs) (Fixed t.ParenOpen ∷ tail) r)
      ∙ parameters_read qs n (spell blank tail r) dq gq hq)
      (step _
      (ap (λ (ws : Toks A). ports_at n ws) (spell_append A blank (with_commas port_words ps) end r)
      ∙ ports_read ps n (semicolon A blank (spell blank body r)) d g h)
      refl)

  pub module_read : (m : ModuleOf A) (n : ℕ) (r : Toks A) → IsGoodModule m → fuel_for (length (module_words m)) ≤ n
      → module_at n (spell blank (module_words m) r) ≡ Some (m, r)
  module_read m n r g h =
      let body = in_row item_words m.items ++ Fixed t.Endmodule ∷ [] in
      let tail = with_commas port_words m.ports ++ Fixed t.ParenClose ∷ Fixed t.Semicolon ∷ body in
      let longest = length-append (hash_words parameter_words m.parameters) (Fixed t.ParenOpen ∷ tail) in
      let long = length-append (with_commas port_words m.ports) (Fixed t.ParenClose ∷ Fixed t.Semicolon ∷ body) in
      let longer = length-append (in_row item_words m.items) (Fixed t.Endmodule ∷ []) in
      step _ (header_read m.name m.parameters m.ports body n r g.1 g.2 g.3 g.4 (omega arith) (omega arith))
      (step _
      (ap (λ (ws : Toks A). items_at n n [] ws) (spell_append A blank (in_row item_words m.items) (Fixed t.Endmodule ∷ []) r)
      ∙ items_read m.items n n [] r g.5 (omega arith) (omega arith))
      refl)

  modules_read : (ms : List (ModuleOf A)) (n left : ℕ) (front : List (ModuleOf A)) → AllByRecursion IsGoodModule ms
      → fuel_for (length (in_row module_words ms)) ≤ n → length (in_row module_words ms) < left
      → modules_at n left front (spell blank (in_row module_words ms) []) ≡ Some (front ++ ms)
  modules_read [] n zero front g h k = absurd (omega arith)
  modules_read (m ∷ ms) n zero front g h k = absurd (omega arith)
  modules_read [] n (suc left) front g h k = ap (λ (ys : List (ModuleOf A)). Some ys) (sym (append-nil front))
  modules_read (m ∷ ms) n (suc left) front g h k =
      let long = length-append (module_words m) (in_row module_words ms) in
      ap (λ (ws : Toks A). modules_at n (suc left) front ws) (spell_append A blank (module_words m) (in_row module_words ms) [])
      ∙ ap (λ (o : Read A (ModuleOf A)). o >>= λ m. modules_at n left (front ++ m.0 ∷ []) m.1)
      (module_read m n (spell blank (in_row module_words ms) []) g.0 (omega arith))
      ∙ modules_read ms n left (front ++ m ∷ []) g.1 (omega arith) (omega arith)
      ∙ ap (λ (ys : List (ModuleOf A)). Some ys) (append_assoc front (m ∷ []) ms)

  abbrev file_with : List (ModuleOf A) → FileOf A
  file_with ms = record { modules = ms }

  modules_file : (ms : List (ModuleOf A)) (n : ℕ) → AreSomeGood IsGoodModule ms → fuel_for (length (in_row module_words ms)) ≤ n
      → file_at n (spell blank (in_row module_words ms) []) ≡ Some (file_with ms)
  modules_file [] n g h = absurd g
  modules_file (m ∷ ms) n g h =
      let long = length-append (module_words m) (in_row module_words ms) in
      ap (λ (ws : Toks A). file_at n ws) (spell_append A blank (module_words m) (in_row module_words ms) [])
      ∙ ap (λ (o : Read A (ModuleOf A)). o >>= λ m. modules_at n n (m.0 ∷ []) m.1 >>= λ ms. Some (file_with ms))
      (module_read m n (spell blank (in_row module_words ms) []) g.0 (omega arith))
      ∙ ap (λ (o : Option (List (ModuleOf A))). o >>= λ ms. Some (file_with ms))
      (modules_read ms n n (m ∷ []) g.1 (omega arith) (omega arith))

  pub file_read : (f : FileOf A) (fuel : ℕ) → IsGood f → fuel_for (length (file_words f)) ≤ fuel
      → file_at fuel (spell blank (file_words f) []) ≡ Some f
  file_read f fuel g h = modules_file f.modules fuel g h
