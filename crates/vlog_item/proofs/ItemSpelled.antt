-- What is spelled is read: items of good shape, and all that stands in them.
use Rattle.std.proofs.Common.{◌≡◌, ℕ, ◌<◌, ◌≤◌, true, false, Option, None, Some, List, [], ◌∷◌, ◌++◌, length, refl}
use Rattle.std.proofs.Common.{ap}
use Rattle.std.proofs.Common.{◌∙◌, arith, length-append}
use Rattle.std.specs.List.{AllByRecursion}
use Rattle.vlog_tree.specs.declared.terminal.Terminal.TheVariants as t
use Rattle.vlog_tree.specs.Words.{WordOf, Fixed, NameAt}
use Rattle.vlog_tree.specs.Tree.{IdentOf, ExprOf, BodyOf, RangeOf, NamedValueOf, RegTailOf, InitTail, Reg1Of}
use Rattle.vlog_tree.specs.Tree.{AssignOf, EventOf, PosedgeEvent, ItemOf, WiresItem, DrivenWiresItem, RegsItem, AssignItem, AlwaysItem}
use Rattle.vlog_tree.specs.Spelling.{ident_words, expr_words, target_words, after_commas, with_commas, range_words, optional}
use Rattle.vlog_tree.specs.Spelling.{init_words, named_words, reg_words, assign_words}
use Rattle.vlog_tree.specs.Spelling.{item_words}
use Rattle.vlog_tree.specs.Shape.{IsGoodExpr, IsGoodBody, IsGoodOption, IsGoodRange, IsGoodIdent}
use Rattle.vlog_tree.specs.Shape.{IsGoodNamed, IsGoodTail, IsGoodReg, IsGoodAssign, IsGoodItem}
use Rattle.vlog_stmt.specs.vlog_expr.Marks.{Toks, spelled, spell, after, name_front}
use Rattle.vlog_tree.specs.Tree.{MemoryTail, ImplicitEvent, ConnOf, InstanceOf, LocalparamsItem}
use Rattle.vlog_tree.specs.Tree.{InstanceItem}
use Rattle.vlog_tree.specs.Spelling.{tail_words, hash_words, conn_words}
use Rattle.vlog_tree.specs.Shape.{IsGoodConn, IsGoodInstance}
use Rattle.vlog_stmt.specs.vlog_expr.Reader.{expr_at, target_at, fuel_for}
use Rattle.vlog_item.specs.ItemReader.{range_at, range_front, init_front}
use Rattle.vlog_item.specs.ItemReader.{named_at, tail_front, reg_at, assign_at, item_at, value_at, conn_at}
use Rattle.vlog_item.specs.ItemReader.{parameter_conns_front}
use Rattle.vlog_item.specs.ItemReader.{conns_at}
use Rattle.vlog_stmt.specs.vlog_expr.Reader.{some_at}
use Rattle.vlog_item.specs.Laws.{IsWholeItem}
use Rattle.vlog_stmt.proofs.vlog_expr_lemmas.Spelled.{spell_append, ends_bracket, ends_colon, ends_paren, expr_read}
use Rattle.vlog_stmt.proofs.vlog_expr_lemmas.TargetSpelled.{target_read}
use Rattle.vlog_stmt.proofs.Steps.{step, skipped}
use Rattle.vlog_stmt.proofs.Starts.{expr_start, close_start}
use Rattle.vlog_stmt.proofs.ListSpelled.{semicolon, paren, Parts, parts_semicolon, parts_paren, parts_more, ReadsOne, more_read}
use Rattle.vlog_stmt.proofs.ListSpelled.{some_read}
use Rattle.vlog_stmt.proofs.StmtSpelled.{body_read}

module _ (A : Type 0) (blank : A) where
  -- ranges
  bounds_read : (x : RangeOf A) (n : ℕ) (r : Toks A) → IsGoodRange x → fuel_for (length (range_words x)) ≤ n
      → range_at n (spell blank (expr_words x.first ++ Fixed t.Colon ∷ (expr_words x.second ++ Fixed t.BracketClose ∷ [])) r) ≡ Some (x, r)
  bounds_read x n r g h =
      let tail = expr_words x.second ++ Fixed t.BracketClose ∷ [] in
      let long = length-append (expr_words x.first) (Fixed t.Colon ∷ tail) in
      let longer = length-append (expr_words x.second) (Fixed t.BracketClose ∷ []) in
      step _
      (ap (λ (ws : Toks A). expr_at n ws) (spell_append A blank (expr_words x.first) (Fixed t.Colon ∷ tail) r)
      ∙ expr_read A blank x.first (spelled blank (Fixed t.Colon) ∷ spell blank tail r) n g.0 (ends_colon A blank (spell blank tail r))
      (omega arith))
      (step _
      (ap (λ (ws : Toks A). expr_at n ws) (spell_append A blank (expr_words x.second) (Fixed t.BracketClose ∷ []) r)
      ∙ expr_read A blank x.second (spelled blank (Fixed t.BracketClose) ∷ r) n g.1 (ends_bracket A blank r) (omega arith))
      refl)

  pub ranges_read : (x : Option (RangeOf A)) (n : ℕ) (r : Toks A) → IsGoodOption IsGoodRange x → after t.BracketOpen r ≡ None
      → fuel_for (length (optional range_words x)) ≤ n
      → range_front n (spell blank (optional range_words x) r) ≡ Some (x, r)
  ranges_read None n r g i h = skipped _ i refl
  ranges_read (Some x) n r g i h = step _ (bounds_read x n r g h) refl

  -- what follows `=`
  pub init_read : (x : Option (ExprOf A)) (n : ℕ) (r : Toks A) → IsGoodOption IsGoodExpr x → Parts A blank r
      → fuel_for (length (optional init_words x)) ≤ n
      → init_front n (spell blank (optional init_words x) r) ≡ Some (x, r)
  init_read None n r g p h = skipped _ p.equals refl
  init_read (Some x) n r g p h = step _ (expr_read A blank x r n g p.ends (omega arith)) refl

  -- the elements of items
  ident_read : (n : ℕ) → ReadsOne A blank ident_words IsGoodIdent name_front n
  ident_read n x r g p h = refl

  named_read : (n : ℕ) → ReadsOne A blank named_words IsGoodNamed (named_at n) n
  named_read n x r g p h = step _ (expr_read A blank x.value r n g.1 p.ends (omega arith)) refl

  tail_read : (x : Option (RegTailOf A)) (n : ℕ) (r : Toks A) → IsGoodOption IsGoodTail x → Parts A blank r
      → fuel_for (length (optional tail_words x)) ≤ n
      → tail_front n (spell blank (optional tail_words x) r) ≡ Some (x, r)
  tail_read None n r g p h = skipped _ p.equals (skipped _ p.ends.stops.index refl)
  tail_read (Some (InitTail e)) n r g p h = step _ (expr_read A blank e r n g p.ends (omega arith)) refl
  tail_read (Some (MemoryTail x)) n r g p h = step _ (bounds_read x n r g h) refl

  reg_read : (n : ℕ) → ReadsOne A blank reg_words IsGoodReg (reg_at n) n
  reg_read n x r g p h = step _ (tail_read x.tail n r g.1 p (omega arith)) refl

  assign_read : (n : ℕ) → ReadsOne A blank assign_words IsGoodAssign (assign_at n) n
  assign_read n x r g p h =
      let tail = Fixed t.Equals ∷ expr_words x.value in
      let long = length-append (target_words x.target) tail in
      step _
      (ap (λ (ws : Toks A). target_at n ws) (spell_append A blank (target_words x.target) tail r)
      ∙ target_read A blank x.target (spell blank tail r) n g.0 refl (omega arith))
      (step _ (expr_read A blank x.value r n g.1 p.ends (omega arith)) refl)

  value_read : (x : Option (ExprOf A)) (n : ℕ) (r : Toks A) → IsGoodOption IsGoodExpr x
      → fuel_for (length (optional expr_words x ++ Fixed t.ParenClose ∷ [])) ≤ n
      → value_at n (spell blank (optional expr_words x ++ Fixed t.ParenClose ∷ []) r) ≡ Some (x, r)
  value_read None n r g h = refl
  value_read (Some e) n r g h =
      let long = length-append (expr_words e) (Fixed t.ParenClose ∷ []) in
      ap (λ (ws : Toks A). value_at n ws) (spell_append A blank (expr_words e) (Fixed t.ParenClose ∷ []) r)
      ∙ skipped _ (expr_start A blank t.ParenClose (close_start A blank) e (paren A blank r)) (step _ (expr_read A blank e
      (paren A blank r) n g (ends_paren A blank r) (omega arith)) refl)

  conn_read : (n : ℕ) → ReadsOne A blank conn_words IsGoodConn (conn_at n) n
  conn_read n x r g p h = step _ (value_read x.value n r g.1 (omega arith)) refl

  parameter_conns_read : (cs : List (ConnOf A)) (n : ℕ) (name : List ℕ) (l : A) (r : Toks A) → AllByRecursion IsGoodConn cs
      → fuel_for (length (hash_words conn_words cs)) ≤ n
      → parameter_conns_front n (spell blank (hash_words conn_words cs) (spelled blank (NameAt name l) ∷ r))
      ≡ Some (cs, spelled blank (NameAt name l) ∷ r)
  parameter_conns_read [] n name l r g h = refl
  parameter_conns_read (c ∷ cs) n name l r g h =
      let rest = spelled blank (NameAt name l) ∷ r in
      let long = length-append (with_commas conn_words (c ∷ cs)) (Fixed t.ParenClose ∷ []) in
      step _
      (ap (λ (ws : Toks A). some_at (conn_at n) n ws) (spell_append A blank (with_commas conn_words (c ∷ cs))
      (Fixed t.ParenClose ∷ []) rest)
      ∙ some_read A blank conn_words IsGoodConn (conn_at n) n (conn_read n) c cs (paren A blank rest) g (parts_paren A blank rest) refl
      (omega arith))
      refl

  conns_read : (cs : List (ConnOf A)) (n : ℕ) (r : Toks A) → AllByRecursion IsGoodConn cs
      → fuel_for (length (with_commas conn_words cs)) ≤ n
      → conns_at n (spell blank (with_commas conn_words cs) (paren A blank r)) ≡ Some (cs, r)
  conns_read [] n r g h = refl
  conns_read (c ∷ cs) n r g h =
      step _ (some_read A blank conn_words IsGoodConn (conn_at n) n (conn_read n) c cs (paren A blank r) g
      (parts_paren A blank r) refl h) refl

  -- items
  equals_behind : {X : Type 0} (words : X → List (WordOf A)) (xs : List X) (r : Toks A)
      → after t.Equals (spell blank (after_commas words xs) (semicolon A blank r)) ≡ None
  equals_behind words xs r = (parts_more A blank words xs (semicolon A blank r) (parts_semicolon A blank r)).equals

  item_wires : (range : Option (RangeOf A)) (id : IdentOf A) (ids : List (IdentOf A)) (n : ℕ) (r : Toks A)
      → IsGoodItem (WiresItem range (id ∷ ids))
      → fuel_for (length (item_words (WiresItem range (id ∷ ids)))) ≤ n → item_at n (spell blank (item_words (WiresItem range
      (id ∷ ids))) r)
      ≡ Some (WiresItem range (id ∷ ids), r)
  item_wires range id ids n r g h =
      let list = NameAt id.name id.line ∷ after_commas ident_words ids in
      let long = length-append (optional range_words range) (list ++ Fixed t.Semicolon ∷ []) in
      let longer = length-append list (Fixed t.Semicolon ∷ []) in
      let rest = spell blank (after_commas ident_words ids) (semicolon A blank r) in
      step _
      (ap (λ (ws : Toks A). range_front n ws) (spell_append A blank (optional range_words range) (list ++ Fixed t.Semicolon ∷ []) r
      ∙ ap (λ (ws : Toks A). spell blank (optional range_words range) ws) (spell_append A blank list (Fixed t.Semicolon ∷ []) r))
      ∙ ranges_read range n (spelled blank (NameAt id.name id.line) ∷ rest) g.0 refl (omega arith))
      (skipped _ (equals_behind ident_words ids r)
      (step _
      (more_read A blank ident_words IsGoodIdent name_front n (ident_read n) ids n (id ∷ []) (semicolon A blank r) g.1.1
      (parts_semicolon A blank r) refl
      (omega arith) (omega arith))
      refl))

  item_driven : (range : Option (RangeOf A)) (w : NamedValueOf A) (ws : List (NamedValueOf A)) (n : ℕ) (r : Toks A)
      → IsGoodItem (DrivenWiresItem range (w ∷ ws))
      → fuel_for (length (item_words (DrivenWiresItem range (w ∷ ws)))) ≤ n
      → item_at n (spell blank (item_words (DrivenWiresItem range (w ∷ ws))) r) ≡ Some (DrivenWiresItem range (w ∷ ws), r)
  item_driven range w ws n r g h =
      let list = expr_words w.value ++ after_commas named_words ws in
      let start = NameAt w.id.name w.id.line ∷ Fixed t.Equals ∷ (list ++ Fixed t.Semicolon ∷ []) in
      let long = length-append (optional range_words range) start in
      let longer = length-append list (Fixed t.Semicolon ∷ []) in
      let longest = length-append (expr_words w.value) (after_commas named_words ws) in
      let rest = spell blank (after_commas named_words ws) (semicolon A blank r) in
      step _
      (ap (λ (ws : Toks A). range_front n ws) (spell_append A blank (optional range_words range) start r)
      ∙ ranges_read range n (spell blank start r) g.0 refl (omega arith))
      (step _
      (ap (λ (ws : Toks A). expr_at n ws) (spell_append A blank list (Fixed t.Semicolon ∷ []) r
      ∙ spell_append A blank (expr_words w.value) (after_commas named_words ws) (semicolon A blank r))
      ∙ expr_read A blank w.value rest n g.1.0.1 (parts_more A blank named_words ws (semicolon A blank r)
      (parts_semicolon A blank r)).ends (omega arith))
      (step _
      (more_read A blank named_words IsGoodNamed (named_at n) n (named_read n) ws n (w ∷ []) (semicolon A blank r) g.1.1
      (parts_semicolon A blank r) refl
      (omega arith) (omega arith))
      refl))

  item_regs : (range : Option (RangeOf A)) (x : Reg1Of A) (xs : List (Reg1Of A)) (n : ℕ) (r : Toks A) → IsGoodItem (RegsItem range (x ∷ xs))
      → fuel_for (length (item_words (RegsItem range (x ∷ xs)))) ≤ n → item_at n (spell blank (item_words (RegsItem range (x ∷ xs))) r)
      ≡ Some (RegsItem range (x ∷ xs), r)
  item_regs range x xs n r g h =
      let list = with_commas reg_words (x ∷ xs) in
      let long = length-append (optional range_words range) (list ++ Fixed t.Semicolon ∷ []) in
      let longer = length-append list (Fixed t.Semicolon ∷ []) in
      step _
      (ap (λ (ws : Toks A). range_front n ws) (spell_append A blank (optional range_words range) (list ++ Fixed t.Semicolon ∷ []) r)
      ∙ ranges_read range n (spell blank (list ++ Fixed t.Semicolon ∷ []) r) g.0 refl (omega arith))
      (step _
      (ap (λ (ws : Toks A). some_at (reg_at n) n ws) (spell_append A blank list (Fixed t.Semicolon ∷ []) r)
      ∙ some_read A blank reg_words IsGoodReg (reg_at n) n (reg_read n) x xs (semicolon A blank r) g.1 (parts_semicolon A blank r) refl
      (omega arith))
      refl)

  item_localparams : (range : Option (RangeOf A)) (x : NamedValueOf A) (xs : List (NamedValueOf A)) (n : ℕ) (r : Toks A)
      → IsGoodItem (LocalparamsItem range (x ∷ xs))
      → fuel_for (length (item_words (LocalparamsItem range (x ∷ xs)))) ≤ n
      → item_at n (spell blank (item_words (LocalparamsItem range (x ∷ xs))) r) ≡ Some (LocalparamsItem range (x ∷ xs), r)
  item_localparams range x xs n r g h =
      let list = with_commas named_words (x ∷ xs) in
      let long = length-append (optional range_words range) (list ++ Fixed t.Semicolon ∷ []) in
      let longer = length-append list (Fixed t.Semicolon ∷ []) in
      step _
      (ap (λ (ws : Toks A). range_front n ws) (spell_append A blank (optional range_words range) (list ++ Fixed t.Semicolon ∷ []) r)
      ∙ ranges_read range n (spell blank (list ++ Fixed t.Semicolon ∷ []) r) g.0 refl (omega arith))
      (step _
      (ap (λ (ws : Toks A). some_at (named_at n) n ws) (spell_append A blank list (Fixed t.Semicolon ∷ []) r)
      ∙ some_read A blank named_words IsGoodNamed (named_at n) n (named_read n) x xs (semicolon A blank r) g.1
      (parts_semicolon A blank r) refl (omega arith))
      refl)

  item_assigns : (x : AssignOf A) (xs : List (AssignOf A)) (n : ℕ) (r : Toks A) → IsGoodItem (AssignItem (x ∷ xs))
      → fuel_for (length (item_words (AssignItem (x ∷ xs)))) ≤ n → item_at n (spell blank (item_words (AssignItem (x ∷ xs))) r)
      ≡ Some (AssignItem (x ∷ xs), r)
  item_assigns x xs n r g h =
      let list = with_commas assign_words (x ∷ xs) in
      let long = length-append list (Fixed t.Semicolon ∷ []) in
      step _
      (ap (λ (ws : Toks A). some_at (assign_at n) n ws) (spell_append A blank list (Fixed t.Semicolon ∷ []) r)
      ∙ some_read A blank assign_words IsGoodAssign (assign_at n) n (assign_read n) x xs (semicolon A blank r) g
      (parts_semicolon A blank r) refl (omega arith))
      refl

  abbrev always_with : A → EventOf A → BodyOf A → ItemOf A
  always_with l v b = AlwaysItem (record { line = l; event = v; body = b })

  item_always : (l : A) (v : EventOf A) (b : BodyOf A) (n : ℕ) (r : Toks A) → IsGoodBody b → after t.Else r ≡ None
      → fuel_for (length (item_words (always_with l v b))) ≤ n
      → item_at n (spell blank (item_words (always_with l v b)) r) ≡ Some (always_with l v b, r)
  item_always l (PosedgeEvent id) b n r g e h = step _ (body_read A blank b r n g (λ o. e) (omega arith)) refl
  item_always l (ImplicitEvent false) b n r g e h = step _ (body_read A blank b r n g (λ o. e) (omega arith)) refl
  item_always l (ImplicitEvent true) b n r g e h = step _ (body_read A blank b r n g (λ o. e) (omega arith)) refl

  item_instance : (x : InstanceOf A) (n : ℕ) (r : Toks A) → IsGoodInstance x → fuel_for (length (item_words (InstanceItem x))) ≤ n
      → item_at n (spell blank (item_words (InstanceItem x)) r) ≡ Some (InstanceItem x, r)
  item_instance x n r g h =
      let end = Fixed t.ParenClose ∷ Fixed t.Semicolon ∷ [] in
      let tail = Fixed t.ParenOpen ∷ (with_commas conn_words x.ports ++ end) in
      let long = length-append (hash_words conn_words x.parameters) (NameAt x.id.name x.id.line ∷ tail) in
      let longer = length-append (with_commas conn_words x.ports) end in
      step _
      (ap (λ (ws : Toks A). parameter_conns_front n ws) (spell_append A blank (hash_words conn_words x.parameters)
      (NameAt x.id.name x.id.line ∷ tail) r)
      ∙ parameter_conns_read x.parameters n x.id.name x.id.line (spell blank tail r) g.1 (omega arith))
      (step _
      (ap (λ (ws : Toks A). conns_at n ws) (spell_append A blank (with_commas conn_words x.ports) end r)
      ∙ conns_read x.ports n (semicolon A blank r) g.3 (omega arith))
      refl)

  pub item_read : (i : ItemOf A) (n : ℕ) (r : Toks A) → IsGoodItem i → IsWholeItem i r → fuel_for (length (item_words i)) ≤ n
      → item_at n (spell blank (item_words i) r) ≡ Some (i, r)
  item_read (WiresItem range []) n r g e h = absurd g.1
  item_read (WiresItem range (id ∷ ids)) n r g e h = item_wires range id ids n r g h
  item_read (DrivenWiresItem range []) n r g e h = absurd g.1
  item_read (DrivenWiresItem range (w ∷ ws)) n r g e h = item_driven range w ws n r g h
  item_read (RegsItem range []) n r g e h = absurd g.1
  item_read (RegsItem range (x ∷ xs)) n r g e h = item_regs range x xs n r g h
  item_read (LocalparamsItem range []) n r g e h = absurd g.1
  item_read (LocalparamsItem range (x ∷ xs)) n r g e h = item_localparams range x xs n r g h
  item_read (AssignItem []) n r g e h = absurd g
  item_read (AssignItem (x ∷ xs)) n r g e h = item_assigns x xs n r g h
  item_read (AlwaysItem a) n r g e h = item_always a.line a.event a.body n r g.1 e h
  item_read (InstanceItem x) n r g e h = item_instance x n r g h

  -- no item begins with `else` or `endmodule`
  pub no_else : (i : ItemOf A) (r : Toks A) → after t.Else (spell blank (item_words i) r) ≡ None
  no_else (AlwaysItem a) r = refl
  no_else _ r = refl

  pub no_endmodule : (i : ItemOf A) (r : Toks A) → after t.Endmodule (spell blank (item_words i) r) ≡ None
  no_endmodule (AlwaysItem a) r = refl
  no_endmodule _ r = refl

  pub some_item : (i : ItemOf A) → 0 < length (item_words i)
  some_item (AlwaysItem a) = omega arith
  some_item _ = omega arith

  pub whole_before : (i : ItemOf A) (r : Toks A) → after t.Else r ≡ None → IsWholeItem i r
  whole_before (AlwaysItem a) r h = h
  whole_before _ r h = tt
