-- What is read is of good shape and spelled so: items.
use Rattle.std.proofs.Common.{◌≡◌, if◌then◌else◌, ℕ, Option, None, Some, List, [], ◌∷◌, ◌++◌, refl, ap}
use Rattle.std.proofs.Common.{append_assoc}
use Rattle.std.specs.List.{AllByRecursion}
use Rattle.vlog_stmt.specs.vlog_lex.declared.token.TokenKind.{TokenKind}
use Rattle.vlog_stmt.specs.vlog_lex.declared.token.TokenKind.TheVariants.{Identifier, Reserved, Decimal, Based, Other}
use Rattle.vlog_tree.specs.declared.terminal.Terminal.TheVariants as t
use Rattle.vlog_tree.specs.Words.{WordOf, Fixed, FixedAt}
use Rattle.vlog_tree.specs.Tree.{IdentOf, RangeOf, NamedValueOf, Reg1Of, AssignOf, ItemOf}
use Rattle.vlog_tree.specs.Spelling.{ident_words, with_commas, range_words, optional}
use Rattle.vlog_tree.specs.Spelling.{init_words, named_words, reg_words, assign_words, event_words, item_words}
use Rattle.vlog_tree.specs.Shape.{IsGoodExpr, IsGoodOption, IsGoodRange, IsGoodIdent}
use Rattle.vlog_tree.specs.Shape.{IsGoodNamed, IsGoodReg, IsGoodAssign, IsGoodEvent, IsGoodItem}
use Rattle.vlog_stmt.specs.vlog_expr.Laws.{Holds}
use Rattle.vlog_item.specs.Laws.{ReadItemsAreSpelled}
use Rattle.vlog_stmt.specs.vlog_expr.Reader.{Read}
use Rattle.vlog_stmt.specs.vlog_expr.Marks.{Toks, AreWords, IsLawfulText, AreLawful, is_name, name_front}
use Rattle.vlog_item.specs.ItemReader.{range_at, range_front, init_front}
use Rattle.vlog_item.specs.ItemReader.{named_at, reg_at, assign_at, names_at, driven_at, wires_at}
use Rattle.vlog_item.specs.ItemReader.{regs_at, assigns_at, event_at, always_at, item_at}
use Rattle.vlog_stmt.proofs.vlog_expr_lemmas.Found.{From, again}
use Rattle.vlog_stmt.proofs.Sure.{Sure, nothing, sure, next, either, ◌▹◌, start, after_found, after_at_found}
use Rattle.vlog_stmt.proofs.Sure.{expr_found, target_found}
use Rattle.vlog_stmt.proofs.ListFound.{AreLed, led_good, alone, At, more_found, some_found}
use Rattle.vlog_stmt.proofs.StmtFound.{body_found}
use Rattle.vlog_tree.specs.Tree.{ConnOf, ExprOf, EventOf}
use Rattle.vlog_tree.specs.Spelling.{tail_words, hash_words, expr_words, conn_words}
use Rattle.vlog_tree.specs.Shape.{IsGoodTail, IsGoodConn}
use Rattle.vlog_item.specs.ItemReader.{tail_front, localparams_at, paren_event_at, value_at, conn_at, parameter_conns_front, conns_at}
use Rattle.vlog_item.specs.ItemReader.{instance_at, named_item_at, other_item_at}

module _ (A : Type 0) where
  name_cases : (kind : TokenKind) (text : List ℕ) (line : A) (rest : Toks A) → IsLawfulText kind text → AreLawful rest
      → Sure (if is_name kind then Some (record { name = text; line = line }, rest) else None)
      (At IsGoodIdent ident_words (record { kind = kind; text = text; line = line } ∷ rest))
  name_cases Identifier text line rest g h = sure _ (g, record { spells = (refl, refl); lawful = h })
  name_cases Reserved text line rest g h = nothing
  name_cases Decimal text line rest g h = nothing
  name_cases Based text line rest g h = nothing
  name_cases Other text line rest g h = nothing

  pub name_found : (ws : Toks A) → AreLawful ws → Sure (name_front ws) (At IsGoodIdent ident_words ws)
  name_found [] h = nothing
  name_found (token ∷ rest) h = name_cases token.kind token.text token.line rest h.0 h.1

  range_found : (n : ℕ) (w ws : Toks A) → From A w (Fixed t.BracketOpen ∷ []) ws → Sure (range_at n ws) (At IsGoodRange range_words w)
  range_found n w ws f =
      next (expr_found A n ws f.lawful) (λ a ga.
      next (after_found A t.Colon a.1 ga.1.lawful) (λ o fo.
      next (expr_found A n o.1 fo.lawful) (λ b gb.
      next (after_found A t.BracketClose b.1 gb.1.lawful) (λ c fc. sure _ ((ga.0, gb.0), f ▹ ga.1 ▹ fo ▹ gb.1 ▹ fc)))))

  pub ranges_found : (n : ℕ) (ws : Toks A) → AreLawful ws → Sure (range_front n ws) (At (IsGoodOption IsGoodRange) (optional range_words) ws)
  ranges_found n ws h = either (after_found A t.BracketOpen ws h) (sure _ (tt, start A ws h))
      (λ o f. next (range_found n ws o.1 f) (λ r g. sure _ g))

  pub init_found : (n : ℕ) (ws : Toks A) → AreLawful ws → Sure (init_front n ws) (At (IsGoodOption IsGoodExpr) (optional init_words) ws)
  init_found n ws h = either (after_found A t.Equals ws h) (sure _ (tt, start A ws h))
      (λ o f. next (expr_found A n o.1 f.lawful) (λ e g. sure _ (g.0, f ▹ g.1)))

  named_found : (n : ℕ) (ws : Toks A) → AreLawful ws → Sure (named_at n ws) (At IsGoodNamed named_words ws)
  named_found n ws h =
      next (name_found ws h) (λ id gi.
      next (after_found A t.Equals id.1 gi.1.lawful) (λ o fo.
      next (expr_found A n o.1 fo.lawful) (λ e ge. sure _ ((gi.0, ge.0), gi.1 ▹ fo ▹ ge.1))))

  tail_found : (n : ℕ) (ws : Toks A) → AreLawful ws → Sure (tail_front n ws) (At (IsGoodOption IsGoodTail) (optional tail_words) ws)
  tail_found n ws h =
      either (after_found A t.Equals ws h)
      (either (after_found A t.BracketOpen ws h) (sure _ (tt, start A ws h)) (λ o f. next (range_found n ws o.1 f) (λ r g. sure _ g)))
      (λ o f. next (expr_found A n o.1 f.lawful) (λ e g. sure _ (g.0, f ▹ g.1)))

  reg_found : (n : ℕ) (ws : Toks A) → AreLawful ws → Sure (reg_at n ws) (At IsGoodReg reg_words ws)
  reg_found n ws h =
      next (name_found ws h) (λ id gi. next (tail_found n id.1 gi.1.lawful) (λ x gx. sure _ ((gi.0, gx.0), gi.1 ▹ gx.1)))

  assign_found : (n : ℕ) (ws : Toks A) → AreLawful ws → Sure (assign_at n ws) (At IsGoodAssign assign_words ws)
  assign_found n ws h =
      next (target_found A n ws h) (λ x gx.
      next (after_found A t.Equals x.1 gx.1.lawful) (λ o fo.
      next (expr_found A n o.1 fo.lawful) (λ e ge. sure _ ((gx.0, ge.0), gx.1 ▹ fo ▹ ge.1))))

  abbrev pub AtItem : Toks A → ItemOf A × Toks A → Type 0
  AtItem w x = IsGoodItem x.0 × From A w (item_words x.0) x.1

  module _ (n : ℕ) (w mid : Toks A) (range : Option (RangeOf A)) (g : IsGoodOption IsGoodRange range)
      (f : From A w (Fixed t.Wire ∷ optional range_words range) mid) where
    names_found : (ws : Toks A) (id : IdentOf A) → At IsGoodIdent ident_words mid (id, ws) → Sure (names_at n range id ws) (AtItem w)
    names_found ws id gi =
        next (more_found A (IdentOf A) name_front IsGoodIdent IsGoodIdent ident_words name_found n mid ws (id ∷ [])
        ((gi.0, tt), alone gi.1)) (λ ids gs.
        next (after_found A t.Semicolon ids.1 gs.1.lawful) (λ c fc. sure _ ((g, led_good IsGoodIdent ids.0 gs.0), f ▹ gs.1 ▹ fc)))

    driven_found : (ws : Toks A) (id : IdentOf A) → IsGoodIdent id → From A mid (ident_words id ++ Fixed t.Equals ∷ []) ws
        → Sure (driven_at n range id ws) (AtItem w)
    driven_found ws id gi fi =
        next (expr_found A n ws fi.lawful) (λ e ge.
        next (more_found A (NamedValueOf A) (named_at n) IsGoodNamed IsGoodNamed named_words (named_found n) n mid e.1
        (record { id = id; value = e.0 } ∷ []) (((gi, ge.0), tt), alone (fi ▹ ge.1))) (λ xs gs.
        next (after_found A t.Semicolon xs.1 gs.1.lawful) (λ c fc. sure _ ((g, led_good IsGoodNamed xs.0 gs.0), f ▹ gs.1 ▹ fc))))

  wires_found : (n : ℕ) (w ws : Toks A) → From A w (Fixed t.Wire ∷ []) ws → Sure (wires_at n ws) (AtItem w)
  wires_found n w ws f =
      next (ranges_found n ws f.lawful) (λ r gr.
      next (name_found r.1 gr.1.lawful) (λ id gi.
      either (after_found A t.Equals id.1 gi.1.lawful)
      (names_found n w r.1 r.0 gr.0 (f ▹ gr.1) id.1 id.0 gi)
      (λ o fo. driven_found n w r.1 r.0 gr.0 (f ▹ gr.1) o.1 id.0 gi.0 (gi.1 ▹ fo))))

  regs_found : (n : ℕ) (w ws : Toks A) → From A w (Fixed t.Reg ∷ []) ws → Sure (regs_at n ws) (AtItem w)
  regs_found n w ws f =
      next (ranges_found n ws f.lawful) (λ r gr.
      next (some_found A (Reg1Of A) (reg_at n) IsGoodReg reg_words (reg_found n) n r.1 gr.1.lawful) (λ xs gs.
      next (after_found A t.Semicolon xs.1 gs.1.lawful) (λ c fc. sure _ ((gr.0, led_good IsGoodReg xs.0 gs.0), f ▹ gr.1 ▹ gs.1 ▹ fc))))

  localparams_found : (n : ℕ) (w ws : Toks A) → From A w (Fixed t.Localparam ∷ []) ws → Sure (localparams_at n ws) (AtItem w)
  localparams_found n w ws f =
      next (ranges_found n ws f.lawful) (λ r gr.
      next (some_found A (NamedValueOf A) (named_at n) IsGoodNamed named_words (named_found n) n r.1 gr.1.lawful) (λ xs gs.
      next (after_found A t.Semicolon xs.1 gs.1.lawful) (λ c fc. sure _ ((gr.0, led_good IsGoodNamed xs.0 gs.0), f ▹ gr.1 ▹ gs.1 ▹ fc))))

  assigns_found : (n : ℕ) (w ws : Toks A) → From A w (Fixed t.Assign ∷ []) ws → Sure (assigns_at n ws) (AtItem w)
  assigns_found n w ws f =
      next (some_found A (AssignOf A) (assign_at n) IsGoodAssign assign_words (assign_found n) n ws f.lawful) (λ xs gs.
      next (after_found A t.Semicolon xs.1 gs.1.lawful) (λ c fc. sure _ (led_good IsGoodAssign xs.0 gs.0, f ▹ gs.1 ▹ fc)))

  abbrev AtEvent : Toks A → EventOf A × Toks A → Type 0
  AtEvent w x = IsGoodEvent x.0 × From A w (event_words x.0) x.1

  paren_event_found : (w ws : Toks A) → From A w (Fixed t.At ∷ Fixed t.ParenOpen ∷ []) ws → Sure (paren_event_at ws) (AtEvent w)
  paren_event_found w ws f =
      either (after_found A t.Star ws f.lawful)
      (next (after_found A t.Posedge ws f.lawful) (λ p fp.
      next (name_found p.1 fp.lawful) (λ id gi.
      next (after_found A t.ParenClose id.1 gi.1.lawful) (λ c fc. sure _ (gi.0, f ▹ fp ▹ gi.1 ▹ fc)))))
      (λ s fs. next (after_found A t.ParenClose s.1 fs.lawful) (λ c fc. sure _ (tt, f ▹ fs ▹ fc)))

  event_found : (ws : Toks A) → AreLawful ws → Sure (event_at ws) (AtEvent ws)
  event_found ws h =
      next (after_found A t.At ws h) (λ a fa.
      either (after_found A t.Star a.1 fa.lawful)
      (next (after_found A t.ParenOpen a.1 fa.lawful) (λ o fo. paren_event_found ws o.1 (fa ▹ fo)))
      (λ s fs. sure _ (tt, fa ▹ fs)))

  always_found : (n : ℕ) (line : A) (w ws : Toks A) → From A w (FixedAt t.Always line ∷ []) ws → Sure (always_at n line ws) (AtItem w)
  always_found n line w ws f =
      next (event_found ws f.lawful) (λ v gv.
      next (body_found A n v.1 gv.1.lawful) (λ b gb. sure _ ((gv.0, gb.0), f ▹ gv.1 ▹ gb.2)))

  -- behind "(": what may stand before ")", and ")"
  abbrev AtValue : Toks A → Option (ExprOf A) × Toks A → Type 0
  AtValue w x = IsGoodOption IsGoodExpr x.0 × From A w (optional expr_words x.0 ++ Fixed t.ParenClose ∷ []) x.1

  value_found : (n : ℕ) (ws : Toks A) → AreLawful ws → Sure (value_at n ws) (AtValue ws)
  value_found n ws h =
      either (after_found A t.ParenClose ws h)
      (next (expr_found A n ws h) (λ e ge. next (after_found A t.ParenClose e.1 ge.1.lawful) (λ c fc. sure _ (ge.0, ge.1 ▹ fc))))
      (λ o f. sure _ (tt, f))

  conn_found : (n : ℕ) (ws : Toks A) → AreLawful ws → Sure (conn_at n ws) (At IsGoodConn conn_words ws)
  conn_found n ws h =
      next (after_at_found A t.Dot ws h) (λ d fd.
      next (name_found d.1 fd.lawful) (λ id gi.
      next (after_found A t.ParenOpen id.1 gi.1.lawful) (λ o fo.
      next (value_found n o.1 fo.lawful) (λ v gv. sure _ ((gi.0, gv.0), fd ▹ gi.1 ▹ fo ▹ gv.1)))))

  abbrev AreConns : List (ConnOf A) → Type 0
  AreConns cs = AllByRecursion IsGoodConn cs

  led_conns : (cs : List (ConnOf A)) → AreLed IsGoodConn IsGoodConn cs → AreConns cs
  led_conns [] g = absurd g
  led_conns (c ∷ cs) g = g

  some_hash : (cs : List (ConnOf A)) → AreLed IsGoodConn IsGoodConn cs
      → Fixed t.Hash ∷ Fixed t.ParenOpen ∷ (with_commas conn_words cs ++ Fixed t.ParenClose ∷ []) ≡ hash_words conn_words cs
  some_hash [] g = absurd g
  some_hash (c ∷ cs) g = refl

  parameter_conns_found : (n : ℕ) (ws : Toks A) → AreLawful ws → Sure (parameter_conns_front n ws) (At AreConns (hash_words conn_words) ws)
  parameter_conns_found n ws h =
      either (after_found A t.Hash ws h) (sure _ (tt, start A ws h))
      (λ o fo.
      next (after_found A t.ParenOpen o.1 fo.lawful) (λ p fp.
      next (some_found A (ConnOf A) (conn_at n) IsGoodConn conn_words (conn_found n) n p.1 fp.lawful) (λ cs gs.
      next (after_found A t.ParenClose cs.1 gs.1.lawful) (λ c fc.
      sure _ (led_conns cs.0 gs.0, again A ws c.1 _ _ (some_hash cs.0 gs.0) (fo ▹ fp ▹ gs.1 ▹ fc))))))

  -- behind "(": the connections and ")"
  abbrev AtConns : Toks A → List (ConnOf A) × Toks A → Type 0
  AtConns w x = AreConns x.0 × From A w (with_commas conn_words x.0 ++ Fixed t.ParenClose ∷ []) x.1

  conns_found : (n : ℕ) (ws : Toks A) → AreLawful ws → Sure (conns_at n ws) (AtConns ws)
  conns_found n ws h =
      either (after_found A t.ParenClose ws h)
      (next (some_found A (ConnOf A) (conn_at n) IsGoodConn conn_words (conn_found n) n ws h) (λ cs gs.
      next (after_found A t.ParenClose cs.1 gs.1.lawful) (λ c fc. sure _ (led_conns cs.0 gs.0, gs.1 ▹ fc))))
      (λ o f. sure _ (tt, f))

  instance_words_are : (m id : IdentOf A) (hash conns : List (WordOf A))
      → ident_words m ++ (hash ++ (ident_words id ++ Fixed t.ParenOpen ∷ ((conns ++ Fixed t.ParenClose ∷ []) ++ Fixed t.Semicolon ∷ [])))
      ≡ ident_words m ++ (hash ++ (ident_words id ++ Fixed t.ParenOpen ∷ (conns ++ Fixed t.ParenClose ∷ Fixed t.Semicolon ∷ [])))
  instance_words_are m id hash conns =
      ap (λ (ws : List (WordOf A)). ident_words m ++ (hash ++ (ident_words id ++ Fixed t.ParenOpen ∷ ws)))
      (append_assoc conns (Fixed t.ParenClose ∷ []) (Fixed t.Semicolon ∷ []))

  instance_found : (n : ℕ) (m : IdentOf A) (w ws : Toks A) → IsGoodIdent m → From A w (ident_words m) ws
      → Sure (instance_at n m ws) (AtItem w)
  instance_found n m w ws gm f =
      next (parameter_conns_found n ws f.lawful) (λ ps gp.
      next (name_found ps.1 gp.1.lawful) (λ id gi.
      next (after_found A t.ParenOpen id.1 gi.1.lawful) (λ o fo.
      next (conns_found n o.1 fo.lawful) (λ cs gs.
      next (after_found A t.Semicolon cs.1 gs.1.lawful) (λ c fc.
      sure _ (
        (gm, gp.0, gi.0, gs.0),
        again A w c.1 _ _ (instance_words_are m id.0 (hash_words conn_words ps.0) (with_commas conn_words cs.0))
            (f ▹ gp.1 ▹ gi.1 ▹ fo ▹ gs.1 ▹ fc),
      ))))))

  named_item_found : (n : ℕ) (ws : Toks A) → AreLawful ws → Sure (named_item_at n ws) (AtItem ws)
  named_item_found n ws h = next (name_found ws h) (λ id gi. instance_found n id.0 ws id.1 gi.0 gi.1)

  other_item_found : (n : ℕ) (ws : Toks A) → AreLawful ws → Sure (other_item_at n ws) (AtItem ws)
  other_item_found n ws h =
      either (after_found A t.Localparam ws h)
      (either (after_found A t.Assign ws h)
      (either (after_at_found A t.Always ws h) (named_item_found n ws h) (λ o f. always_found n o.0 ws o.1 f))
      (λ o f. assigns_found n ws o.1 f))
      (λ o f. localparams_found n ws o.1 f)

  pub item_found : (n : ℕ) (ws : Toks A) → AreLawful ws → Sure (item_at n ws) (AtItem ws)
  item_found n ws h =
      either (after_found A t.Wire ws h)
      (either (after_found A t.Reg ws h) (other_item_found n ws h) (λ o f. regs_found n ws o.1 f))
      (λ o f. wires_found n ws o.1 f)

  item_cases : (ws : Toks A) (o : Read A (ItemOf A)) → Sure o (AtItem ws) → Holds o (λ x. IsGoodItem x.0 × AreWords (item_words x.0) ws x.1)
  item_cases ws None h = tt
  item_cases ws (Some x) h = (h.holds.0, h.holds.1.spells)

pub item_spelled : (A : Type 0) → ReadItemsAreSpelled A
item_spelled A n ws h = item_cases A ws (item_at n ws) (item_found A n ws h)
