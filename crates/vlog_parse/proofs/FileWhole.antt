-- The whole list of tokens as one file.
use Rattle.std.proofs.Common.{◌≡◌, ℕ, true, false, List, [], ◌∷◌, ◌++◌, Option, None, Some, length, option_map, refl, ap, sym}
use Rattle.std.proofs.Common.{◌∙◌, subst}
use Rattle.std.proofs.Common.{arith}
use Rattle.std.specs.List.{AllByRecursion}
use Rattle.vlog_tree.specs.Lines.{bare}
use Rattle.vlog_item.proofs.vidi_bits_lemmas.Lists.{some_same}
use Rattle.vlog_item.specs.vlog_lex.declared.token.Token.{Token}
use Rattle.vlog_tree.specs.declared.module.Direction.{Direction}
use Rattle.vlog_tree.specs.declared.module.Direction.TheVariants as direction
use Rattle.vlog_tree.specs.declared.module.NetKind.TheVariants as kind
use Rattle.vlog_tree.specs.declared.terminal.Terminal.TheVariants as t
use Rattle.vlog_tree.specs.Words.{WordOf, Fixed, NameAt, tokens_of}
use Rattle.vlog_tree.specs.Tree.{IdentOf, ExprOf, RangeOf, PortHeadOf, PortOf, NamedValueOf, RegTailOf, InitTail, Reg1Of, AssignOf}
use Rattle.vlog_tree.specs.Tree.{EventOf}
use Rattle.vlog_tree.specs.Tree.{PosedgeEvent, ItemOf, WiresItem, DrivenWiresItem, RegsItem, AssignItem, AlwaysItem, ModuleOf, FileOf}
use Rattle.vlog_tree.specs.Tree.{TargetOf, RefTarget, ConcatTarget, TargetsOf, NoTargets, MoreTargets, StmtOf, BeginStmt, IfStmt}
use Rattle.vlog_tree.specs.Tree.{AssignStmt, BodyOf, StmtBody, EmptyBody, ElseOf, NoElse, Else, StmtsOf, NoStmts, MoreStmts}
use Rattle.vlog_tree.specs.Spelling.{assign_terminal, ident_words, expr_words, target_words, targets_words, more_targets_words}
use Rattle.vlog_tree.specs.Spelling.{stmt_words}
use Rattle.vlog_tree.specs.Spelling.{body_words, else_words, stmts_words, after_commas, with_commas, in_row, range_words, optional}
use Rattle.vlog_tree.specs.Spelling.{direction_words, head_words, init_words, port_words, named_words, tail_words, reg_words}
use Rattle.vlog_tree.specs.Spelling.{assign_words}
use Rattle.vlog_tree.specs.Spelling.{event_words, item_words, module_words, file_words}
use Rattle.vlog_tree.specs.Shape.{IsGoodExpr, IsGoodTarget, AreGoodTargets, AreAllGoodTargets, IsGoodStmt, IsGoodBody, IsGoodElse}
use Rattle.vlog_tree.specs.Shape.{AreGoodStmts, IsGoodOption, IsGoodRange, IsGoodHead, IsGoodPort, IsGoodIdent, IsGoodNamed, IsGoodTail}
use Rattle.vlog_tree.specs.Shape.{IsGoodReg, IsGoodAssign, IsGoodEvent, AreSomeGood, IsGoodItem, IsGoodModule, IsGood}
use Rattle.vlog_item.specs.vlog_expr.Marks.{Toks, spell, AreWords, all_marked, AreLawful}
use Rattle.vlog_item.specs.vlog_expr.Bare.{forget_all, without_lines}
use Rattle.vlog_item.specs.vlog_expr.Reader.{fuel_for}
use Rattle.vlog_parse.specs.FileReader.{file_at, file_of}
use Rattle.vlog_item.specs.vlog_expr.Laws.{Holds}
use Rattle.vlog_parse.specs.FileLaws.{FilesAreRead, FileLinesDontCount}
use Rattle.vlog_parse.specs.Parsing.{IsLinedFileOf}
use Rattle.vlog_item.proofs.vlog_expr_lemmas.Spelled.{U}
use Rattle.vlog_parse.proofs.FileFound.{file_spelled}
use Rattle.vlog_item.proofs.vlog_expr_lemmas.Whole.{tokens_spelled, AreLawfulWords, lawful_append, spell_lawful, forget_lawful, expr_lawful}
use Rattle.vlog_item.proofs.vlog_expr_lemmas.Whole.{ref_lawful, length_spell, length_forget, none_some}
use Rattle.vlog_tree.specs.Tree.{CaseStmt, ArmOf, LabelsArm, DefaultArm, ArmsOf, NoArms, MoreArms, ParameterHeadOf, ParameterOf}
use Rattle.vlog_tree.specs.Tree.{MemoryTail}
use Rattle.vlog_tree.specs.Tree.{ImplicitEvent, ConnOf, InstanceOf, LocalparamsItem, InstanceItem}
use Rattle.vlog_tree.specs.Spelling.{arm_words, arms_words, parameter_head_words, parameter_words, hash_words, conn_words}
use Rattle.vlog_tree.specs.Spelling.{instance_words}
use Rattle.vlog_tree.specs.Shape.{IsGoodArm, AreGoodArms, AreAllGoodArms, IsGoodParameterHead, IsGoodParameter, IsGoodConn}
use Rattle.vlog_tree.specs.Shape.{IsGoodInstance}

module _ (A : Type 0) where
  mutual
    target_lawful : (x : TargetOf A) → IsGoodTarget x → AreLawfulWords (target_words x)
    target_lawful (RefTarget r) g = ref_lawful r g
    target_lawful (ConcatTarget line xs) g = (tt, lawful_append (targets_words xs) (Fixed t.BraceClose ∷ []) (targets_lawful xs g) (tt, tt))

    targets_lawful : (xs : TargetsOf A) → AreGoodTargets xs → AreLawfulWords (targets_words xs)
    targets_lawful NoTargets g = tt
    targets_lawful (MoreTargets x xs) g = lawful_append (target_words x) (more_targets_words xs) (target_lawful x g.0)
        (more_targets_lawful xs g.1)

    more_targets_lawful : (xs : TargetsOf A) → AreAllGoodTargets xs → AreLawfulWords (more_targets_words xs)
    more_targets_lawful NoTargets g = tt
    more_targets_lawful (MoreTargets x xs) g = (
      tt,
      lawful_append (target_words x) (more_targets_words xs) (target_lawful x g.0)
          (more_targets_lawful xs g.1),
    )

  -- lists and what may be there, of parts whose words are lawful
  module _ (X : Type 0) (Good : X → Type 0) (words : X → List (WordOf A)) (each : (x : X) → Good x → AreLawfulWords (words x)) where
    optional_lawful : (o : Option X) → IsGoodOption Good o → AreLawfulWords (optional words o)
    optional_lawful None g = tt
    optional_lawful (Some x) g = each x g

    after_commas_lawful : (xs : List X) → AllByRecursion Good xs → AreLawfulWords (after_commas words xs)
    after_commas_lawful [] g = tt
    after_commas_lawful (x ∷ xs) g = (tt, lawful_append (words x) (after_commas words xs) (each x g.0) (after_commas_lawful xs g.1))

    pub all_commas_lawful : (xs : List X) → AllByRecursion Good xs → AreLawfulWords (with_commas words xs)
    all_commas_lawful [] g = tt
    all_commas_lawful (x ∷ xs) g = lawful_append (words x) (after_commas words xs) (each x g.0) (after_commas_lawful xs g.1)

    commas_lawful : (xs : List X) → AreSomeGood Good xs → AreLawfulWords (with_commas words xs)
    commas_lawful [] g = tt
    commas_lawful (x ∷ xs) g = all_commas_lawful (x ∷ xs) g

    row_lawful : (xs : List X) → AllByRecursion Good xs → AreLawfulWords (in_row words xs)
    row_lawful [] g = tt
    row_lawful (x ∷ xs) g = lawful_append (words x) (in_row words xs) (each x g.0) (row_lawful xs g.1)

    some_row_lawful : (xs : List X) → AreSomeGood Good xs → AreLawfulWords (in_row words xs)
    some_row_lawful [] g = tt
    some_row_lawful (x ∷ xs) g = row_lawful (x ∷ xs) g

    pub hash_lawful : (xs : List X) → AllByRecursion Good xs → AreLawfulWords (hash_words words xs)
    hash_lawful [] g = tt
    hash_lawful (x ∷ xs) g = (
      tt,
      (tt, lawful_append (with_commas words (x ∷ xs)) (Fixed t.ParenClose ∷ []) (all_commas_lawful (x ∷ xs) g) (tt, tt)),
    )

  mutual
    stmt_lawful : (s : StmtOf A) → IsGoodStmt s → AreLawfulWords (stmt_words s)
    stmt_lawful (BeginStmt ss) g = (tt, lawful_append (stmts_words ss) (Fixed t.End ∷ []) (stmts_lawful ss g) (tt, tt))
    stmt_lawful (IfStmt e b o) g = (
      tt,
      (
        tt,
        lawful_append (expr_words e) (Fixed t.ParenClose ∷ (body_words b ++ else_words o)) (expr_lawful e g.0)
            (tt, lawful_append (body_words b) (else_words o) (body_lawful b g.1) (else_lawful o g.3)),
      ),
    )
    stmt_lawful (CaseStmt e xs) g = (
      tt,
      (
        tt,
        lawful_append (expr_words e) (Fixed t.ParenClose ∷ (arms_words xs ++ Fixed t.Endcase ∷ [])) (expr_lawful e g.0)
            (tt, lawful_append (arms_words xs) (Fixed t.Endcase ∷ []) (some_arms_lawful xs g.1) (tt, tt)),
      ),
    )
    stmt_lawful (AssignStmt x op e) g =
        lawful_append (target_words x) (Fixed (assign_terminal op) ∷ (expr_words e ++ Fixed t.Semicolon ∷ [])) (target_lawful x g.0)
        (tt, lawful_append (expr_words e) (Fixed t.Semicolon ∷ []) (expr_lawful e g.1) (tt, tt))

    body_lawful : (b : BodyOf A) → IsGoodBody b → AreLawfulWords (body_words b)
    body_lawful (StmtBody s) g = stmt_lawful s g
    body_lawful EmptyBody g = (tt, tt)

    else_lawful : (o : ElseOf A) → IsGoodElse o → AreLawfulWords (else_words o)
    else_lawful NoElse g = tt
    else_lawful (Else b) g = (tt, body_lawful b g)

    arm_lawful : (a : ArmOf A) → IsGoodArm a → AreLawfulWords (arm_words a)
    arm_lawful (LabelsArm ls b) g = lawful_append (with_commas expr_words ls) (Fixed t.Colon ∷ body_words b)
        (commas_lawful (ExprOf A) IsGoodExpr expr_words expr_lawful ls g.0) (tt, body_lawful b g.1)
    arm_lawful (DefaultArm line false b) g = (tt, body_lawful b g)
    arm_lawful (DefaultArm line true b) g = (tt, (tt, body_lawful b g))

    some_arms_lawful : (xs : ArmsOf A) → AreGoodArms xs → AreLawfulWords (arms_words xs)
    some_arms_lawful NoArms g = absurd g
    some_arms_lawful (MoreArms a more) g = lawful_append (arm_words a) (arms_words more) (arm_lawful a g.0) (arms_lawful more g.1)

    arms_lawful : (xs : ArmsOf A) → AreAllGoodArms xs → AreLawfulWords (arms_words xs)
    arms_lawful NoArms g = tt
    arms_lawful (MoreArms a more) g = lawful_append (arm_words a) (arms_words more) (arm_lawful a g.0) (arms_lawful more g.1)

    stmts_lawful : (ss : StmtsOf A) → AreGoodStmts ss → AreLawfulWords (stmts_words ss)
    stmts_lawful NoStmts g = tt
    stmts_lawful (MoreStmts s ss) g = lawful_append (stmt_words s) (stmts_words ss) (stmt_lawful s g.0) (stmts_lawful ss g.1)

  range_lawful : (r : RangeOf A) → IsGoodRange r → AreLawfulWords (range_words r)
  range_lawful r g = (
    tt,
    lawful_append (expr_words r.first) (Fixed t.Colon ∷ (expr_words r.second ++ Fixed t.BracketClose ∷ [])) (expr_lawful r.first g.0)
        (tt, lawful_append (expr_words r.second) (Fixed t.BracketClose ∷ []) (expr_lawful r.second g.1) (tt, tt)),
  )

  ranges_lawful : (o : Option (RangeOf A)) → IsGoodOption IsGoodRange o → AreLawfulWords (optional range_words o)
  ranges_lawful o g = optional_lawful (RangeOf A) IsGoodRange range_words range_lawful o g

  direction_lawful : (d : Direction) → AreLawfulWords {A = A} (direction_words d)
  direction_lawful (direction.Input false) = (tt, tt)
  direction_lawful (direction.Input true) = (tt, (tt, tt))
  direction_lawful (direction.Output None) = (tt, tt)
  direction_lawful (direction.Output (Some kind.Wire)) = (tt, (tt, tt))
  direction_lawful (direction.Output (Some kind.Reg)) = (tt, (tt, tt))

  head_lawful : (h : PortHeadOf A) → IsGoodHead h → AreLawfulWords (head_words h)
  head_lawful h g = lawful_append (direction_words h.direction) (optional range_words h.range) (direction_lawful h.direction)
      (ranges_lawful h.range g)

  init_lawful : (e : ExprOf A) → IsGoodExpr e → AreLawfulWords (init_words e)
  init_lawful e g = (tt, expr_lawful e g)

  pub port_lawful : (p : PortOf A) → IsGoodPort p → AreLawfulWords (port_words p)
  port_lawful p g = lawful_append (optional head_words p.head) (ident_words p.id ++ optional init_words p.init)
      (optional_lawful (PortHeadOf A) IsGoodHead head_words head_lawful p.head g.0)
      (g.1, optional_lawful (ExprOf A) IsGoodExpr init_words init_lawful p.init g.2)

  ident_lawful : (id : IdentOf A) → IsGoodIdent id → AreLawfulWords (ident_words id)
  ident_lawful id g = (g, tt)

  named_lawful : (w : NamedValueOf A) → IsGoodNamed w → AreLawfulWords (named_words w)
  named_lawful w g = (g.0, init_lawful w.value g.1)

  tail_lawful : (x : RegTailOf A) → IsGoodTail x → AreLawfulWords (tail_words x)
  tail_lawful (InitTail e) g = init_lawful e g
  tail_lawful (MemoryTail r) g = range_lawful r g

  reg_lawful : (r : Reg1Of A) → IsGoodReg r → AreLawfulWords (reg_words r)
  reg_lawful r g = (g.0, optional_lawful (RegTailOf A) IsGoodTail tail_words tail_lawful r.tail g.1)

  assign_lawful : (a : AssignOf A) → IsGoodAssign a → AreLawfulWords (assign_words a)
  assign_lawful a g = lawful_append (target_words a.target) (init_words a.value) (target_lawful a.target g.0) (init_lawful a.value g.1)

  event_lawful : (e : EventOf A) → IsGoodEvent e → AreLawfulWords (event_words e)
  event_lawful (PosedgeEvent id) g = (tt, (tt, (tt, (g, (tt, tt)))))
  event_lawful (ImplicitEvent false) g = (tt, (tt, tt))
  event_lawful (ImplicitEvent true) g = (tt, (tt, (tt, (tt, tt))))

  parameter_head_lawful : (h : ParameterHeadOf A) → IsGoodParameterHead h → AreLawfulWords (parameter_head_words h)
  parameter_head_lawful h g = (tt, ranges_lawful h.range g)

  pub parameter_lawful : (p : ParameterOf A) → IsGoodParameter p → AreLawfulWords (parameter_words p)
  parameter_lawful p g = lawful_append (optional parameter_head_words p.head) (ident_words p.id ++ init_words p.value)
      (optional_lawful (ParameterHeadOf A) IsGoodParameterHead parameter_head_words parameter_head_lawful p.head g.0)
      (g.1, init_lawful p.value g.2)

  conn_lawful : (c : ConnOf A) → IsGoodConn c → AreLawfulWords (conn_words c)
  conn_lawful c g = (
    tt,
    (
      g.0,
      (
        tt,
        lawful_append (optional expr_words c.value) (Fixed t.ParenClose ∷ [])
            (optional_lawful (ExprOf A) IsGoodExpr expr_words expr_lawful c.value g.1) (tt, tt),
      ),
    ),
  )

  instance_lawful : (x : InstanceOf A) → IsGoodInstance x → AreLawfulWords (instance_words x)
  instance_lawful x g =
      let end = Fixed t.ParenClose ∷ Fixed t.Semicolon ∷ [] in (
        g.0,
        lawful_append (hash_words conn_words x.parameters) (NameAt x.id.name x.id.line ∷ Fixed t.ParenOpen ∷
            (with_commas conn_words x.ports ++ end))
            (hash_lawful (ConnOf A) IsGoodConn conn_words conn_lawful x.parameters g.1) (
              g.2,
              (
                tt,
                lawful_append (with_commas conn_words x.ports) end
                    (all_commas_lawful (ConnOf A) IsGoodConn conn_words conn_lawful x.ports g.3) (tt, (tt, tt)),
              ),
            ),
      )

  -- parts with commas between them and ";"
  listed_lawful : (words : List (WordOf A)) → AreLawfulWords words → AreLawfulWords (words ++ Fixed t.Semicolon ∷ [])
  listed_lawful words h = lawful_append words (Fixed t.Semicolon ∷ []) h (tt, tt)

  ranged_lawful : (o : Option (RangeOf A)) (words : List (WordOf A)) → IsGoodOption IsGoodRange o → AreLawfulWords words
      → AreLawfulWords (optional range_words o ++ (words ++ Fixed t.Semicolon ∷ []))
  ranged_lawful o words g h = lawful_append (optional range_words o) (words ++ Fixed t.Semicolon ∷ []) (ranges_lawful o g)
      (listed_lawful words h)

  pub item_lawful : (x : ItemOf A) → IsGoodItem x → AreLawfulWords (item_words x)
  item_lawful (WiresItem o ids) g = (
    tt,
    ranged_lawful o (with_commas ident_words ids) g.0
        (commas_lawful (IdentOf A) IsGoodIdent ident_words ident_lawful ids g.1),
  )
  item_lawful (DrivenWiresItem o xs) g = (
    tt,
    ranged_lawful o (with_commas named_words xs) g.0
        (commas_lawful (NamedValueOf A) IsGoodNamed named_words named_lawful xs g.1),
  )
  item_lawful (RegsItem o xs) g = (
    tt,
    ranged_lawful o (with_commas reg_words xs) g.0
        (commas_lawful (Reg1Of A) IsGoodReg reg_words reg_lawful xs g.1),
  )
  item_lawful (LocalparamsItem o xs) g = (
    tt,
    ranged_lawful o (with_commas named_words xs) g.0
        (commas_lawful (NamedValueOf A) IsGoodNamed named_words named_lawful xs g.1),
  )
  item_lawful (AssignItem xs) g = (
    tt,
    listed_lawful (with_commas assign_words xs)
        (commas_lawful (AssignOf A) IsGoodAssign assign_words assign_lawful xs g),
  )
  item_lawful (AlwaysItem a) g = (
    tt,
    lawful_append (event_words a.event) (body_words a.body) (event_lawful a.event g.0)
        (body_lawful a.body g.1),
  )
  item_lawful (InstanceItem x) g = instance_lawful x g

  module_lawful : (m : ModuleOf A) → IsGoodModule m → AreLawfulWords (module_words m)
  module_lawful m g =
      let body = in_row item_words m.items ++ Fixed t.Endmodule ∷ [] in
      let tail = with_commas port_words m.ports ++ Fixed t.ParenClose ∷ Fixed t.Semicolon ∷ body in (
        tt,
        (
          g.0,
          lawful_append (hash_words parameter_words m.parameters) (Fixed t.ParenOpen ∷ tail)
              (hash_lawful (ParameterOf A) IsGoodParameter parameter_words parameter_lawful m.parameters g.2) (
                tt,
                lawful_append (with_commas port_words m.ports) (Fixed t.ParenClose ∷ Fixed t.Semicolon ∷ body)
                    (all_commas_lawful (PortOf A) IsGoodPort port_words port_lawful m.ports g.4) (
                      tt,
                      (
                        tt,
                        lawful_append (in_row item_words m.items) (Fixed t.Endmodule ∷ [])
                            (row_lawful (ItemOf A) IsGoodItem item_words item_lawful m.items g.5) (tt, tt),
                      ),
                    ),
              ),
        ),
      )

  pub file_lawful : (f : FileOf A) → IsGood f → AreLawfulWords (file_words f)
  file_lawful f g = some_row_lawful (ModuleOf A) IsGoodModule module_words module_lawful f.modules g

-- tokens that spell a file of good shape are lawful
pub file_lawful_from : (f : FileOf (Unit {0})) (ts : List Token) → IsGood f → tokens_of (file_words f) ≡ without_lines ts
    → AreLawful (all_marked ts)
file_lawful_from f ts g h =
    forget_lawful (all_marked ts) (subst (λ (ws : Toks U). AreLawful ws) (tokens_spelled (file_words f) ts h)
    (spell_lawful tt (file_words f) (file_lawful U f g)))

all_sound : (ws : Toks ℕ) → AreLawful ws → Holds (file_of ws) (λ (f : FileOf ℕ). IsGood f × AreWords (file_words f) ws [])
unfolding file_of
all_sound ws h = file_spelled ℕ (fuel_for (length ws)) ws h

pub file_found : (ts : List Token) (f : FileOf ℕ) → AreLawful (all_marked ts) → file_of (all_marked ts) ≡ Some f → IsLinedFileOf ts f
file_found ts f l h = subst (λ (o : Option (FileOf ℕ)). Holds o (λ (f : FileOf ℕ). IsGood f × AreWords (file_words f) (all_marked ts) []))
    h (all_sound (all_marked ts) l)

from_mapped : (o : Option (FileOf ℕ)) (t : FileOf U) → option_map bare o ≡ Some t → (f : FileOf ℕ) × (o ≡ Some f) × (bare f ≡ t)
from_mapped None t h = absurd (none_some t h)
from_mapped (Some f) t h = (f, refl, some_same (bare f) t h)

read_again : FilesAreRead → FileLinesDontCount ℕ → (ws : Toks ℕ) (t : FileOf U) → IsGood t → spell tt (file_words t) [] ≡ forget_all ws
    → (f : FileOf ℕ) × (file_of ws ≡ Some f) × (bare f ≡ t)
unfolding file_of
read_again read lines ws t g h =
    let fuel = fuel_for (length ws) in
    let same : length (file_words t) ≡ length ws = sym (length_spell tt (file_words t)) ∙ ap (λ (us : Toks U). length us) h
    ∙ length_forget ws
    in
    from_mapped (file_at fuel ws) t (sym (lines fuel ws) ∙ sym (ap (λ (us : Toks U). file_at fuel us) h) ∙ read t fuel g (omega arith))

pub file_again : FilesAreRead → FileLinesDontCount ℕ → (ts : List Token) (t : FileOf (Unit {0})) → IsGood t → tokens_of (file_words t)
    ≡ without_lines ts
    → (f : FileOf ℕ) × (file_of (all_marked ts) ≡ Some f) × (bare f ≡ t)
file_again read lines ts t g w = read_again read lines (all_marked ts) t g (tokens_spelled (file_words t) ts w)
