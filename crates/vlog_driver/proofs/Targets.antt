-- A net of which a block writes a bit stands among its targets.
use Rattle.std.proofs.Common.{◌≡◌, ℕ, ◌+◌, ◌==◌, nat_lt, nat_le, ◌&&◌, ◌||◌, Bool, true, false, List, [], ◌∷◌, ◌++◌, refl, ap, ◌∙◌}
use Rattle.std.proofs.lemmas.Bool.{and_parts}
use Rattle.std.proofs.lemmas.List.Folds.{list_any-append}
use Rattle.std.proofs.Math.Bool.{or-true}
use Rattle.vlog_tree.specs.Tree.{IndexOf, LastOf, RefWith, TargetOf, RefTarget, ConcatTarget, TargetsOf, NoTargets, MoreTargets}
use Rattle.vlog_tree.specs.Tree.{StmtOf, BeginStmt, IfStmt, CaseStmt, AssignStmt, StmtsOf, NoStmts, MoreStmts}
use Rattle.vlog_tree.specs.Tree.{LabelsArm, DefaultArm, ArmsOf, NoArms, MoreArms, BodyOf, StmtBody, EmptyBody, ElseOf, NoElse, Else}
use Rattle.vlog_block.specs.vlog_size.Names.{Readable}
use Rattle.vlog_block.specs.declared.source.Source.{Source}
use Rattle.vlog_block.specs.declared.source.Source.TheVariants.{Constant, Net, Memory, Nothing}
use Rattle.vlog_block.specs.Sources.{source_of}
use Rattle.vlog_block.specs.Written.{source_writes, target_writes, targets_write, writes, stmts_write, body_writes}
use Rattle.vlog_block.specs.Written.{else_writes, arms_write, default_writes}
use Rattle.vlog_block.specs.Naming.{Naming, source_name, target_names, targets_names, stmt_names, stmts_names, body_names, else_names}
use Rattle.vlog_block.specs.Naming.{arms_names, default_names}
use Rattle.vlog_driver.specs.Latch.{is_net, is_named}
use Rattle.vlog_driver.proofs.There.{net_there, both}

lone : (b : Bool) → b ≡ true → (b || false) ≡ true
lone true h = refl
lone false h = h

named_left : (m : ℕ) (xs ys : List Naming) → is_named xs m ≡ true → is_named (xs ++ ys) m ≡ true
named_left m xs ys h = list_any-append (is_net m) xs ys ∙ ap (λ b. b || is_named ys m) h

named_right : (m : ℕ) (xs ys : List Naming) → is_named ys m ≡ true → is_named (xs ++ ys) m ≡ true
named_right m xs ys h = list_any-append (is_net m) xs ys ∙ (ap (λ b. is_named xs m || b) h ∙ or-true (is_named xs m))

module _ (r : Readable) (m k : ℕ) where
  source_named : (s : Source) (index : IndexOf ℕ) (last : LastOf ℕ) → source_writes r s last m k ≡ true
      → is_named (source_name s index last ∷ []) m ≡ true
  source_named (Net span) index last h =
      lone (span.net == m) (and_parts (span.net == m) (nat_le span.low k && nat_lt k (span.low + span.width)) (net_there r span last m k h)).0
  source_named (Constant c) index last h = absurd (cc)
  source_named (Memory room n) index last h = absurd (cc)
  source_named Nothing index last h = absurd (cc)

  mutual
    target_named : (t : TargetOf ℕ) → target_writes r t m k ≡ true → is_named (target_names r t) m ≡ true
    target_named (RefTarget (RefWith id index last)) h = source_named (source_of r id.name) index last h
    target_named (ConcatTarget line ts) h = targets_named ts h

    targets_named : (ts : TargetsOf ℕ) → targets_write r ts m k ≡ true → is_named (targets_names r ts) m ≡ true
    targets_named NoTargets h = h
    targets_named (MoreTargets t ts) h =
        both (target_writes r t m k) (targets_write r ts m k) (is_named (target_names r t ++ targets_names r ts) m)
        (λ x. named_left m (target_names r t) (targets_names r ts) (target_named t x))
        (λ x. named_right m (target_names r t) (targets_names r ts) (targets_named ts x)) h

  mutual
    stmt_named : (s : StmtOf ℕ) → writes r s m k ≡ true → is_named (stmt_names r s) m ≡ true
    stmt_named (BeginStmt ss) h = stmts_named ss h
    stmt_named (IfStmt c b other) h =
        both (body_writes r b m k) (else_writes r other m k) (is_named (body_names r b ++ else_names r other) m)
        (λ x. named_left m (body_names r b) (else_names r other) (body_named b x))
        (λ x. named_right m (body_names r b) (else_names r other) (else_named other x)) h
    stmt_named (CaseStmt subject arms) h =
        both (arms_write r arms m k) (default_writes r arms m k) (is_named (arms_names r arms ++ default_names r arms) m)
        (λ x. named_left m (arms_names r arms) (default_names r arms) (arms_named arms x))
        (λ x. named_right m (arms_names r arms) (default_names r arms) (default_named arms x)) h
    stmt_named (AssignStmt target op e) h = target_named target h

    stmts_named : (ss : StmtsOf ℕ) → stmts_write r ss m k ≡ true → is_named (stmts_names r ss) m ≡ true
    stmts_named NoStmts h = h
    stmts_named (MoreStmts s ss) h =
        both (writes r s m k) (stmts_write r ss m k) (is_named (stmt_names r s ++ stmts_names r ss) m)
        (λ x. named_left m (stmt_names r s) (stmts_names r ss) (stmt_named s x))
        (λ x. named_right m (stmt_names r s) (stmts_names r ss) (stmts_named ss x)) h

    pub body_named : (b : BodyOf ℕ) → body_writes r b m k ≡ true → is_named (body_names r b) m ≡ true
    body_named (StmtBody s) h = stmt_named s h
    body_named EmptyBody h = h

    else_named : (o : ElseOf ℕ) → else_writes r o m k ≡ true → is_named (else_names r o) m ≡ true
    else_named NoElse h = h
    else_named (Else b) h = body_named b h

    arms_named : (arms : ArmsOf ℕ) → arms_write r arms m k ≡ true → is_named (arms_names r arms) m ≡ true
    arms_named NoArms h = h
    arms_named (MoreArms (LabelsArm labels b) rest) h =
        both (body_writes r b m k) (arms_write r rest m k) (is_named (body_names r b ++ arms_names r rest) m)
        (λ x. named_left m (body_names r b) (arms_names r rest) (body_named b x))
        (λ x. named_right m (body_names r b) (arms_names r rest) (arms_named rest x)) h
    arms_named (MoreArms (DefaultArm line colon b) rest) h = arms_named rest h

    default_named : (arms : ArmsOf ℕ) → default_writes r arms m k ≡ true → is_named (default_names r arms) m ≡ true
    default_named NoArms h = h
    default_named (MoreArms (LabelsArm labels b) rest) h = default_named rest h
    default_named (MoreArms (DefaultArm line colon b) rest) h = body_named b h
