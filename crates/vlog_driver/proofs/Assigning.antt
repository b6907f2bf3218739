-- A driver that is one assignment.
use Rattle.std.proofs.Common.{◌≡◌, ℕ, max, ◌↔◌, ◌||◌, false, List, [], ◌∷◌, Result, Ok, Err, IfOk, ap, sym}
use Rattle.std.proofs.Common.{subst, ◌∙◌}
use Rattle.std.proofs.Math.Bool.{or-false, and-true}
use Rattle.net_drive.specs.net_code.Targets.{bit_count}
use Rattle.vlog_tree.specs.Tree.{ExprOf, TargetOf}
use Rattle.net_design.specs.declared.act.Place.{Place}
use Rattle.net_design.specs.declared.act.Act.{Set}
use Rattle.net_design.specs.declared.act.Timing.TheVariants.{Blocking}
use Rattle.net_design.specs.declared.design.Driver.{Driver}
use Rattle.net_design.specs.declared.rhs.Rhs.{Rhs}
use Rattle.net_design.specs.declared.values.Values.{Values}
use Rattle.net_design.specs.Value as code
use Rattle.net_design.specs.Updates.{run}
use Rattle.net_design.specs.Bits as bits
use Rattle.net_design.specs.Bits.{block_writes, block_adds, block_reads, HasBits}
use Rattle.net_design.specs.Last.{HasLast, IsNarrow}
use Rattle.vlog_block.specs.Value.{value, width_of}
use Rattle.vlog_block.specs.Targets.{target_width, target_updates}
use Rattle.vlog_block.specs.Bits.{reads}
use Rattle.vlog_block.specs.Written.{target_writes, target_adds, target_reads}
use Rattle.vlog_block.specs.Naming.{target_count}
use Rattle.vlog_driver.specs.Sites.{Site, numbers_from, bits_at, count_at}
use Rattle.vlog_driver.specs.Drivers.{IsOneSet, IsAssignment}
use Rattle.vlog_driver.proofs.Namings.{set_targets}

module _ (to : Site) (target : TargetOf ℕ) (from : Site) (e : ExprOf ℕ) where
  -- what is known of the code of the target and of the expression
  pub record AreParts (lhs : List Place) (rhs : Rhs) (w : ℕ) : Type 0 where
    pub holds : (x : Rhs) (n : ℕ) (v : Values) → IsNarrow v → code.value x v ≡ n
        → (run (Set lhs x ∷ []) v ≡ v) ↔ HasLast (target_updates to.names (numbers_from to v) target n) (numbers_from to v)
    pub writes : (m k : ℕ) → bits.target_writes lhs m k ≡ bits_at to (target_writes to.names target) m k
    pub adds : (m k : ℕ) → bits.target_adds lhs m k ≡ bits_at to (target_adds to.names target) m k
    pub places : (m k : ℕ) → bits.target_reads lhs m k ≡ bits_at to (target_reads to.names target) m k
    pub count : (m k : ℕ) → bit_count lhs m k ≡ count_at to (target_count to.names target) m k
    pub value : (v : Values) → code.value rhs v ≡ value from.names (numbers_from from v) e w
    pub reads : (m k : ℕ) → bits.reads rhs m k ≡ bits_at from (reads from.names e) m k
    pub width : w ≡ max (target_width to.names target) (width_of from.names e)

  pub assignment_is : (line : ℕ) (d : Driver) (lhs : List Place) (rhs : Rhs) (w : ℕ) → AreParts lhs rhs w
      → d.line ≡ line → d.always ≡ false → d.code.acts ≡ Set lhs rhs ∷ [] → HasBits Blocking d.code
      → IsAssignment line to target from e d
  assignment_is line d lhs rhs w p on not_always acts has = record {
    line = on;
    always = not_always;
    holds = λ v narrow. subst
        (λ xs. (run xs v ≡ v) ↔ HasLast (target_updates to.names (numbers_from to v) target
        (value from.names (numbers_from from v) e (max (target_width to.names target) (width_of from.names e)))) (numbers_from to v))
        (sym acts)
        (p.holds rhs (value from.names (numbers_from from v) e (max (target_width to.names target) (width_of from.names e))) v narrow
        (p.value v ∙ ap (value from.names (numbers_from from v) e) p.width));
    writes = λ m k. has.writes m k ∙ ap (λ xs. block_writes xs m k) acts ∙ or-false _ ∙ p.writes m k;
    adds = λ m k. ap (λ xs. block_adds xs m k) acts ∙ or-false _ ∙ p.adds m k;
    reads = λ m k. has.reads m k ∙ ap (λ xs. block_reads Blocking xs m k) acts ∙ or-false _ ∙ and-true _
        ∙ ap (λ b. b || bits.target_reads lhs m k) (p.reads m k) ∙ ap (λ b. bits_at from (reads from.names e) m k || b) (p.places m k);
    bits = has;
    count = λ m k. set_targets d.code.acts lhs rhs acts m k ∙ p.count m k;
    one = subst (λ xs. IsOneSet xs) (sym acts) tt;
  }

  pub assignment_result : {E : Type 0} (line : ℕ) (result : Result Driver E) (lhs : List Place) (rhs : Rhs) (w : ℕ) → AreParts lhs rhs w
      → IfOk result (λ d. d.line ≡ line) → IfOk result (λ d. d.always ≡ false) → IfOk result (λ d. d.code.acts ≡ Set lhs rhs ∷ [])
      → IfOk result (λ d. HasBits Blocking d.code) → IfOk result (IsAssignment line to target from e)
  assignment_result line (Ok d) lhs rhs w p on not_always acts has = assignment_is line d lhs rhs w p on not_always acts has
  assignment_result line (Err error) lhs rhs w p on not_always acts has = tt
