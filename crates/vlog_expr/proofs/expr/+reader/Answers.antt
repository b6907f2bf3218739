use Rattle.std.proofs.Common.{rules, arith, ◌≡◌, ◌+◌, ◌-◌, ℕ, Some, None, sym, subst, ap, ◌∙◌}
use Rattle.vlog_tree.specs.Tree.{ExprOf}
use Rattle.vlog_tree.specs.Plain.{plain_expr}
use Rattle.vlog_expr.specs.Marks.{all_marked}
use Rattle.vlog_expr.specs.Reader.{◌>>=◌, Read, binary_front, climb_at, unary_at}
use Rattle.vlog_expr.specs.Given.{Gives, Fails}
use Rattle.vlog_expr.proofs.Climb.{binary_climb, binary_short, climb_some, climb_none, chain_more, same_boxed, fails_on}
use Rattle.vlog_expr.proofs.expr.+reader.Goals as goal

pub binary_of-returns-then-fuel-levels : goal.binary_of-returns-then-fuel-levels
binary_of-returns-then-fuel-levels t c = binary_short ℕ c.args.fuel (11 - c.args.level) c.args.level (all_marked c.args.tokens.now)
    (omega arith) c.if-fuel-levels.true

pub binary_of-returns-in-Ok : goal.binary_of-returns-in-Ok
binary_of-returns-in-Ok t c =
    let base = c.args.fuel - (11 - c.args.level) - 1 in
    let levels = 11 - c.args.level in
    let same = binary_climb ℕ levels base c.args.level c.args.fuel (all_marked c.args.tokens.now) (omega arith) (omega arith)
    ∙ ap (λ (o : Read ℕ (ExprOf ℕ)). o >>= climb_at base 10 levels) c.in-Ok.ensures in
    let Given : Read ℕ (ExprOf ℕ) → Type 0 = λ o. Gives (λ x. (plain_expr x.0, all_marked x.1.now)) c.climb_of.result o in
    subst Given (sym same) c.climb_of.ensures

pub binary_of-returns-in-Err : goal.binary_of-returns-in-Err
binary_of-returns-in-Err t c =
    let base = c.args.fuel - (11 - c.args.level) - 1 in
    let levels = 11 - c.args.level in
    let same = binary_climb ℕ levels base c.args.level c.args.fuel (all_marked c.args.tokens.now) (omega arith) (omega arith) in
    let Failed : Read ℕ (ExprOf ℕ) → Type 0 = λ o. Fails c.in-Err.unread o in
    subst Failed (sym same) (fails_on c.in-Err.unread (unary_at base (all_marked c.args.tokens.now)) (climb_at base 10 levels)
    c.in-Err.ensures)

pub climb_of-loop-at-preserved-in-Some : goal.climb_of-loop-at-preserved-in-Some
climb_of-loop-at-preserved-in-Some t c =
    let found : binary_front (c.loop-at.at - 1) (all_marked c.loop-at.rest.now)
    ≡ Some (c.in-Some.op, all_marked c.in-Some.behind.now) = search rules in
    let one = climb_some ℕ c.loop-at.fuel (c.loop-at.at - 1) (c.loop-at.at - c.args.level) (c.loop-at.fuel + 1 - 1) (c.loop-at.fuel + 1)
    (c.loop-at.at - 1 - 1) (c.loop-at.at - 1 - c.args.level)
    (plain_expr c.loop-at.left) (all_marked c.loop-at.rest.now) (c.in-Some.op, all_marked c.in-Some.behind.now)
    (plain_expr c.in_ok-more-in-Some.more, all_marked c.in_ok-more-in-Some.behind.now)
    (omega arith) (omega arith) (omega arith) (omega arith) found c.in_ok-more-in-Some.ensures in
    (omega arith, omega arith, omega arith, sym one ∙ c.loop-at.invariant.3)

pub climb_of-loop-at-preserved : goal.climb_of-loop-at-preserved
climb_of-loop-at-preserved t c =
    let none : binary_front (c.loop-at.at - 1) (all_marked c.loop-at.rest.now) ≡ None = search rules in
    let one = climb_none ℕ c.loop-at.fuel (c.loop-at.at - 1) (c.loop-at.at - c.args.level) (c.loop-at.fuel + 1) (c.loop-at.at - 1 - 1)
    (c.loop-at.at - 1 - c.args.level)
    (plain_expr c.loop-at.left) (all_marked c.loop-at.rest.now) (omega arith) (omega arith) (omega arith) none in
    (omega arith, omega arith, omega arith, sym one ∙ c.loop-at.invariant.3)

pub chain_of-returns-in-Some : goal.chain_of-returns-in-Some
chain_of-returns-in-Some t c =
    let found : binary_front c.args.level (all_marked c.in_ok-right.rest.now)
    ≡ Some (c.in-Some.op, all_marked c.in-Some.rest.now) = search rules in
    let same = chain_more ℕ c.args.fuel (c.args.fuel - 1) c.args.level
    (plain_expr c.args.left) (plain_expr c.in_ok-left.left.value) (plain_expr c.in_ok-right.right) (plain_expr c.in_ok-right-2.right.value)
    c.args.op (all_marked c.args.tokens.now) (all_marked c.in_ok-right.rest.now) (c.in-Some.op, all_marked c.in-Some.rest.now)
    (omega (arith, c.if-fuel-eq0.false))
    (ap plain_expr (same_boxed c.args.left c.in_ok-left.left.value c.in_ok-left.ensures))
    (ap plain_expr (same_boxed c.in_ok-right.right c.in_ok-right-2.right.value c.in_ok-right-2.ensures))
    c.in_ok-right.ensures found in
    let Given : Read ℕ (ExprOf ℕ) → Type 0 = λ o. Gives (λ x. (plain_expr x.0, all_marked x.1.now)) c.chain_of.result o in
    subst Given same c.chain_of.ensures
