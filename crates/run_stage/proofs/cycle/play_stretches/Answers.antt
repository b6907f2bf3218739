use Rattle.std.proofs.Common.{◌≡◌, ◌+◌, true, false, [], ◌∷◌, ◌++◌, inl, inr, refl, ap, sym, subst, ◌∙◌, arith}
use Rattle.std.proofs.Math.Logic.{∥∥₁_elim}
use Rattle.std.proofs.lemmas.List.{length_push}
use Rattle.std.proofs.lemmas.Result.{err_from_is_err_and}
use Rattle.chan_replayer.specs.trace_model.Row.{IsOver}
use Rattle.net_design.specs.declared.design.Design.{Design}
use Rattle.chan_replayer.specs.chan_map.declared.pins.Map.{Map}
use Rattle.chan_replayer.specs.run_model.Played.{StopsBefore}
use Rattle.run_stage.specs.Stretching.{AreRuledStretches, BeginsBehind, PlayStretches}
use Rattle.run_stage.specs.declared.two_rows.TwoRows.{TwoRows}
use Rattle.run_stage.proofs.After.{after, asked-unless, here-long, some-before}
use Rattle.run_stage.proofs.Stretching.{all-longer, all-stable_nil, ends-now, fault-as, first, going-push, ruled-of}
use Rattle.run_stage.proofs.Turning.{last-push}
use Rattle.run_stage.proofs.cycle.play_stretches.Goals as goal

pub loop-cycle-init : goal.loop-cycle-init
loop-cycle-init g c =
    let m = c.args.map.now in
    let rule = g.P.StretchPlayer.rule c.args.player.now in
    let turns = g.P.StretchPlayer.turns c.args.player.now in
    let runs = g.S.Stage.runs c.args.stage.now c.args.stage.now in
    record {
      past = [];
      here = [];
      long = refl;
      asked = inl refl;
      within = omega arith;
      stands = c.requires.stands;
      going = λ k l asks. absurd (omega (arith, l));
      before = λ i rows at. absurd (cc);
      plays = λ d begins. first d m rule turns runs c.args.rows.now.last c.requires.silent begins;
      ruled = ruled-of m rule turns runs runs c.args.rows.now.last [] [] c.requires.begun
          (λ d begins. first d m rule turns runs c.args.rows.now.last c.requires.silent begins) (all-stable_nil m.channels);
      last_is = c.requires.silent;
      over = c.requires.rows;
      mapped = refl;
      place = refl;
      own = refl;
      cycles = let e = c.requires.reset in omega (arith, e);
    }

pub is_done-requires : goal.is_done-requires
is_done-requires g c =
    let inv = c.loop-cycle.invariant in (
      c.args.player.now,
      inv.past,
      inv.here,
      inv.stands,
      subst (λ (m : Map). IsOver m.channels c.loop-cycle.rows.last) (sym c.requires.same) inv.over.over,
    )

pub turn-fresh-requires-clause-stands : goal.turn-fresh-requires-clause-stands
turn-fresh-requires-clause-stands g c =
    let inv = c.loop-cycle.invariant in (
      c.args.player.now,
      inv.past,
      inv.here,
      inv.stands,
      here-long inv.past inv.here c.loop-cycle.cycle inv.asked inv.long,
      c.requires.same,
    )

pub play_cycle-requires-clause-stands : goal.play_cycle-requires-clause-stands
play_cycle-requires-clause-stands g c =
    let inv = c.loop-cycle.invariant in
    let first = c.args.player.now in
    let m = c.args.map.now in
    let rule = g.P.StretchPlayer.rule first in
    let turns = g.P.StretchPlayer.turns first in
    let ends = g.P.StretchPlayer.ends first in
    let now = ends-now m rule turns ends (g.P.StretchPlayer.map first) c.requires.same inv.past inv.here c.loop-cycle.rows.last c.is_done.result
    false c.if-is_done.false (c.is_done.ensures first inv.past inv.here inv.stands) inv.ruled inv.last_is in
    let at = after m rule turns ends (g.P.StretchPlayer.stands first c.loop-cycle.player) (g.P.StretchPlayer.stands first c.turn-fresh.new.player)
    (g.S.Stage.runs c.args.stage.now c.args.stage.now) (g.S.Stage.runs c.args.stage.now c.loop-cycle.stage) (g.S.Stage.runs c.args.stage.now c.turn-fresh.new.stage)
    c.loop-cycle.rows.last c.turn-fresh.new.rows.last c.turn-fresh.result c.loop-cycle.cycle inv.past inv.here inv.asked inv.long inv.going
    inv.before now inv.plays inv.ruled.stable inv.last_is
    (λ e some. c.turn-fresh.ensures.turned e first inv.past inv.here inv.stands some c.requires.same inv.ruled inv.last_is)
    (λ e d some. c.turn-fresh.ensures.resets e first c.args.stage.now d inv.past inv.here some)
    (λ e. c.turn-fresh.ensures.silent e)
    (λ e some few. c.turn-fresh.ensures.on e first inv.past inv.here inv.stands some few c.requires.same inv.ruled inv.last_is)
    (λ e d s on. subst (λ stage. g.S.Stage.runs c.args.stage.now stage d s inv.past inv.here) (sym (c.turn-fresh.ensures.same e).0) on)
    (λ e. ap (λ (rows : TwoRows). rows.last) (c.turn-fresh.ensures.same e).1) in
    (first, at.past, at.here, at.stands, c.requires.same)

pub loop-cycle-preserved : goal.loop-cycle-preserved
loop-cycle-preserved g c =
    let inv = c.loop-cycle.invariant in
    let first = c.args.player.now in
    let m = c.args.map.now in
    let rule = g.P.StretchPlayer.rule first in
    let turns = g.P.StretchPlayer.turns first in
    let ends = g.P.StretchPlayer.ends first in
    let now = ends-now m rule turns ends (g.P.StretchPlayer.map first) c.requires.same inv.past inv.here c.loop-cycle.rows.last c.is_done.result
    false c.if-is_done.false (c.is_done.ensures first inv.past inv.here inv.stands) inv.ruled inv.last_is in
    let at = after m rule turns ends (g.P.StretchPlayer.stands first c.loop-cycle.player) (g.P.StretchPlayer.stands first c.turn-fresh.new.player)
    (g.S.Stage.runs c.args.stage.now c.args.stage.now) (g.S.Stage.runs c.args.stage.now c.loop-cycle.stage) (g.S.Stage.runs c.args.stage.now c.turn-fresh.new.stage)
    c.loop-cycle.rows.last c.turn-fresh.new.rows.last c.turn-fresh.result c.loop-cycle.cycle inv.past inv.here inv.asked inv.long inv.going
    inv.before now inv.plays inv.ruled.stable inv.last_is
    (λ e some. c.turn-fresh.ensures.turned e first inv.past inv.here inv.stands some c.requires.same inv.ruled inv.last_is)
    (λ e d some. c.turn-fresh.ensures.resets e first c.args.stage.now d inv.past inv.here some)
    (λ e. c.turn-fresh.ensures.silent e)
    (λ e some few. c.turn-fresh.ensures.on e first inv.past inv.here inv.stands some few c.requires.same inv.ruled inv.last_is)
    (λ e d s on. subst (λ stage. g.S.Stage.runs c.args.stage.now stage d s inv.past inv.here) (sym (c.turn-fresh.ensures.same e).0) on)
    (λ e. ap (λ (rows : TwoRows). rows.last) (c.turn-fresh.ensures.same e).1) in
    let last = c.play_cycle.new.rows.last in
    let plays : (d : Design) → BeginsBehind d m (g.S.Stage.runs c.args.stage.now c.args.stage.now) []
    → PlayStretches d m rule turns (g.S.Stage.runs c.args.stage.now c.play_cycle.new.stage) last at.past (at.here ++ last ∷ [])
    = λ d begins. c.in_default.ensures.on refl first c.args.stage.now d at.past at.here at.stands c.requires.same at.fresh_is at.on (at.plays d begins) in
    let ruled = ruled-of m rule turns (g.S.Stage.runs c.args.stage.now c.play_cycle.new.stage) (g.S.Stage.runs c.args.stage.now c.args.stage.now) last at.past
    (at.here ++ last ∷ []) c.requires.begun plays (c.in_default.ensures.stable refl at.past at.here at.last_is at.stable) in
    let given = subst (λ (n : Map). AreRuledStretches n rule turns at.past (at.here ++ last ∷ [])) (sym c.requires.same) ruled in
    let long = length_push at.here last in
    record {
      past = at.past;
      here = at.here ++ last ∷ [];
      long = all-longer at.past at.here last ∙ ap (λ n. n + 1) at.long;
      asked = inr (omega (arith, long));
      within = let l = c.loop-cycle-test.true in omega (arith, l);
      stands = c.in_ok-keep.ensures.stands first at.past at.here at.long at.stands given;
      going = going-push ends at.past at.here last at.going at.now;
      before = at.before;
      plays = plays;
      ruled = ruled;
      last_is = last-push at.here last last refl;
      over = c.in_default.ensures.rows;
      mapped = c.in_default.ensures.map ∙ c.turn-fresh.ensures.map ∙ inv.mapped;
      place = c.in_default.ensures.place ∙ c.turn-fresh.ensures.place ∙ inv.place;
      own = c.in_default.ensures.own ∙ c.turn-fresh.ensures.own ∙ inv.own;
      cycles = let a = c.in_default.ensures.cycles in let b = c.turn-fresh.ensures.cycles in let e = inv.cycles in omega (arith, a, b, e);
    }

pub keep-requires : goal.keep-requires
keep-requires g c =
    let inv = c.loop-cycle.invariant in
    let first = c.args.player.now in
    let m = c.args.map.now in
    let rule = g.P.StretchPlayer.rule first in
    let turns = g.P.StretchPlayer.turns first in
    let ends = g.P.StretchPlayer.ends first in
    let now = ends-now m rule turns ends (g.P.StretchPlayer.map first) c.requires.same inv.past inv.here c.loop-cycle.rows.last c.is_done.result
    false c.if-is_done.false (c.is_done.ensures first inv.past inv.here inv.stands) inv.ruled inv.last_is in
    let at = after m rule turns ends (g.P.StretchPlayer.stands first c.loop-cycle.player) (g.P.StretchPlayer.stands first c.turn-fresh.new.player)
    (g.S.Stage.runs c.args.stage.now c.args.stage.now) (g.S.Stage.runs c.args.stage.now c.loop-cycle.stage) (g.S.Stage.runs c.args.stage.now c.turn-fresh.new.stage)
    c.loop-cycle.rows.last c.turn-fresh.new.rows.last c.turn-fresh.result c.loop-cycle.cycle inv.past inv.here inv.asked inv.long inv.going
    inv.before now inv.plays inv.ruled.stable inv.last_is
    (λ e some. c.turn-fresh.ensures.turned e first inv.past inv.here inv.stands some c.requires.same inv.ruled inv.last_is)
    (λ e d some. c.turn-fresh.ensures.resets e first c.args.stage.now d inv.past inv.here some)
    (λ e. c.turn-fresh.ensures.silent e)
    (λ e some few. c.turn-fresh.ensures.on e first inv.past inv.here inv.stands some few c.requires.same inv.ruled inv.last_is)
    (λ e d s on. subst (λ stage. g.S.Stage.runs c.args.stage.now stage d s inv.past inv.here) (sym (c.turn-fresh.ensures.same e).0) on)
    (λ e. ap (λ (rows : TwoRows). rows.last) (c.turn-fresh.ensures.same e).1) in
    let last = c.play_cycle.new.rows.last in
    let plays : (d : Design) → BeginsBehind d m (g.S.Stage.runs c.args.stage.now c.args.stage.now) []
    → PlayStretches d m rule turns (g.S.Stage.runs c.args.stage.now c.play_cycle.new.stage) last at.past (at.here ++ last ∷ [])
    = λ d begins. c.in_default.ensures.on refl first c.args.stage.now d at.past at.here at.stands c.requires.same at.fresh_is at.on (at.plays d begins) in
    let ruled = ruled-of m rule turns (g.S.Stage.runs c.args.stage.now c.play_cycle.new.stage) (g.S.Stage.runs c.args.stage.now c.args.stage.now) last at.past
    (at.here ++ last ∷ []) c.requires.begun plays (c.in_default.ensures.stable refl at.past at.here at.last_is at.stable) in
    let given = subst (λ (n : Map). AreRuledStretches n rule turns at.past (at.here ++ last ∷ [])) (sym c.requires.same) ruled in (
      first,
      at.past,
      at.here,
      at.long,
      (let l = c.loop-cycle-test.true in let most = c.requires.most in omega (arith, l, most)),
      at.stands,
      given,
    )

pub returns-then-is_done-clause-ok : goal.returns-then-is_done-clause-ok
returns-then-is_done-clause-ok g c =
    let inv = c.loop-cycle.invariant in
    let first = c.args.player.now in
    let m = c.args.map.now in
    let rule = g.P.StretchPlayer.rule first in
    let turns = g.P.StretchPlayer.turns first in
    let ends = g.P.StretchPlayer.ends first in
    let now = ends-now m rule turns ends (g.P.StretchPlayer.map first) c.requires.same inv.past inv.here c.loop-cycle.rows.last c.is_done.result
    true c.if-is_done.true (c.is_done.ensures first inv.past inv.here inv.stands) inv.ruled inv.last_is in (
      inv.past,
      inv.here,
      inv.stands,
      record { within = let a = inv.long in let b = inv.within in omega (arith, a, b); asked = inv.asked; going = inv.going; before = inv.before },
      (inv.long, now),
      (λ d begins. (inv.plays d begins, tt)),
    )

pub returns-in-Some-clause-ok : goal.returns-in-Some-clause-ok
returns-in-Some-clause-ok g c =
    let inv = c.loop-cycle.invariant in
    let first = c.args.player.now in
    let m = c.args.map.now in
    let rule = g.P.StretchPlayer.rule first in
    let turns = g.P.StretchPlayer.turns first in
    let ends = g.P.StretchPlayer.ends first in
    let now = ends-now m rule turns ends (g.P.StretchPlayer.map first) c.requires.same inv.past inv.here c.loop-cycle.rows.last c.is_done.result
    false c.if-is_done.false (c.is_done.ensures first inv.past inv.here inv.stands) inv.ruled inv.last_is in
    let at = after m rule turns ends (g.P.StretchPlayer.stands first c.loop-cycle.player) (g.P.StretchPlayer.stands first c.turn-fresh.new.player)
    (g.S.Stage.runs c.args.stage.now c.args.stage.now) (g.S.Stage.runs c.args.stage.now c.loop-cycle.stage) (g.S.Stage.runs c.args.stage.now c.turn-fresh.new.stage)
    c.loop-cycle.rows.last c.turn-fresh.new.rows.last c.turn-fresh.result c.loop-cycle.cycle inv.past inv.here inv.asked inv.long inv.going
    inv.before now inv.plays inv.ruled.stable inv.last_is
    (λ e some. c.turn-fresh.ensures.turned e first inv.past inv.here inv.stands some c.requires.same inv.ruled inv.last_is)
    (λ e d some. c.turn-fresh.ensures.resets e first c.args.stage.now d inv.past inv.here some)
    (λ e. c.turn-fresh.ensures.silent e)
    (λ e some few. c.turn-fresh.ensures.on e first inv.past inv.here inv.stands some few c.requires.same inv.ruled inv.last_is)
    (λ e d s on. subst (λ stage. g.S.Stage.runs c.args.stage.now stage d s inv.past inv.here) (sym (c.turn-fresh.ensures.same e).0) on)
    (λ e. ap (λ (rows : TwoRows). rows.last) (c.turn-fresh.ensures.same e).1) in
    let stops : (d : Design) → BeginsBehind d m (g.S.Stage.runs c.args.stage.now c.args.stage.now) []
    → StopsBefore d m (rule at.past) at.here c.in-Some.channel
    × PlayStretches d m rule turns (g.S.Stage.runs c.args.stage.now c.play_cycle.new.stage) c.play_cycle.new.rows.last at.past at.here
    = λ d begins. c.in-Some.ensures.stops c.in-Some.channel refl first c.args.stage.now d at.past at.here at.stands c.requires.same at.fresh_is
    (at.plays d begins) in
    let some : at.here ≡ [] → ⊥ = λ none. ∥∥₁_elim c.requires.begun (λ (x y : ⊥). absurd x)
    (λ (x : (d : Design) × BeginsBehind d m (g.S.Stage.runs c.args.stage.now c.args.stage.now) []).
    some-before x.0 m (rule at.past) at.here c.in-Some.channel (stops x.0 x.1).0 none) in (
      at.past,
      at.here,
      at.stands,
      record {
        within = let a = at.long in let l = c.loop-cycle-test.true in omega (arith, a, l);
        asked = asked-unless at.past at.here some;
        going = at.going;
        before = at.before;
      },
      (at.long, (let a = at.long in let l = c.loop-cycle-test.true in omega (arith, a, l)), at.now (asked-unless at.past at.here some)),
      (λ d begins. (let stop = stops d begins in (stop.1, (stop.0, at.on)))),
    )

pub returns-in_err-keep-clause-fault : goal.returns-in_err-keep-clause-fault
returns-in_err-keep-clause-fault g c =
    let inv = c.loop-cycle.invariant in
    let first = c.args.player.now in
    let m = c.args.map.now in
    let rule = g.P.StretchPlayer.rule first in
    let turns = g.P.StretchPlayer.turns first in
    let ends = g.P.StretchPlayer.ends first in
    let now = ends-now m rule turns ends (g.P.StretchPlayer.map first) c.requires.same inv.past inv.here c.loop-cycle.rows.last c.is_done.result
    false c.if-is_done.false (c.is_done.ensures first inv.past inv.here inv.stands) inv.ruled inv.last_is in
    let at = after m rule turns ends (g.P.StretchPlayer.stands first c.loop-cycle.player) (g.P.StretchPlayer.stands first c.turn-fresh.new.player)
    (g.S.Stage.runs c.args.stage.now c.args.stage.now) (g.S.Stage.runs c.args.stage.now c.loop-cycle.stage) (g.S.Stage.runs c.args.stage.now c.turn-fresh.new.stage)
    c.loop-cycle.rows.last c.turn-fresh.new.rows.last c.turn-fresh.result c.loop-cycle.cycle inv.past inv.here inv.asked inv.long inv.going
    inv.before now inv.plays inv.ruled.stable inv.last_is
    (λ e some. c.turn-fresh.ensures.turned e first inv.past inv.here inv.stands some c.requires.same inv.ruled inv.last_is)
    (λ e d some. c.turn-fresh.ensures.resets e first c.args.stage.now d inv.past inv.here some)
    (λ e. c.turn-fresh.ensures.silent e)
    (λ e some few. c.turn-fresh.ensures.on e first inv.past inv.here inv.stands some few c.requires.same inv.ruled inv.last_is)
    (λ e d s on. subst (λ stage. g.S.Stage.runs c.args.stage.now stage d s inv.past inv.here) (sym (c.turn-fresh.ensures.same e).0) on)
    (λ e. ap (λ (rows : TwoRows). rows.last) (c.turn-fresh.ensures.same e).1) in
    let last = c.play_cycle.new.rows.last in
    let plays : (d : Design) → BeginsBehind d m (g.S.Stage.runs c.args.stage.now c.args.stage.now) []
    → PlayStretches d m rule turns (g.S.Stage.runs c.args.stage.now c.play_cycle.new.stage) last at.past (at.here ++ last ∷ [])
    = λ d begins. c.in_default.ensures.on refl first c.args.stage.now d at.past at.here at.stands c.requires.same at.fresh_is at.on (at.plays d begins) in
    let ruled = ruled-of m rule turns (g.S.Stage.runs c.args.stage.now c.play_cycle.new.stage) (g.S.Stage.runs c.args.stage.now c.args.stage.now) last at.past
    (at.here ++ last ∷ []) c.requires.begun plays (c.in_default.ensures.stable refl at.past at.here at.last_is at.stable) in
    let given = subst (λ (n : Map). AreRuledStretches n rule turns at.past (at.here ++ last ∷ [])) (sym c.requires.same) ruled in
    fault-as c.from_residual.result c.in_err-keep.field-0.0
    (err_from_is_err_and c.from_residual.result c.from_residual.ensures.1) _ (
      at.past,
      at.here ++ last ∷ [],
      c.in_err-keep.ensures.broke first at.past at.here at.long at.stands given,
      record {
        within = let a = at.long in let l = c.loop-cycle-test.true in let p = all-longer at.past at.here last in omega (arith, a, l, p);
        asked = inr (let l = length_push at.here last in omega (arith, l));
        going = going-push ends at.past at.here last at.going at.now;
        before = at.before;
      },
      plays,
    )

pub returns-then-is_done-2-clause-ok : goal.returns-then-is_done-2-clause-ok
returns-then-is_done-2-clause-ok g c =
    let inv = c.loop-cycle.invariant in
    let first = c.args.player.now in
    let m = c.args.map.now in
    let rule = g.P.StretchPlayer.rule first in
    let turns = g.P.StretchPlayer.turns first in
    let ends = g.P.StretchPlayer.ends first in
    let all : c.loop-cycle.cycle ≡ c.args.cycles = (let k = inv.within in let f = c.loop-cycle-test.false in omega (arith, k, f)) in
    let now = ends-now m rule turns ends (g.P.StretchPlayer.map first) c.requires.same inv.past inv.here c.loop-cycle.rows.last c.is_done-2.result
    true c.if-is_done-2.true (c.is_done-2.ensures first inv.past inv.here inv.stands) inv.ruled inv.last_is in (
      inv.past,
      inv.here,
      inv.stands,
      record { within = let a = inv.long in omega (arith, a, all); asked = inv.asked; going = inv.going; before = inv.before },
      (inv.long ∙ all, now),
      (λ d begins. (inv.plays d begins, tt)),
    )

pub returns-else-is_done-2-clause-ok : goal.returns-else-is_done-2-clause-ok
returns-else-is_done-2-clause-ok g c =
    let inv = c.loop-cycle.invariant in
    let first = c.args.player.now in
    let m = c.args.map.now in
    let rule = g.P.StretchPlayer.rule first in
    let turns = g.P.StretchPlayer.turns first in
    let ends = g.P.StretchPlayer.ends first in
    let all : c.loop-cycle.cycle ≡ c.args.cycles = (let k = inv.within in let f = c.loop-cycle-test.false in omega (arith, k, f)) in
    let now = ends-now m rule turns ends (g.P.StretchPlayer.map first) c.requires.same inv.past inv.here c.loop-cycle.rows.last c.is_done-2.result
    false c.if-is_done-2.false (c.is_done-2.ensures first inv.past inv.here inv.stands) inv.ruled inv.last_is in (
      inv.past,
      inv.here,
      inv.stands,
      record { within = let a = inv.long in omega (arith, a, all); asked = inv.asked; going = inv.going; before = inv.before },
      (inv.long ∙ all, now),
      (λ d begins. (inv.plays d begins, tt)),
    )
