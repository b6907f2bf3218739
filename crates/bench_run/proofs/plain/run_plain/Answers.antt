use Rattle.std.proofs.Common.{◌≡◌, ◌⊎◌, inl, inr, None, refl, ap, sym, subst, ◌∙◌}
use Rattle.std.proofs.lemmas.Option.{same_Some}
use Rattle.std.proofs.lemmas.Result.{IfOk-weaker}
use Rattle.run_stage.proofs.chan_monitor_lemmas.vidi_bits_lemmas.Results.{on_err}
use Rattle.run_stage.specs.chan_monitor.Around.{IsAround}
use Rattle.bench_run.specs.Plain.{StandsWithin}
use Rattle.bench_run.proofs.Growing.{if-error, stands-behind}
use Rattle.bench_run.proofs.plain.run_plain.Goals as goal

pub returns-in_err-shell-clause-memory : goal.returns-in_err-shell-clause-memory
returns-in_err-shell-clause-memory g c =
    let said : (c.args.env.now ≡ c.args.env.now) ⊎ StandsWithin (g.E.Env.stands_for c.args.env.now) (g.B.Block.design c.args.block.now)
    c.args.map.now (g.E.Env.offer (g.E.Env.plan c.args.env.now)) c.args.resets.now c.args.cycles = inl refl in
    on_err _ said

pub returns-clause-run : goal.returns-clause-run
returns-clause-run g c =
    let d = g.B.Block.design c.args.block.now in
    let s = g.B.Block.state c.args.block.now in
    let offer = g.E.Env.offer (g.E.Env.plan c.args.env.now) in
    let shell = c.in_ok-shell.shell in
    let runs = subst (λ b. IsAround (g.B.Block.design shell.block.block.now) (g.B.Block.state shell.block.block.now) shell.map.now
    shell.pins shell.monitors (g.B.Block.design b) (g.B.Block.state b) None) c.new.ensures.block c.in_ok-shell.ensures.runs in
    IfOk-weaker c.run_shell-run.result _ _ (λ run is. is d s None runs) c.run_shell-run.ensures.run

pub returns-clause-memory : goal.returns-clause-memory
returns-clause-memory g c =
    let d = g.B.Block.design c.args.block.now in
    let s = g.B.Block.state c.args.block.now in
    let offer = g.E.Env.offer (g.E.Env.plan c.args.env.now) in
    let shell = c.in_ok-shell.shell in
    let runs = subst (λ b. IsAround (g.B.Block.design shell.block.block.now) (g.B.Block.state shell.block.block.now) shell.map.now
    shell.pins shell.monitors (g.B.Block.design b) (g.B.Block.state b) None) c.new.ensures.block c.in_ok-shell.ensures.runs in
    if-error c.run_shell-run.result c.run_shell-run.ensures.memory (λ is. inr (is d s None runs))

pub returns-clause-design : goal.returns-clause-design
returns-clause-design g c =
    let d = g.B.Block.design c.args.block.now in
    let s = g.B.Block.state c.args.block.now in
    let shell = c.in_ok-shell.shell in
    let runs = subst (λ b. IsAround (g.B.Block.design shell.block.block.now) (g.B.Block.state shell.block.block.now) shell.map.now
    shell.pins shell.monitors (g.B.Block.design b) (g.B.Block.state b) None) c.new.ensures.block c.in_ok-shell.ensures.runs in
    let kept = same_Some _ _ (c.run_shell-run.ensures.place ∙ c.in_ok-shell.ensures.place) in
    let same : c.new-arg-1.given ≡ c.into_block-back.result.block.ghost_name =
    sym (ap (λ l. l.block.ghost_name) c.into_block-back.ensures ∙ kept ∙ c.new.ensures.same) in
    let back = c.block-2-1.given.1 same in
    IfOk-weaker c.run_shell-run.result _ _ (λ run is. ap g.B.Block.design back
    ∙ ap (λ l. g.B.Block.design l.block.now) c.into_block-back.ensures ∙ (is d s None runs).at.design_is) c.run_shell-run.ensures.behind

pub returns-clause-behind : goal.returns-clause-behind
returns-clause-behind g c =
    let d = g.B.Block.design c.args.block.now in
    let s = g.B.Block.state c.args.block.now in
    let shell = c.in_ok-shell.shell in
    let runs = subst (λ b. IsAround (g.B.Block.design shell.block.block.now) (g.B.Block.state shell.block.block.now) shell.map.now
    shell.pins shell.monitors (g.B.Block.design b) (g.B.Block.state b) None) c.new.ensures.block c.in_ok-shell.ensures.runs in
    let kept = same_Some _ _ (c.run_shell-run.ensures.place ∙ c.in_ok-shell.ensures.place) in
    let same : c.new-arg-1.given ≡ c.into_block-back.result.block.ghost_name =
    sym (ap (λ l. l.block.ghost_name) c.into_block-back.ensures ∙ kept ∙ c.new.ensures.same) in
    let back = c.block-2-1.given.1 same in
    let offer = g.E.Env.offer (g.E.Env.plan c.args.env.now) in
    IfOk-weaker c.run_shell-run.result _ _ (λ run is. stands-behind _ _ d c.args.map.now offer c.args.resets.now run.rows
    (is d s None runs) (ap g.B.Block.state back ∙ ap (λ l. g.B.Block.state l.block.now) c.into_block-back.ensures
    ∙ (is d s None runs).at.state_is)) c.run_shell-run.ensures.behind
