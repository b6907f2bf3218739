-- The clock of `vidi_replay_top` is its first port.
use Rattle.std.proofs.Common.{◌≡◌, ℕ, zero, suc, ◌<◌, ◌≤◌, false, List, [], ◌∷◌, ◌++◌, Some, Option, refl, sym, ap, ◌∙◌}
use Rattle.std.proofs.Common.{subst, arith, inl, length, slice_get}
use Rattle.std.specs.Prelude.{codes}
use Rattle.std.specs.List.{Contains}
use Rattle.std.proofs.lemmas.Bool.{ne_eqb}
use Rattle.vlog_tree.specs.Tree.{BeginStmt, ConnOf, ItemOf, ModuleOf, FileOf}
use Rattle.shim_step.specs.vlog_scope.Scope.{scope_with}
use Rattle.vlog_design.specs.vlog_size.declared.scope.Scope.{Scope}
use Rattle.shim_step.specs.vlog_driver.Placed.{placed, placed_items}
use Rattle.shim_step.specs.vlog_driver.Settled.{IsClock, Waits, inputs_of}
use Rattle.net_design.specs.declared.design.Design.{Design}
use Rattle.net_design.specs.Pins.{is_clock}
use Rattle.replay_run.specs.trace_model.declared.channel.Channel.{Channel}
use Rattle.replay_run.specs.chan_map.declared.pins.Map.{Map}
use Rattle.replay_run.proofs.run_model_lemmas.RowParts.{channel-at}
use Rattle.shim_gen.specs.shim_trees.Pieces.{numbered, upto, reg, at_clock, conn}
use Rattle.shim_gen.specs.shim_trees.Replayer.{counting, shown_items, replayer}
use Rattle.shim_gen.specs.shim_trees.ReplayTop.{replay_top, replayer_conns}
use Rattle.shim_step.specs.Plain.{IsPlain}
use Rattle.shim_step.proofs.Elements.{Has, has_right, has_contains}
use Rattle.shim_step.proofs.Standing.{has_placed, plain_scope}
use Rattle.shim_step.specs.Wrapped.{IsWrapped}
use Rattle.shim_step.proofs.Files as files
use Rattle.shim_step.proofs.Stand.{I, child_of}
use Rattle.shim_step.proofs.Replayed.{top_plain, replayer_stands}
use Rattle.shim_step.proofs.Replayer.{replayer_plain}

-- no other port than the first is the clock, where that one is
pub others_are_none : (clock : Option ℕ) → clock ≡ Some 0 → (j : ℕ) → 1 ≤ j → is_clock clock j ≡ false
others_are_none clock e zero l = absurd (omega (arith, l))
others_are_none clock e (suc j) l = ap (λ c. is_clock c (suc j)) e ∙ ne_eqb 0 (suc j) (λ s. absurd (omega (arith, s)))

module _ {f : FileOf ℕ} {a : Map} {m : ModuleOf ℕ} {d : Design} (w : IsWrapped f a m d) where
  abbrev n : ℕ
  n = length a.channels

  abbrev T : ModuleOf ℕ
  T = replay_top a m.ports

  some : 0 < length a.channels
  some = (let s = w.mapped.table.some in omega (arith, s))

  x : Channel
  x = (channel-at a.channels 0 some).0

  at : slice_get a.channels 0 ≡ Some x
  unfolding x
  at = (channel-at a.channels 0 some).1

  abbrev M : ModuleOf ℕ
  M = replayer (length a.channels) 0 x

  abbrev conns : List (ConnOf ℕ)
  conns = replayer_conns (length a.channels) 0 x.dir x.widths

  own : IsPlain (replayer (length a.channels) 0 x)
  own = replayer_plain (length a.channels) 0 x (files.differ w M (files.replayer_there w 0 x at))

  abbrev block : ItemOf ℕ
  block = at_clock (BeginStmt (counting 0 (length a.channels)))

  there : Has (replayer (length a.channels) 0 x).items block
  there =
      has_right (upto (λ j. reg (numbered (codes "c") j) 32) 0 n) (shown_items n x.dir x.widths ++ block ∷ []) block
      (has_right (shown_items n x.dir x.widths) (block ∷ []) block (inl refl))

  waits : Waits (replayer (length a.channels) 0 x) (scope_with [] (replayer (length a.channels) 0 x)) (codes "clk")
  waits = (
    record { declared = 0; item = block },
    subst (λ (t : Scope). Contains (placed_items M t) (record { declared = 0; item = block })) (sym (plain_scope M own))
        (has_contains (placed [] 0 M.items) (record { declared = 0; item = block }) (has_placed M.items block own.items there)),
    _,
    _,
    refl,
    refl,
    refl,
  )

  pub clk_is_clock : Contains (inputs_of (replay_top a m.ports)) (codes "clk") → IsClock (files.more_of f a) (replay_top a m.ports) (codes "clk")
  clk_is_clock input = (
    input,
    (
      numbered (codes "q_") 0 ∷ [],
      M,
      scope_with [] M,
      codes "clk",
      (
        I (numbered (codes "vidi_q_") 0) (numbered (codes "q_") 0) conns,
        M,
        scope_with [] M,
        codes "clk",
        refl,
        child_of (top_plain w) (numbered (codes "vidi_q_") 0) (numbered (codes "q_") 0) conns (replayer_stands w 0 x at) M
            (has_contains (files.more_of f a) M (files.replayer_there w 0 x at)) refl,
        (conn (codes "clk") (codes "clk"), has_contains conns (conn (codes "clk") (codes "clk")) (inl refl), (refl, 0, refl)),
        (refl, refl, refl),
      ),
      waits,
    ),
  )
