use Rattle.std.proofs.Common.{List, ℕ, slice_set, subst, sym, arith}
use Rattle.net_order.specs.declared.search.Mark.TheVariants.{Fresh, Open}
use Rattle.net_order.specs.Search.{IsSound}
use Rattle.net_order.proofs.Moves.{open_sound, fewer, stay_begun}
use Rattle.net_order.proofs.search.Search.open.Goals as goal

pub returns-clause-step : goal.returns-clause-step
returns-clause-step c =
    let s = c.args.self.now in
    let g = c.args.graph.now in
    let sound = c.requires.sound in
    record {
      sound = subst (λ (p : List ℕ). IsSound g (slice_set s.marks.items c.args.i Open) s.left.items p s.order)
          (sym c.in_ok-push.ensures.items)
          (open_sound g s.marks.items s.left.items s.path.items s.order sound c.args.i c.requires.within c.requires.fresh c.requires.read);
      fewer = fewer g s.marks.items s.left.items s.path.items s.order sound c.args.i c.requires.within Fresh Open c.requires.fresh
          (omega arith);
      begun = stay_begun g s.marks.items s.left.items s.path.items s.order sound c.args.i c.requires.within Open (λ e. absurd cc);
    }
