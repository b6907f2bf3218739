use Rattle.std.proofs.Common.{◌≡◌, ◌++◌, ◌∷◌, [], List, ℕ, slice_set, subst, sym, arith}
use Rattle.std.proofs.lemmas.Grind.{common_steps}
use Rattle.net_order.specs.declared.search.Mark.TheVariants.{Open, Done}
use Rattle.net_order.specs.Search.{IsSound}
use Rattle.net_order.proofs.Moves.{place_sound, is_open, fewer, stay_begun, top_in}
use Rattle.net_order.proofs.search.Search.place.Goals as goal

pub returns : goal.returns
returns c =
    let s = c.args.self.now in
    let g = c.args.graph.now in
    let sound = c.requires.sound in
    let is_path : s.path.items ≡ c.pop.new.self.items ++ c.args.top ∷ [] = grind
    (arith, common_steps, c.pop.ensures, c.requires.some, c.requires.top) in
    let within = top_in g s.marks.items s.left.items s.path.items s.order sound c.requires.some c.args.top c.requires.top in
    record {
      sound = subst (λ (o : List ℕ). IsSound g (slice_set s.marks.items c.args.top Done) s.left.items c.pop.new.self.items o)
          (sym c.in_ok-push.ensures.ok)
          (place_sound g s.marks.items s.left.items s.path.items s.order sound c.args.top within c.pop.new.self.items is_path
          c.requires.none);
      fewer = fewer g s.marks.items s.left.items s.path.items s.order sound c.args.top within Open Done
          (is_open g s.marks.items s.left.items s.path.items s.order sound c.args.top within c.pop.new.self.items is_path c.requires.none)
          (omega arith);
      begun = stay_begun g s.marks.items s.left.items s.path.items s.order sound c.args.top within Done (λ e. absurd cc);
    }
