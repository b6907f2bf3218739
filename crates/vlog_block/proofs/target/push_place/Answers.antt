use Rattle.std.proofs.Common.{ap, List, [], ◌∷◌, ◌∙◌, subst, sym}
use Rattle.std.specs.List.{AllByRecursion}
use Rattle.std.proofs.lemmas.Result.{on_ok_weaker}
use Rattle.net_code.specs.Targets.{bit_count}
use Rattle.net_design.specs.declared.act.Place.{Place}
use Rattle.net_design.specs.Updates as places
use Rattle.net_design.specs.Bits as bits
use Rattle.net_design.specs.Sized.{IsSizedPlace}
use Rattle.vlog_block.specs.Naming.{place_names}
use Rattle.vlog_block.proofs.Names.{names_append, count_end}
use Rattle.vlog_block.proofs.Places.{updates_end, width_end, any_end, all_end}
use Rattle.vlog_block.proofs.target.push_place.Goals as goal

pub returns-clause-updates : goal.returns-clause-updates
returns-clause-updates c = on_ok_weaker c.push.result
    (λ e x v. ap (λ (ps : List Place). places.target_updates ps x v) e ∙ updates_end c.args.out.now c.args.place x v) c.push.ensures.ok

pub returns-clause-width : goal.returns-clause-width
returns-clause-width c =
    on_ok_weaker c.push.result (λ e. ap (λ (ps : List Place). places.target_width ps) e ∙ width_end c.args.out.now c.args.place)
    c.push.ensures.ok

pub returns-clause-reads : goal.returns-clause-reads
returns-clause-reads c = on_ok_weaker c.push.result
    (λ e m k. ap (λ (ps : List Place). bits.target_reads ps m k) e
    ∙ any_end (λ (p : Place). bits.place_reads p m k) c.args.out.now c.args.place) c.push.ensures.ok

pub returns-clause-writes : goal.returns-clause-writes
returns-clause-writes c = on_ok_weaker c.push.result
    (λ e m k. ap (λ (ps : List Place). bits.target_writes ps m k) e
    ∙ any_end (λ (p : Place). bits.place_writes p m k) c.args.out.now c.args.place) c.push.ensures.ok

pub returns-clause-adds : goal.returns-clause-adds
returns-clause-adds c = on_ok_weaker c.push.result
    (λ e m k. ap (λ (ps : List Place). bits.target_adds ps m k) e
    ∙ any_end (λ (p : Place). bits.place_adds p m k) c.args.out.now c.args.place) c.push.ensures.ok

pub returns-clause-sized : goal.returns-clause-sized
returns-clause-sized c = on_ok_weaker c.push.result
    (λ e h. subst (λ (ps : List Place). AllByRecursion (λ (p : Place). IsSizedPlace p) ps) (sym e)
    (all_end (λ (p : Place). IsSizedPlace p) c.args.out.now c.args.place h c.requires)) c.push.ensures.ok

pub returns-clause-names : goal.returns-clause-names
returns-clause-names c = on_ok_weaker c.push.result
    (λ e. ap (λ (ps : List Place). place_names ps) e ∙ names_append c.args.out.now (c.args.place ∷ [])) c.push.ensures.ok

pub returns-clause-count : goal.returns-clause-count
returns-clause-count c = on_ok_weaker c.push.result
    (λ e m k. ap (λ (ps : List Place). bit_count ps m k) e
    ∙ count_end (λ (p : Place). bits.place_writes p m k) c.args.out.now c.args.place) c.push.ensures.ok
