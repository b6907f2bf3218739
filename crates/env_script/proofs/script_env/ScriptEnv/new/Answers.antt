use Rattle.std.proofs.Common.{◌≡◌, ℕ, List, sym, ap, subst, ◌∙◌, arith, length}
use Rattle.std.specs.Prelude.{slice_index}
use Rattle.std.proofs.lemmas.List.{length-replicate}
use Rattle.run_model.specs.trace_model.declared.channel.Channel.{Channel}
use Rattle.env_script.specs.Offered.{AreLasting}
use Rattle.env_script.specs.ScriptOffer.{script_offer}
use Rattle.env_script.proofs.Kept.{now_is}
use Rattle.env_script.proofs.Lasting.{script-lasts}
use Rattle.env_script.proofs.OfferLaws.{zero-at}
use Rattle.env_script.proofs.Moves.{reads_all, refilled, started}
use Rattle.env_script.proofs.script_env.ScriptEnv.new.Goals as goal

pub move_on-requires-clause-reads : goal.move_on-requires-clause-reads
move_on-requires-clause-reads c =
    reads_all c.args.map.now.channels c.args.script.now (length c.as_slice.result.now) c.requires
    (sym (ap length (c.as_slice.ensures.value ∙ c.in_ok-done.ensures) ∙ length-replicate c.len.result 0
    ∙ (c.len.ensures ∙ ap length c.channels-channels.ensures)))

pub returns-clause-rows : goal.returns-clause-rows
returns-clause-rows c =
    started c.args.script.now c.as_mut_slice.result.now c.move_on.new.places _ c.as_slice.result.now c.in_ok-done.done.items
    c.len-2.result c.len.result (c.as_mut_slice.ensures.value ∙ c.in_ok-places.ensures) (c.as_slice.ensures.value ∙ c.in_ok-done.ensures)
    (sym c.as_slice.ensures.value)
    (refilled c.in_ok-places.places.items c.move_on.new.places c.in_ok-places.places.len c.in_ok-places.places.ok.0
    (c.move_on.auto.places ∙ ap length c.as_mut_slice.ensures.value)) c.move_on.ensures

pub invariant_of-result-clause-reads : goal.invariant_of-result-clause-reads
invariant_of-result-clause-reads c =
    reads_all c.args.map.now.channels c.args.script.now (length c.channels-channels.result.now) c.requires
    (ap length (sym c.channels-channels.ensures))

pub invariant_of-result-clause-offered : goal.invariant_of-result-clause-offered
invariant_of-result-clause-offered c places done cycle rows all stands =
    now_is c.args.script.now c.args.map.now.channels places done cycle rows c.requires (all ∙ ap length c.channels-channels.ensures) stands

pub invariant_of-result-clause-lasting : goal.invariant_of-result-clause-lasting
invariant_of-result-clause-lasting c =
    subst (λ (channels : List Channel). AreLasting channels (script_offer c.args.script.now)) (sym c.channels-channels.ensures)
    (script-lasts c.args.map.now.channels c.args.script.now c.requires)

pub invariant_of-result-clause-all_places : goal.invariant_of-result-clause-all_places
invariant_of-result-clause-all_places c =
    let same = c.move_on.auto.places ∙ ap length c.as_mut_slice.ensures.value in
    ap length (refilled c.in_ok-places.places.items c.move_on.new.places c.in_ok-places.places.len c.in_ok-places.places.ok.0 same) ∙ same
    ∙ ap length c.in_ok-places.ensures ∙ length-replicate c.len-2.result _ ∙ c.len-2.ensures

pub invariant_of-result-clause-few : goal.invariant_of-result-clause-few
invariant_of-result-clause-few c k =
    let none : slice_index c.in_ok-done.done.items k ≡ 0 =
    ap (λ (xs : List ℕ). slice_index xs k) c.in_ok-done.ensures ∙ zero-at c.len.result k in
    omega (arith, none)
