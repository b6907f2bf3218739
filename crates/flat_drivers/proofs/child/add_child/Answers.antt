use Rattle.std.proofs.Common.{◌≡◌, ◌<◌, false, true, None, ap, sym, subst, ◌∙◌, ◌++◌, ◌∷◌, [], OnOk, Some, slice_get, refl, length, map}
use Rattle.std.specs.Prelude.{option_map}
use Rattle.std.specs.Option.{option_copied}
use Rattle.std.specs.List.{flat_map}
use Rattle.std.proofs.lemmas.List.{length-map}
use Rattle.std.proofs.lemmas.Option.{slice_get-map, slice_get_read}
use Rattle.flat_parts.specs.Instances.{IsDeclaredIn}
use Rattle.flat_parts.proofs.vidi_bits_lemmas.Lists.{some_same}
use Rattle.vlog_tree.specs.Plain as tree
use Rattle.flat_parts.specs.vlog_hierarchy.Plain.{plain_path}
use Rattle.flat_parts.specs.vlog_elab.Plain.{plain_instance, plain_instances}
use Rattle.flat_parts.specs.vlog_driver.Sites.{site_of}
use Rattle.flat_parts.specs.vlog_driver.Duties.{DoMore, conn_duties}
use Rattle.flat_drivers.specs.Seated.{instances_in}
use Rattle.flat_drivers.specs.Adding.{site_from}
use Rattle.flat_drivers.proofs.Added.{all_at}
use Rattle.flat_drivers.proofs.Paths.{joined_is}
use Rattle.flat_drivers.proofs.Seats.{base_there}
use Rattle.flat_parts.specs.vlog_names.Entries.{declared}
use Rattle.flat_drivers.proofs.child.add_child.Goals as goal

pub returns : goal.returns
returns c =
    let flat = c.args.flat.now in
    let child = plain_instance c.in-Some.child.now in
    let there : slice_get (instances_in flat) c.args.at ≡ Some child =
    slice_get-map plain_instance flat.list.now c.args.at ∙ ap (option_map plain_instance)
    (slice_get_read flat.list.now (length flat.list.now) c.args.at c.in-Some.child.now refl c.in-Some.ensures.lookup.3.0
    c.in-Some.ensures.lookup.1) in
    subst (λ ds. OnOk c.add_fit_conns.result (DoMore ds c.args.out.now c.add_fit_conns.new.out))
    (ap (λ cs. flat_map (conn_duties c.in-Some-value_at.names.now (site_of c.args.site.now)
    (site_from c.in-Some-get.base.now child.scope child.scope.declared)) (map tree.plain_conn cs)) c.as_slice-2.ensures
    ∙ joined_is (instances_in flat) c.args.at child c.in-Some-get.base.now flat.bases.now (site_of c.args.site.now)
    (tree.plain_instance c.args.instance.now) (plain_path c.args.path.now ++ c.args.instance.now.id.name ∷ [])
    c.in-Some-value_at.names.now c.requires.paths c.requires.bases there
    (slice_get_read flat.bases.now (length flat.bases.now) c.args.at c.in-Some-get.base.now refl c.in-Some-get.ensures.lookup.3.0
    c.in-Some-get.ensures.lookup.1)
    (ap plain_path (sym c.as_slice.ensures) ∙ c.is_longer_path.ensures c.if-not-is_longer_path.false)
    (some_same _ _ (c.in-Some-value_at.ensures
    ∙ all_at (IsDeclaredIn flat.modules.now) (instances_in flat) c.args.at child c.requires.names there)))
    c.add_fit_conns.ensures

pub unreachable-requires : goal.unreachable-requires
unreachable-requires c =
    let list = c.args.flat.now.list.now in
    let none : false ≡ true = c.in_default-get.ensures.lookup.2 (base_there (plain_instances list) c.args.flat.now.bases.now c.args.at
    c.requires.bases (subst (λ n. c.args.at < n) (sym (length-map list plain_instance)) c.in-Some.ensures.lookup.3.0)) in
    absurd (cc)

pub unreachable-requires-in_default-value_at : goal.unreachable-requires-in_default-value_at
unreachable-requires-in_default-value_at c =
    let flat = c.args.flat.now in
    let child = plain_instance c.in-Some.child.now in
    let there : slice_get (instances_in flat) c.args.at ≡ Some child =
    slice_get-map plain_instance flat.list.now c.args.at ∙ ap (option_map plain_instance)
    (slice_get_read flat.list.now (length flat.list.now) c.args.at c.in-Some.child.now refl c.in-Some.ensures.lookup.3.0
    c.in-Some.ensures.lookup.1) in
    let none : None ≡ Some (declared child.tree) = sym (ap option_copied c.in_default-value_at.is) ∙ c.value_at.ensures
    ∙ all_at (IsDeclaredIn flat.modules.now) (instances_in flat) c.args.at child c.requires.names there in
    absurd (cc)
