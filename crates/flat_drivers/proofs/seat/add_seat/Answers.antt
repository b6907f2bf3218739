use Rattle.std.proofs.Common.{◌≡◌, ◌<◌, subst, sym, refl, length, OnOk, Some, slice_get, get_or, false, true}
use Rattle.std.proofs.lemmas.List.{length-map}
use Rattle.std.proofs.lemmas.Option.{slice_get_read, slice_get-get_or}
use Rattle.flat_parts.specs.vidi_bits.Findings.{Judged}
use Rattle.flat_parts.specs.vlog_elab.Told.{elab_told}
use Rattle.flat_parts.specs.vlog_elab.Plain.{plain_instance, plain_instances}
use Rattle.flat_parts.specs.vlog_driver.Duties.{DoMore}
use Rattle.flat_drivers.specs.Adding.{BlocksMore}
use Rattle.flat_drivers.proofs.Seats.{base_there, clean_seat, latches_seat, duties_seat, blocks_seat}
use Rattle.flat_drivers.proofs.seat.add_seat.Goals as goal

pub add_items-requires-clause-faultless : goal.add_items-requires-clause-faultless
add_items-requires-clause-faultless c =
    let list = c.args.flat.now.list.now in
    let inst = get_or list c.args.at c.index-flat-at.result in
    clean_seat list c.args.at inst c.in-Some.base.now c.in_ok-scope.scope c.as_slice-2.result.now c.requires.flat.faultless
    (slice_get-get_or list c.args.at c.index-flat-at.result c.requires.there) c.in_ok-scope.ensures c.as_slice-2.ensures

pub returns-clause-told : goal.returns-clause-told
returns-clause-told c = λ i at.
    let list = c.args.flat.now.list.now in
    let there : slice_get list c.args.at ≡ Some (get_or list c.args.at c.index-flat-at.result) =
    slice_get-get_or list c.args.at c.index-flat-at.result c.requires.there in
    subst (λ fs. Judged elab_told c.add_items.result fs)
    (latches_seat list c.args.at (get_or list c.args.at c.index-flat-at.result) i
    c.in_ok-scope.scope c.as_slice-2.result.now there at c.in_ok-scope.ensures
    c.as_slice-2.ensures)
    c.add_items.ensures.told

pub returns-clause-drivers : goal.returns-clause-drivers
returns-clause-drivers c = λ x at.
    let flat = c.args.flat.now in
    let list = flat.list.now in
    let there : slice_get list c.args.at ≡ Some (get_or list c.args.at c.index-flat-at.result) =
    slice_get-get_or list c.args.at c.index-flat-at.result c.requires.there in
    subst (λ ds. OnOk c.add_items.result (DoMore ds c.args.out.now.drivers c.add_items.new.out.drivers))
    (duties_seat list flat.bases.now c.args.at (get_or list c.args.at c.index-flat-at.result) x
    c.in-Some.base.now c.in_ok-scope.scope c.as_slice-2.result.now
    c.as_slice.result.now c.requires.flat.bases (slice_get_read flat.bases.now (length flat.bases.now) c.args.at
    c.in-Some.base.now refl c.in-Some.ensures.lookup.3.0 c.in-Some.ensures.lookup.1) there at c.in_ok-scope.ensures c.as_slice-2.ensures
    c.as_slice.ensures)
    c.add_items.ensures.drivers

pub returns-clause-blocks : goal.returns-clause-blocks
returns-clause-blocks c = λ x at.
    let flat = c.args.flat.now in
    let list = flat.list.now in
    let there : slice_get list c.args.at ≡ Some (get_or list c.args.at c.index-flat-at.result) =
    slice_get-get_or list c.args.at c.index-flat-at.result c.requires.there in
    subst (λ bs. OnOk c.add_items.result (BlocksMore bs c.args.out.now.blocks c.add_items.new.out.blocks))
    (blocks_seat list flat.bases.now c.args.at (get_or list c.args.at c.index-flat-at.result) x
    c.in-Some.base.now c.in_ok-scope.scope c.as_slice-2.result.now
    c.requires.flat.bases (slice_get_read flat.bases.now (length flat.bases.now) c.args.at
    c.in-Some.base.now refl c.in-Some.ensures.lookup.3.0 c.in-Some.ensures.lookup.1) there at c.in_ok-scope.ensures c.as_slice-2.ensures)
    c.add_items.ensures.blocks

pub unreachable-requires : goal.unreachable-requires
unreachable-requires c =
    let list = c.args.flat.now.list.now in
    let none : false ≡ true = c.in_default.ensures.lookup.2 (base_there (plain_instances list) c.args.flat.now.bases.now c.args.at
    c.requires.flat.bases (subst (λ n. c.args.at < n) (sym (length-map list plain_instance)) c.requires.there)) in
    absurd (cc)
