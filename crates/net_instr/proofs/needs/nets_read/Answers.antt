use Rattle.std.proofs.Common.{◌≡◌, Bool, false, List, [], length, replicate, ap, sym, ◌∙◌}
use Rattle.net_instr.specs.declared.needs.Marks.{Marks}
use Rattle.net_instr.specs.Needs.{set_places, with_reads}
use Rattle.net_instr.proofs.NeedLaws.{last_long, enough}
use Rattle.net_instr.proofs.needs.nets_read.Goals as goal

pub places_marked-requires : goal.places_marked-requires
places_marked-requires c =
    let ps = c.args.places.now in
    let code = c.args.code.now in
    let a = c.in_ok-no_marks.field-0 in
    let b = c.in_ok-no_marks-2.field-0 in
    let none : List Bool = replicate (length ps) false in
    let first : Marks = record { read = a; done = b } in
    let n = ap (λ k. replicate k false) (sym c.requires.nets) in
    let e : first ≡ record { read = none; done = none } =
    ap (λ (xs : List Bool). record { read = xs; done = b }) (c.in_ok-no_marks.ensures ∙ n)
    ∙ ap (λ (xs : List Bool). record { read = none; done = xs }) (c.in_ok-no_marks-2.ensures ∙ n) in
    ap (λ (xs : List Bool). length xs) (c.as_slice.ensures ∙ ap (λ (m : Marks). m.read) (c.mark_all.ensures
    ∙ ap (with_reads ps) c.mark_code.ensures))
    ∙ last_long ps code [] first e ∙ c.requires.nets

pub returns : goal.returns
returns c =
    let ps = c.args.places.now in
    let code = c.args.code.now in
    let a = c.in_ok-no_marks.field-0 in
    let b = c.in_ok-no_marks-2.field-0 in
    let none : List Bool = replicate (length ps) false in
    let first : Marks = record { read = a; done = b } in
    let n = ap (λ k. replicate k false) (sym c.requires.nets) in
    let e : first ≡ record { read = none; done = none } =
    ap (λ (xs : List Bool). record { read = xs; done = b }) (c.in_ok-no_marks.ensures ∙ n)
    ∙ ap (λ (xs : List Bool). record { read = none; done = xs }) (c.in_ok-no_marks-2.ensures ∙ n) in
    enough ps code c.in_ok-list.list first e c.requires.words
    (c.in_ok-list.ensures ∙ ap (set_places 0) (c.as_slice.ensures ∙ ap (λ (m : Marks). m.read) (c.mark_all.ensures
    ∙ ap (with_reads ps) c.mark_code.ensures)))
