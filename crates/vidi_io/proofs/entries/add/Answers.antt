use Rattle.std.proofs.Common.{◌≡◌, false, refl, sym, ◌∙◌, arith}
use Rattle.vidi_io.proofs.Names.{added_named, place_named}
use Rattle.vidi_io.specs.declared.entries.Entry.{Entry}
use Rattle.vidi_io.proofs.entries.add.Goals as goal

pub returns-clause-ok : goal.returns-clause-ok
returns-clause-ok c =
    let entry : Entry = record { name = c.from_vec.result; bytes = c.new.result; there = false; faults = 0 } in
    let is : c.args.name.now ≡ c.from_vec.result = sym (c.from_vec.ensures ∙ c.in_ok-from_slice.ensures.items ∙ c.as_bytes.ensures.value) in
    place_named c.args.entries.now.items c.push.new.self.items c.args.name.now entry c.len-i.result c.requires is c.in_ok-push.ensures.items
    (omega (arith, c.len-i.ensures))

pub returns-clause-same : goal.returns-clause-same
returns-clause-same c =
    let entry : Entry = record { name = c.from_vec.result; bytes = c.new.result; there = false; faults = 0 } in
    let is : c.args.name.now ≡ c.from_vec.result = sym (c.from_vec.ensures ∙ c.in_ok-from_slice.ensures.items ∙ c.as_bytes.ensures.value) in
    added_named c.args.entries.now.items c.push.new.self.items c.args.name.now entry c.requires is c.in_ok-push.ensures.items refl refl
