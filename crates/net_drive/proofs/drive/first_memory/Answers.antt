use Rattle.std.proofs.Common.{◌+◌, drop, ap, sym, ◌∙◌}
use Rattle.net_code.specs.vidi_bits.Findings.{first}
use Rattle.net_drive.specs.Drive.{memory_at, memories_from}
use Rattle.net_drive.proofs.Exact.{found_first, not_found, memories_split}
use Rattle.net_drive.proofs.drive.first_memory.Goals as goal

pub returns-then-is_some : goal.returns-then-is_some
returns-then-is_some c =
    let bs = c.args.blocks.now in
    let ms = c.args.memories.now in
    let i = c.loop-place.place in
    let a = c.index-memories-place.result in
    found_first (memory_at bs i a.room.first) (memories_from bs (i + 1) (drop (i + 1) ms)) c.memory_fault-found.result
    c.memory_fault-found.ensures (sym c.is_some.ensures ∙ c.if-is_some.true)
    ∙ sym (ap first (memories_split bs ms i a c.loop-place-test.true c.index-memories-place.is)) ∙ c.loop-place.invariant

pub loop-place-preserved : goal.loop-place-preserved
loop-place-preserved c =
    let bs = c.args.blocks.now in
    let ms = c.args.memories.now in
    let i = c.loop-place.place in
    let a = c.index-memories-place.result in
    sym (not_found (memory_at bs i a.room.first) (memories_from bs (i + 1) (drop (i + 1) ms)) c.memory_fault-found.result
    c.memory_fault-found.ensures (sym c.is_some.ensures ∙ c.if-is_some.false))
    ∙ sym (ap first (memories_split bs ms i a c.loop-place-test.true c.index-memories-place.is)) ∙ c.loop-place.invariant
