use Rattle.std.proofs.Common.{◌≡◌, ◌<◌, ◌^◌, length, inr, refl, sym, ◌∙◌}
use Rattle.std.proofs.lemmas.Bool.{false≢true}
use Rattle.trace_code.specs.Encoding.{end_mark}
use Rattle.trace_v2.specs.OldReading.{AreAllOld}
use Rattle.trace_v2.proofs.OldReadings.{all-encoded, no-end, one_old_reading, place-behind}
use Rattle.trace_v2.proofs.decoding.decode_v1.Goals as goal

pub returns-then-not-is_end_mark-clause-decodes : goal.returns-then-not-is_end_mark-clause-decodes
returns-then-not-is_end_mark-clause-decodes c =
    let cs = c.in_ok-channels.channels in
    let ps = c.in_ok-packets.packets in
    let found = c.in_ok-channels.ensures.found in
    let all : AreAllOld cs c.in_ok-channels.rest.now ps c.in_ok-packets.rest.now = rw c.as_slice.ensures at c.in_ok-packets.ensures in (
      inr (place-behind cs c.args.bytes.now c.in_ok-channels.rest.now c.in_ok-packets.rest.now ps _ found.0 found.1 all refl),
      no-end cs c.args.bytes.now c.in_ok-channels.rest.now c.in_ok-packets.rest.now ps found.0 found.1 all
          (λ e. false≢true (sym c.if-not-is_end_mark.true ∙ c.is_end_mark.ensures.1 (rw c.len.ensures e))),
    )

pub returns-then-not-is_end_mark-clause-only : goal.returns-then-not-is_end_mark-clause-only
returns-then-not-is_end_mark-clause-only c t code =
    let cs = c.in_ok-channels.channels in
    let ps = c.in_ok-packets.packets in
    let found = c.in_ok-channels.ensures.found in
    let all : AreAllOld cs c.in_ok-channels.rest.now ps c.in_ok-packets.rest.now = rw c.as_slice.ensures at c.in_ok-packets.ensures in
    absurd (no-end cs c.args.bytes.now c.in_ok-channels.rest.now c.in_ok-packets.rest.now ps found.0 found.1 all
    (λ e. false≢true (sym c.if-not-is_end_mark.true ∙ c.is_end_mark.ensures.1 (rw c.len.ensures e))) t code)

pub returns-clause-only : goal.returns-clause-only
returns-clause-only c t code =
    let cs = c.in_ok-channels.channels in
    let ps = c.in_ok-packets.packets in
    let found = c.in_ok-channels.ensures.found in
    let all : AreAllOld cs c.in_ok-channels.rest.now ps c.in_ok-packets.rest.now = rw c.as_slice.ensures at c.in_ok-packets.ensures in
    let end : (length ps < 2 ^ 32) × (c.in_ok-packets.rest.now ≡ end_mark (length ps)) = rw c.len.ensures at
    (c.is_end_mark.ensures.0 c.if-not-is_end_mark.false) in
    one_old_reading c.args.bytes.now (record { channels = cs; packets = ps }) t
    (all-encoded cs c.args.bytes.now c.in_ok-channels.rest.now c.in_ok-packets.rest.now ps found.0 found.1 all end) code

pub returns-clause-decodes : goal.returns-clause-decodes
returns-clause-decodes c =
    let cs = c.in_ok-channels.channels in
    let ps = c.in_ok-packets.packets in
    let found = c.in_ok-channels.ensures.found in
    let all : AreAllOld cs c.in_ok-channels.rest.now ps c.in_ok-packets.rest.now = rw c.as_slice.ensures at c.in_ok-packets.ensures in
    let end : (length ps < 2 ^ 32) × (c.in_ok-packets.rest.now ≡ end_mark (length ps)) = rw c.len.ensures at
    (c.is_end_mark.ensures.0 c.if-not-is_end_mark.false) in
    all-encoded cs c.args.bytes.now c.in_ok-channels.rest.now c.in_ok-packets.rest.now ps found.0 found.1 all end
