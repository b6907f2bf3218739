use Rattle.std.proofs.Common.{◌≡◌, ℕ, ◌≤◌, true, List, length, map, ap, sym, ◌∙◌, arith}
use Rattle.std.proofs.lemmas.List.{length-map}
use Rattle.trace_model.specs.declared.channel.Channel.{Channel}
use Rattle.trace_model.specs.Channel.{content_bytes}
use Rattle.trace_model.specs.Mask.{all_up}
use Rattle.room_ledger.specs.Reservation.{least}
use Rattle.room_ledger.specs.Ledger.{ledger, empty}
use Rattle.room_ledger.proofs.Books.{need-fits, empty-sound}
use Rattle.room_ledger.proofs.room.Room.new.Goals as goal

pub least-need-requires-clause-small : goal.least-need-requires-clause-small
least-need-requires-clause-small c =
    let sizes : c.in_ok-sizes.sizes.items ≡ map content_bytes c.args.channels.now = c.in_ok-sizes.ensures.sizes
    ∙ ap (λ (cs : List Channel). map content_bytes cs) c.as_slice.ensures in
    need-fits c.args.channels.now c.in_ok-sizes.sizes.items c.as_slice-2.result.now sizes c.as_slice-2.ensures.value c.requires.few
    c.requires.content

pub invariant_of-result : goal.invariant_of-result
invariant_of-result c =
    let sizes : c.in_ok-sizes.sizes.items ≡ map content_bytes c.args.channels.now = c.in_ok-sizes.ensures.sizes
    ∙ ap (λ (cs : List Channel). map content_bytes cs) c.as_slice.ensures in
    let count : length c.in_ok-sizes.sizes.items ≡ length c.args.channels.now = ap length sizes
    ∙ length-map c.args.channels.now content_bytes in
    let need : c.least-need.result ≡ least c.in_ok-sizes.sizes.items c.args.resets = c.least-need.ensures
    ∙ ap (λ (s : List ℕ). least s c.args.resets) c.as_slice-2.ensures.value in
    let fits : least c.in_ok-sizes.sizes.items c.args.resets ≤ c.args.capacity = omega arith in
    let mask : c.all_up-gates.result ≡ all_up (length c.in_ok-sizes.sizes.items) = c.all_up-gates.ensures
    ∙ ap all_up (c.len.ensures ∙ sym c.as_slice-2.ensures.len ∙ ap length c.as_slice-2.ensures.value) in
    rw mask (empty-sound c.in_ok-sizes.sizes.items c.args.resets c.args.capacity (omega (arith, c.requires.some))
    (omega (arith, c.requires.few)) fits)

pub returns-clause-made : goal.returns-clause-made
returns-clause-made c =
    let sizes : c.in_ok-sizes.sizes.items ≡ map content_bytes c.args.channels.now = c.in_ok-sizes.ensures.sizes
    ∙ ap (λ (cs : List Channel). map content_bytes cs) c.as_slice.ensures in
    let need : c.least-need.result ≡ least (map content_bytes c.args.channels.now) c.args.resets = c.least-need.ensures
    ∙ ap (λ (s : List ℕ). least s c.args.resets) (c.as_slice-2.ensures.value ∙ sizes) in
    let mask : c.all_up-gates.result ≡ all_up (length c.in_ok-sizes.sizes.items) = c.all_up-gates.ensures
    ∙ ap all_up (c.len.ensures ∙ sym c.as_slice-2.ensures.len ∙ ap length c.as_slice-2.ensures.value) in (
      ap (λ gates. ledger c.in_ok-sizes.sizes.items c.args.resets c.args.capacity 0 true gates 0) mask
          ∙ ap (λ (s : List ℕ). empty s c.args.resets c.args.capacity) sizes,
      omega arith,
    )

pub returns-clause-room : goal.returns-clause-room
returns-clause-room c = (invariant_of-result c).room
