use Rattle.std.proofs.Common.{◌≡◌, ℕ, ◌*◌, ◌-◌, List, Some, length, take, drop, sym, ap, ◌∙◌, arith}
use Rattle.std.proofs.lemmas.List.{take_all, length-drop}
use Rattle.trace_code.specs.PacketReading.{high_value}
use Rattle.trace_code.proofs.NumberLaws.{number-there}
use Rattle.trace_code.proofs.skipping.skip_number.Goals as goal

pub returns : goal.returns
returns c =
    let k : ℕ = c.byte_count-len.result in
    let bytes : List ℕ = c.args.bytes.now in
    let value : ℕ = high_value (take k bytes) in
    let width : c.args.width ≡ 8 * k = omega (arith, c.byte_count-len.ensures, c.if-width-ne0.false) in
    let rest : take (length bytes - k) (drop k bytes) ≡ drop k bytes = take_all (length bytes - k) (drop k bytes)
    (omega (arith, length-drop k bytes)) in (
      value,
      number-there c.args.width k bytes (λ i. omega (arith, c.type_inv.bytes i)) width (omega (arith, c.if-bytes-len.false))
          ∙ ap (λ (bs : List ℕ). Some (value, bs)) (sym rest),
    )
