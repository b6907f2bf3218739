-- Who writes each bit of each net.
use Rattle.std.specs.Prelude.{◌≡◌, ℕ, ◌<◌, ◌⊎◌, Bool, true, false, List}
use Rattle.std.specs.List.{count_by}
use Rattle.net_design.specs.declared.design.Driver.{Driver}
use Rattle.net_design.specs.declared.design.Design.{Design}
use Rattle.net_code.specs.vidi_bits.Number.{has}
use Rattle.net_design.specs.Bits.{named}
use Rattle.net_design.specs.Settled.{held}
use Rattle.net_design.specs.Lawful.{IsBit, is_input}

-- how many drivers write bit k of net m
abbrev pub writers : List Driver → ℕ → ℕ → ℕ
writers drivers m k = count_by (λ (x : Driver). named x.code.writes m k) drivers

-- the bits of `held` aren't written, and those of `rest` once
abbrev pub RestDriven : ℕ → ℕ → ℕ → ℕ → Type 0
RestDriven rest held once more =
    ((k : ℕ) → has held k ≡ true → has once k ≡ false)
    × ((k : ℕ) → has rest k ≡ true → has once k ≡ true) × ((k : ℕ) → has rest k ≡ true → has more k ≡ false)

-- of a net's bits, the first of which there are so many: those that neither inputs nor the state give are written once, the others not
pub record AreDriven (input : Bool) (width held once more : ℕ) : Type 0 where
  pub driven : (k : ℕ) → k < width → input ≡ false → has held k ≡ false → (has once k ≡ true) × (has more k ≡ false)
  pub others : (k : ℕ) → (input ≡ true) ⊎ (has held k ≡ true) → has once k ≡ false

-- the same of net m of a design
pub record IsNetDriven (d : Design) (m : ℕ) : Type 0 where
  pub driven : (k : ℕ) → IsBit d m k → is_input d m ≡ false → held d m k ≡ false → writers d.drivers m k ≡ 1
  pub others : (k : ℕ) → (is_input d m ≡ true) ⊎ (held d m k ≡ true) → writers d.drivers m k ≡ 0

-- and of all nets
pub record IsDriven (d : Design) : Type 0 where
  pub driven : (m k : ℕ) → IsBit d m k → is_input d m ≡ false → held d m k ≡ false → writers d.drivers m k ≡ 1
  pub others : (m k : ℕ) → (is_input d m ≡ true) ⊎ (held d m k ≡ true) → writers d.drivers m k ≡ 0
