-- A table of the next address of each ID.
use Rattle.std.specs.Prelude.{◌≡◌, ℕ, ◌+◌, ◌-◌, ◌<◌, ◌==◌, if◌then◌else◌, nat_eq, List, length, slice_get, Option, None, Some}
use Rattle.std.specs.Map.{lookup}
use Rattle.axi_burst.specs.declared.heads.Heads.{Heads}
use Rattle.axi_burst.specs.declared.transfers.Address.{Address}
use Rattle.axi_burst.specs.Bursts.{numbers_with}
use Rattle.axi_burst.specs.Heads.{next_with}

abbrev pub joined : Option (Option ℕ) → Option ℕ
joined None = None
joined (Some x) = x

abbrev pub head_in : List (ℕ × Option ℕ) → ℕ → Option ℕ
head_in entries id = joined (lookup (nat_eq id) entries)

-- what stands for address m, in a list of what stands for the last one, the one before it, and so on
abbrev pub next_at : List (Option ℕ) → ℕ → Option ℕ
next_at nexts m = joined (slice_get nexts (length nexts - 1 - m))

-- how many addresses of each ID are taken
abbrev pub none_taken : ℕ → ℕ
none_taken id = 0

abbrev pub one_more : (ℕ → ℕ) → ℕ → ℕ → ℕ
one_more taken own id = if id == own then taken id + 1 else taken id

-- the next one of each ID behind those that are taken, and behind each address the next one with its ID
pub record AreHeads (asks : List Address) (taken : ℕ → ℕ) (h : Heads) : Type 0 where
  pub heads : (id : ℕ) → head_in h.heads.entries id ≡ slice_get (numbers_with id asks) (taken id)
  pub next : (m : ℕ) (a : Address) → slice_get asks m ≡ Some a → next_at h.next.items m ≡ next_with a.id (m + 1) 0 asks

-- the first one that isn't taken is the answer, and then taken
abbrev pub Takes : Heads → ℕ → Heads → Option ℕ → Type 0
Takes old id new head = (asks : List Address) (taken : ℕ → ℕ) → AreHeads asks taken old
    → (head ≡ slice_get (numbers_with id asks) (taken id)) × AreHeads asks (one_more taken id) new

-- the same of the last j addresses alone
pub record AreBuilt (asks : List Address) (j : ℕ) (entries : List (ℕ × Option ℕ)) (nexts : List (Option ℕ)) : Type 0 where
  pub heads : (id : ℕ) → head_in entries id ≡ next_with id (length asks - j) 0 asks
  pub long : length nexts ≡ j
  pub next : (i : ℕ) (a : Address) → i < j → slice_get asks (length asks - 1 - i) ≡ Some a
      → joined (slice_get nexts i) ≡ next_with a.id (length asks - i) 0 asks
