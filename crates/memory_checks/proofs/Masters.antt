-- Runs of random masters, of which a model of its own in another language found the offers.
use Rattle.std.specs.Prelude.{◌≡◌, ℕ, true, false, List, [], ◌∷◌, map, take, refl}
use Rattle.axi_memory.specs.env_script.Offer.{Offer, nothing}
use Rattle.axi_memory.specs.trace_model.declared.row.Row.{Row}
use Rattle.axi_memory.specs.Example.{whole}
use Rattle.axi_memory.specs.Memory.{gives, memory_offer, takes}

abbrev row : ℕ → ℕ → ℕ → ℕ → List ℕ → Row
row gates valids readies ends contents =
    record { fresh = false; gates = gates; valids = valids; readies = readies; contents = contents; starts = 0; ends = ends }

-- what is offered on the five channels after so many rows
abbrev offers : List Row → ℕ → List Offer
offers rows t = map (λ c. memory_offer whole (take t rows) c) (0 ∷ 1 ∷ 2 ∷ 3 ∷ 4 ∷ [])

-- ---- master 0
abbrev rows_0 : List Row
rows_0 = row 31 9 29 9 (15 ∷ 1 ∷ 0 ∷ 0 ∷ 14 ∷ 0 ∷ 0 ∷ 0 ∷ 0 ∷ 0 ∷ 15 ∷ 1 ∷ 0 ∷ 2 ∷ 0 ∷ 0 ∷ 0 ∷ 0 ∷ 0 ∷ [])
    ∷ row 31 19 18 18 (18 ∷ 2 ∷ 1 ∷ 1 ∷ 3 ∷ 109289145 ∷ 0 ∷ 1 ∷ 0 ∷ 0 ∷ 0 ∷ 0 ∷ 0 ∷ 0 ∷ 0 ∷ 0 ∷ 0 ∷ 0 ∷ 0 ∷ [])
    ∷ row 31 27 6 2 (18 ∷ 2 ∷ 1 ∷ 1 ∷ 3 ∷ 3268245658 ∷ 14 ∷ 1 ∷ 0 ∷ 0 ∷ 11 ∷ 3 ∷ 1 ∷ 2 ∷ 7 ∷ 0 ∷ 1 ∷ 0 ∷ 0 ∷ [])
    ∷ row 27 29 20 16 (18 ∷ 2 ∷ 1 ∷ 1 ∷ 3 ∷ 0 ∷ 0 ∷ 0 ∷ 0 ∷ 2 ∷ 11 ∷ 3 ∷ 1 ∷ 2 ∷ 7 ∷ 0 ∷ 1 ∷ 0 ∷ 0 ∷ [])
    ∷ row 31 15 12 12 (18 ∷ 2 ∷ 1 ∷ 1 ∷ 3 ∷ 3054545399 ∷ 13 ∷ 0 ∷ 0 ∷ 2 ∷ 11 ∷ 3 ∷ 1 ∷ 2 ∷ 7 ∷ 0 ∷ 0 ∷ 0 ∷ 0 ∷ [])
    ∷ row 31 19 21 17 (18 ∷ 2 ∷ 1 ∷ 1 ∷ 3 ∷ 3054545399 ∷ 13 ∷ 0 ∷ 0 ∷ 0 ∷ 0 ∷ 0 ∷ 0 ∷ 0 ∷ 0 ∷ 0 ∷ 0 ∷ 7 ∷ 0 ∷ [])
    ∷ row 31 27 22 18 (11 ∷ 3 ∷ 1 ∷ 2 ∷ 11 ∷ 3054545399 ∷ 13 ∷ 0 ∷ 0 ∷ 0 ∷ 5 ∷ 2 ∷ 0 ∷ 3 ∷ 12 ∷ 3268245504 ∷ 0 ∷ 7 ∷ 0 ∷ [])
    ∷ row 29 27 18 16 (11 ∷ 3 ∷ 1 ∷ 2 ∷ 11 ∷ 3643427490 ∷ 12 ∷ 0 ∷ 0 ∷ 0 ∷ 5 ∷ 2 ∷ 0 ∷ 3 ∷ 12 ∷ 3268245504 ∷ 0 ∷ 7 ∷ 0 ∷ [])
    ∷ row 31 27 18 18 (11 ∷ 3 ∷ 1 ∷ 2 ∷ 11 ∷ 3643427490 ∷ 12 ∷ 0 ∷ 0 ∷ 0 ∷ 5 ∷ 2 ∷ 0 ∷ 3 ∷ 12 ∷ 0 ∷ 1 ∷ 7 ∷ 0 ∷ [])
    ∷ row 31 11 30 10 (11 ∷ 3 ∷ 1 ∷ 2 ∷ 11 ∷ 4090816273 ∷ 11 ∷ 1 ∷ 0 ∷ 0 ∷ 5 ∷ 2 ∷ 0 ∷ 3 ∷ 12 ∷ 0 ∷ 0 ∷ 0 ∷ 0 ∷ [])
    ∷ row 31 23 4 4 (11 ∷ 3 ∷ 1 ∷ 2 ∷ 11 ∷ 3680568455 ∷ 4 ∷ 0 ∷ 0 ∷ 3 ∷ 0 ∷ 0 ∷ 0 ∷ 0 ∷ 0 ∷ 0 ∷ 0 ∷ 12 ∷ 0 ∷ [])
    ∷ row 31 27 21 17 (11 ∷ 3 ∷ 1 ∷ 2 ∷ 11 ∷ 3680568455 ∷ 4 ∷ 0 ∷ 0 ∷ 0 ∷ 15 ∷ 2 ∷ 2 ∷ 1 ∷ 11 ∷ 0 ∷ 0 ∷ 12 ∷ 0 ∷ [])
    ∷ row 31 26 6 2 (0 ∷ 0 ∷ 0 ∷ 0 ∷ 0 ∷ 3680568455 ∷ 4 ∷ 0 ∷ 0 ∷ 0 ∷ 15 ∷ 2 ∷ 2 ∷ 1 ∷ 11 ∷ 0 ∷ 0 ∷ 12 ∷ 0 ∷ [])
    ∷ row 31 27 22 18 (17 ∷ 1 ∷ 0 ∷ 2 ∷ 8 ∷ 4052603374 ∷ 2 ∷ 0 ∷ 0 ∷ 0 ∷ 15 ∷ 2 ∷ 2 ∷ 1 ∷ 11 ∷ 0 ∷ 0 ∷ 12 ∷ 0 ∷ [])
    ∷ row 31 27 22 18 (17 ∷ 1 ∷ 0 ∷ 2 ∷ 8 ∷ 1153807478 ∷ 3 ∷ 0 ∷ 0 ∷ 0 ∷ 15 ∷ 2 ∷ 2 ∷ 1 ∷ 11 ∷ 0 ∷ 1 ∷ 12 ∷ 0 ∷ [])
    ∷ row 31 11 30 10 (17 ∷ 1 ∷ 0 ∷ 2 ∷ 8 ∷ 722177042 ∷ 8 ∷ 1 ∷ 0 ∷ 0 ∷ 15 ∷ 2 ∷ 2 ∷ 1 ∷ 11 ∷ 0 ∷ 0 ∷ 0 ∷ 0 ∷ [])
    ∷ row 31 31 20 20 (17 ∷ 1 ∷ 0 ∷ 2 ∷ 8 ∷ 3864691017 ∷ 6 ∷ 1 ∷ 0 ∷ 3 ∷ 6 ∷ 3 ∷ 2 ∷ 2 ∷ 8 ∷ 3268260982 ∷ 0 ∷ 11 ∷ 0 ∷ [])
    ∷ row 29 27 21 17 (17 ∷ 1 ∷ 0 ∷ 2 ∷ 8 ∷ 3864691017 ∷ 6 ∷ 1 ∷ 0 ∷ 0 ∷ 6 ∷ 3 ∷ 2 ∷ 2 ∷ 8 ∷ 0 ∷ 0 ∷ 11 ∷ 0 ∷ [])
    ∷ row 31 27 22 18 (7 ∷ 2 ∷ 2 ∷ 1 ∷ 0 ∷ 3864691017 ∷ 6 ∷ 1 ∷ 0 ∷ 0 ∷ 6 ∷ 3 ∷ 2 ∷ 2 ∷ 8 ∷ 0 ∷ 1 ∷ 11 ∷ 0 ∷ [])
    ∷ row 31 11 26 10 (7 ∷ 2 ∷ 2 ∷ 1 ∷ 0 ∷ 252480137 ∷ 9 ∷ 0 ∷ 0 ∷ 0 ∷ 6 ∷ 3 ∷ 2 ∷ 2 ∷ 8 ∷ 0 ∷ 0 ∷ 0 ∷ 0 ∷ [])
    ∷ row 31 23 20 20 (7 ∷ 2 ∷ 2 ∷ 1 ∷ 0 ∷ 4034213118 ∷ 9 ∷ 0 ∷ 0 ∷ 0 ∷ 0 ∷ 0 ∷ 0 ∷ 0 ∷ 0 ∷ 0 ∷ 0 ∷ 8 ∷ 0 ∷ [])
    ∷ row 29 19 17 17 (7 ∷ 2 ∷ 2 ∷ 1 ∷ 0 ∷ 4034213118 ∷ 9 ∷ 0 ∷ 0 ∷ 0 ∷ 0 ∷ 0 ∷ 0 ∷ 0 ∷ 0 ∷ 727777280 ∷ 0 ∷ 8 ∷ 0 ∷ [])
    ∷ row 31 27 18 18 (12 ∷ 2 ∷ 0 ∷ 3 ∷ 6 ∷ 4034213118 ∷ 9 ∷ 0 ∷ 0 ∷ 0 ∷ 18 ∷ 2 ∷ 2 ∷ 1 ∷ 6 ∷ 3268260982 ∷ 0 ∷ 8 ∷ 0 ∷ [])
    ∷ row 31 27 22 18 (12 ∷ 2 ∷ 0 ∷ 3 ∷ 6 ∷ 73874293 ∷ 10 ∷ 1 ∷ 0 ∷ 0 ∷ 18 ∷ 2 ∷ 2 ∷ 1 ∷ 6 ∷ 0 ∷ 1 ∷ 8 ∷ 0 ∷ [])
    ∷ []

at_0_0 : offers rows_0 0 ≡ takes true ∷ takes false ∷ nothing ∷ takes true ∷ nothing ∷ []
at_0_0 = refl

at_0_2 : offers rows_0 2 ≡ takes false ∷ takes true ∷ nothing ∷ takes false ∷ gives true (0 ∷ 1 ∷ 0 ∷ 0 ∷ []) ∷ []
at_0_2 = refl

at_0_4 : offers rows_0 4 ≡ takes false ∷ takes false ∷ gives true (0 ∷ 2 ∷ []) ∷ takes true ∷ nothing ∷ []
at_0_4 = refl

at_0_6 : offers rows_0 6 ≡ takes false ∷ takes true ∷ nothing ∷ takes false ∷ gives true (3268245504 ∷ 0 ∷ 7 ∷ 0 ∷ []) ∷ []
at_0_6 = refl

at_0_8 : offers rows_0 8 ≡ takes false ∷ takes true ∷ nothing ∷ takes false ∷ gives true (0 ∷ 1 ∷ 7 ∷ 0 ∷ []) ∷ []
at_0_8 = refl

at_0_10 : offers rows_0 10 ≡ takes false ∷ takes false ∷ gives true (0 ∷ 3 ∷ []) ∷ takes false ∷ gives true (0 ∷ 0 ∷ 12 ∷ 0 ∷ []) ∷ []
at_0_10 = refl

at_0_12 : offers rows_0 12 ≡ takes false ∷ takes true ∷ nothing ∷ takes false ∷ gives true (0 ∷ 0 ∷ 12 ∷ 0 ∷ []) ∷ []
at_0_12 = refl

at_0_14 : offers rows_0 14 ≡ takes false ∷ takes true ∷ nothing ∷ takes false ∷ gives true (0 ∷ 1 ∷ 12 ∷ 0 ∷ []) ∷ []
at_0_14 = refl

at_0_16 : offers rows_0 16 ≡ takes false ∷ takes false ∷ gives true (0 ∷ 3 ∷ []) ∷ takes false ∷ gives true (3268260982 ∷ 0 ∷ 11 ∷ 0 ∷ []) ∷ []
at_0_16 = refl

at_0_18 : offers rows_0 18 ≡ takes false ∷ takes true ∷ nothing ∷ takes false ∷ gives true (0 ∷ 1 ∷ 11 ∷ 0 ∷ []) ∷ []
at_0_18 = refl

at_0_20 : offers rows_0 20 ≡ takes false ∷ takes false ∷ gives true (0 ∷ 0 ∷ []) ∷ takes false ∷ gives true (0 ∷ 0 ∷ 8 ∷ 0 ∷ []) ∷ []
at_0_20 = refl

at_0_22 : offers rows_0 22 ≡ takes false ∷ takes true ∷ nothing ∷ takes false ∷ gives true (3268260982 ∷ 0 ∷ 8 ∷ 0 ∷ []) ∷ []
at_0_22 = refl

at_0_24 : offers rows_0 24 ≡ takes false ∷ takes true ∷ nothing ∷ takes true ∷ nothing ∷ []
at_0_24 = refl

-- ---- master 1
abbrev rows_1 : List Row
rows_1 = row 31 2 29 0 (0 ∷ 0 ∷ 0 ∷ 0 ∷ 0 ∷ 364522461 ∷ 11 ∷ 0 ∷ 0 ∷ 0 ∷ 0 ∷ 0 ∷ 0 ∷ 0 ∷ 0 ∷ 0 ∷ 0 ∷ 0 ∷ 0 ∷ [])
    ∷ row 31 3 29 1 (13 ∷ 1 ∷ 1 ∷ 2 ∷ 12 ∷ 364522461 ∷ 11 ∷ 0 ∷ 0 ∷ 0 ∷ 0 ∷ 0 ∷ 0 ∷ 0 ∷ 0 ∷ 0 ∷ 0 ∷ 0 ∷ 0 ∷ [])
    ∷ row 31 10 14 10 (0 ∷ 0 ∷ 0 ∷ 0 ∷ 0 ∷ 364522461 ∷ 11 ∷ 0 ∷ 0 ∷ 0 ∷ 14 ∷ 0 ∷ 2 ∷ 0 ∷ 10 ∷ 0 ∷ 0 ∷ 0 ∷ 0 ∷ [])
    ∷ row 31 25 22 16 (0 ∷ 0 ∷ 1 ∷ 1 ∷ 5 ∷ 0 ∷ 0 ∷ 0 ∷ 0 ∷ 0 ∷ 16 ∷ 2 ∷ 2 ∷ 1 ∷ 5 ∷ 352332765 ∷ 1 ∷ 10 ∷ 0 ∷ [])
    ∷ row 31 9 30 8 (0 ∷ 0 ∷ 1 ∷ 1 ∷ 5 ∷ 0 ∷ 0 ∷ 0 ∷ 0 ∷ 0 ∷ 16 ∷ 2 ∷ 2 ∷ 1 ∷ 5 ∷ 0 ∷ 0 ∷ 0 ∷ 0 ∷ [])
    ∷ row 31 19 22 18 (0 ∷ 0 ∷ 1 ∷ 1 ∷ 5 ∷ 4101406502 ∷ 12 ∷ 1 ∷ 0 ∷ 0 ∷ 0 ∷ 0 ∷ 0 ∷ 0 ∷ 0 ∷ 0 ∷ 0 ∷ 5 ∷ 0 ∷ [])
    ∷ row 31 31 0 0 (0 ∷ 0 ∷ 1 ∷ 1 ∷ 5 ∷ 3952789128 ∷ 14 ∷ 1 ∷ 0 ∷ 0 ∷ 14 ∷ 3 ∷ 2 ∷ 2 ∷ 11 ∷ 0 ∷ 0 ∷ 5 ∷ 0 ∷ [])
    ∷ row 31 31 16 16 (0 ∷ 0 ∷ 1 ∷ 1 ∷ 5 ∷ 3952789128 ∷ 14 ∷ 1 ∷ 0 ∷ 0 ∷ 14 ∷ 3 ∷ 2 ∷ 2 ∷ 11 ∷ 0 ∷ 0 ∷ 5 ∷ 0 ∷ [])
    ∷ row 31 31 20 20 (0 ∷ 0 ∷ 1 ∷ 1 ∷ 5 ∷ 3952789128 ∷ 14 ∷ 1 ∷ 0 ∷ 0 ∷ 14 ∷ 3 ∷ 2 ∷ 2 ∷ 11 ∷ 0 ∷ 1 ∷ 5 ∷ 0 ∷ [])
    ∷ row 31 11 25 9 (0 ∷ 0 ∷ 1 ∷ 1 ∷ 5 ∷ 3952789128 ∷ 14 ∷ 1 ∷ 0 ∷ 0 ∷ 14 ∷ 3 ∷ 2 ∷ 2 ∷ 11 ∷ 0 ∷ 0 ∷ 0 ∷ 0 ∷ [])
    ∷ row 31 27 22 18 (23 ∷ 3 ∷ 2 ∷ 2 ∷ 6 ∷ 3952789128 ∷ 14 ∷ 1 ∷ 0 ∷ 0 ∷ 10 ∷ 2 ∷ 0 ∷ 1 ∷ 0 ∷ 4101385181 ∷ 0 ∷ 11 ∷ 0 ∷ [])
    ∷ row 31 31 4 4 (23 ∷ 3 ∷ 2 ∷ 2 ∷ 6 ∷ 2804226800 ∷ 1 ∷ 1 ∷ 0 ∷ 1 ∷ 10 ∷ 2 ∷ 0 ∷ 1 ∷ 0 ∷ 3952788992 ∷ 0 ∷ 11 ∷ 0 ∷ [])
    ∷ row 31 27 21 17 (23 ∷ 3 ∷ 2 ∷ 2 ∷ 6 ∷ 2804226800 ∷ 1 ∷ 1 ∷ 0 ∷ 0 ∷ 10 ∷ 2 ∷ 0 ∷ 1 ∷ 0 ∷ 3952788992 ∷ 0 ∷ 11 ∷ 0 ∷ [])
    ∷ row 31 26 6 2 (0 ∷ 0 ∷ 0 ∷ 0 ∷ 0 ∷ 2804226800 ∷ 1 ∷ 1 ∷ 0 ∷ 0 ∷ 10 ∷ 2 ∷ 0 ∷ 1 ∷ 0 ∷ 0 ∷ 0 ∷ 11 ∷ 0 ∷ [])
    ∷ row 31 26 6 2 (0 ∷ 0 ∷ 0 ∷ 0 ∷ 0 ∷ 1547126598 ∷ 5 ∷ 0 ∷ 0 ∷ 0 ∷ 10 ∷ 2 ∷ 0 ∷ 1 ∷ 0 ∷ 0 ∷ 0 ∷ 11 ∷ 0 ∷ [])
    ∷ row 29 25 22 16 (8 ∷ 0 ∷ 2 ∷ 3 ∷ 4 ∷ 0 ∷ 0 ∷ 0 ∷ 0 ∷ 0 ∷ 10 ∷ 2 ∷ 0 ∷ 1 ∷ 0 ∷ 0 ∷ 0 ∷ 11 ∷ 0 ∷ [])
    ∷ row 31 27 6 2 (8 ∷ 0 ∷ 2 ∷ 3 ∷ 4 ∷ 3410882284 ∷ 7 ∷ 0 ∷ 0 ∷ 0 ∷ 10 ∷ 2 ∷ 0 ∷ 1 ∷ 0 ∷ 0 ∷ 1 ∷ 11 ∷ 0 ∷ [])
    ∷ row 31 27 22 18 (8 ∷ 0 ∷ 2 ∷ 3 ∷ 4 ∷ 3211254292 ∷ 3 ∷ 1 ∷ 0 ∷ 0 ∷ 10 ∷ 2 ∷ 0 ∷ 1 ∷ 0 ∷ 0 ∷ 1 ∷ 11 ∷ 0 ∷ [])
    ∷ row 31 15 24 8 (8 ∷ 0 ∷ 2 ∷ 3 ∷ 4 ∷ 3178046720 ∷ 1 ∷ 1 ∷ 0 ∷ 2 ∷ 10 ∷ 2 ∷ 0 ∷ 1 ∷ 0 ∷ 0 ∷ 0 ∷ 0 ∷ 0 ∷ [])
    ∷ row 31 31 16 16 (8 ∷ 0 ∷ 2 ∷ 3 ∷ 4 ∷ 3178046720 ∷ 1 ∷ 1 ∷ 0 ∷ 2 ∷ 3 ∷ 0 ∷ 2 ∷ 1 ∷ 0 ∷ 0 ∷ 0 ∷ 0 ∷ 0 ∷ [])
    ∷ row 31 31 20 20 (8 ∷ 0 ∷ 2 ∷ 3 ∷ 4 ∷ 3178046720 ∷ 1 ∷ 1 ∷ 0 ∷ 2 ∷ 3 ∷ 0 ∷ 2 ∷ 1 ∷ 0 ∷ 0 ∷ 0 ∷ 0 ∷ 0 ∷ [])
    ∷ row 27 27 21 17 (8 ∷ 0 ∷ 2 ∷ 3 ∷ 4 ∷ 3178046720 ∷ 1 ∷ 1 ∷ 0 ∷ 0 ∷ 3 ∷ 0 ∷ 2 ∷ 1 ∷ 0 ∷ 4101385181 ∷ 1 ∷ 0 ∷ 0 ∷ [])
    ∷ row 31 11 30 10 (21 ∷ 2 ∷ 1 ∷ 0 ∷ 1 ∷ 3178046720 ∷ 1 ∷ 1 ∷ 0 ∷ 0 ∷ 3 ∷ 0 ∷ 2 ∷ 1 ∷ 0 ∷ 0 ∷ 0 ∷ 0 ∷ 0 ∷ [])
    ∷ row 31 31 4 4 (21 ∷ 2 ∷ 1 ∷ 0 ∷ 1 ∷ 315884807 ∷ 8 ∷ 0 ∷ 0 ∷ 0 ∷ 7 ∷ 2 ∷ 0 ∷ 1 ∷ 7 ∷ 3952788992 ∷ 1 ∷ 0 ∷ 0 ∷ [])
    ∷ []

at_1_0 : offers rows_1 0 ≡ takes true ∷ takes false ∷ nothing ∷ takes true ∷ nothing ∷ []
at_1_0 = refl

at_1_2 : offers rows_1 2 ≡ takes false ∷ takes true ∷ nothing ∷ takes true ∷ nothing ∷ []
at_1_2 = refl

at_1_4 : offers rows_1 4 ≡ takes false ∷ takes true ∷ nothing ∷ takes true ∷ nothing ∷ []
at_1_4 = refl

at_1_6 : offers rows_1 6 ≡ takes false ∷ takes false ∷ gives true (0 ∷ 0 ∷ []) ∷ takes false ∷ gives true (0 ∷ 0 ∷ 5 ∷ 0 ∷ []) ∷ []
at_1_6 = refl

at_1_8 : offers rows_1 8 ≡ takes false ∷ takes false ∷ gives true (0 ∷ 0 ∷ []) ∷ takes false ∷ gives true (0 ∷ 1 ∷ 5 ∷ 0 ∷ []) ∷ []
at_1_8 = refl

at_1_10 : offers rows_1 10 ≡ takes false ∷ takes true ∷ nothing ∷ takes false ∷ gives true (4101385181 ∷ 0 ∷ 11 ∷ 0 ∷ []) ∷ []
at_1_10 = refl

at_1_12 : offers rows_1 12 ≡ takes true ∷ takes false ∷ nothing ∷ takes false ∷ gives true (3952788992 ∷ 0 ∷ 11 ∷ 0 ∷ []) ∷ []
at_1_12 = refl

at_1_14 : offers rows_1 14 ≡ takes false ∷ takes true ∷ nothing ∷ takes false ∷ gives true (0 ∷ 0 ∷ 11 ∷ 0 ∷ []) ∷ []
at_1_14 = refl

at_1_16 : offers rows_1 16 ≡ takes false ∷ takes true ∷ nothing ∷ takes false ∷ gives true (0 ∷ 1 ∷ 11 ∷ 0 ∷ []) ∷ []
at_1_16 = refl

at_1_18 : offers rows_1 18 ≡ takes false ∷ takes false ∷ gives true (0 ∷ 2 ∷ []) ∷ takes true ∷ nothing ∷ []
at_1_18 = refl

at_1_20 : offers rows_1 20 ≡ takes false ∷ takes false ∷ gives true (0 ∷ 2 ∷ []) ∷ takes false ∷ gives true (0 ∷ 0 ∷ 0 ∷ 0 ∷ []) ∷ []
at_1_20 = refl

at_1_22 : offers rows_1 22 ≡ takes false ∷ takes true ∷ nothing ∷ takes true ∷ nothing ∷ []
at_1_22 = refl

at_1_24 : offers rows_1 24 ≡ takes true ∷ takes false ∷ nothing ∷ takes false ∷ gives true (3952788992 ∷ 1 ∷ 0 ∷ 0 ∷ []) ∷ []
at_1_24 = refl

-- ---- master 2
abbrev rows_2 : List Row
rows_2 = row 31 11 25 9 (19 ∷ 1 ∷ 2 ∷ 2 ∷ 15 ∷ 823534631 ∷ 15 ∷ 1 ∷ 0 ∷ 0 ∷ 15 ∷ 2 ∷ 0 ∷ 0 ∷ 8 ∷ 0 ∷ 0 ∷ 0 ∷ 0 ∷ [])
    ∷ row 31 27 6 2 (21 ∷ 3 ∷ 0 ∷ 2 ∷ 2 ∷ 823534631 ∷ 15 ∷ 1 ∷ 0 ∷ 0 ∷ 0 ∷ 1 ∷ 2 ∷ 2 ∷ 8 ∷ 0 ∷ 0 ∷ 8 ∷ 0 ∷ [])
    ∷ row 31 27 6 2 (21 ∷ 3 ∷ 0 ∷ 2 ∷ 2 ∷ 3956088670 ∷ 13 ∷ 1 ∷ 0 ∷ 0 ∷ 0 ∷ 1 ∷ 2 ∷ 2 ∷ 8 ∷ 0 ∷ 0 ∷ 8 ∷ 0 ∷ [])
    ∷ row 29 31 20 20 (21 ∷ 3 ∷ 0 ∷ 2 ∷ 2 ∷ 1569894979 ∷ 3 ∷ 0 ∷ 0 ∷ 3 ∷ 0 ∷ 1 ∷ 2 ∷ 2 ∷ 8 ∷ 0 ∷ 0 ∷ 8 ∷ 0 ∷ [])
    ∷ row 31 27 17 17 (21 ∷ 3 ∷ 0 ∷ 2 ∷ 2 ∷ 1569894979 ∷ 3 ∷ 0 ∷ 0 ∷ 0 ∷ 0 ∷ 1 ∷ 2 ∷ 2 ∷ 8 ∷ 0 ∷ 0 ∷ 8 ∷ 0 ∷ [])
    ∷ row 31 26 22 18 (0 ∷ 0 ∷ 0 ∷ 0 ∷ 0 ∷ 1569894979 ∷ 3 ∷ 0 ∷ 0 ∷ 0 ∷ 0 ∷ 1 ∷ 2 ∷ 2 ∷ 8 ∷ 0 ∷ 1 ∷ 8 ∷ 0 ∷ [])
    ∷ row 31 11 26 10 (8 ∷ 2 ∷ 0 ∷ 1 ∷ 5 ∷ 1401835598 ∷ 3 ∷ 0 ∷ 0 ∷ 0 ∷ 0 ∷ 1 ∷ 2 ∷ 2 ∷ 8 ∷ 0 ∷ 0 ∷ 0 ∷ 0 ∷ [])
    ∷ row 31 27 22 18 (8 ∷ 2 ∷ 0 ∷ 1 ∷ 5 ∷ 647532367 ∷ 0 ∷ 1 ∷ 0 ∷ 0 ∷ 11 ∷ 3 ∷ 0 ∷ 2 ∷ 2 ∷ 0 ∷ 0 ∷ 8 ∷ 0 ∷ [])
    ∷ row 31 27 6 2 (8 ∷ 2 ∷ 0 ∷ 1 ∷ 5 ∷ 3271195423 ∷ 1 ∷ 1 ∷ 0 ∷ 0 ∷ 11 ∷ 3 ∷ 0 ∷ 2 ∷ 2 ∷ 0 ∷ 1 ∷ 8 ∷ 0 ∷ [])
    ∷ row 31 29 16 16 (8 ∷ 2 ∷ 0 ∷ 1 ∷ 5 ∷ 0 ∷ 0 ∷ 0 ∷ 0 ∷ 2 ∷ 11 ∷ 3 ∷ 0 ∷ 2 ∷ 2 ∷ 0 ∷ 1 ∷ 8 ∷ 0 ∷ [])
    ∷ row 31 15 28 12 (8 ∷ 2 ∷ 0 ∷ 1 ∷ 5 ∷ 2575961649 ∷ 1 ∷ 0 ∷ 0 ∷ 2 ∷ 11 ∷ 3 ∷ 0 ∷ 2 ∷ 2 ∷ 0 ∷ 0 ∷ 0 ∷ 0 ∷ [])
    ∷ row 31 27 17 17 (8 ∷ 2 ∷ 0 ∷ 1 ∷ 5 ∷ 2575961649 ∷ 1 ∷ 0 ∷ 0 ∷ 0 ∷ 4 ∷ 1 ∷ 2 ∷ 1 ∷ 12 ∷ 0 ∷ 0 ∷ 2 ∷ 0 ∷ [])
    ∷ row 31 26 6 2 (0 ∷ 0 ∷ 0 ∷ 0 ∷ 0 ∷ 2575961649 ∷ 1 ∷ 0 ∷ 0 ∷ 0 ∷ 4 ∷ 1 ∷ 2 ∷ 1 ∷ 12 ∷ 0 ∷ 0 ∷ 2 ∷ 0 ∷ [])
    ∷ row 31 26 22 18 (0 ∷ 0 ∷ 0 ∷ 0 ∷ 0 ∷ 2724256572 ∷ 7 ∷ 1 ∷ 0 ∷ 0 ∷ 4 ∷ 1 ∷ 2 ∷ 1 ∷ 12 ∷ 0 ∷ 0 ∷ 2 ∷ 0 ∷ [])
    ∷ row 31 27 18 18 (12 ∷ 3 ∷ 0 ∷ 2 ∷ 4 ∷ 2694409554 ∷ 10 ∷ 1 ∷ 0 ∷ 0 ∷ 4 ∷ 1 ∷ 2 ∷ 1 ∷ 12 ∷ 6347580 ∷ 0 ∷ 2 ∷ 0 ∷ [])
    ∷ row 31 31 20 20 (12 ∷ 3 ∷ 0 ∷ 2 ∷ 4 ∷ 2102398844 ∷ 0 ∷ 0 ∷ 0 ∷ 1 ∷ 4 ∷ 1 ∷ 2 ∷ 1 ∷ 12 ∷ 2690673980 ∷ 1 ∷ 2 ∷ 0 ∷ [])
    ∷ row 31 11 29 9 (12 ∷ 3 ∷ 0 ∷ 2 ∷ 4 ∷ 2102398844 ∷ 0 ∷ 0 ∷ 0 ∷ 0 ∷ 4 ∷ 1 ∷ 2 ∷ 1 ∷ 12 ∷ 0 ∷ 0 ∷ 0 ∷ 0 ∷ [])
    ∷ row 31 27 6 2 (19 ∷ 1 ∷ 2 ∷ 1 ∷ 8 ∷ 2102398844 ∷ 0 ∷ 0 ∷ 0 ∷ 0 ∷ 18 ∷ 1 ∷ 0 ∷ 2 ∷ 4 ∷ 0 ∷ 0 ∷ 12 ∷ 0 ∷ [])
    ∷ row 27 27 18 18 (19 ∷ 1 ∷ 2 ∷ 1 ∷ 8 ∷ 804852557 ∷ 13 ∷ 0 ∷ 0 ∷ 0 ∷ 18 ∷ 1 ∷ 0 ∷ 2 ∷ 4 ∷ 0 ∷ 0 ∷ 12 ∷ 0 ∷ [])
    ∷ row 31 27 6 2 (19 ∷ 1 ∷ 2 ∷ 1 ∷ 8 ∷ 3477914169 ∷ 5 ∷ 0 ∷ 0 ∷ 0 ∷ 18 ∷ 1 ∷ 0 ∷ 2 ∷ 4 ∷ 2690673980 ∷ 1 ∷ 12 ∷ 0 ∷ [])
    ∷ row 31 27 6 2 (19 ∷ 1 ∷ 2 ∷ 1 ∷ 8 ∷ 966487213 ∷ 3 ∷ 0 ∷ 0 ∷ 0 ∷ 18 ∷ 1 ∷ 0 ∷ 2 ∷ 4 ∷ 2690673980 ∷ 1 ∷ 12 ∷ 0 ∷ [])
    ∷ row 27 29 4 0 (19 ∷ 1 ∷ 2 ∷ 1 ∷ 8 ∷ 0 ∷ 0 ∷ 0 ∷ 0 ∷ 0 ∷ 18 ∷ 1 ∷ 0 ∷ 2 ∷ 4 ∷ 2690673980 ∷ 1 ∷ 12 ∷ 0 ∷ [])
    ∷ row 31 31 4 4 (19 ∷ 1 ∷ 2 ∷ 1 ∷ 8 ∷ 2660010851 ∷ 11 ∷ 0 ∷ 0 ∷ 0 ∷ 18 ∷ 1 ∷ 0 ∷ 2 ∷ 4 ∷ 2690673980 ∷ 1 ∷ 12 ∷ 0 ∷ [])
    ∷ row 31 27 21 17 (19 ∷ 1 ∷ 2 ∷ 1 ∷ 8 ∷ 2660010851 ∷ 11 ∷ 0 ∷ 0 ∷ 0 ∷ 18 ∷ 1 ∷ 0 ∷ 2 ∷ 4 ∷ 2690673980 ∷ 1 ∷ 12 ∷ 0 ∷ [])
    ∷ []

at_2_0 : offers rows_2 0 ≡ takes true ∷ takes false ∷ nothing ∷ takes true ∷ nothing ∷ []
at_2_0 = refl

at_2_2 : offers rows_2 2 ≡ takes false ∷ takes true ∷ nothing ∷ takes false ∷ gives true (0 ∷ 0 ∷ 8 ∷ 0 ∷ []) ∷ []
at_2_2 = refl

at_2_4 : offers rows_2 4 ≡ takes true ∷ takes false ∷ nothing ∷ takes false ∷ gives true (0 ∷ 0 ∷ 8 ∷ 0 ∷ []) ∷ []
at_2_4 = refl

at_2_6 : offers rows_2 6 ≡ takes false ∷ takes true ∷ nothing ∷ takes true ∷ nothing ∷ []
at_2_6 = refl

at_2_8 : offers rows_2 8 ≡ takes false ∷ takes true ∷ nothing ∷ takes false ∷ gives true (0 ∷ 1 ∷ 8 ∷ 0 ∷ []) ∷ []
at_2_8 = refl

at_2_10 : offers rows_2 10 ≡ takes false ∷ takes false ∷ gives true (0 ∷ 2 ∷ []) ∷ takes true ∷ nothing ∷ []
at_2_10 = refl

at_2_12 : offers rows_2 12 ≡ takes false ∷ takes true ∷ nothing ∷ takes false ∷ gives true (0 ∷ 0 ∷ 2 ∷ 0 ∷ []) ∷ []
at_2_12 = refl

at_2_14 : offers rows_2 14 ≡ takes false ∷ takes true ∷ nothing ∷ takes false ∷ gives true (6347580 ∷ 0 ∷ 2 ∷ 0 ∷ []) ∷ []
at_2_14 = refl

at_2_16 : offers rows_2 16 ≡ takes true ∷ takes false ∷ nothing ∷ takes true ∷ nothing ∷ []
at_2_16 = refl

at_2_18 : offers rows_2 18 ≡ takes false ∷ takes true ∷ nothing ∷ takes false ∷ gives true (0 ∷ 0 ∷ 12 ∷ 0 ∷ []) ∷ []
at_2_18 = refl

at_2_20 : offers rows_2 20 ≡ takes false ∷ takes true ∷ nothing ∷ takes false ∷ gives true (2690673980 ∷ 1 ∷ 12 ∷ 0 ∷ []) ∷ []
at_2_20 = refl

at_2_22 : offers rows_2 22 ≡ takes false ∷ takes false ∷ gives true (0 ∷ 0 ∷ []) ∷ takes false ∷ gives true (2690673980 ∷ 1 ∷ 12 ∷ 0 ∷ []) ∷ []
at_2_22 = refl

at_2_24 : offers rows_2 24 ≡ takes false ∷ takes true ∷ nothing ∷ takes true ∷ nothing ∷ []
at_2_24 = refl

-- ---- master 3
abbrev rows_3 : List Row
rows_3 = row 31 11 13 9 (15 ∷ 2 ∷ 2 ∷ 0 ∷ 4 ∷ 1547240115 ∷ 8 ∷ 0 ∷ 0 ∷ 0 ∷ 1 ∷ 1 ∷ 2 ∷ 0 ∷ 7 ∷ 0 ∷ 0 ∷ 0 ∷ 0 ∷ [])
    ∷ row 31 27 22 18 (6 ∷ 1 ∷ 2 ∷ 3 ∷ 5 ∷ 1547240115 ∷ 8 ∷ 0 ∷ 0 ∷ 0 ∷ 2 ∷ 2 ∷ 2 ∷ 3 ∷ 10 ∷ 0 ∷ 0 ∷ 7 ∷ 0 ∷ [])
    ∷ row 31 27 6 2 (6 ∷ 1 ∷ 2 ∷ 3 ∷ 5 ∷ 383739014 ∷ 9 ∷ 0 ∷ 0 ∷ 0 ∷ 2 ∷ 2 ∷ 2 ∷ 3 ∷ 10 ∷ 0 ∷ 1 ∷ 7 ∷ 0 ∷ [])
    ∷ row 31 25 22 16 (6 ∷ 1 ∷ 2 ∷ 3 ∷ 5 ∷ 0 ∷ 0 ∷ 0 ∷ 0 ∷ 0 ∷ 2 ∷ 2 ∷ 2 ∷ 3 ∷ 10 ∷ 0 ∷ 1 ∷ 7 ∷ 0 ∷ [])
    ∷ row 31 11 30 10 (6 ∷ 1 ∷ 2 ∷ 3 ∷ 5 ∷ 692866723 ∷ 7 ∷ 1 ∷ 0 ∷ 0 ∷ 2 ∷ 2 ∷ 2 ∷ 3 ∷ 10 ∷ 0 ∷ 0 ∷ 0 ∷ 0 ∷ [])
    ∷ row 31 31 20 20 (6 ∷ 1 ∷ 2 ∷ 3 ∷ 5 ∷ 2893857956 ∷ 6 ∷ 0 ∷ 0 ∷ 0 ∷ 22 ∷ 2 ∷ 2 ∷ 1 ∷ 10 ∷ 0 ∷ 0 ∷ 10 ∷ 0 ∷ [])
    ∷ row 31 27 21 17 (6 ∷ 1 ∷ 2 ∷ 3 ∷ 5 ∷ 2893857956 ∷ 6 ∷ 0 ∷ 0 ∷ 0 ∷ 22 ∷ 2 ∷ 2 ∷ 1 ∷ 10 ∷ 0 ∷ 0 ∷ 10 ∷ 0 ∷ [])
    ∷ row 31 27 22 18 (3 ∷ 1 ∷ 2 ∷ 2 ∷ 1 ∷ 2893857956 ∷ 6 ∷ 0 ∷ 0 ∷ 0 ∷ 22 ∷ 2 ∷ 2 ∷ 1 ∷ 10 ∷ 0 ∷ 1 ∷ 10 ∷ 0 ∷ [])
    ∷ row 29 9 30 8 (3 ∷ 1 ∷ 2 ∷ 2 ∷ 1 ∷ 0 ∷ 0 ∷ 0 ∷ 0 ∷ 0 ∷ 22 ∷ 2 ∷ 2 ∷ 1 ∷ 10 ∷ 0 ∷ 0 ∷ 0 ∷ 0 ∷ [])
    ∷ row 31 27 18 18 (3 ∷ 1 ∷ 2 ∷ 2 ∷ 1 ∷ 4148967446 ∷ 4 ∷ 1 ∷ 0 ∷ 0 ∷ 0 ∷ 1 ∷ 2 ∷ 0 ∷ 10 ∷ 0 ∷ 0 ∷ 10 ∷ 0 ∷ [])
    ∷ row 31 31 20 20 (3 ∷ 1 ∷ 2 ∷ 2 ∷ 1 ∷ 2653128613 ∷ 6 ∷ 1 ∷ 0 ∷ 1 ∷ 0 ∷ 1 ∷ 2 ∷ 0 ∷ 10 ∷ 0 ∷ 0 ∷ 10 ∷ 0 ∷ [])
    ∷ row 15 27 21 1 (3 ∷ 1 ∷ 2 ∷ 2 ∷ 1 ∷ 2653128613 ∷ 6 ∷ 1 ∷ 0 ∷ 0 ∷ 0 ∷ 1 ∷ 2 ∷ 0 ∷ 10 ∷ 0 ∷ 1 ∷ 10 ∷ 0 ∷ [])
    ∷ row 31 27 22 18 (14 ∷ 1 ∷ 0 ∷ 1 ∷ 6 ∷ 2653128613 ∷ 6 ∷ 1 ∷ 0 ∷ 0 ∷ 0 ∷ 1 ∷ 2 ∷ 0 ∷ 10 ∷ 0 ∷ 1 ∷ 10 ∷ 0 ∷ [])
    ∷ row 31 11 30 10 (14 ∷ 1 ∷ 0 ∷ 1 ∷ 6 ∷ 724433293 ∷ 4 ∷ 0 ∷ 0 ∷ 0 ∷ 0 ∷ 1 ∷ 2 ∷ 0 ∷ 10 ∷ 0 ∷ 0 ∷ 0 ∷ 0 ∷ [])
    ∷ row 31 31 20 20 (14 ∷ 1 ∷ 0 ∷ 1 ∷ 6 ∷ 1038790109 ∷ 14 ∷ 1 ∷ 0 ∷ 1 ∷ 20 ∷ 3 ∷ 2 ∷ 2 ∷ 6 ∷ 2328320 ∷ 0 ∷ 10 ∷ 0 ∷ [])
    ∷ row 31 27 21 17 (14 ∷ 1 ∷ 0 ∷ 1 ∷ 6 ∷ 1038790109 ∷ 14 ∷ 1 ∷ 0 ∷ 0 ∷ 20 ∷ 3 ∷ 2 ∷ 2 ∷ 6 ∷ 2328320 ∷ 1 ∷ 10 ∷ 0 ∷ [])
    ∷ row 31 11 30 10 (7 ∷ 1 ∷ 2 ∷ 0 ∷ 6 ∷ 1038790109 ∷ 14 ∷ 1 ∷ 0 ∷ 0 ∷ 20 ∷ 3 ∷ 2 ∷ 2 ∷ 6 ∷ 0 ∷ 0 ∷ 0 ∷ 0 ∷ [])
    ∷ row 31 25 18 16 (7 ∷ 1 ∷ 2 ∷ 0 ∷ 6 ∷ 0 ∷ 0 ∷ 0 ∷ 0 ∷ 0 ∷ 18 ∷ 2 ∷ 0 ∷ 1 ∷ 12 ∷ 0 ∷ 0 ∷ 6 ∷ 0 ∷ [])
    ∷ row 31 27 2 2 (7 ∷ 1 ∷ 2 ∷ 0 ∷ 6 ∷ 1664182535 ∷ 2 ∷ 1 ∷ 0 ∷ 0 ∷ 18 ∷ 2 ∷ 0 ∷ 1 ∷ 12 ∷ 0 ∷ 0 ∷ 6 ∷ 0 ∷ [])
    ∷ row 31 29 20 20 (7 ∷ 1 ∷ 2 ∷ 0 ∷ 6 ∷ 0 ∷ 0 ∷ 0 ∷ 0 ∷ 2 ∷ 18 ∷ 2 ∷ 0 ∷ 1 ∷ 12 ∷ 0 ∷ 0 ∷ 6 ∷ 0 ∷ [])
    ∷ row 31 27 21 17 (7 ∷ 1 ∷ 2 ∷ 0 ∷ 6 ∷ 3499651751 ∷ 13 ∷ 0 ∷ 0 ∷ 0 ∷ 18 ∷ 2 ∷ 0 ∷ 1 ∷ 12 ∷ 0 ∷ 0 ∷ 6 ∷ 0 ∷ [])
    ∷ row 31 26 6 2 (0 ∷ 0 ∷ 0 ∷ 0 ∷ 0 ∷ 3499651751 ∷ 13 ∷ 0 ∷ 0 ∷ 0 ∷ 18 ∷ 2 ∷ 0 ∷ 1 ∷ 12 ∷ 0 ∷ 1 ∷ 6 ∷ 0 ∷ [])
    ∷ row 31 26 6 2 (0 ∷ 0 ∷ 0 ∷ 0 ∷ 0 ∷ 191314904 ∷ 12 ∷ 0 ∷ 0 ∷ 0 ∷ 18 ∷ 2 ∷ 0 ∷ 1 ∷ 12 ∷ 0 ∷ 1 ∷ 6 ∷ 0 ∷ [])
    ∷ row 31 30 20 20 (0 ∷ 0 ∷ 0 ∷ 0 ∷ 0 ∷ 1995339894 ∷ 15 ∷ 1 ∷ 0 ∷ 2 ∷ 18 ∷ 2 ∷ 0 ∷ 1 ∷ 12 ∷ 0 ∷ 1 ∷ 6 ∷ 0 ∷ [])
    ∷ []

at_3_0 : offers rows_3 0 ≡ takes true ∷ takes false ∷ nothing ∷ takes true ∷ nothing ∷ []
at_3_0 = refl

at_3_2 : offers rows_3 2 ≡ takes false ∷ takes true ∷ nothing ∷ takes false ∷ gives true (0 ∷ 1 ∷ 7 ∷ 0 ∷ []) ∷ []
at_3_2 = refl

at_3_4 : offers rows_3 4 ≡ takes false ∷ takes true ∷ nothing ∷ takes true ∷ nothing ∷ []
at_3_4 = refl

at_3_6 : offers rows_3 6 ≡ takes true ∷ takes false ∷ nothing ∷ takes false ∷ gives true (0 ∷ 0 ∷ 10 ∷ 0 ∷ []) ∷ []
at_3_6 = refl

at_3_8 : offers rows_3 8 ≡ takes false ∷ takes true ∷ nothing ∷ takes true ∷ nothing ∷ []
at_3_8 = refl

at_3_10 : offers rows_3 10 ≡ takes false ∷ takes false ∷ gives true (0 ∷ 1 ∷ []) ∷ takes false ∷ gives true (0 ∷ 0 ∷ 10 ∷ 0 ∷ []) ∷ []
at_3_10 = refl

at_3_12 : offers rows_3 12 ≡ takes false ∷ takes true ∷ nothing ∷ takes false ∷ gives true (0 ∷ 1 ∷ 10 ∷ 0 ∷ []) ∷ []
at_3_12 = refl

at_3_14 : offers rows_3 14 ≡ takes false ∷ takes false ∷ gives true (0 ∷ 1 ∷ []) ∷ takes false ∷ gives true (2328320 ∷ 0 ∷ 10 ∷ 0 ∷ []) ∷ []
at_3_14 = refl

at_3_16 : offers rows_3 16 ≡ takes false ∷ takes true ∷ nothing ∷ takes true ∷ nothing ∷ []
at_3_16 = refl

at_3_18 : offers rows_3 18 ≡ takes false ∷ takes true ∷ nothing ∷ takes false ∷ gives true (0 ∷ 0 ∷ 6 ∷ 0 ∷ []) ∷ []
at_3_18 = refl

at_3_20 : offers rows_3 20 ≡ takes true ∷ takes false ∷ nothing ∷ takes false ∷ gives true (0 ∷ 0 ∷ 6 ∷ 0 ∷ []) ∷ []
at_3_20 = refl

at_3_22 : offers rows_3 22 ≡ takes false ∷ takes true ∷ nothing ∷ takes false ∷ gives true (0 ∷ 1 ∷ 6 ∷ 0 ∷ []) ∷ []
at_3_22 = refl

at_3_24 : offers rows_3 24 ≡ takes true ∷ takes false ∷ nothing ∷ takes true ∷ nothing ∷ []
at_3_24 = refl

-- ---- master 4
abbrev rows_4 : List Row
rows_4 = row 31 11 29 9 (14 ∷ 1 ∷ 0 ∷ 3 ∷ 7 ∷ 437976711 ∷ 7 ∷ 0 ∷ 0 ∷ 0 ∷ 15 ∷ 0 ∷ 2 ∷ 1 ∷ 7 ∷ 0 ∷ 0 ∷ 0 ∷ 0 ∷ [])
    ∷ row 30 26 22 18 (0 ∷ 0 ∷ 0 ∷ 0 ∷ 0 ∷ 437976711 ∷ 7 ∷ 0 ∷ 0 ∷ 0 ∷ 4 ∷ 0 ∷ 2 ∷ 0 ∷ 4 ∷ 0 ∷ 1 ∷ 7 ∷ 0 ∷ [])
    ∷ row 31 8 26 8 (0 ∷ 0 ∷ 0 ∷ 0 ∷ 0 ∷ 0 ∷ 0 ∷ 0 ∷ 0 ∷ 0 ∷ 4 ∷ 0 ∷ 2 ∷ 0 ∷ 4 ∷ 0 ∷ 0 ∷ 0 ∷ 0 ∷ [])
    ∷ row 27 27 18 18 (12 ∷ 0 ∷ 1 ∷ 1 ∷ 9 ∷ 3510707588 ∷ 0 ∷ 1 ∷ 0 ∷ 0 ∷ 8 ∷ 1 ∷ 1 ∷ 2 ∷ 2 ∷ 0 ∷ 1 ∷ 4 ∷ 0 ∷ [])
    ∷ row 30 15 24 8 (12 ∷ 0 ∷ 1 ∷ 1 ∷ 9 ∷ 2066817247 ∷ 15 ∷ 0 ∷ 0 ∷ 3 ∷ 8 ∷ 1 ∷ 1 ∷ 2 ∷ 2 ∷ 0 ∷ 0 ∷ 0 ∷ 0 ∷ [])
    ∷ row 31 31 20 20 (12 ∷ 0 ∷ 1 ∷ 1 ∷ 9 ∷ 2066817247 ∷ 15 ∷ 0 ∷ 0 ∷ 3 ∷ 12 ∷ 3 ∷ 2 ∷ 2 ∷ 0 ∷ 0 ∷ 0 ∷ 2 ∷ 0 ∷ [])
    ∷ row 31 27 21 17 (12 ∷ 0 ∷ 1 ∷ 1 ∷ 9 ∷ 2066817247 ∷ 15 ∷ 0 ∷ 0 ∷ 0 ∷ 12 ∷ 3 ∷ 2 ∷ 2 ∷ 0 ∷ 0 ∷ 1 ∷ 2 ∷ 0 ∷ [])
    ∷ row 31 10 14 10 (0 ∷ 0 ∷ 0 ∷ 0 ∷ 0 ∷ 2066817247 ∷ 15 ∷ 0 ∷ 0 ∷ 0 ∷ 12 ∷ 3 ∷ 2 ∷ 2 ∷ 0 ∷ 0 ∷ 0 ∷ 0 ∷ 0 ∷ [])
    ∷ row 31 29 16 16 (9 ∷ 1 ∷ 2 ∷ 2 ∷ 1 ∷ 0 ∷ 0 ∷ 0 ∷ 0 ∷ 1 ∷ 16 ∷ 0 ∷ 2 ∷ 0 ∷ 11 ∷ 2066817247 ∷ 0 ∷ 0 ∷ 0 ∷ [])
    ∷ row 31 31 20 20 (9 ∷ 1 ∷ 2 ∷ 2 ∷ 1 ∷ 1360645580 ∷ 9 ∷ 0 ∷ 0 ∷ 1 ∷ 16 ∷ 0 ∷ 2 ∷ 0 ∷ 11 ∷ 0 ∷ 0 ∷ 0 ∷ 0 ∷ [])
    ∷ row 31 27 21 17 (9 ∷ 1 ∷ 2 ∷ 2 ∷ 1 ∷ 1360645580 ∷ 9 ∷ 0 ∷ 0 ∷ 0 ∷ 16 ∷ 0 ∷ 2 ∷ 0 ∷ 11 ∷ 0 ∷ 0 ∷ 0 ∷ 0 ∷ [])
    ∷ row 31 27 22 18 (7 ∷ 3 ∷ 0 ∷ 2 ∷ 11 ∷ 1360645580 ∷ 9 ∷ 0 ∷ 0 ∷ 0 ∷ 16 ∷ 0 ∷ 2 ∷ 0 ∷ 11 ∷ 0 ∷ 1 ∷ 0 ∷ 0 ∷ [])
    ∷ row 31 11 14 10 (7 ∷ 3 ∷ 0 ∷ 2 ∷ 11 ∷ 3934487882 ∷ 1 ∷ 1 ∷ 0 ∷ 0 ∷ 16 ∷ 0 ∷ 2 ∷ 0 ∷ 11 ∷ 0 ∷ 0 ∷ 0 ∷ 0 ∷ [])
    ∷ row 31 31 4 4 (7 ∷ 3 ∷ 0 ∷ 2 ∷ 11 ∷ 641003887 ∷ 1 ∷ 1 ∷ 0 ∷ 1 ∷ 3 ∷ 2 ∷ 2 ∷ 1 ∷ 5 ∷ 0 ∷ 1 ∷ 11 ∷ 0 ∷ [])
    ∷ row 31 27 17 17 (7 ∷ 3 ∷ 0 ∷ 2 ∷ 11 ∷ 641003887 ∷ 1 ∷ 1 ∷ 0 ∷ 0 ∷ 3 ∷ 2 ∷ 2 ∷ 1 ∷ 5 ∷ 0 ∷ 1 ∷ 11 ∷ 0 ∷ [])
    ∷ row 31 11 26 10 (8 ∷ 1 ∷ 2 ∷ 3 ∷ 9 ∷ 641003887 ∷ 1 ∷ 1 ∷ 0 ∷ 0 ∷ 3 ∷ 2 ∷ 2 ∷ 1 ∷ 5 ∷ 0 ∷ 0 ∷ 0 ∷ 0 ∷ [])
    ∷ row 23 19 22 18 (8 ∷ 1 ∷ 2 ∷ 3 ∷ 9 ∷ 770500954 ∷ 15 ∷ 1 ∷ 0 ∷ 0 ∷ 0 ∷ 0 ∷ 0 ∷ 0 ∷ 0 ∷ 0 ∷ 0 ∷ 5 ∷ 0 ∷ [])
    ∷ row 31 19 22 18 (8 ∷ 1 ∷ 2 ∷ 3 ∷ 9 ∷ 3375941261 ∷ 11 ∷ 0 ∷ 0 ∷ 0 ∷ 0 ∷ 0 ∷ 0 ∷ 0 ∷ 0 ∷ 770500954 ∷ 0 ∷ 5 ∷ 0 ∷ [])
    ∷ row 31 27 22 18 (8 ∷ 1 ∷ 2 ∷ 3 ∷ 9 ∷ 49738557 ∷ 15 ∷ 1 ∷ 0 ∷ 0 ∷ 10 ∷ 3 ∷ 2 ∷ 2 ∷ 5 ∷ 1358954700 ∷ 1 ∷ 5 ∷ 0 ∷ [])
    ∷ row 31 15 12 12 (8 ∷ 1 ∷ 2 ∷ 3 ∷ 9 ∷ 2893253772 ∷ 11 ∷ 1 ∷ 0 ∷ 3 ∷ 10 ∷ 3 ∷ 2 ∷ 2 ∷ 5 ∷ 0 ∷ 0 ∷ 0 ∷ 0 ∷ [])
    ∷ row 31 27 21 17 (8 ∷ 1 ∷ 2 ∷ 3 ∷ 9 ∷ 2893253772 ∷ 11 ∷ 1 ∷ 0 ∷ 0 ∷ 11 ∷ 2 ∷ 2 ∷ 1 ∷ 10 ∷ 1358954700 ∷ 0 ∷ 5 ∷ 0 ∷ [])
    ∷ row 31 26 22 18 (0 ∷ 0 ∷ 0 ∷ 0 ∷ 0 ∷ 2893253772 ∷ 11 ∷ 1 ∷ 0 ∷ 0 ∷ 11 ∷ 2 ∷ 2 ∷ 1 ∷ 10 ∷ 2066817098 ∷ 0 ∷ 5 ∷ 0 ∷ [])
    ∷ row 31 26 22 18 (0 ∷ 0 ∷ 0 ∷ 0 ∷ 0 ∷ 737990278 ∷ 13 ∷ 1 ∷ 0 ∷ 0 ∷ 11 ∷ 2 ∷ 2 ∷ 1 ∷ 10 ∷ 0 ∷ 0 ∷ 5 ∷ 0 ∷ [])
    ∷ row 31 30 20 20 (0 ∷ 0 ∷ 0 ∷ 0 ∷ 0 ∷ 687293831 ∷ 14 ∷ 0 ∷ 0 ∷ 1 ∷ 11 ∷ 2 ∷ 2 ∷ 1 ∷ 10 ∷ 49738557 ∷ 1 ∷ 5 ∷ 0 ∷ [])
    ∷ []

at_4_0 : offers rows_4 0 ≡ takes true ∷ takes false ∷ nothing ∷ takes true ∷ nothing ∷ []
at_4_0 = refl

at_4_2 : offers rows_4 2 ≡ takes false ∷ takes true ∷ nothing ∷ takes true ∷ nothing ∷ []
at_4_2 = refl

at_4_4 : offers rows_4 4 ≡ takes false ∷ takes false ∷ gives true (0 ∷ 3 ∷ []) ∷ takes true ∷ nothing ∷ []
at_4_4 = refl

at_4_6 : offers rows_4 6 ≡ takes true ∷ takes false ∷ nothing ∷ takes false ∷ gives true (0 ∷ 1 ∷ 2 ∷ 0 ∷ []) ∷ []
at_4_6 = refl

at_4_8 : offers rows_4 8 ≡ takes false ∷ takes false ∷ gives true (0 ∷ 1 ∷ []) ∷ takes false ∷ gives true (2066817247 ∷ 0 ∷ 0 ∷ 0 ∷ []) ∷ []
at_4_8 = refl

at_4_10 : offers rows_4 10 ≡ takes true ∷ takes false ∷ nothing ∷ takes false ∷ gives true (0 ∷ 0 ∷ 0 ∷ 0 ∷ []) ∷ []
at_4_10 = refl

at_4_12 : offers rows_4 12 ≡ takes false ∷ takes true ∷ nothing ∷ takes true ∷ nothing ∷ []
at_4_12 = refl

at_4_14 : offers rows_4 14 ≡ takes true ∷ takes false ∷ nothing ∷ takes false ∷ gives true (0 ∷ 1 ∷ 11 ∷ 0 ∷ []) ∷ []
at_4_14 = refl

at_4_16 : offers rows_4 16 ≡ takes false ∷ takes true ∷ nothing ∷ takes false ∷ gives true (0 ∷ 0 ∷ 5 ∷ 0 ∷ []) ∷ []
at_4_16 = refl

at_4_18 : offers rows_4 18 ≡ takes false ∷ takes true ∷ nothing ∷ takes false ∷ gives true (1358954700 ∷ 1 ∷ 5 ∷ 0 ∷ []) ∷ []
at_4_18 = refl

at_4_20 : offers rows_4 20 ≡ takes true ∷ takes false ∷ nothing ∷ takes false ∷ gives true (1358954700 ∷ 0 ∷ 5 ∷ 0 ∷ []) ∷ []
at_4_20 = refl

at_4_22 : offers rows_4 22 ≡ takes false ∷ takes true ∷ nothing ∷ takes false ∷ gives true (0 ∷ 0 ∷ 5 ∷ 0 ∷ []) ∷ []
at_4_22 = refl

at_4_24 : offers rows_4 24 ≡ takes true ∷ takes false ∷ nothing ∷ takes true ∷ nothing ∷ []
at_4_24 = refl

-- ---- master 5
abbrev rows_5 : List Row
rows_5 = row 15 2 29 0 (0 ∷ 0 ∷ 0 ∷ 0 ∷ 0 ∷ 1123655737 ∷ 1 ∷ 0 ∷ 0 ∷ 0 ∷ 0 ∷ 0 ∷ 0 ∷ 0 ∷ 0 ∷ 0 ∷ 0 ∷ 0 ∷ 0 ∷ [])
    ∷ row 31 3 29 1 (6 ∷ 1 ∷ 2 ∷ 0 ∷ 13 ∷ 1123655737 ∷ 1 ∷ 0 ∷ 0 ∷ 0 ∷ 0 ∷ 0 ∷ 0 ∷ 0 ∷ 0 ∷ 0 ∷ 0 ∷ 0 ∷ 0 ∷ [])
    ∷ row 31 3 30 2 (13 ∷ 1 ∷ 0 ∷ 3 ∷ 10 ∷ 1123655737 ∷ 1 ∷ 0 ∷ 0 ∷ 0 ∷ 0 ∷ 0 ∷ 0 ∷ 0 ∷ 0 ∷ 0 ∷ 0 ∷ 0 ∷ 0 ∷ [])
    ∷ row 31 11 26 10 (13 ∷ 1 ∷ 0 ∷ 3 ∷ 10 ∷ 862748621 ∷ 11 ∷ 1 ∷ 0 ∷ 0 ∷ 3 ∷ 2 ∷ 2 ∷ 1 ∷ 1 ∷ 0 ∷ 0 ∷ 0 ∷ 0 ∷ [])
    ∷ row 31 31 4 4 (13 ∷ 1 ∷ 0 ∷ 3 ∷ 10 ∷ 1845498497 ∷ 9 ∷ 1 ∷ 0 ∷ 1 ∷ 20 ∷ 2 ∷ 0 ∷ 3 ∷ 11 ∷ 0 ∷ 0 ∷ 1 ∷ 0 ∷ [])
    ∷ row 31 27 21 17 (13 ∷ 1 ∷ 0 ∷ 3 ∷ 10 ∷ 1845498497 ∷ 9 ∷ 1 ∷ 0 ∷ 0 ∷ 20 ∷ 2 ∷ 0 ∷ 3 ∷ 11 ∷ 0 ∷ 0 ∷ 1 ∷ 0 ∷ [])
    ∷ row 31 27 2 2 (7 ∷ 1 ∷ 2 ∷ 1 ∷ 4 ∷ 1845498497 ∷ 9 ∷ 1 ∷ 0 ∷ 0 ∷ 20 ∷ 2 ∷ 0 ∷ 3 ∷ 11 ∷ 855670733 ∷ 0 ∷ 1 ∷ 0 ∷ [])
    ∷ row 31 27 22 18 (7 ∷ 1 ∷ 2 ∷ 1 ∷ 4 ∷ 810660752 ∷ 5 ∷ 0 ∷ 0 ∷ 0 ∷ 20 ∷ 2 ∷ 0 ∷ 3 ∷ 11 ∷ 855670733 ∷ 0 ∷ 1 ∷ 0 ∷ [])
    ∷ row 31 31 20 20 (7 ∷ 1 ∷ 2 ∷ 1 ∷ 4 ∷ 1609032861 ∷ 12 ∷ 1 ∷ 0 ∷ 2 ∷ 20 ∷ 2 ∷ 0 ∷ 3 ∷ 11 ∷ 0 ∷ 1 ∷ 1 ∷ 0 ∷ [])
    ∷ row 15 11 29 9 (7 ∷ 1 ∷ 2 ∷ 1 ∷ 4 ∷ 1609032861 ∷ 12 ∷ 1 ∷ 0 ∷ 0 ∷ 20 ∷ 2 ∷ 0 ∷ 3 ∷ 11 ∷ 0 ∷ 0 ∷ 0 ∷ 0 ∷ [])
    ∷ row 31 26 22 18 (0 ∷ 0 ∷ 0 ∷ 0 ∷ 0 ∷ 1609032861 ∷ 12 ∷ 1 ∷ 0 ∷ 0 ∷ 14 ∷ 2 ∷ 2 ∷ 0 ∷ 12 ∷ 0 ∷ 0 ∷ 11 ∷ 0 ∷ [])
    ∷ row 31 26 6 2 (0 ∷ 0 ∷ 0 ∷ 0 ∷ 0 ∷ 369070318 ∷ 6 ∷ 1 ∷ 0 ∷ 0 ∷ 14 ∷ 2 ∷ 2 ∷ 0 ∷ 12 ∷ 0 ∷ 0 ∷ 11 ∷ 0 ∷ [])
    ∷ row 31 31 20 20 (18 ∷ 1 ∷ 2 ∷ 2 ∷ 11 ∷ 2159236994 ∷ 14 ∷ 1 ∷ 0 ∷ 0 ∷ 14 ∷ 2 ∷ 2 ∷ 0 ∷ 12 ∷ 0 ∷ 0 ∷ 11 ∷ 0 ∷ [])
    ∷ row 31 27 21 17 (18 ∷ 1 ∷ 2 ∷ 2 ∷ 11 ∷ 2159236994 ∷ 14 ∷ 1 ∷ 0 ∷ 0 ∷ 14 ∷ 2 ∷ 2 ∷ 0 ∷ 12 ∷ 0 ∷ 1 ∷ 11 ∷ 0 ∷ [])
    ∷ row 31 11 30 10 (23 ∷ 3 ∷ 1 ∷ 2 ∷ 12 ∷ 2159236994 ∷ 14 ∷ 1 ∷ 0 ∷ 0 ∷ 14 ∷ 2 ∷ 2 ∷ 0 ∷ 12 ∷ 0 ∷ 0 ∷ 0 ∷ 0 ∷ [])
    ∷ row 31 27 22 18 (23 ∷ 3 ∷ 1 ∷ 2 ∷ 12 ∷ 1710606328 ∷ 15 ∷ 0 ∷ 0 ∷ 0 ∷ 22 ∷ 2 ∷ 2 ∷ 1 ∷ 8 ∷ 1850802320 ∷ 0 ∷ 12 ∷ 0 ∷ [])
    ∷ row 31 31 20 20 (23 ∷ 3 ∷ 1 ∷ 2 ∷ 12 ∷ 245264308 ∷ 5 ∷ 0 ∷ 0 ∷ 3 ∷ 22 ∷ 2 ∷ 2 ∷ 1 ∷ 8 ∷ 1850802320 ∷ 0 ∷ 12 ∷ 0 ∷ [])
    ∷ row 31 27 17 17 (23 ∷ 3 ∷ 1 ∷ 2 ∷ 12 ∷ 245264308 ∷ 5 ∷ 0 ∷ 0 ∷ 0 ∷ 22 ∷ 2 ∷ 2 ∷ 1 ∷ 8 ∷ 1850802320 ∷ 1 ∷ 12 ∷ 0 ∷ [])
    ∷ row 31 11 14 10 (19 ∷ 0 ∷ 2 ∷ 1 ∷ 0 ∷ 245264308 ∷ 5 ∷ 0 ∷ 0 ∷ 0 ∷ 22 ∷ 2 ∷ 2 ∷ 1 ∷ 8 ∷ 0 ∷ 0 ∷ 0 ∷ 0 ∷ [])
    ∷ row 31 25 22 16 (19 ∷ 0 ∷ 2 ∷ 1 ∷ 0 ∷ 0 ∷ 0 ∷ 0 ∷ 0 ∷ 0 ∷ 11 ∷ 1 ∷ 0 ∷ 2 ∷ 11 ∷ 0 ∷ 0 ∷ 8 ∷ 0 ∷ [])
    ∷ row 23 27 6 2 (19 ∷ 0 ∷ 2 ∷ 1 ∷ 0 ∷ 2869716883 ∷ 3 ∷ 0 ∷ 0 ∷ 0 ∷ 11 ∷ 1 ∷ 0 ∷ 2 ∷ 11 ∷ 0 ∷ 0 ∷ 8 ∷ 0 ∷ [])
    ∷ row 27 27 2 2 (19 ∷ 0 ∷ 2 ∷ 1 ∷ 0 ∷ 3012363212 ∷ 4 ∷ 0 ∷ 0 ∷ 0 ∷ 11 ∷ 1 ∷ 0 ∷ 2 ∷ 11 ∷ 0 ∷ 0 ∷ 8 ∷ 0 ∷ [])
    ∷ row 31 27 6 2 (19 ∷ 0 ∷ 2 ∷ 1 ∷ 0 ∷ 2979849994 ∷ 0 ∷ 0 ∷ 0 ∷ 0 ∷ 11 ∷ 1 ∷ 0 ∷ 2 ∷ 11 ∷ 0 ∷ 0 ∷ 8 ∷ 0 ∷ [])
    ∷ row 31 31 4 4 (19 ∷ 0 ∷ 2 ∷ 1 ∷ 0 ∷ 1887548302 ∷ 14 ∷ 1 ∷ 0 ∷ 0 ∷ 11 ∷ 1 ∷ 0 ∷ 2 ∷ 11 ∷ 0 ∷ 0 ∷ 8 ∷ 0 ∷ [])
    ∷ []

at_5_0 : offers rows_5 0 ≡ takes true ∷ takes false ∷ nothing ∷ takes true ∷ nothing ∷ []
at_5_0 = refl

at_5_2 : offers rows_5 2 ≡ takes false ∷ takes true ∷ nothing ∷ takes true ∷ nothing ∷ []
at_5_2 = refl

at_5_4 : offers rows_5 4 ≡ takes false ∷ takes false ∷ gives true (0 ∷ 1 ∷ []) ∷ takes false ∷ gives true (0 ∷ 0 ∷ 1 ∷ 0 ∷ []) ∷ []
at_5_4 = refl

at_5_6 : offers rows_5 6 ≡ takes false ∷ takes true ∷ nothing ∷ takes false ∷ gives true (855670733 ∷ 0 ∷ 1 ∷ 0 ∷ []) ∷ []
at_5_6 = refl

at_5_8 : offers rows_5 8 ≡ takes false ∷ takes false ∷ gives true (0 ∷ 2 ∷ []) ∷ takes false ∷ gives true (0 ∷ 1 ∷ 1 ∷ 0 ∷ []) ∷ []
at_5_8 = refl

at_5_10 : offers rows_5 10 ≡ takes false ∷ takes true ∷ nothing ∷ takes false ∷ gives true (0 ∷ 0 ∷ 11 ∷ 0 ∷ []) ∷ []
at_5_10 = refl

at_5_12 : offers rows_5 12 ≡ takes false ∷ takes false ∷ gives true (0 ∷ 0 ∷ []) ∷ takes false ∷ gives true (0 ∷ 0 ∷ 11 ∷ 0 ∷ []) ∷ []
at_5_12 = refl

at_5_14 : offers rows_5 14 ≡ takes false ∷ takes true ∷ nothing ∷ takes true ∷ nothing ∷ []
at_5_14 = refl

at_5_16 : offers rows_5 16 ≡ takes false ∷ takes false ∷ gives true (0 ∷ 3 ∷ []) ∷ takes false ∷ gives true (1850802320 ∷ 0 ∷ 12 ∷ 0 ∷ []) ∷ []
at_5_16 = refl

at_5_18 : offers rows_5 18 ≡ takes false ∷ takes true ∷ nothing ∷ takes true ∷ nothing ∷ []
at_5_18 = refl

at_5_20 : offers rows_5 20 ≡ takes false ∷ takes true ∷ nothing ∷ takes false ∷ gives true (0 ∷ 0 ∷ 8 ∷ 0 ∷ []) ∷ []
at_5_20 = refl

at_5_22 : offers rows_5 22 ≡ takes false ∷ takes true ∷ nothing ∷ takes false ∷ gives true (0 ∷ 0 ∷ 8 ∷ 0 ∷ []) ∷ []
at_5_22 = refl

at_5_24 : offers rows_5 24 ≡ takes true ∷ takes false ∷ nothing ∷ takes false ∷ gives true (0 ∷ 0 ∷ 8 ∷ 0 ∷ []) ∷ []
at_5_24 = refl
