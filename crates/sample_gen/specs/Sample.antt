-- The files of a sample (this project's profile).
use Rattle.std.specs.Prelude.{ℕ, ◌+◌, ◌*◌, ◌%◌, List, ◌++◌, codes, decimal}
use Rattle.std.specs.List.{flat_map, range_with_len}
use Rattle.sample_gen.specs.declared.files.Sample.{Sample}
use Rattle.sample_gen.specs.Sequence.{drawn}
use Rattle.sample_gen.specs.Design.{design}

abbrev pub stages : ℕ → ℕ
stages s = 1 + s % 8

abbrev pub cycles : ℕ → ℕ
cycles s = 100 + 8 * s

abbrev pub map_text : List ℕ
map_text = codes "top pipe\n"
    ++ codes "clock clk\n"
    ++ codes "in a a_v a_r a_d\n"
    ++ codes "out b b_v b_r b_d\n"

-- the lower eight bits of the number are sent
abbrev pub send_line : ℕ → List ℕ
send_line y = codes "a send " ++ decimal (y % 256) ++ codes "\n"

-- y_1 to y_s are sent
abbrev pub script : ℕ → List ℕ
script s = codes "cycles " ++ decimal (cycles s) ++ codes "\n"
    ++ flat_map (λ i. send_line (drawn s i)) (range_with_len 1 s)
    ++ codes "b take all\n"

-- for one cycle 1 to 8 bytes drain, by the lower three bits of the number
abbrev pub drain_line : ℕ → List ℕ
drain_line y = codes "drain " ++ decimal (1 + y % 8) ++ codes " 1\n"

-- the bytes that the store holds
abbrev pub capacity : ℕ → ℕ
capacity s = 22 + s % 32

-- the eight numbers behind those that are sent tell how the store drains
abbrev pub stalls : ℕ → List ℕ
stalls s = codes "capacity " ++ decimal (capacity s) ++ codes "\n"
    ++ flat_map (λ i. drain_line (drawn s (s + i))) (range_with_len 1 8)

-- sample s
unfoldable pub sample : ℕ → Sample
sample s = record {
  design = design (stages s);
  map = map_text;
  script = script s;
  stalls = stalls s;
  stages = stages s;
  sends = s;
  cycles = cycles s;
}
