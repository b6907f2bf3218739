-- The design of a sample (this project's profile): `pass`, a register with a valid and a ready on both sides, and `pipe`, a chain of them.
use Rattle.std.specs.Prelude.{ℕ, ◌+◌, ◌-◌, ◌==◌, if◌then◌else◌, List, [], ◌∷◌, ◌++◌, codes, decimal}
use Rattle.std.specs.List.{concat, flat_map, range_with_len}

abbrev pub pass : List ℕ
pass = codes "module pass(input clk, input a_v, output a_r, input [7:0] a_d,\n"
    ++ codes "            output b_v, input b_r, output [7:0] b_d);\n"
    ++ codes "  reg full;\n"
    ++ codes "  reg [7:0] d;\n"
    ++ codes "  assign a_r = !full;\n"
    ++ codes "  assign b_v = full;\n"
    ++ codes "  assign b_d = d;\n"
    ++ codes "  always @(posedge clk)\n"
    ++ codes "    if (a_v & a_r) begin full <= 1'b1; d <= a_d; end\n"
    ++ codes "    else if (b_r) full <= 1'b0;\n"
    ++ codes "endmodule\n"

abbrev pub pipe_header : List ℕ
pipe_header = codes "module pipe(input clk, input a_v, output a_r, input [7:0] a_d,\n"
    ++ codes "            output b_v, input b_r, output [7:0] b_d);\n"

-- what the names of the wires between instances i - 1 and i begin with
abbrev pub wire : ℕ → List ℕ
wire i = codes "w" ++ decimal i

-- what the names at joint i begin with: the pipe's ports at its ends, between instances their wires
abbrev pub joint : ℕ → ℕ → List ℕ
joint stages i = if i == 0 then codes "a" else if i == stages then codes "b" else wire i

-- the wires between instances i - 1 and i
abbrev pub wires : ℕ → List ℕ
wires i = codes "  wire w" ++ decimal i ++ codes "_v, w" ++ decimal i ++ codes "_r;\n"
    ++ codes "  wire [7:0] w" ++ decimal i ++ codes "_d;\n"

-- instance i, joined to what has names that begin so
abbrev pub instance : ℕ → List ℕ → List ℕ → List ℕ
instance i from to = concat (codes "  pass u" ∷ decimal i ∷ codes "(.clk(clk), .a_v("
    ∷ from ∷ codes "_v), .a_r(" ∷ from ∷ codes "_r), .a_d(" ∷ from ∷ codes "_d), .b_v("
    ∷ to ∷ codes "_v), .b_r(" ∷ to ∷ codes "_r), .b_d(" ∷ to ∷ codes "_d));\n" ∷ [])

-- instance i of so many, from joint i to the next
abbrev pub stage : ℕ → ℕ → List ℕ
stage stages i = instance i (joint stages i) (joint stages (i + 1))

abbrev pub pipe : ℕ → List ℕ
pipe stages = concat (pipe_header
    ∷ flat_map wires (range_with_len 1 (stages - 1))
    ∷ flat_map (stage stages) (range_with_len 0 stages)
    ∷ codes "endmodule\n" ∷ [])

-- the design of so many stages
abbrev pub design : ℕ → List ℕ
design stages = pass ++ pipe stages
