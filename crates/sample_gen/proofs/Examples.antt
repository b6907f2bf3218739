-- The texts of samples 0, 1 and 3, worked out by hand from what a sample is.
use Rattle.std.proofs.Common.{◌≡◌, ◌++◌, refl}
use Rattle.std.specs.Prelude.{codes}
use Rattle.std.specs.Fmt.{digits}
use Rattle.sample_gen.specs.Design.{pipe}
use Rattle.sample_gen.specs.Sample.{stages, cycles, script, stalls}

script_0 : script 0 ≡ codes "cycles 100\nb take all\n"
unfolding digits
script_0 = refl

-- the one value of sample 1 is 198
script_1 : script 1 ≡ codes "cycles 108\na send 198\nb take all\n"
unfolding digits
script_1 = refl

stalls_1 : stalls 1
    ≡ codes "capacity 23\ndrain 7 1\ndrain 2 1\ndrain 4 1\ndrain 4 1\ndrain 4 1\ndrain 3 1\ndrain 4 1\ndrain 5 1\n"
unfolding digits
stalls_1 = refl

script_3 : script 3 ≡ codes "cycles 124\na send 83\na send 195\na send 125\nb take all\n"
unfolding digits
script_3 = refl

stalls_3 : stalls 3
    ≡ codes "capacity 25\ndrain 1 1\ndrain 7 1\ndrain 5 1\ndrain 6 1\ndrain 8 1\ndrain 1 1\ndrain 8 1\ndrain 6 1\n"
unfolding digits
stalls_3 = refl

-- sample 0 has one stage, which joins the pipe's own ports
pipe_1 : pipe (stages 0)
    ≡ codes "module pipe(input clk, input a_v, output a_r, input [7:0] a_d,\n"
    ++ codes "            output b_v, input b_r, output [7:0] b_d);\n"
    ++ codes "  pass u0(.clk(clk), .a_v(a_v), .a_r(a_r), .a_d(a_d), .b_v(b_v), .b_r(b_r), .b_d(b_d));\n"
    ++ codes "endmodule\n"
unfolding digits
pipe_1 = refl

-- sample 2 has three
pipe_3 : pipe (stages 2)
    ≡ codes "module pipe(input clk, input a_v, output a_r, input [7:0] a_d,\n"
    ++ codes "            output b_v, input b_r, output [7:0] b_d);\n"
    ++ codes "  wire w1_v, w1_r;\n"
    ++ codes "  wire [7:0] w1_d;\n"
    ++ codes "  wire w2_v, w2_r;\n"
    ++ codes "  wire [7:0] w2_d;\n"
    ++ codes "  pass u0(.clk(clk), .a_v(a_v), .a_r(a_r), .a_d(a_d), .b_v(w1_v), .b_r(w1_r), .b_d(w1_d));\n"
    ++ codes "  pass u1(.clk(clk), .a_v(w1_v), .a_r(w1_r), .a_d(w1_d), .b_v(w2_v), .b_r(w2_r), .b_d(w2_d));\n"
    ++ codes "  pass u2(.clk(clk), .a_v(w2_v), .a_r(w2_r), .a_d(w2_d), .b_v(b_v), .b_r(b_r), .b_d(b_d));\n"
    ++ codes "endmodule\n"
unfolding digits
pipe_3 = refl

-- one stage after 8
stages_8 : stages 8 ≡ 1
stages_8 = refl

cycles_6000 : cycles 6000 ≡ 48100
cycles_6000 = refl
