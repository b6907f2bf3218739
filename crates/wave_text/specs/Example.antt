-- The wave of a design with four nets in two cycles, and its lines.
use Rattle.std.specs.Prelude.{◌≡◌, ℕ, List, [], ◌∷◌, codes}
use Rattle.wave_text.specs.declared.wave.WaveNet.{WaveNet}
use Rattle.wave_text.specs.declared.wave.Wave.{Wave}
use Rattle.wave_text.specs.Text.{wave_lines}

abbrev pub bit : List ℕ → WaveNet
bit name = record { name = name; width = 1 }

abbrev pub flick : Wave
flick = record {
  top = codes "flick";
  nets = bit (codes "clk") ∷ bit (codes "b_v") ∷ bit (codes "b_r") ∷ bit (codes "t") ∷ [];
  rows = (0 ∷ 0 ∷ 1 ∷ 0 ∷ []) ∷ (0 ∷ 1 ∷ 1 ∷ 1 ∷ []) ∷ [];
}

abbrev pub flick_lines : List (List ℕ)
flick_lines =
    codes "$timescale 1 ns $end" ∷ codes "$scope module flick $end" ∷ codes "$var wire 1 ! clk $end"
    ∷ codes "$var wire 1 \" b_v $end" ∷ codes "$var wire 1 # b_r $end" ∷ codes "$var wire 1 $ t $end" ∷ codes "$upscope $end"
    ∷ codes "$enddefinitions $end" ∷ codes "#0" ∷ codes "0!" ∷ codes "0\"" ∷ codes "1#" ∷ codes "0$" ∷ codes "#1" ∷ codes "1\""
    ∷ codes "1$" ∷ codes "#2" ∷ []

abbrev pub FlickIsWritten : Type 0
FlickIsWritten = wave_lines flick ≡ flick_lines
