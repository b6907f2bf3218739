-- A sample is made of its parts.
use Rattle.std.proofs.Common.{◌≡◌, ℕ, ◌+◌, ◌*◌, ◌%◌, List, ◌++◌, ap, ◌∙◌}
use Rattle.std.specs.Prelude.{codes, decimal}
use Rattle.std.specs.List.{flat_map, range_with_len}
use Rattle.sample_gen.specs.declared.files.Sample.{Sample}
use Rattle.sample_gen.specs.Design.{design}
use Rattle.sample_gen.specs.Sequence.{state, drawn}
use Rattle.sample_gen.specs.Sample.{stages, cycles, map_text, send_line, script, drain_line, stalls, sample}
use Rattle.sample_gen.proofs.Steps.{drawn_behind}

pub script_is : (n x : ℕ) (text : List ℕ) → x ≡ n
    → text ≡ codes "cycles " ++ decimal (100 + 8 * n) ++ codes "\n" ++ flat_map (λ i. send_line (drawn x i)) (range_with_len 1 n)
    ++ codes "b take all\n" → text ≡ script n
script_is n x text same is =
    is ∙ ap (λ y. codes "cycles " ++ decimal (100 + 8 * n) ++ codes "\n" ++ flat_map (λ i. send_line (drawn y i)) (range_with_len 1 n)
    ++ codes "b take all\n") same

pub stalls_is : (n x y : ℕ) (text : List ℕ) → x ≡ n → y ≡ state x n
    → text ≡ codes "capacity " ++ decimal (22 + n % 32) ++ codes "\n" ++ flat_map (λ i. drain_line (drawn y i)) (range_with_len 1 8)
    → text ≡ stalls n
stalls_is n x y text same goes is =
    is
    ∙ ap (λ z. codes "capacity " ++ decimal (22 + n % 32) ++ codes "\n" ++ flat_map (λ i. drain_line (drawn z i)) (range_with_len 1 8))
    (goes ∙ ap (λ z. state z n) same)
    ∙ ap (λ z. codes "capacity " ++ decimal (22 + n % 32) ++ codes "\n" ++ z) (drawn_behind drain_line n n 1 8)

abbrev made : ℕ → List ℕ → List ℕ → List ℕ → List ℕ → Sample
made n a b x y = record {
  design = a;
  map = b;
  script = x;
  stalls = y;
  stages = stages n;
  sends = n;
  cycles = cycles n;
}

pub sample_is : (n : ℕ) (a b x y : List ℕ) → a ≡ design (stages n) → b ≡ map_text → x ≡ script n → y ≡ stalls n → made n a b x y ≡ sample n
unfolding sample
sample_is n a b x y p q r s =
    ap (λ z. made n z b x y) p ∙ ap (λ z. made n (design (stages n)) z x y) q ∙ ap (λ z. made n (design (stages n)) map_text z y) r
    ∙ ap (λ z. made n (design (stages n)) map_text (script n) z) s
