use Rattle.std.proofs.Common.{◌≡◌, ◌-◌, ◌++◌, ℕ, List, ap, ◌∙◌, string_bytes}
use Rattle.std.specs.Prelude.{codes}
use Rattle.std.specs.Global.{Vec}
use Rattle.std.specs.List.{flat_map, range_with_len}
use Rattle.sample_gen.specs.Design.{pass, pipe_header, wires, stage}
use Rattle.sample_gen.proofs.Steps.{two}
use Rattle.sample_gen.proofs.design.design.Goals as goal

pub returns : goal.returns
returns c =
    let stages : ℕ = c.args.stages in
    let first : List ℕ = string_bytes c.push_str.new.self in
    let second : List ℕ = string_bytes c.push_str-2.new.self in
    let third : List ℕ = string_bytes c.put_all_wires.new.text in
    let fourth : List ℕ = string_bytes c.put_stages.new.text in
    let last : List ℕ = string_bytes c.push_str-3.new.self in
    let w : List ℕ = flat_map wires (range_with_len 1 (stages - 1)) in
    let u : List ℕ = flat_map (stage stages) (range_with_len 0 stages) in
    let end' : List ℕ = codes "endmodule\n" in
    let begins : first ≡ pass = c.in_ok-push_str.ensures.bytes ∙ ap (λ x. x ++ pass) c.new-text.ensures.bytes in
    c.from_vec.ensures ∙ ap (λ (v : Vec ℕ). v.items) c.into_bytes.ensures.value
    ∙ two first second last pipe_header (w ++ (u ++ end')) c.in_ok-push_str-2.ensures.bytes
    (two second third last w (u ++ end') c.in_ok-put_all_wires.ensures
    (two third fourth last u end' c.in_ok-put_stages.ensures c.in_ok-push_str-3.ensures.bytes))
    ∙ ap (λ x. x ++ (pipe_header ++ (w ++ (u ++ end')))) begins
