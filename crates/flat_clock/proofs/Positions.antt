-- The ports of the code and as plain data.
use Rattle.std.proofs.Common.{◌≡◌, ℕ, zero, suc, ◌+◌, ◌<◌, ◌≤◌, List, [], ◌∷◌, map, length, get_or, refl, sym, ap, ◌∙◌, arith, cond}
use Rattle.std.proofs.Common.{position, Option, None, Some, slice_get, option_map}
use Rattle.std.specs.Borrow.{Bor}
use Rattle.std.proofs.lemmas.Option.{slice_get-map, slice_get_read}
use Rattle.std.specs.List.{position_from}
use Rattle.std.specs.Str.{bytes_eq}
use Rattle.std.proofs.lemmas.Iterator.Adapters.{position_from-zero}
use Rattle.vlog_tree.specs.Tree.{PortOf}
use Rattle.vlog_tree.specs.Plain.{plain_port}
use Rattle.vlog_tree.specs.declared.module.Port.{Port}
use Rattle.flat_parts.specs.vlog_hierarchy.Plain.{plain_path}
use Rattle.flat_clock.specs.Clock.{name_at, port_named}

same_from : (name : List ℕ) (f : ℕ) (ports : List Port)
    → position_from (λ (p : Port). bytes_eq name p.id.name) f ports
    ≡ position_from (λ (p : PortOf ℕ). bytes_eq name p.id.name) f (map plain_port ports)
same_from name f [] = refl
same_from name f (p ∷ ports) = ap (λ (o : Option ℕ). cond (bytes_eq name p.id.name) (Some f) o) (same_from name (f + 1) ports)

pub same_position : (name : List ℕ) (ports : List Port)
    → position (λ (p : Port). bytes_eq name p.id.name) ports ≡ position (λ (p : PortOf ℕ). bytes_eq name p.id.name) (map plain_port ports)
same_position name ports =
    position_from-zero (λ (p : Port). bytes_eq name p.id.name) ports
    ∙ (same_from name 0 ports ∙ sym (position_from-zero (λ (p : PortOf ℕ). bytes_eq name p.id.name) (map plain_port ports)))

abbrev text : Bor (List ℕ) → List ℕ
text name = name.now

name_got : (names : List (Bor (List ℕ))) (k : ℕ) (x : Bor (List ℕ)) → k < length names → x ≡ get_or names k x
    → slice_get (plain_path names) k ≡ Some x.now
name_got names k x within at =
    slice_get-map text names k ∙ ap (option_map text) (slice_get_read names (length names) k x refl within at)

no_name : (names : List (Bor (List ℕ))) (k : ℕ) → length names ≤ k → slice_get names k ≡ None
no_name [] k past = refl
no_name (x ∷ names) zero past = absurd (omega (arith, past))
no_name (x ∷ names) (suc k) past = no_name names k (omega (arith, past))

-- the port of the name that is there
pub port_there : (ports : List Port) (names : List (Bor (List ℕ))) (place : Option ℕ) (k : ℕ) (x : Bor (List ℕ)) (bytes : List ℕ)
    (result : Option ℕ) → place ≡ Some k → k < length names → x ≡ get_or names k x → bytes ≡ x.now
    → result ≡ position (λ (p : Port). bytes_eq bytes p.id.name) ports
    → result ≡ port_named (map plain_port ports) (name_at (plain_path names) place)
port_there ports names place k x bytes result is within at same found =
    found
    ∙ (ap (λ (b : List ℕ). position (λ (p : Port). bytes_eq b p.id.name) ports) same
    ∙ (same_position x.now ports
    ∙ sym (ap (λ (o : Option ℕ). port_named (map plain_port ports) (name_at (plain_path names) o)) is
    ∙ ap (port_named (map plain_port ports)) (name_got names k x within at))))

pub no_port_there : (ports : List Port) (names : List (Bor (List ℕ))) (place : Option ℕ) (k : ℕ) → place ≡ Some k → length names ≤ k
    → None ≡ port_named (map plain_port ports) (name_at (plain_path names) place)
no_port_there ports names place k is past =
    sym (ap (λ (o : Option ℕ). port_named (map plain_port ports) (name_at (plain_path names) o)) is
    ∙ ap (port_named (map plain_port ports)) (slice_get-map text names k ∙ ap (option_map text) (no_name names k past)))
