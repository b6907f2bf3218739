-- A port or a parameter at which something is found, behind those in which nothing is.
use Rattle.std.proofs.Common.{◌≡◌, ℕ, ◌<◌, suc, List, ◌∷◌, length, drop, map, get_or, drop-cons, Some, ap, sym, ◌∙◌}
use Rattle.vlog_size.proofs.vidi_bits_lemmas.FindingLaws.{first_more}
use Rattle.vlog_size.specs.vidi_bits.Findings.{first}
use Rattle.vlog_tree.specs.declared.module.Port.{Port}
use Rattle.vlog_tree.specs.declared.module.Parameter.{Parameter}
use Rattle.vlog_tree.specs.Plain.{plain_port, plain_parameter}
use Rattle.vlog_size.specs.declared.error.SizeError.{SizeError}
use Rattle.vlog_size.specs.declared.scope.Scope.{Scope}
use Rattle.vlog_size.specs.Names.{Readable}
use Rattle.vlog_scope.specs.declared.fault.FaultKind.{FaultKind}
use Rattle.vlog_scope.specs.declared.extent.Extent.{Extent}
use Rattle.vlog_scope.specs.Extents.{port_extent, parameter_extent}
use Rattle.vlog_scope.specs.Scope.{readable_at}
use Rattle.vlog_scope.specs.Faults.{port_faults, ports_faults, parameter_faults, parameters_faults}

split : {A : Type 0} → (xs : List A) (i : ℕ) (x : A) → i < length xs → x ≡ get_or xs i x → drop i xs ≡ x ∷ drop (suc i) xs
split xs i x within is = drop-cons xs i x within ∙ ap (λ y. y ∷ drop (suc i) xs) (sym is)

pub port_refused : (kind : FaultKind) (r : Readable) (x y : Extent) (ps : List Port) (i : ℕ) (p : Port) (e : SizeError)
    (all : List SizeError) → i < length ps → p ≡ get_or ps i p
    → y ≡ port_extent r x (plain_port p).head → first (port_faults kind r y (plain_port p)) ≡ Some e
    → ports_faults kind r x (map plain_port (drop i ps)) ≡ all → first all ≡ Some e
port_refused kind r x y ps i p e all within is ranged h whole =
    ap first (sym whole)
    ∙ (ap (λ l. first (ports_faults kind r x (map plain_port l))) (split ps i p within is)
    ∙ first_more (port_faults kind r (port_extent r x (plain_port p).head) (plain_port p)) _ e
    (ap (λ z. first (port_faults kind r z (plain_port p))) (sym ranged) ∙ h))

pub parameter_refused : (kind : FaultKind) (s : Scope) (k : ℕ) (r : Readable) (x y : Extent) (ps : List Parameter) (i : ℕ) (p : Parameter)
    (e : SizeError) (all : List SizeError) → i < length ps → p ≡ get_or ps i p → r ≡ readable_at s k
    → y ≡ parameter_extent r x (plain_parameter p).head → first (parameter_faults kind r y (plain_parameter p)) ≡ Some e
    → parameters_faults kind s k x (map plain_parameter (drop i ps)) ≡ all → first all ≡ Some e
parameter_refused kind s k r x y ps i p e all within is here ranged h whole =
    ap first (sym whole)
    ∙ (ap (λ l. first (parameters_faults kind s k x (map plain_parameter l))) (split ps i p within is)
    ∙ first_more
    (parameter_faults kind (readable_at s k) (parameter_extent (readable_at s k) x (plain_parameter p).head) (plain_parameter p)) _ e
    (ap (λ q. first (parameter_faults kind q (parameter_extent q x (plain_parameter p).head) (plain_parameter p))) (sym here)
    ∙ (ap (λ z. first (parameter_faults kind r z (plain_parameter p))) (sym ranged) ∙ h)))
