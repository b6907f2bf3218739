-- A finding as an answer.
use Rattle.std.proofs.Common.{◌≡◌, List, [], ◌∷◌, map, None, Some, refl, sym, ap, subst, ◌∙◌}
use Rattle.std.proofs.lemmas.Option.{same_Some}
use Rattle.flat_parts.specs.vidi_bits.Findings.{first}
use Rattle.net_design.specs.declared.act.Code.{Code}
use Rattle.net_design.specs.declared.design.Driver.{Driver}
use Rattle.net_design.specs.declared.design.Net.{Net}
use Rattle.net_design.specs.declared.design.DesignMemory.{DesignMemory}
use Rattle.flat_parts.specs.net_drive.declared.findings.NetKind.{NetKind}
use Rattle.flat_parts.specs.net_drive.declared.findings.Misdriven.{Misdriven}
use Rattle.flat_parts.specs.net_drive.declared.findings.Misdriven.TheVariants as what
use Rattle.flat_parts.specs.net_drive.Drive.{drive_faults}
use Rattle.flat_parts.specs.vlog_elab.declared.error.ElabError.{ElabError}
use Rattle.flat_parts.specs.vlog_elab.Instances.{ModuleInstance}
use Rattle.flat_parts.specs.vidi_bits.Findings.{IsFirst}
use Rattle.flat_parts.specs.vlog_elab.Told.{elab_told}
use Rattle.flat_parts.specs.Seats.{seats_of}
use Rattle.flat_parts.specs.Nets.{flat_nets, flat_memories}
use Rattle.flat_drive.specs.Kinds.{flat_kinds}
use Rattle.flat_drive.specs.Reasons.{error_of, flat_findings}

same_findings : (is : List ModuleInstance) (nets : List Net) (kinds : List NetKind) (memories : List DesignMemory)
    (drivers : List Driver) (blocks : List Code) → nets ≡ flat_nets (seats_of is) → kinds ≡ flat_kinds (seats_of is)
    → memories ≡ flat_memories (seats_of is)
    → map (error_of is) (drive_faults nets kinds memories drivers blocks) ≡ flat_findings is drivers blocks
unfolding flat_findings
same_findings is nets kinds memories drivers blocks n k m =
    ap (λ (ns : List Net). map (error_of is) (drive_faults ns kinds memories drivers blocks)) n
    ∙ ap (λ (ks : List NetKind). map (error_of is) (drive_faults (flat_nets (seats_of is)) ks memories drivers blocks)) k
    ∙ ap (λ (ms : List DesignMemory).
    map (error_of is) (drive_faults (flat_nets (seats_of is)) (flat_kinds (seats_of is)) ms drivers blocks)) m

mapped : {A B : Type 0} (f : A → B) (xs : List A) (x : A) → Some x ≡ first xs → first (map f xs) ≡ Some (f x)
mapped f [] x e = absurd cc
mapped f (y ∷ ys) x e = ap (λ z. Some (f z)) (sym (same_Some x y e))

first_is : (is : List ModuleInstance) (x : Misdriven) (fs : List ElabError) → first fs ≡ Some (error_of is x) → IsFirst elab_told fs (error_of is x)
first_is is (what.Net m bit n) fs e = e
first_is is (what.Memory i n) fs e = e

none_mapped : {A B : Type 0} (f : A → B) (xs : List A) → None ≡ first xs → map f xs ≡ []
none_mapped f [] e = refl
none_mapped f (y ∷ ys) e = absurd cc

module _ (is : List ModuleInstance) (nets : List Net) (kinds : List NetKind) (memories : List DesignMemory) (drivers : List Driver)
    (blocks : List Code) (n : nets ≡ flat_nets (seats_of is)) (k : kinds ≡ flat_kinds (seats_of is))
    (m : memories ≡ flat_memories (seats_of is)) where
  pub found : (x : Misdriven) (error : ElabError) → Some x ≡ first (drive_faults nets kinds memories drivers blocks)
      → error ≡ error_of is x → IsFirst elab_told (flat_findings is drivers blocks) error
  found x error e h =
      subst (λ (y : ElabError). IsFirst elab_told (flat_findings is drivers blocks) y) (sym h)
      (first_is is x (flat_findings is drivers blocks) (sym (ap first (same_findings is nets kinds memories drivers blocks n k m))
      ∙ mapped (error_of is) (drive_faults nets kinds memories drivers blocks) x e))

  pub not_found : None ≡ first (drive_faults nets kinds memories drivers blocks) → flat_findings is drivers blocks ≡ []
  not_found e = sym (same_findings is nets kinds memories drivers blocks n k m)
      ∙ none_mapped (error_of is) (drive_faults nets kinds memories drivers blocks) e
