-- What no reason against a file says of its instances.
use Rattle.std.proofs.Common.{◌≡◌, ℕ, List, [], ◌∷◌, ◌++◌, refl}
use Rattle.std.specs.List.{flat_map}
use Rattle.vlog_tree.specs.Tree.{FileOf}
use Rattle.flat_drive.specs.vlog_elab.declared.error.ElabError.{ElabError}
use Rattle.flat_drive.specs.vlog_elab.Instances.{ModuleInstance, instances}
use Rattle.flat_drive.specs.vlog_elab.Reasons as elab
use Rattle.flat_drive.specs.vlog_elab.Reasons.{instance_consts, instance_widths, word_findings, instance_findings, late_findings, size_findings}

left-none : (xs ys : List ElabError) → xs ++ ys ≡ [] → xs ≡ []
left-none [] ys e = refl
left-none (x ∷ xs) ys e = absurd (cc)

right-none : (xs ys : List ElabError) → xs ++ ys ≡ [] → ys ≡ []
right-none [] ys e = e
right-none (x ∷ xs) ys e = absurd (cc)

late-none : (file : FileOf ℕ) (name : List ℕ) → size_findings file name ≡ [] → late_findings file name (instances file name) ≡ []
unfolding size_findings
late-none file name e = right-none _ _ e

found-none : (file : FileOf ℕ) (name : List ℕ) (is : List ModuleInstance) → late_findings file name is ≡ [] → instance_findings is ≡ []
unfolding late_findings
found-none file name is e = left-none _ _ e

consts-in : (is : List ModuleInstance) → instance_findings is ≡ [] → flat_map instance_consts is ≡ []
unfolding instance_findings
consts-in is e = left-none _ _ e

widths-in : (is : List ModuleInstance) → instance_findings is ≡ [] → flat_map instance_widths is ≡ []
unfolding instance_findings
widths-in is e = left-none (flat_map instance_widths is) (word_findings is) (right-none (flat_map instance_consts is) _ e)

none-found : (file : FileOf ℕ) (name : List ℕ) → elab.Clear file name → instance_findings (instances file name) ≡ []
none-found file name (text, (nested, sizes)) = found-none file name (instances file name) (late-none file name sizes)

pub no-consts : (file : FileOf ℕ) (name : List ℕ) → elab.Clear file name → flat_map instance_consts (instances file name) ≡ []
no-consts file name clear = consts-in (instances file name) (none-found file name clear)

pub no-widths : (file : FileOf ℕ) (name : List ℕ) → elab.Clear file name → flat_map instance_widths (instances file name) ≡ []
no-widths file name clear = widths-in (instances file name) (none-found file name clear)
