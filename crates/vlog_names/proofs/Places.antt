-- What the module at a place of a file declares.
use Rattle.std.proofs.Common.{◌≡◌, ℕ, ◌<◌, List, map, length, get_or, Option, None, Some, slice_get, refl, ap, ◌∙◌}
use Rattle.std.specs.Option.{option_map}
use Rattle.std.proofs.lemmas.Option.{slice_get-map, slice_get_read}
use Rattle.vlog_tree.specs.declared.module.Module.{Module}
use Rattle.vlog_tree.specs.Plain.{plain_module}
use Rattle.vlog_tree.specs.Tree.{ModuleOf}
use Rattle.vlog_size.specs.Table.{Named}
use Rattle.vlog_names.specs.Entries.{Names, declared, module_entry}

abbrev value_in : Named Names → Names
value_in x = x.value

both : (o : Option (ModuleOf ℕ)) → option_map value_in (option_map module_entry o) ≡ option_map declared o
both None = refl
both (Some m) = refl

pub declared_at : (ms : List (ModuleOf ℕ)) (modules : List (Named Names)) (k : ℕ) → modules ≡ map module_entry ms
    → slice_get (map (λ (x : Named Names). x.value) modules) k ≡ option_map declared (slice_get ms k)
declared_at ms modules k is =
    ap (λ l. slice_get (map value_in l) k) is
    ∙ (slice_get-map value_in (map module_entry ms) k
    ∙ (ap (option_map value_in) (slice_get-map module_entry ms k) ∙ both (slice_get ms k)))

same : (a b : Names) → Some a ≡ Some b → a ≡ b
same a b h = (cc)

-- what is found at the place of a module is what that module declares
pub declares : (all : List Module) (k : ℕ) (m : Module) (names : Names) → k < length all → m ≡ get_or all k m
    → Some names ≡ option_map declared (slice_get (map plain_module all) k) → names ≡ declared (plain_module m)
declares all k m names within is found =
    let there : slice_get all k ≡ Some m = slice_get_read all (length all) k m refl within is in
    same names (declared (plain_module m))
    (found ∙ ap (option_map declared) (slice_get-map plain_module all k ∙ ap (option_map plain_module) there))
