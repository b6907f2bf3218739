-- How much the design of a file has.
use Rattle.std.proofs.Common.{◌≡◌, ℕ, suc, ◌+◌, List, [], ◌∷◌, ◌++◌, length, refl, sym, ap, ◌∙◌, arith, length-append}
use Rattle.std.proofs.Common.{Result, Ok, Err}
use Rattle.std.proofs.lemmas.List.{length-map}
use Rattle.std.specs.Prelude.{IfOk}
use Rattle.std.specs.List.{AllZip, sum_by}
use Rattle.vlog_tree.specs.Tree.{FileOf}
use Rattle.flat_drive.specs.vlog_elab.Instances.{ModuleInstance, instances}
use Rattle.flat_drive.specs.vlog_elab.Reasons.{word_total}
use Rattle.net_design.specs.declared.design.Instance.{Instance}
use Rattle.net_design.specs.declared.design.DesignMemory.{DesignMemory}
use Rattle.net_design.specs.declared.design.Design.{Design}
use Rattle.net_design.specs.Names.{list_at, paths_after, paths}
use Rattle.net_design.specs.Settled.{word_count}
use Rattle.net_design.specs.Lawful.{counts}
use Rattle.flat_drivers.specs.Duties.{Does}
use Rattle.flat_drive.specs.flat_parts.Seats.{seats_of}
use Rattle.flat_drive.specs.flat_parts.Drivers.{all_duties, all_blocks, IsBlockOf}
use Rattle.flat_layout.specs.Laws.{NetsAreCounted, WordsAreCounted}
use Rattle.vlog_design.specs.Design.{IsDesignOf, counts_of, file_counts}

length-after : (known : List (List (List ℕ))) (rest : List Instance) → length (paths_after known rest) ≡ length known + length rest
length-after known [] = omega arith
length-after known (i ∷ rest) =
    let more = known ++ (list_at known i.parent ++ i.name ∷ []) ∷ [] in
    let behind : length (paths_after more rest) ≡ length more + length rest = length-after more rest in
    let one : length more ≡ length known + 1 = length-append known ((list_at known i.parent ++ i.name ∷ []) ∷ []) in
    omega (arith, behind, one)

length-paths : (xs : List Instance) → length (paths xs) ≡ length xs
length-paths [] = refl
length-paths (top ∷ rest) = let l : length (paths_after ([] ∷ []) rest) ≡ 1 + length rest = length-after ([] ∷ []) rest in omega (arith, l)

length-zip : {A B : Type 0} (R : A → B → Type 0) (xs : List A) (ys : List B) → AllZip R xs ys → length ys ≡ length xs
length-zip R [] [] zip = refl
length-zip R (x ∷ xs) (y ∷ ys) (r, rest) = ap suc (length-zip R xs ys rest)
length-zip R [] (y ∷ ys) zip = absurd zip
length-zip R (x ∷ xs) [] zip = absurd zip

counted-of : NetsAreCounted → WordsAreCounted → (file : FileOf ℕ) (name : List ℕ) (d : Design) → IsDesignOf file name d
    → counts d ≡ counts_of (instances file name) (seats_of (instances file name))
counted-of nets words file name d of =
    let is = instances file name in
    let a : length d.instances ≡ length is =
    sym (length-paths d.instances) ∙ (ap (λ (ps : List (List (List ℕ))). length ps) of.built.paths
    ∙ length-map is (λ (i : ModuleInstance). i.path)) in
    let b : length d.nets ≡ sum_by (λ (i : ModuleInstance). length i.scope.nets) is =
    ap (λ ns. length ns) of.built.nets ∙ nets is in
    let e : length d.drivers ≡ length (all_duties (seats_of is)) = length-zip Does (all_duties (seats_of is)) d.drivers of.built.drivers in
    let f : length d.blocks ≡ length (all_blocks (seats_of is)) =
    length-zip IsBlockOf (all_blocks (seats_of is)) d.blocks of.built.blocks in
    let g : word_count d ≡ word_total is =
    ap (λ (ms : List DesignMemory). sum_by (λ (m : DesignMemory). m.room.length) ms) of.built.memories ∙ words is in
    λ i. record { instances = a i; nets = b i; drivers = e i; blocks = f i; words = g i }

pub counted : NetsAreCounted → WordsAreCounted → (file : FileOf ℕ) (name : List ℕ) (d : Design) → IsDesignOf file name d
    → counts d ≡ file_counts file name
unfolding file_counts
counted nets words file name d of = counted-of nets words file name d of

pub counted-ok : {E : Type 0} → NetsAreCounted → WordsAreCounted → (file : FileOf ℕ) (name : List ℕ) (r : Result Design E)
    → IfOk r (IsDesignOf file name) → IfOk r (λ d. counts d ≡ file_counts file name)
counted-ok nets words file name (Ok d) of = counted nets words file name d of
counted-ok nets words file name (Err e) of = tt
