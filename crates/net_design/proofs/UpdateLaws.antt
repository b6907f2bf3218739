-- Updates, made one list after another.
use Rattle.std.proofs.Common.{◌≡◌, ℕ, suc, ◌+◌, ◌<◌, List, [], ◌∷◌, ◌++◌, length, get_or, drop, refl, ap, sym, ◌∙◌, add-one, append_assoc}
use Rattle.std.specs.List.{flat_map}
use Rattle.std.proofs.Math.Seq.{drop-cons}
use Rattle.net_design.specs.declared.act.Code.{Code}
use Rattle.net_design.specs.declared.act.Timing.{Timing}
use Rattle.net_design.specs.declared.act.Timing.TheVariants.{Blocking, Nonblocking}
use Rattle.net_design.specs.declared.act.Act.{Act}
use Rattle.net_design.specs.declared.values.Update.{Update}
use Rattle.net_design.specs.declared.values.Values.{Values}
use Rattle.net_design.specs.Updates.{apply, updates, block_updates, seen, written_to}

pub apply_both : (us ws : List Update) (v : Values) → apply (us ++ ws) v ≡ apply ws (apply us v)
apply_both [] ws v = refl
apply_both (u ∷ us) ws v = apply_both us ws (written_to u.target u v)

pub from_here : {X : Type 0} (xs : List X) (k : ℕ) (x : X) → k < length xs → x ≡ get_or xs k x → drop k xs ≡ x ∷ drop (k + 1) xs
from_here xs k x l e = rw add-one (drop-cons xs k x l ∙ ap (λ y. y ∷ drop (suc k) xs) (sym e))

-- one more clocked block
pub blocks_step : (blocks : List Code) (k : ℕ) (c : Code) (us : List Update) (v s t : Values) → k < length blocks → c ≡ get_or blocks k c
    → us ≡ block_updates Nonblocking c.acts v → t ≡ apply us s
    → apply (flat_map (λ (x : Code). block_updates Nonblocking x.acts v) (drop (k + 1) blocks)) t ≡ apply
    (flat_map (λ (x : Code). block_updates Nonblocking x.acts v) (drop k blocks)) s
blocks_step blocks k c us v s t l e same after =
    let f : Code → List Update = λ x. block_updates Nonblocking x.acts v in
    ap (λ y. apply (flat_map f (drop (k + 1) blocks)) y) after
    ∙ sym (apply_both us (flat_map f (drop (k + 1) blocks)) s)
    ∙ ap (λ ws. apply (ws ++ flat_map f (drop (k + 1) blocks)) s) same
    ∙ ap (λ bs. apply (flat_map f bs) s) (sym (from_here blocks k c l e))

seen_nothing : (t : Timing) (v : Values) → seen t [] v ≡ v
seen_nothing Blocking v = refl
seen_nothing Nonblocking v = refl

pub seen_both : (t : Timing) (us ws : List Update) (v : Values) → seen t (us ++ ws) v ≡ seen t ws (seen t us v)
seen_both Blocking us ws v = apply_both us ws v
seen_both Nonblocking us ws v = refl

-- the updates of two lists of statements are those of the first, then of the second, which sees what the first made
pub two_blocks : (t : Timing) (xs ys : List Act) (v : Values) → block_updates t (xs ++ ys) v ≡ block_updates t xs v ++ block_updates t ys
    (seen t (block_updates t xs v) v)
two_blocks t [] ys v = sym (ap (λ u. block_updates t ys u) (seen_nothing t v))
two_blocks t (a ∷ xs) ys v =
    let us : List Update = updates t a v in
    ap (λ ws. us ++ ws) (two_blocks t xs ys (seen t us v))
    ∙ sym (append_assoc us (block_updates t xs (seen t us v))
    (block_updates t ys (seen t (block_updates t xs (seen t us v)) (seen t us v))))
    ∙ ap (λ u. us ++ block_updates t xs (seen t us v) ++ block_updates t ys u) (sym (seen_both t us (block_updates t xs (seen t us v)) v))
