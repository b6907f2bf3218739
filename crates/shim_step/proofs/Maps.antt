-- Each list of a design is the list of a map.
use Rattle.std.proofs.Common.{◌≡◌, ℕ, ◌+◌, ◌≤◌, List, [], ◌∷◌, ◌++◌, map, length, get_or, take, drop}
use Rattle.std.proofs.Common.{refl, sym, ap, ◌∙◌, arith, take-append-drop, length-take-le, length-drop}
use Rattle.std.specs.List.{flat_map, sum_by}
use Rattle.std.proofs.lemmas.List.{length-map}
use Rattle.std.proofs.lemmas.List.Sums.{sum_by-cons}
use Rattle.net_design.specs.declared.design.DesignMemory.{DesignMemory}
use Rattle.net_design.specs.Names.{net_names, list_at, paths}
use Rattle.flat_parts.specs.vlog_driver.Names.{Full, words_from}
use Rattle.flat_parts.specs.Meaning.{memory_words}
use Rattle.shim_step.specs.Maps.{memory_names, ListsAreMaps}
use Rattle.shim_step.proofs.Beside.{beside, all_beside, pieces, pieces_long, words_are}
use Rattle.shim_step.proofs.Elements.{distinct_from}

abbrev len : DesignMemory → ℕ
len a = a.room.length

abbrev lens : List DesignMemory → List ℕ
lens ms = map len ms

long : (n : ℕ) (ws : List ℕ) → n ≤ length ws → length (take n ws) ≡ n
long n ws h = length-take-le n ws h

start : (i : ℕ) → 0 + i ≡ i
start i = omega arith

map_map : {A B C : Type 0} (f : B → C) (g : A → B) (xs : List A) → map f (map g xs) ≡ map (λ x. f (g x)) xs
map_map f g [] = refl
map_map f g (x ∷ xs) = ap (λ ys. f (g x) ∷ ys) (map_map f g xs)

-- where each memory has its piece, the memories have the words
all_words : (g : DesignMemory → List ℕ) (ms : List DesignMemory) (ws : List ℕ) → length ws ≡ sum_by len ms
    → map g ms ≡ pieces (lens ms) ws
    → flat_map (λ (a : DesignMemory). words_from (λ k. get_or (g a) k 0) 0 (len a)) ms ≡ ws
all_words g [] [] l e = refl
all_words g [] (w ∷ ws) l e = absurd (omega (arith, l))
all_words g (a ∷ ms) ws l e =
    let first : g a ≡ take (len a) ws = cc in
    let rest : map g ms ≡ pieces (lens ms) (drop (len a) ws) = cc in
    let sum : sum_by len (a ∷ ms) ≡ len a + sum_by len ms = sum_by-cons len a ms in
    let enough : len a ≤ length ws = omega (arith, l, sum) in
    let n : length (take (len a) ws) ≡ len a = long (len a) ws enough in
    let here : words_from (λ k. get_or (g a) k 0) 0 (len a) ≡ take (len a) ws =
    ap (λ z. words_from (λ k. get_or (g a) k 0) 0 z) (sym n)
    ∙ words_are (take (len a) ws) (λ k. get_or (g a) k 0) 0
    (λ i less. ap (λ z. get_or (g a) z 0) (start i) ∙ ap (λ z. get_or z i 0) first) in
    let left : length (drop (len a) ws) ≡ sum_by len ms = (let d = length-drop (len a) ws in omega (arith, l, sum, d)) in
    ap (λ z. z ++ flat_map (λ (b : DesignMemory). words_from (λ k. get_or (g b) k 0) 0 (len b)) ms) here
    ∙ ap (λ z. take (len a) ws ++ z) (all_words g ms (drop (len a) ws) left rest)
    ∙ take-append-drop (len a) ws

pub lists_are_maps : ListsAreMaps
lists_are_maps d v apart memories_apart nets_long words_long =
    let names : List Full = net_names d in
    let memories : List Full = memory_names d in
    let parts : List (List ℕ) = pieces (lens d.memories) v.words in
    let nets_are : map (beside 0 names v.nets) names ≡ v.nets =
    all_beside 0 names v.nets (distinct_from names apart) (nets_long ∙ sym (length-map d.nets _)) in
    let parts_are : map (beside [] memories parts) memories ≡ parts =
    all_beside [] memories parts (distinct_from memories memories_apart)
    (pieces_long (lens d.memories) v.words ∙ length-map d.memories len ∙ sym (length-map d.memories _)) in
    record {
      nets = beside 0 names v.nets;
      words = λ full k. get_or (beside [] memories parts full) k 0;
      is =
          (let full : DesignMemory → Full = λ (a : DesignMemory). list_at (paths d.instances) a.instance ++ a.name ∷ [] in
          let words_are' : flat_map (memory_words d (λ f k. get_or (beside [] memories parts f) k 0)) d.memories ≡ v.words =
          all_words (λ a. beside [] memories parts (full a)) d.memories v.words words_long
          (sym (map_map (beside [] memories parts) full d.memories) ∙ parts_are) in
          λ i. record { nets = nets_are i; words = words_are' i });
    }
