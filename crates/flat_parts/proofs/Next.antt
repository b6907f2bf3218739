-- The next state of the design is the file's.
use Rattle.std.proofs.Common.{◌≡◌, ℕ, List, length, refl, ap, sym, ◌∙◌}
use Rattle.std.specs.List.{Contains}
use Rattle.vlog_tree.specs.Tree.{ModuleOf}
use Rattle.vlog_elab.specs.vlog_size.declared.scope.Scope.{Scope}
use Rattle.net_design.specs.declared.design.Design.{Design}
use Rattle.net_design.specs.declared.values.Values.{Values}
use Rattle.net_design.specs.Updates.{apply}
use Rattle.net_design.specs.Settled.{clocked, next}
use Rattle.net_design.proofs.StateLaws.{applied_long}
use Rattle.vlog_elab.specs.Instances.{ModuleInstance, instances}
use Rattle.vlog_driver.specs.Names.{Full, State, numbers_at}
use Rattle.vlog_driver.specs.Next.{clocked_updates, IsNext}
use Rattle.flat_parts.specs.Seats.{seats_of}
use Rattle.flat_parts.specs.Built.{IsBuilt}
use Rattle.flat_parts.specs.Meaning.{values_of, state_of}
use Rattle.flat_parts.specs.Laws.{InstancesAreAll, BuiltNumbers, SeatsStand, numbers_of}
use Rattle.flat_parts.specs.Next.{NextAlike}
use Rattle.flat_parts.proofs.Joined.{of_each, each_of, parts_joined, parts_same}
use Rattle.flat_parts.proofs.Applied.{all_parts, made, all_made}
use Rattle.flat_parts.proofs.Clocked.{own_part, own_parts, nets_long, words_as_many, own_updates, updates_in, clocked_there}
use Rattle.flat_parts.proofs.Instances.{of_listed}

pub values_same : (v w : Values) → v.nets ≡ w.nets → v.words ≡ w.words → v ≡ w
values_same v w h g = ap (λ ns. record { nets = ns; words = v.words }) h ∙ ap (λ ws. record { nets = w.nets; words = ws }) g

-- the lists of all instances are the same exactly where those of each are
module _ (f g : ModuleInstance → Values) (nets : (i : ModuleInstance) → length (f i).nets ≡ length (g i).nets)
    (words : (i : ModuleInstance) → length (f i).words ≡ length (g i).words) (is : List ModuleInstance) where
  pub each_same : all_parts f is ≡ all_parts g is → (i : ModuleInstance) → Contains is i → f i ≡ g i
  each_same h i c =
      values_same (f i) (g i)
      (of_each (λ j. (f j).nets ≡ (g j).nets) is
      (parts_same (λ j. (f j).nets) (λ j. (g j).nets) nets is (ap (λ (v : Values). v.nets) h)) i c)
      (of_each (λ j. (f j).words ≡ (g j).words) is
      (parts_same (λ j. (f j).words) (λ j. (g j).words) words is (ap (λ (v : Values). v.words) h)) i c)

  pub all_same : ((i : ModuleInstance) → Contains is i → f i ≡ g i) → all_parts f is ≡ all_parts g is
  all_same h =
      values_same (all_parts f is) (all_parts g is)
      (parts_joined (λ j. (f j).nets) (λ j. (g j).nets) is
      (each_of (λ j. (f j).nets ≡ (g j).nets) is (λ j c. ap (λ (v : Values). v.nets) (h j c))))
      (parts_joined (λ j. (f j).words) (λ j. (g j).words) is
      (each_of (λ j. (f j).words ≡ (g j).words) is (λ j c. ap (λ (v : Values). v.words) (h j c))))

-- what the clocked blocks make of an instance's part
abbrev next_part : State → (Full → ℕ) → ModuleInstance → Values
next_part s v i = made (own_updates v s.words) (own_part s.nets s.words) i

abbrev after_part : State → ModuleInstance → Values
after_part after i = own_part after.nets after.words i

module _ (modules : List (ModuleOf ℕ)) (top : ModuleOf ℕ) (is : List ModuleInstance) (d : Design) (numbers : BuiltNumbers)
    (stand : SeatsStand) (built : IsBuilt modules top is d) (s after : State) (v : Full → ℕ) where
  next_made : next d (values_of d v s.words) (state_of d s) ≡ all_parts (next_part s v) is
  unfolding seats_of
  next_made =
      ap (λ w. apply (clocked d w) (state_of d s)) (numbers modules top is d built v s.words)
      ∙ ap (λ w. apply (clocked d (numbers_of v s.words is)) w) (numbers modules top is d built s.nets s.words)
      ∙ ap (λ us. apply us (numbers_of s.nets s.words is)) (clocked_there v s.words is stand d.blocks built.blocks)
      ∙ all_made (own_updates v s.words) (updates_in v s.words) (own_part s.nets s.words) (own_parts s.nets s.words) is

  after_made : state_of d after ≡ all_parts (after_part after) is
  after_made = numbers modules top is d built after.nets after.words

  nets_as_many : (i : ModuleInstance) → length (next_part s v i).nets ≡ length (after_part after i).nets
  nets_as_many i =
      (applied_long (own_updates v s.words i) (own_part s.nets s.words i)).0 ∙ nets_long s.nets s.words i
      ∙ sym (nets_long after.nets after.words i)

  words_alike : (i : ModuleInstance) → length (next_part s v i).words ≡ length (after_part after i).words
  words_alike i =
      (applied_long (own_updates v s.words i) (own_part s.nets s.words i)).1 ∙ words_as_many s.nets s.words i
      ∙ sym (words_as_many after.nets after.words i)

  each_next : next d (values_of d v s.words) (state_of d s) ≡ state_of d after
      → (i : ModuleInstance) → Contains is i → next_part s v i ≡ after_part after i
  each_next h =
      each_same (next_part s v) (after_part after) nets_as_many words_alike is (sym next_made ∙ h ∙ after_made)

  all_next : ((i : ModuleInstance) → Contains is i → next_part s v i ≡ after_part after i)
      → next d (values_of d v s.words) (state_of d s) ≡ state_of d after
  all_next h =
      next_made ∙ all_same (next_part s v) (after_part after) nets_as_many words_alike is h ∙ sym after_made

-- the equation of an instance
abbrev IsNextAt : State → State → (Full → ℕ) → Full → ModuleOf ℕ → Scope → Type 0
IsNextAt s after v path m c =
    numbers_at after.nets after.words path c
    ≡ apply (clocked_updates m c (numbers_at v s.words path c)) (numbers_at s.nets s.words path c)

pub next_alike : InstancesAreAll → BuiltNumbers → SeatsStand → NextAlike
next_alike all numbers stand file name top d clear is_top built s after v =
    let is : List ModuleInstance = instances file name in (
      (λ (h : next d (values_of d v s.words) (state_of d s) ≡ state_of d after). record {
        instances = λ path m c at.
            of_listed (IsNextAt s after v) is
            (λ i here. sym (each_next file.modules top is d numbers stand built s after v h i here)) path m c
            ((all file name top clear is_top path m c).1 at);
      }),
      (λ (h : IsNext file.modules top s v after).
          all_next file.modules top is d numbers stand built s after v
          (λ i here. sym (h.instances i.path i.tree i.scope
          ((all file name top clear is_top i.path i.tree i.scope).0 (i, here, refl, refl, refl))))),
    )
