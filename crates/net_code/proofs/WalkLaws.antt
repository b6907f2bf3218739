-- Statements walked over one after the other, and the arms of a choice.
use Rattle.std.proofs.Common.{◌≡◌, ℕ, ◌+◌, ◌<◌, ◌&&◌, ◌||◌, not, Bool, true, false, List, [], ◌∷◌, ◌++◌, length, get_or, take, drop, refl}
use Rattle.std.proofs.Common.{ap, sym, subst, ◌∙◌}
use Rattle.std.proofs.lemmas.List.{take_more, drop_more}
use Rattle.std.proofs.lemmas.List.Folds.{list_any-append}
use Rattle.std.proofs.Math.Bool.{or_assoc}
use Rattle.net_code.proofs.MaskLaws.{same_sets}
use Rattle.net_design.proofs.vidi_bits_lemmas.Bools.{or_none, and_true, and_assoc}
use Rattle.net_design.specs.Sized.{AreSizedGuards}
use Rattle.net_design.specs.declared.act.Act.{Act}
use Rattle.net_design.specs.declared.act.Code.{Code}
use Rattle.net_design.specs.declared.act.Guard.{Guard}
use Rattle.net_design.specs.declared.act.Mask.{Mask}
use Rattle.net_design.specs.declared.act.Timing.{Timing}
use Rattle.net_design.specs.declared.act.Timing.TheVariants.{Blocking, Nonblocking}
use Rattle.net_code.specs.declared.code_bits.Found.{Found}
use Rattle.net_design.specs.Bits.{BitSet, no_bits, named, reads, writes, adds, known_after, open_reads, block_writes, block_adds}
use Rattle.net_design.specs.Bits.{block_open_reads, HasBits}
use Rattle.net_code.specs.BitMap.{in_map}
use Rattle.net_code.specs.Found.{Learns, Walks, WalksChoice, Arm, AfterArms, learned, guard_writes, guard_adds, guard_reads}
use Rattle.net_code.proofs.FoundLaws.{or_fresh, LearnsRest, rest_step, rest_done}

known_is : (t : Timing) (s p : BitSet) (m k : ℕ) → known_after t s p m k ≡ (s m k || learned t p m k)
known_is Blocking s p m k = refl
known_is Nonblocking s p m k = or_none (s m k)

-- ---- a list of statements
learned_both : (t : Timing) (p q : BitSet) (m k : ℕ) → learned t (λ x y. p x y || q x y) m k ≡ (learned t p m k || learned t q m k)
learned_both Blocking p q m k = refl
learned_both Nonblocking p q m k = refl

learned_none : (t : Timing) (m k : ℕ) → learned t no_bits m k ≡ false
learned_none Blocking m k = refl
learned_none Nonblocking m k = refl

pub record WalksRest (t : Timing) (acts rest : List Act) (before now : Found) (fresh new : List Mask) : Type 0 where
  pub writes : (m k : ℕ) → (in_map now.writes m k || block_writes rest m k) ≡ (in_map before.writes m k || block_writes acts m k)
  pub reads : (m k : ℕ) → (in_map now.reads m k || block_open_reads t rest (in_map now.known) m k)
      ≡ (in_map before.reads m k || block_open_reads t acts (in_map before.known) m k)
  pub known : LearnsRest (learned t (block_adds acts)) (learned t (block_adds rest)) before.known now.known fresh new

pub walk_step : (t : Timing) (acts rest later : List Act) (a : Act) (before now mid : Found) (fresh new last : List Mask) → rest ≡ a ∷ later
    → WalksRest t acts rest before now fresh new → Walks t (writes a) (adds a) (open_reads t a) now mid new last
    → WalksRest t acts later before mid fresh last
walk_step t acts rest later a before now mid fresh new last e h w =
    let known : in_map mid.known ≡ known_after t (in_map now.known) (adds a) =
    same_sets _ _ (λ m k. w.known.bits m k ∙ sym (known_is t (in_map now.known) (adds a) m k)) in
    record {
      writes = λ m k.
          ap (λ b. b || block_writes later m k) (w.writes m k)
          ∙ or_assoc (in_map now.writes m k) (writes a m k) (block_writes later m k)
          ∙ ap (λ xs. in_map now.writes m k || block_writes xs m k) (sym e)
          ∙ h.writes m k;
      reads = λ m k.
          ap (λ b. b || block_open_reads t later (in_map mid.known) m k) (w.reads m k)
          ∙ ap (λ s. (in_map now.reads m k || open_reads t a (in_map now.known) m k) || block_open_reads t later s m k) known
          ∙ or_assoc (in_map now.reads m k) (open_reads t a (in_map now.known) m k)
          (block_open_reads t later (known_after t (in_map now.known) (adds a)) m k)
          ∙ ap (λ xs. in_map now.reads m k || block_open_reads t xs (in_map now.known) m k) (sym e)
          ∙ h.reads m k;
      known =
          rest_step (learned t (block_adds acts)) (learned t (adds a)) (learned t (block_adds rest))
          (learned t (block_adds later)) before.known now.known mid.known
          fresh new last (λ m k. ap (λ xs. learned t (block_adds xs) m k) e
          ∙ learned_both t (adds a) (block_adds later) m k) h.known w.known;
    }

pub walk_done : (t : Timing) (acts rest : List Act) (before now : Found) (fresh new : List Mask) → rest ≡ []
    → WalksRest t acts rest before now fresh new
    → Walks t (block_writes acts) (block_adds acts) (block_open_reads t acts) before now fresh new
walk_done t acts rest before now fresh new e h = record {
  writes = λ m k. or_none (in_map now.writes m k) ∙ ap (λ xs. in_map now.writes m k || block_writes xs m k) (sym e) ∙ h.writes m k;
  reads = λ m k. or_none (in_map now.reads m k) ∙ ap (λ xs. in_map now.reads m k || block_open_reads t xs (in_map now.known) m k) (sym e)
      ∙ h.reads m k;
  known = rest_done (learned t (block_adds acts)) (learned t (block_adds rest)) before.known now.known fresh new
      (λ m k. ap (λ xs. learned t (block_adds xs) m k) e ∙ learned_none t m k) h.known;
}

pub walk_begin : (t : Timing) (acts : List Act) (before : Found) (fresh : List Mask) → WalksRest t acts acts before before fresh fresh
walk_begin t acts before fresh = record { writes = λ m k. refl; reads = λ m k. refl; known = ((λ m k. refl), (λ m k. refl)) }

-- ---- the arms of a choice
restored : (k a : Bool) → ((k || a) && not (false || (a && not k))) ≡ k
restored true true = refl
restored true false = refl
restored false true = refl
restored false false = refl

-- an arm after its condition was read
pub arm_walked : (t : Timing) (g : Guard) (all both own : List Mask) (before read mid after : Found)
    → read.writes ≡ before.writes → read.known ≡ before.known
    → ((m k : ℕ) → in_map read.reads m k ≡ (in_map before.reads m k || (reads g.condition m k && not (in_map before.known m k))))
    → Walks t (block_writes g.body) (block_adds g.body) (block_open_reads t g.body) read mid [] own
    → ((m k : ℕ) → named both m k ≡ (named all m k && in_map mid.known m k))
    → after.writes ≡ mid.writes → after.reads ≡ mid.reads
    → ((m k : ℕ) → in_map after.known m k ≡ (in_map mid.known m k && not (named own m k)))
    → Arm t g all both before after
arm_walked t g all both own before read mid after ew ek hr w hb aw ar ak = record {
  writes = λ m k. ap (λ b. in_map b m k) aw ∙ w.writes m k ∙ ap (λ b. in_map b m k || block_writes g.body m k) ew;
  reads = λ m k.
      ap (λ b. in_map b m k) ar
      ∙ w.reads m k
      ∙ ap (λ b. b || block_open_reads t g.body (in_map read.known) m k) (hr m k)
      ∙ ap (λ s. (in_map before.reads m k || (reads g.condition m k && not (in_map before.known m k))) || block_open_reads t g.body
      (in_map s) m k) ek
      ∙ or_assoc (in_map before.reads m k) (reads g.condition m k && not (in_map before.known m k))
      (block_open_reads t g.body (in_map before.known) m k);
  known = λ m k.
      ak m k
      ∙ ap (λ b. b && not (named own m k)) (w.known.bits m k)
      ∙ ap (λ b. (in_map read.known m k || learned t (block_adds g.body) m k) && not b) (w.known.masks m k)
      ∙ restored (in_map read.known m k) (learned t (block_adds g.body) m k)
      ∙ ap (λ b. in_map b m k) ek;
  masks = λ m k.
      hb m k
      ∙ ap (λ b. named all m k && b) (w.known.bits m k)
      ∙ ap (λ b. named all m k && (in_map b m k || learned t (block_adds g.body) m k)) ek;
}

learned_true : (t : Timing) (p : BitSet) (m k : ℕ) → learned t (λ x y. true && p x y) m k ≡ learned t p m k
learned_true Blocking p m k = refl
learned_true Nonblocking p m k = refl

pub arms_begin : (t : Timing) (others : List Act) (before mid now : Found) (all : List Mask)
    → Walks t (block_writes others) (block_adds others) (block_open_reads t others) before mid [] all
    → now.writes ≡ mid.writes → now.reads ≡ mid.reads
    → ((m k : ℕ) → in_map now.known m k ≡ (in_map mid.known m k && not (named all m k)))
    → AfterArms t [] others before now all
arms_begin t others before mid now all w ew er ek = record {
  writes = λ m k. ap (λ b. in_map b m k) ew ∙ w.writes m k;
  reads = λ m k. ap (λ b. in_map b m k) er ∙ w.reads m k;
  known = λ m k.
      ek m k
      ∙ ap (λ b. b && not (named all m k)) (w.known.bits m k)
      ∙ ap (λ b. (in_map before.known m k || learned t (block_adds others) m k) && not b) (w.known.masks m k)
      ∙ restored (in_map before.known m k) (learned t (block_adds others) m k);
  masks = λ m k. w.known.masks m k ∙ ap (λ b. b && not (in_map before.known m k)) (sym (learned_true t (block_adds others) m k));
}

or_three : (a b c d : Bool) → (a || (b || (c || d))) ≡ ((a || (b || c)) || d)
or_three true b c d = refl
or_three false true c d = refl
or_three false false c d = refl

or_last : (f g o w : Bool) → ((f || (g || o)) || w) ≡ (f || ((g || (w || false)) || o))
or_last true g o w = refl
or_last false true o w = refl
or_last false false true true = refl
or_last false false true false = refl
or_last false false false true = refl
or_last false false false false = refl

and_last : (g w o : Bool) → ((g && (w && true)) && o) ≡ ((g && o) && w)
and_last true true o = and_true o
and_last true false true = refl
and_last true false false = refl
and_last false w o = refl

guard_adds-more : (gs : List Guard) (g : Guard) (m k : ℕ) → guard_adds (gs ++ g ∷ []) m k ≡
    (guard_adds gs m k && (block_adds g.body m k && true))
guard_adds-more [] g m k = refl
guard_adds-more (x ∷ gs) g m k =
    ap (λ b. block_adds x.body m k && b) (guard_adds-more gs g m k) ∙ and_assoc (block_adds x.body m k) (guard_adds gs m k)
    (block_adds g.body m k && true)

guard_reads-more : (t : Timing) (gs : List Guard) (g : Guard) (s : BitSet) (m k : ℕ) → guard_reads t (gs ++ g ∷ []) s m k
    ≡ (guard_reads t gs s m k || (((reads g.condition m k && not (s m k)) || block_open_reads t g.body s m k) || false))
guard_reads-more t [] g s m k = sym (or_assoc (reads g.condition m k && not (s m k)) (block_open_reads t g.body s m k) false)
guard_reads-more t (x ∷ gs) g s m k =
    ap (λ b. (reads x.condition m k && not (s m k)) || (block_open_reads t x.body s m k || b)) (guard_reads-more t gs g s m k)
    ∙ or_three (reads x.condition m k && not (s m k)) (block_open_reads t x.body s m k) (guard_reads t gs s m k)
    (((reads g.condition m k && not (s m k)) || block_open_reads t g.body s m k) || false)

learned_and : (t : Timing) (p q r : BitSet) (m k : ℕ) → ((x y : ℕ) → p x y ≡ (q x y && r x y))
    → learned t p m k ≡ (learned t q m k && learned t r m k)
learned_and Blocking p q r m k h = h m k
learned_and Nonblocking p q r m k h = refl

narrowed : (a k w : Bool) → ((a && not k) && (k || w)) ≡ ((a && w) && not k)
narrowed true true true = refl
narrowed true true false = refl
narrowed true false true = refl
narrowed true false false = refl
narrowed false k w = refl

pub arms_more : (t : Timing) (gs : List Guard) (g : Guard) (others : List Act) (before now after : Found) (all both : List Mask)
    → AfterArms t gs others before now all → Arm t g all both now after → AfterArms t (gs ++ g ∷ []) others before after both
arms_more t gs g others before now after all both h a =
    let known : in_map now.known ≡ in_map before.known = same_sets _ _ h.known in
    record {
      writes = λ m k.
          a.writes m k
          ∙ ap (λ b. b || block_writes g.body m k) (h.writes m k)
          ∙ or_last (in_map before.writes m k) (guard_writes gs m k) (block_writes others m k) (block_writes g.body m k)
          ∙ ap (λ b. in_map before.writes m k || (b || block_writes others m k))
          (sym (list_any-append (λ (x : Guard). block_writes x.body m k) gs (g ∷ [])));
      reads = λ m k.
          a.reads m k
          ∙ ap (λ s. in_map now.reads m k || ((reads g.condition m k && not (s m k)) || block_open_reads t g.body s m k)) known
          ∙ ap (λ b. b || ((reads g.condition m k && not (in_map before.known m k)) || block_open_reads t g.body
          (in_map before.known) m k)) (h.reads m k)
          ∙ or_last (in_map before.reads m k) (guard_reads t gs (in_map before.known) m k)
          (block_open_reads t others (in_map before.known) m k)
          ((reads g.condition m k && not (in_map before.known m k)) || block_open_reads t g.body (in_map before.known) m k)
          ∙ ap (λ b. in_map before.reads m k || (b || block_open_reads t others (in_map before.known) m k))
          (sym (guard_reads-more t gs g (in_map before.known) m k));
      known = λ m k. a.known m k ∙ h.known m k;
      masks = λ m k.
          a.masks m k
          ∙ ap (λ b. b && (in_map now.known m k || learned t (block_adds g.body) m k)) (h.masks m k)
          ∙ ap (λ b. (learned t (λ x y. guard_adds gs x y && block_adds others x y) m k && not (in_map before.known m k)) &&
          (b || learned t (block_adds g.body) m k)) (h.known m k)
          ∙ narrowed (learned t (λ x y. guard_adds gs x y && block_adds others x y) m k) (in_map before.known m k)
          (learned t (block_adds g.body) m k)
          ∙ ap (λ b. b && not (in_map before.known m k)) (sym (learned_and t (λ x y. guard_adds (gs ++ g ∷ []) x y && block_adds others x y)
          (λ x y. guard_adds gs x y && block_adds others x y) (block_adds g.body) m k
          (λ x y. ap (λ b. b && block_adds others x y) (guard_adds-more gs g x y)
          ∙ and_last (guard_adds gs x y) (block_adds g.body x y) (block_adds others x y))));
    }

twice : (a k : Bool) → ((a && not k) && not k) ≡ (a && not k)
twice true true = refl
twice true false = refl
twice false k = refl

pub arms_done : (t : Timing) (gs : List Guard) (others : List Act) (before now after : Found) (all fresh new : List Mask)
    → AfterArms t gs others before now all → after.writes ≡ now.writes → after.reads ≡ now.reads
    → Learns (named all) now.known after.known fresh new
    → WalksChoice t gs others before after fresh new
arms_done t gs others before now after all fresh new h ew er l = record {
  writes = λ m k. ap (λ b. in_map b m k) ew ∙ h.writes m k;
  reads = λ m k. ap (λ b. in_map b m k) er ∙ h.reads m k;
  known = record {
    bits = λ m k.
        l.bits m k
        ∙ ap (λ b. b || named all m k) (h.known m k)
        ∙ ap (λ b. in_map before.known m k || b) (h.masks m k)
        ∙ or_fresh (in_map before.known m k) (learned t (λ x y. guard_adds gs x y && block_adds others x y) m k);
    masks = λ m k.
        l.masks m k
        ∙ ap (λ b. named fresh m k || (named all m k && not b)) (h.known m k)
        ∙ ap (λ b. named fresh m k || (b && not (in_map before.known m k))) (h.masks m k)
        ∙ ap (λ b. named fresh m k || b) (twice (learned t (λ x y. guard_adds gs x y && block_adds others x y) m k)
        (in_map before.known m k));
  };
}

-- a choice, whose bits are those of its lists
pub choice_walked : (t : Timing) (a : Act) (gs : List Guard) (others : List Act) (before now : Found) (fresh new : List Mask)
    → ((m k : ℕ) → writes a m k ≡ (guard_writes gs m k || block_writes others m k))
    → ((m k : ℕ) → adds a m k ≡ (guard_adds gs m k && block_adds others m k))
    → ((s : BitSet) (m k : ℕ) → open_reads t a s m k ≡ (guard_reads t gs s m k || block_open_reads t others s m k))
    → WalksChoice t gs others before now fresh new → Walks t (writes a) (adds a) (open_reads t a) before now fresh new
choice_walked t a gs others before now fresh new ew ea er h = record {
  writes = λ m k. h.writes m k ∙ ap (λ b. in_map before.writes m k || b) (sym (ew m k));
  reads = λ m k. h.reads m k ∙ ap (λ b. in_map before.reads m k || b) (sym (er (in_map before.known) m k));
  known = subst (λ p. Learns (learned t p) before.known now.known fresh new)
      (same_sets (λ m k. guard_adds gs m k && block_adds others m k) (adds a) (λ m k. sym (ea m k))) h.known;
}

-- ---- a whole block
pub code_bits : (t : Timing) (code : Code) (start found : Found) (fresh : List Mask)
    → ((m k : ℕ) → in_map start.writes m k ≡ false) → ((m k : ℕ) → in_map start.reads m k ≡ false)
    → ((m k : ℕ) → in_map start.known m k ≡ false)
    → Walks t (block_writes code.acts) (block_adds code.acts) (block_open_reads t code.acts) start found [] fresh
    → ((m k : ℕ) → named code.writes m k ≡ in_map found.writes m k) → ((m k : ℕ) → named code.reads m k ≡ in_map found.reads m k)
    → HasBits t code
code_bits t code start found fresh sw sr sk w hw hr =
    let known : in_map start.known ≡ no_bits = same_sets _ _ sk in
    record {
      writes = λ m k. hw m k ∙ w.writes m k ∙ ap (λ b. b || block_writes code.acts m k) (sw m k);
      reads = λ m k.
          hr m k ∙ w.reads m k ∙ ap (λ b. b || block_open_reads t code.acts (in_map start.known) m k) (sr m k)
          ∙ ap (λ s. block_open_reads t code.acts s m k) known;
    }

pub taken : (gs items : List Guard) (i : ℕ) (g : Guard) → items ≡ gs → i < length items → g ≡ get_or items i g
    → take (i + 1) gs ≡ take i gs ++ g ∷ []
taken gs items i g same l e =
    ap (take (i + 1)) (sym same) ∙ take_more items i g l ∙ ap (λ x. take i items ++ x ∷ []) (sym e) ∙ ap (λ xs. take i xs ++ g ∷ []) same

pub sized_rest : (items : List Guard) (i : ℕ) (g : Guard) → i < length items → AreSizedGuards (drop i items)
    → AreSizedGuards (drop (i + 1) items)
sized_rest items i g l h = (subst (λ xs. AreSizedGuards xs) (drop_more items i g l) h).1
