-- One cycle of a block behind the gates: its row is *IsRun*'s.
use Rattle.std.proofs.Common.{◌≡◌, ℕ, zero, suc, ◌<◌, ◌^◌, ◌&&◌, Bool, true, false, not, List, Option, Some}
use Rattle.std.proofs.Common.{None, All, length, drop, replicate, get_or, slice_get, refl, ap, sym, subst, ◌∙◌, arith}
use Rattle.std.specs.List.{refill}
use Rattle.std.proofs.lemmas.List.{take-append-le, take_all}
use Rattle.run_model.proofs.Contents.{same-mask}
use Rattle.run_model.specs.vidi_bits.Number.{has}
use Rattle.run_model.specs.trace_model.declared.channel.Channel.{Channel}
use Rattle.run_model.specs.trace_model.declared.channel.Dir.{Dir}
use Rattle.run_model.specs.trace_model.declared.channel.Dir.TheVariants.{Inward, Outward}
use Rattle.run_model.specs.trace_model.declared.row.Offers.{Offers}
use Rattle.run_model.specs.trace_model.declared.row.Row.{Row}
use Rattle.run_model.specs.trace_model.Row.{flies_after, AreOffers}
use Rattle.net_design.specs.declared.design.Design.{Design}
use Rattle.net_design.specs.declared.values.Values.{Values}
use Rattle.net_design.specs.Pins.{outputs}
use Rattle.net_design.specs.Settled.{IsSettled, initial, next}
use Rattle.run_model.specs.chan_map.declared.pins.Map.{Map}
use Rattle.run_model.specs.chan_map.declared.pins.Reset.{Reset}
use Rattle.run_model.specs.Building.{content_here, ends_of, joined, mask_of, ready_at, row_of, starts_of, valid_at}
use Rattle.run_model.specs.declared.pins.PinNumber.{PinNumber}
use Rattle.run_model.specs.Offers.{Carries, CarriesOn, AreZeroWhileDown}
use Rattle.run_model.specs.Pins.{silent, ArePins}
use Rattle.run_model.specs.Step.{IsAfter, IsAfterReset, IsFirst}
use Rattle.run_model.proofs.PlayedLaws.{fit-outputs}
use Rattle.run_model.proofs.RowParts.{carried, entered-same, row-carries, row-marked, row-over, row-shows, Agree}
use Rattle.chan_monitor.specs.declared.rows.Handshakes.{Handshakes}
use Rattle.chan_monitor.specs.Around.{handshakes, AreHeld, AreMonitors, IsDriven}
use Rattle.chan_monitor.specs.Entering.{offered}
use Rattle.chan_monitor.specs.Shell.{IsMapped, IsShown}
use Rattle.chan_monitor.proofs.Filling.{offered-is}

-- what a borrow of a whole list leaves
pub refill-is : {X : Type 0} (xs ys : List X) → length ys ≡ length xs → refill (length xs) xs ys ≡ ys
refill-is xs ys e = take-append-le (length xs) ys (drop (length ys) xs) (omega (arith, e)) ∙ take_all (length xs) ys (omega (arith, e))

-- ---- the first state
pub first-none : (d : Design) (m : Map) (s : Values) → m.reset ≡ None → s ≡ initial d → IsFirst d m s
first-none d m s e h = subst (λ (o : Option Reset). IsAfterReset d m o s) (sym e) h

pub first-some : (d : Design) (m : Map) (r : Reset) (pins : List ℕ) (before s : Values) → m.reset ≡ Some r → ArePins d m true silent pins
    → before ≡ initial d → IsAfter d pins r.cycles before s → IsFirst d m s
first-some d m r pins before s e are init after =
    subst (λ (o : Option Reset). IsAfterReset d m o s) (sym e) (pins, are, (subst (λ u. IsAfter d pins r.cycles u s) init after))

-- ---- a row by its parts
pub row-is : (m : Map) (fresh : Bool) (before : Option Row) (offers : Offers) (gates : ℕ) (out : List ℕ) (monitors : List Bool) (row : Row)
    → AreMonitors (length m.channels) monitors before → row.fresh ≡ fresh → row.gates ≡ gates
    → row.valids ≡ mask_of (valid_at m offers out) (length m.channels)
    → row.readies ≡ mask_of (ready_at m offers out) (length m.channels)
    → row.contents ≡ joined (content_here m offers out) 0 m.channels
    → row.starts ≡ mask_of (λ c. (has row.valids c && has row.gates c) && not (get_or monitors c false)) (length monitors)
    → row.ends ≡ ends_of (length monitors) row.valids row.gates row.readies
    → row ≡ row_of m fresh before offers gates out
row-is m fresh before offers gates out monitors row are f g v r k s e =
    let n = length m.channels in
    let valids = mask_of (valid_at m offers out) n in
    let readies = mask_of (ready_at m offers out) n in
    let starts : row.starts ≡ starts_of n before valids gates =
    s ∙ ap (mask_of (λ c. (has row.valids c && has row.gates c) && not (get_or monitors c false))) are.many
    ∙ same-mask (λ c. (has row.valids c && has row.gates c) && not (get_or monitors c false))
    (λ c. (has row.valids c && has row.gates c) && not (flies_after before c)) n
    (λ c l. ap (λ b. (has row.valids c && has row.gates c) && not b) (are.each c l))
    ∙ ap (λ x. starts_of n before x row.gates) v ∙ ap (starts_of n before valids) g in
    let ends : row.ends ≡ ends_of n valids gates readies =
    e ∙ ap (λ x. ends_of x row.valids row.gates row.readies) are.many ∙ ap (λ x. ends_of n x row.gates row.readies) v
    ∙ ap (λ x. ends_of n valids x row.readies) g ∙ ap (ends_of n valids gates) r in
    λ i. record { fresh = f i; gates = g i; valids = v i; readies = r i; contents = k i; starts = starts i; ends = ends i }

-- ---- a cycle
carries-on : (channels : List Channel) (offers : Offers) (gates c : ℕ) (x : Channel) (dir : Dir) → slice_get channels c ≡ Some x
    → x.dir ≡ dir
    → AreZeroWhileDown channels offers → CarriesOn channels offers (offered gates offers) c dir
carries-on channels offers gates c x Inward at way zeros =
    (refl, sym (offered-is channels offers c (has offers.valids c) refl (zeros c x at way)))
carries-on channels offers gates c x Outward at way zeros = refl

offered-carries : (channels : List Channel) (offers : Offers) (gates : ℕ) → AreZeroWhileDown channels offers
    → Carries channels offers (offered gates offers)
offered-carries channels offers gates zeros c x at = carries-on channels offers gates c x x.dir at refl zeros

pub record IsCycle (d : Design) (m : Map) (s : Values) (before : Option Row) (offers : Offers) (gates : ℕ) (pins : List ℕ) (v : Values)
    (row : Row) : Type 0 where
  pub shown : IsShown d m s before offers gates row
  pub driven : IsDriven d s pins v m (Some (handshakes row)) row

cycle-is : (d : Design) (m : Map) (s : Values) (fresh : Bool) (before : Option Row) (offers : Offers) (gates : ℕ) (pins : List ℕ) (v : Values) (row : Row)
    → IsMapped d m → AreOffers m.channels offers → AreZeroWhileDown m.channels offers → gates < 2 ^ length m.channels
    → ArePins d m false (offered gates offers) pins → IsSettled d s pins v → row ≡ row_of m fresh before offers gates (outputs d v)
    → IsCycle d m s before offers gates pins v row
cycle-is d m s fresh before offers gates pins v row ready are zeros l entered settled is =
    let out = outputs d v in
    let fits = fit-outputs d ready.nets v settled.keeps.fit in
    let made = row_of m fresh before offers gates out in
    let carries = row-carries d m ready.mapped fresh before offers are gates out fits in
    let agree : Agree m.channels (offered gates offers) made = carried m.channels offers (offered gates offers) made refl
    (offered-carries m.channels offers gates zeros) carries in
    let there : ArePins d m false made pins = record {
      fit = entered.fit;
      numbers = subst (λ es. All (λ (e : PinNumber). get_or pins e.place 0 ≡ e.number) es)
          (entered-same m false (offered gates offers) made agree) entered.numbers;
    } in
    let shows = row-shows d m ready.mapped fresh before offers are gates out fits in
    subst (IsCycle d m s before offers gates pins v) (sym is) (record {
      shown = record {
        over = row-over d m ready.mapped fresh before offers are gates l out fits;
        marked = row-marked m fresh before offers gates out;
        carries = carries;
        gates_are = refl;
        after = next d v s;
        step = record { pins = pins; v = v; entered = there; settled = settled; shown = shows; next = refl };
      };
      driven = record {
        entered = there;
        settled = settled;
        shows = shows;
        last_is = refl;
      };
    })

-- the same where the row is that of the outputs of an equal design
pub cycle-in : (d e : Design) (m : Map) (s : Values) (fresh : Bool) (before : Option Row) (offers : Offers) (gates : ℕ) (pins : List ℕ) (v : Values)
    (row : Row) → e ≡ d → IsMapped d m → AreOffers m.channels offers → AreZeroWhileDown m.channels offers → gates < 2 ^ length m.channels
    → ArePins d m false (offered gates offers) pins → IsSettled d s pins v → row ≡ row_of m fresh before offers gates (outputs e v)
    → IsCycle d m s before offers gates pins v row
cycle-in d e m s fresh before offers gates pins v row same ready are zeros l entered settled is =
    cycle-is d m s fresh before offers gates pins v row ready are zeros l entered settled
    (is ∙ ap (λ f. row_of m fresh before offers gates (outputs f v)) same)

-- the same for a design and a state that are equal
pub cycle-of : (d e : Design) (m : Map) (s t : Values) (before : Option Row) (offers : Offers) (gates : ℕ) (pins : List ℕ) (v : Values)
    (row : Row) → d ≡ e → s ≡ t → IsCycle d m s before offers gates pins v row → IsCycle e m t before offers gates pins v row
cycle-of d e m s t before offers gates pins v row same still is =
    subst (λ u. IsCycle e m u before offers gates pins v row) still
    (subst (λ f. IsCycle f m s before offers gates pins v row) same is)

pub ready-of : (d e : Design) (m : Map) → d ≡ e → IsMapped e m → IsMapped d m
ready-of d e m same is = subst (λ f. IsMapped f m) (sym same) is

pub held-of : (d e : Design) (m : Map) (pins : List ℕ) → d ≡ e → AreHeld d m pins → AreHeld e m pins
held-of d e m pins same is = subst (λ f. AreHeld f m pins) same is

-- ---- idle channels
pub all-idle : (n : ℕ) → AreMonitors n (replicate n false) None
all-idle n = record { many = long n; each = λ c l. idle n c }
  where
    long : (k : ℕ) → length {A = Bool} (replicate k false) ≡ k
    long zero = refl
    long (suc k) = ap suc (long k)

    idle : (k c : ℕ) → get_or {A = Bool} (replicate k false) c false ≡ false
    idle zero c = refl
    idle (suc k) zero = refl
    idle (suc k) (suc c) = idle k c

pub driven-of : (d e : Design) (s t : Values) (pins inputs : List ℕ) (v : Values) (m : Map) (last now : Option Handshakes) (row : Row)
    → e ≡ d → t ≡ s → inputs ≡ pins → now ≡ last → IsDriven d s pins v m last row → IsDriven e t inputs v m now row
driven-of d e s t pins inputs v m last now row a b c k is =
    subst (λ f. IsDriven f t inputs v m now row) (sym a)
    (subst (λ u. IsDriven d u inputs v m now row) (sym b)
    (subst (λ p. IsDriven d s p v m now row) (sym c)
    (subst (λ (o : Option Handshakes). IsDriven d s pins v m o row) (sym k) is)))
