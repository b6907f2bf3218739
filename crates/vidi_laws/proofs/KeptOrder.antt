-- What keeps the order of a trace, epoch by epoch, has no finding against it that breaks the order.
use Rattle.std.proofs.Common.{◌≡◌, ℕ, zero, suc, ◌+◌, ◌<◌, ◌≤◌, Bool, true, false, cond, List, [], ◌∷◌, ◌++◌, Some, length, take, map}
use Rattle.std.proofs.Common.{All, refl, sym, ap, subst, ◌∙◌, ⊎_elim, arith}
use Rattle.std.specs.Prelude.{not, nat_eq, nat_lt, slice_get}
use Rattle.std.specs.Cmp.Lexicographic.{other_text}
use Rattle.std.specs.List.{enumerate_from, filter, flat_map, list_any, range_with_len, zip}
use Rattle.std.proofs.lemmas.Bool.{cases_Bool, cases_lt, false≢true, le-ltb}
use Rattle.std.proofs.lemmas.List.Elements.{All-nil, All-cons, All-append}
use Rattle.std.proofs.lemmas.List.Folds.{list_any_none}
use Rattle.std.proofs.lemmas.List.FromFn.{length-range_with_len, get_or-range_with_len}
use lib.Pointwise.{pointwise}
use Rattle.vidi_commands.proofs.vidi_bits_lemmas.Lists.{some_same}
use Rattle.vidi_commands.specs.trace_model.declared.channel.Channel.{Channel}
use Rattle.vidi_commands.specs.trace_model.declared.channel.Dir.{Dir}
use Rattle.vidi_commands.specs.trace_model.declared.channel.Dir.TheVariants.{Inward, Outward}
use Rattle.vidi_commands.specs.trace_model.declared.event.Kind.{Kind}
use Rattle.vidi_commands.specs.trace_model.declared.event.Kind.TheVariants.{Start, End, Reset}
use Rattle.vidi_commands.specs.trace_model.declared.packet.Packet.{Packet}
use Rattle.vidi_commands.specs.trace_model.Clock.{clock, Covers}
use Rattle.vidi_commands.specs.trace_model.Counting.{IsNth}
use Rattle.vidi_commands.specs.trace_model.Epoch.{epoch, resets}
use Rattle.vidi_commands.specs.trace_model.Packet.{content_of, count, does}
use Rattle.vidi_commands.proofs.trace_model_lemmas.CountingLemmas.{count-cons, nth, nth-below, nth-unique}
use Rattle.vidi_commands.specs.trace_compare.declared.report.Finding.{Finding}
use Rattle.vidi_commands.specs.trace_compare.declared.report.What.{What}
use Rattle.vidi_commands.specs.trace_compare.declared.report.What.TheVariants.{Differs, ExtraReset, MissingReset}
use Rattle.vidi_commands.specs.trace_compare.Findings.{different, differing, differs, early, early_marks, early_ones, epochs_in_both, events_from}
use Rattle.vidi_commands.specs.trace_compare.Findings.{extra, finding_of, findings, findings_in, findings_on, found, in_both, is_early, marked, missing}
use Rattle.vidi_commands.specs.trace_compare.Findings.{only_one}
use Rattle.vidi_commands.specs.run_model.Laws.{controls, AreInOrder}
use Rattle.vidi_laws.specs.Headline.{breaks_order, KeepsOrder}

-- ---- the events of a channel, each with its place
record IsEventAt (test : Packet → Bool) (p : ℕ) (xs : List Packet) (i : ℕ) (e : ℕ × Packet) : Type 0 where
  q : ℕ
  place : e.0 ≡ p + q
  is : IsNth test xs i q e.1

abbrev events : (Packet → Bool) → ℕ → List Packet → List (ℕ × Packet)
events test p xs = filter (λ (x : ℕ × Packet). test x.1) (enumerate_from p xs)

event-at : (test : Packet → Bool) (p : ℕ) (xs : List Packet) (i : ℕ) (e : ℕ × Packet) → slice_get (events test p xs) i ≡ Some e
    → IsEventAt test p xs i e
event-at test p [] i e at = absurd (cc)
event-at test p (x ∷ xs) i e at = by-test (test x) refl i at (event-at test (p + 1) xs)
  where
    later : (j i : ℕ) → IsEventAt test (p + 1) xs j e → cond (test x) 1 0 + j ≡ i → IsEventAt test p (x ∷ xs) i e
    later j i there is = record {
      q = suc there.q;
      place = (let e = there.place in omega (arith, e));
      is = record {
        at = there.is.at;
        passes = there.is.passes;
        before = count-cons test x (take there.q xs) ∙ ap (λ (k : ℕ). cond (test x) 1 0 + k) there.is.before ∙ is;
      };
    }

    by-test : (b : Bool) → test x ≡ b → (i : ℕ)
        → slice_get (cond b ((p, x) ∷ events test (p + 1) xs) (events test (p + 1) xs)) i ≡ Some e
        → ((j : ℕ) (f : ℕ × Packet) → slice_get (events test (p + 1) xs) j ≡ Some f → IsEventAt test (p + 1) xs j f)
        → IsEventAt test p (x ∷ xs) i e
    by-test true holds zero here there = subst (λ (f : ℕ × Packet). IsEventAt test p (x ∷ xs) 0 f) (some_same (p, x) e here) (record {
      q = 0;
      place = (omega arith);
      is = record { at = refl; passes = holds; before = refl };
    })
    by-test true holds (suc j) here there = later j (suc j) (there j e here)
        (let one : ◌≡◌ {A = ℕ} (cond (test x) 1 0) 1 = ap (λ (b : Bool). cond b 1 0) holds in omega (arith, one))
    by-test false fails i here there = later i i (there i e here)
        (let none : ◌≡◌ {A = ℕ} (cond (test x) 1 0) 0 = ap (λ (b : Bool). cond b 1 0) fails in omega (arith, none))

-- ---- pairs, and their marks
zip-get : {X Y : Type 0} (xs : List X) (ys : List Y) (i : ℕ) (z : X × Y) → slice_get (zip xs ys) i ≡ Some z
    → (slice_get xs i ≡ Some z.0) × (slice_get ys i ≡ Some z.1)
zip-get [] ys i z at = absurd (cc)
zip-get (x ∷ xs) [] i z at = absurd (cc)
zip-get {X} {Y} (x ∷ xs) (y ∷ ys) zero z at =
    let same = some_same (x, y) z at in (ap (λ (w : X × Y). Some w.0) same, ap (λ (w : X × Y). Some w.1) same)
zip-get (x ∷ xs) (y ∷ ys) (suc i) z at = zip-get xs ys i z at

none-marked : {Z : Type 0} (f : Z → Bool) (zs : List Z) → ((i : ℕ) (z : Z) → slice_get zs i ≡ Some z → f z ≡ false)
    → marked (map f zs) ≡ 0
none-marked f [] fails = refl
none-marked f (z ∷ zs) fails =
    let first : ◌≡◌ {A = ℕ} (cond (f z) 1 0) 0 = ap (λ (b : Bool). cond b 1 0) (fails 0 z refl) in
    let rest : marked (map f zs) ≡ 0 = none-marked f zs (λ i w at. fails (suc i) w at) in
    count-cons (λ (m : Bool). m) (f z) (map f zs) ∙ omega (arith, first, rest)

not-above : (m n : ℕ) → n ≤ m → nat_lt m n ≡ true → ⊥
not-above m n l holds = false≢true (sym (le-ltb m n l) ∙ holds)

covers-all : (n : ℕ) (x y : ℕ → ℕ) → Covers n x y → list_any (λ (d : ℕ). nat_lt (x d) (y d)) (range_with_len 0 n) ≡ false
covers-all n x y covers = list_any_none (λ (d : ℕ). nat_lt (x d) (y d)) (range_with_len 0 n) (λ k d l.
    let within : k < n = omega (arith, l, length-range_with_len 0 n) in
    ap (λ (i : ℕ). nat_lt (x i) (y i)) (get_or-range_with_len 0 n k d within)
    ∙ le-ltb (x (0 + k)) (y (0 + k)) (covers (0 + k) (omega arith)))

same-content : (xs ys : List ℕ) → xs ≡ ys → not (pointwise nat_eq xs ys) ≡ false
same-content xs ys same = ⊎_elim
    (λ (t : pointwise nat_eq xs ys ≡ true). ap not t)
    (λ (f : pointwise nat_eq xs ys ≡ false). absurd (other_text xs ys (sym f) same))
    (cases_Bool (pointwise nat_eq xs ys))

-- ---- findings
found-keeps : (channels : List Channel) (is_one : Bool) (e c : ℕ) (what : What) (index n : ℕ)
    → (is_one ≡ true → (x : Channel) → slice_get channels c ≡ Some x → breaks_order x.dir what ≡ false)
    → All (KeepsOrder channels) (found is_one e c what index n)
found-keeps channels true e c what index n keeps =
    All-cons (KeepsOrder channels) (finding_of e c what index n) [] (keeps refl) (All-nil (KeepsOrder channels))
found-keeps channels false e c what index n keeps = All-nil (KeepsOrder channels)

each-keeps : (channels : List Channel) (f : ℕ → List Finding) (cs : List ℕ) → ((c : ℕ) → All (KeepsOrder channels) (f c))
    → All (KeepsOrder channels) (flat_map f cs)
each-keeps channels f [] keeps = All-nil (KeepsOrder channels)
each-keeps channels f (c ∷ cs) keeps =
    All-append (KeepsOrder channels) (f c) (flat_map f cs) (keeps c) (each-keeps channels f cs keeps)

missing-keeps : (dir : Dir) (kind : Kind) → breaks_order dir (missing kind) ≡ false
missing-keeps Inward Start = refl
missing-keeps Inward End = refl
missing-keeps Inward Reset = refl
missing-keeps Outward Start = refl
missing-keeps Outward End = refl
missing-keeps Outward Reset = refl

abbrev is_reset : Kind → Bool
is_reset Reset = true
is_reset kind = false

module _ (channels : List Channel) (a b : List Packet) (order : AreInOrder channels a b) where
  -- ---- an event that replayers control
  module _ (kind : Kind) (c : ℕ) (x : Channel) (at : slice_get channels c ≡ Some x) (held : controls x.dir kind ≡ true) where
    none-extra : count kind c b ≤ count kind c a
    none-extra = ⊎_elim
        (λ (more : count kind c a < count kind c b).
        (let out = nth (does kind c) b (count kind c a) more in
        let recorded = order.events kind c (count kind c a) out.place x out.item at held out.is in
        let below : count kind c a < count kind c a = nth-below (does kind c) a (count kind c a) recorded.place recorded.original recorded.is in
        absurd (omega (arith, below))))
        (λ (l : count kind c b ≤ count kind c a). l)
        (cases_lt (count kind c a) (count kind c b))

    record IsPaired (z : (ℕ × Packet) × (ℕ × Packet)) : Type 0 where
      covers : Covers (length channels) (clock b z.1.0) (clock a z.0.0)
      content : kind ≡ Start → content_of channels z.0.1 c ≡ content_of channels z.1.1 c

    paired : (i : ℕ) (z : (ℕ × Packet) × (ℕ × Packet)) → slice_get (in_both kind c a b) i ≡ Some z → IsPaired z
    paired i z is =
        let parts = zip-get (events_from kind c 0 a) (events_from kind c 0 b) i z is in
        let in_a = event-at (does kind c) 0 a i z.0 parts.0 in
        let in_b = event-at (does kind c) 0 b i z.1 parts.1 in
        let recorded = order.events kind c i in_b.q x z.1.1 at held in_b.is in
        let same = nth-unique (does kind c) a i recorded.place in_a.q recorded.original z.0.1 recorded.is in_a.is in
        let there : in_b.q ≡ z.1.0 = (let p = in_b.place in omega (arith, p)) in
        let here : in_a.q ≡ z.0.0 = (let p = in_a.place in omega (arith, p)) in
        let now = clock b in_b.q in
        record {
          covers = subst (λ (k : ℕ). Covers (length channels) (clock b k) (clock a z.0.0)) there
              (subst (λ (k : ℕ). Covers (length channels) now (clock a k)) (same.0 ∙ here) recorded.covers);
          content = λ start. sym (recorded.content start ∙ ap (λ (p : Packet). content_of channels p c) same.1);
        }

    none-early : marked (early_marks (length channels) kind c a b) ≡ 0
    none-early = none-marked (is_early (length channels) a b) (in_both kind c a b) (λ i z is.
        covers-all (length channels) (clock b z.1.0) (clock a z.0.0) (paired i z is).covers)

  none-differs : (c : ℕ) (x : Channel) → slice_get channels c ≡ Some x → controls x.dir Start ≡ true → marked (differing channels c a b) ≡ 0
  none-differs c x at held = none-marked (differs channels c) (in_both Start c a b) (λ i z is.
      same-content (content_of channels z.0.1 c) (content_of channels z.1.1 c) ((paired Start c x at held i z is).content refl))

  -- ---- the findings on a channel
  module _ (c : ℕ) (x : Channel) (at : slice_get channels c ≡ Some x) where
    controlled : (dir : Dir) (kind : Kind) → x.dir ≡ dir → controls dir kind ≡ true → controls x.dir kind ≡ true
    controlled dir kind is held = ap (λ (k : Dir). controls k kind) is ∙ held

    differs-keeps : (dir : Dir) → x.dir ≡ dir → nat_lt 0 (marked (differing channels c a b)) ≡ true → breaks_order dir Differs ≡ false
    differs-keeps Inward is holds =
        let none = none-differs c x at (controlled Inward Start is refl) in
        absurd (not-above 0 (marked (differing channels c a b)) (omega (arith, none)) holds)
    differs-keeps Outward is holds = refl

    extra-keeps : (kind : Kind) (dir : Dir) → is_reset kind ≡ false → x.dir ≡ dir → nat_lt (count kind c a) (count kind c b) ≡ true
        → breaks_order dir (extra kind) ≡ false
    extra-keeps Start Inward event is holds =
        absurd (not-above (count Start c a) (count Start c b) (none-extra Start c x at (controlled Inward Start is refl)) holds)
    extra-keeps Start Outward event is holds = refl
    extra-keeps End Inward event is holds = refl
    extra-keeps End Outward event is holds =
        absurd (not-above (count End c a) (count End c b) (none-extra End c x at (controlled Outward End is refl)) holds)
    extra-keeps Reset dir event is holds = absurd (false≢true (sym event))

    early-keeps : (kind : Kind) (dir : Dir) → is_reset kind ≡ false → x.dir ≡ dir
        → nat_lt 0 (marked (early_marks (length channels) kind c a b)) ≡ true → breaks_order dir (early kind) ≡ false
    early-keeps Start Inward event is holds =
        let none = none-early Start c x at (controlled Inward Start is refl) in
        absurd (not-above 0 (marked (early_marks (length channels) Start c a b)) (omega (arith, none)) holds)
    early-keeps Start Outward event is holds = refl
    early-keeps End Inward event is holds = refl
    early-keeps End Outward event is holds =
        let none = none-early End c x at (controlled Outward End is refl) in
        absurd (not-above 0 (marked (early_marks (length channels) End c a b)) (omega (arith, none)) holds)
    early-keeps Reset dir event is holds = absurd (false≢true (sym event))

  -- ---- those of an epoch
  module _ (e : ℕ) where
    only-keeps : (kind : Kind) → is_reset kind ≡ false → (c : ℕ) → All (KeepsOrder channels) (only_one e kind c a b)
    only-keeps kind event c =
        All-append (KeepsOrder channels) (found (nat_lt (count kind c b) (count kind c a)) e c (missing kind) (count kind c b) 1)
        (found (nat_lt (count kind c a) (count kind c b)) e c (extra kind) (count kind c a) 1)
        (found-keeps channels (nat_lt (count kind c b) (count kind c a)) e c (missing kind) (count kind c b) 1
        (λ holds x at. missing-keeps x.dir kind))
        (found-keeps channels (nat_lt (count kind c a) (count kind c b)) e c (extra kind) (count kind c a) 1
        (λ holds x at. extra-keeps c x at kind x.dir event refl holds))

    earlies-keep : (kind : Kind) → is_reset kind ≡ false → (c : ℕ) → All (KeepsOrder channels) (early_ones e (length channels) kind c a b)
    earlies-keep kind event c = found-keeps channels (nat_lt 0 (marked (early_marks (length channels) kind c a b))) e c (early kind) _ _
        (λ holds x at. early-keeps c x at kind x.dir event refl holds)

    channel-keeps : (c : ℕ) → All (KeepsOrder channels) (findings_on e channels a b c)
    channel-keeps c =
        let P = KeepsOrder channels in
        let ends = early_ones e (length channels) End c a b in
        let earlies = early_ones e (length channels) Start c a b ++ ends in
        let others = only_one e End c a b ++ earlies in
        All-append P (different e channels c a b) (only_one e Start c a b ++ others)
        (found-keeps channels (nat_lt 0 (marked (differing channels c a b))) e c Differs _ _ (λ holds x at. differs-keeps c x at x.dir refl holds))
        (All-append P (only_one e Start c a b) others (only-keeps Start refl c)
        (All-append P (only_one e End c a b) earlies (only-keeps End refl c)
        (All-append P (early_ones e (length channels) Start c a b) ends (earlies-keep Start refl c) (earlies-keep End refl c))))

    epoch-keeps : All (KeepsOrder channels) (flat_map (findings_on e channels a b) (range_with_len 0 (length channels)))
    epoch-keeps = each-keeps channels (findings_on e channels a b) (range_with_len 0 (length channels)) channel-keeps

-- ---- resets
resets-keep : (channels : List Channel) (a b : List Packet) → resets b ≤ resets a → All (KeepsOrder channels) (only_one 0 Reset 0 a b)
resets-keep channels a b few =
    All-append (KeepsOrder channels) (found (nat_lt (resets b) (resets a)) 0 0 MissingReset (resets b) 1)
    (found (nat_lt (resets a) (resets b)) 0 0 ExtraReset (resets a) 1)
    (found-keeps channels (nat_lt (resets b) (resets a)) 0 0 MissingReset (resets b) 1 (λ holds x at. missing-keeps x.dir Reset))
    (found-keeps channels (nat_lt (resets a) (resets b)) 0 0 ExtraReset (resets a) 1
    (λ holds x at. absurd (not-above (resets a) (resets b) few holds)))

pub findings-keep : (channels : List Channel) (a b : List Packet) → resets b ≤ resets a
    → ((e : ℕ) → AreInOrder channels (epoch e a) (epoch e b))
    → All (KeepsOrder channels) (findings (record { channels = channels; packets = a }) (record { channels = channels; packets = b }))
findings-keep channels a b few order =
    All-append (KeepsOrder channels) (flat_map (findings_in channels a b) (range_with_len 0 (epochs_in_both a b))) (only_one 0 Reset 0 a b)
    (each-keeps channels (findings_in channels a b) (range_with_len 0 (epochs_in_both a b))
    (λ e. epoch-keeps channels (epoch e a) (epoch e b) (order e) e))
    (resets-keep channels a b few)
