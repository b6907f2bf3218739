-- Two laws of each part of a header: what is read is spelled so, and what is spelled so is read.
use Rattle.std.proofs.Common.{◌≡◌, ℕ, zero, suc, ◌≤◌, Bool, true, false, cond, List, [], ◌∷◌, ◌++◌, length, take, drop, All, Option, Some}
use Rattle.std.proofs.Common.{None, Result, Ok, Err, MatchResult, refl, sym, ap, subst, ◌∙◌, append_assoc, arith}
use Rattle.std.specs.Prelude.{IfOk}
use Rattle.std.specs.List.{flat_map, AllByRecursion}
use Rattle.std.specs.Str.{bytes_eq}
use Rattle.std.proofs.lemmas.Bool.{and_parts, and_from, leb-true, le-leb, ltb-false, le-ltb}
use Rattle.std.proofs.lemmas.Option.{cond_some, same_Some, none-some}
use Rattle.std.proofs.lemmas.List.{take_at, drop_at, take-append-drop, length-append, length-take}
use Rattle.std.proofs.lemmas.List.Elements.{All-from_recursion, recursion_from_All}
use Rattle.std.proofs.lemmas.List.Sums.{AllPass-from_list_all, list_all-from_AllPass}
use Rattle.std.proofs.lemmas.Slice.Eq.{bytes_eq-Decides}
use Rattle.vec_clock.specs.trace_model.declared.channel.Channel.{Channel}
use Rattle.vec_clock.specs.trace_model.declared.channel.Dir.{Dir}
use Rattle.vec_clock.specs.trace_model.declared.channel.Dir.TheVariants.{Inward, Outward}
use Rattle.vec_clock.specs.trace_model.Channel.{is_letter_or_digit, IsName, IsChannel}
use Rattle.trace_code.specs.declared.error.CodeError.{CodeError}
use Rattle.trace_code.specs.declared.error.CodeError.TheVariants.{BadTrace, Memory}
use Rattle.trace_code.specs.Encoding.{direction_byte, channel_bytes, table_bytes}
use Rattle.trace_code.specs.Reading.{◌>>=◌, Gives, magic_at, dir_at, counted_at, is_name, is_width, are_widths, name_at, widths_at}
use Rattle.trace_code.specs.Reading.{channel_at, channels_at, count_at, header_at, AreChannels}

-- the value of a step that did not fail
pub bind_some : {A B : Type 0} (o : Option A) (f : A → Option B) (y : B) → (o >>= f) ≡ Some y → (x : A) × (o ≡ Some x) × (f x ≡ Some y)
bind_some (Some x) f y e = (x, refl, e)
bind_some None f y e = absurd cc

-- a test that did not fail
pub tested : {A : Type 0} (b : Bool) (x y : A) → cond b None (Some x) ≡ Some y → (b ≡ false) × (x ≡ y)
tested true x y e = absurd cc
tested false x y e = (refl, cc)

-- ---- magic, direction

magic_takes : (magic bytes rest : List ℕ) → magic_at magic bytes ≡ Some rest → bytes ≡ magic ++ rest
unfolding magic_at
magic_takes magic bytes rest e =
    let n = length magic in
    let g = cond_some (bytes_eq (take n bytes) magic) (drop n bytes) rest e in
    let front : take n bytes ≡ magic = (bytes_eq-Decides (take n bytes) magic).0 g.0 in
    sym (take-append-drop n bytes) ∙ ap (λ (t : List ℕ). t ++ drop n bytes) front ∙ ap (λ (t : List ℕ). magic ++ t) g.1

magic_again : (magic rest : List ℕ) → magic_at magic (magic ++ rest) ≡ Some rest
unfolding magic_at
magic_again magic rest =
    let same : bytes_eq magic magic ≡ true = (bytes_eq-Decides magic magic).1 refl in
    rw (take_at magic rest (length magic) refl, drop_at magic rest (length magic) refl, same) refl

pub dir_takes : (bytes : List ℕ) (d : Dir) (rest : List ℕ) → dir_at bytes ≡ Some (d, rest) → bytes ≡ direction_byte d ∷ rest
unfolding dir_at
dir_takes [] d rest e = absurd cc
dir_takes (zero ∷ bytes) d rest e =
    let p = same_Some (Inward, bytes) (d, rest) e in
    subst (λ (x : Dir × List ℕ). 0 ∷ bytes ≡ direction_byte x.0 ∷ x.1) p refl
dir_takes (suc zero ∷ bytes) d rest e =
    let p = same_Some (Outward, bytes) (d, rest) e in
    subst (λ (x : Dir × List ℕ). 1 ∷ bytes ≡ direction_byte x.0 ∷ x.1) p refl
dir_takes (suc (suc n) ∷ bytes) d rest e = absurd cc

pub dir_again : (d : Dir) (rest : List ℕ) → dir_at (direction_byte d ∷ rest) ≡ Some (d, rest)
unfolding dir_at
dir_again Inward rest = refl
dir_again Outward rest = refl

-- ---- names and widths

counted_takes : (bytes x rest : List ℕ) → counted_at bytes ≡ Some (x, rest) → bytes ≡ length x ∷ (x ++ rest)
unfolding counted_at
counted_takes [] x rest e = absurd cc
counted_takes (n ∷ bytes) x rest e =
    let g = tested _ (take n bytes, drop n bytes) (x, rest) e in
    let long : n ≤ length bytes = ltb-false _ _ g.0 in
    let len : length (take n bytes) ≡ n = omega (arith, length-take n bytes) in
    let whole : n ∷ bytes ≡ length (take n bytes) ∷ (take n bytes ++ drop n bytes) = rw (len, take-append-drop n bytes) refl in
    subst (λ (p : List ℕ × List ℕ). n ∷ bytes ≡ length p.0 ∷ (p.0 ++ p.1)) g.1 whole

counted_again : (x rest : List ℕ) → counted_at (length x ∷ (x ++ rest)) ≡ Some (x, rest)
unfolding counted_at
counted_again x rest =
    let long = le-ltb (length (x ++ rest)) (length x) (omega (arith, length-append x rest)) in
    rw (long, take_at x rest (length x) refl, drop_at x rest (length x) refl) refl

named : (name : List ℕ) → is_name name ≡ true → IsName name
unfolding is_name
named [] e = absurd cc
named (b ∷ bs) e =
    let outer = and_parts _ _ e in
    let inner = and_parts _ _ outer.0 in
    (inner.0, AllPass-from_list_all is_letter_or_digit bs outer.1, leb-true _ _ inner.1)

naming : (name : List ℕ) → IsName name → is_name name ≡ true
unfolding is_name
naming [] h = absurd h
naming (b ∷ bs) h = and_from _ _ (and_from _ _ h.0 (le-leb _ _ h.2)) (list_all-from_AllPass is_letter_or_digit bs h.1)

abbrev AreWidths : List ℕ → Type 0
AreWidths widths = (length widths ≤ 16) × All (λ w. (1 ≤ w) × (w ≤ 128)) widths

wide : (widths : List ℕ) → are_widths widths ≡ true → AreWidths widths
unfolding are_widths
wide widths e =
    let outer = and_parts _ _ e in
    let each = AllPass-from_list_all is_width widths outer.1 in
    (leb-true _ _ outer.0, λ k d lt. let h = and_parts _ _ (each k d lt) in (leb-true _ _ h.0, leb-true _ _ h.1))

widening : (widths : List ℕ) → AreWidths widths → are_widths widths ≡ true
unfolding are_widths
widening widths h =
    and_from _ _ (le-leb _ _ h.0) (list_all-from_AllPass is_width widths
    (λ k d lt. and_from _ _ (le-leb _ _ (h.1 k d lt).0) (le-leb _ _ (h.1 k d lt).1)))

name_takes : (bytes name rest : List ℕ) → name_at bytes ≡ Some (name, rest) → (bytes ≡ length name ∷ (name ++ rest)) × IsName name
unfolding name_at
name_takes bytes name rest e =
    let a = bind_some (counted_at bytes) (λ (x : List ℕ × List ℕ). cond (is_name x.0) (Some x) None) (name, rest) e in
    let g = cond_some (is_name a.0.0) a.0 (name, rest) a.2 in
    subst (λ (x : List ℕ × List ℕ). (bytes ≡ length x.0 ∷ (x.0 ++ x.1)) × IsName x.0) g.1
    (counted_takes bytes a.0.0 a.0.1 a.1, named a.0.0 g.0)

name_again : (name rest : List ℕ) → IsName name → name_at (length name ∷ (name ++ rest)) ≡ Some (name, rest)
unfolding name_at
name_again name rest h = rw (counted_again name rest, naming name h) refl

widths_take : (bytes widths rest : List ℕ) → widths_at bytes ≡ Some (widths, rest) → (bytes ≡ length widths ∷ (widths ++ rest))
    × AreWidths widths
unfolding widths_at
widths_take bytes widths rest e =
    let a = bind_some (counted_at bytes) (λ (x : List ℕ × List ℕ). cond (are_widths x.0) (Some x) None) (widths, rest) e in
    let g = cond_some (are_widths a.0.0) a.0 (widths, rest) a.2 in
    subst (λ (x : List ℕ × List ℕ). (bytes ≡ length x.0 ∷ (x.0 ++ x.1)) × AreWidths x.0) g.1
    (counted_takes bytes a.0.0 a.0.1 a.1, wide a.0.0 g.0)

widths_again : (widths rest : List ℕ) → AreWidths widths → widths_at (length widths ∷ (widths ++ rest)) ≡ Some (widths, rest)
unfolding widths_at
widths_again widths rest h = rw (counted_again widths rest, widening widths h) refl

-- ---- channels

-- the fields of a channel, with what follows them
regroup : (c : Channel) (rest : List ℕ) → channel_bytes c ++ rest ≡ direction_byte c.dir
    ∷ (length c.name ∷ (c.name ++ (length c.widths ∷ (c.widths ++ rest))))
regroup c rest = ap (λ (t : List ℕ). direction_byte c.dir ∷ (length c.name ∷ t)) (append_assoc c.name (length c.widths ∷ c.widths) rest)

channel_takes : (bytes : List ℕ) (x : Channel × List ℕ) → channel_at bytes ≡ Some x → (bytes ≡ channel_bytes x.0 ++ x.1) × IsChannel x.0
unfolding channel_at
channel_takes bytes x e =
    let a = bind_some (dir_at bytes) (λ dir. name_at dir.1 >>= λ name. widths_at name.1
    >>= λ widths. Some (record { dir = dir.0; name = name.0; widths = widths.0 }, widths.1)) x e in
    let b = bind_some (name_at a.0.1) (λ name. widths_at name.1 >>= λ widths. Some
    (record { dir = a.0.0; name = name.0; widths = widths.0 }, widths.1)) x a.2 in
    let d = bind_some (widths_at b.0.1) (λ widths. Some (record { dir = a.0.0; name = b.0.0; widths = widths.0 }, widths.1)) x b.2 in
    let made : Channel × List ℕ = (record { dir = a.0.0; name = b.0.0; widths = d.0.0 }, d.0.1) in
    let first = dir_takes bytes a.0.0 a.0.1 a.1 in
    let second = name_takes a.0.1 b.0.0 b.0.1 b.1 in
    let third = widths_take b.0.1 d.0.0 d.0.1 d.1 in
    let whole : bytes ≡ channel_bytes made.0 ++ made.1 = first ∙ ap (λ (t : List ℕ). direction_byte a.0.0 ∷ t)
    (second.0 ∙ ap (λ (t : List ℕ). length b.0.0 ∷ (b.0.0 ++ t)) third.0) ∙ sym (regroup made.0 made.1) in
    subst (λ (y : Channel × List ℕ). (bytes ≡ channel_bytes y.0 ++ y.1) × IsChannel y.0) (same_Some made x d.2)
    (whole, record { name = second.1; ports = third.1.0; widths = third.1.1 })

channel_again : (c : Channel) (rest : List ℕ) → IsChannel c → channel_at (channel_bytes c ++ rest) ≡ Some (c, rest)
unfolding channel_at
channel_again c rest h =
    ap channel_at (regroup c rest) ∙ rw (
      dir_again c.dir (length c.name ∷ (c.name ++ (length c.widths ∷ (c.widths ++ rest)))),
      name_again
          c.name (length c.widths ∷ (c.widths ++ rest)) h.name,
      widths_again c.widths rest (h.ports, h.widths),
    ) refl

channels_take : (n : ℕ) (bytes : List ℕ) (x : List Channel × List ℕ) → channels_at n bytes ≡ Some x
    → (bytes ≡ flat_map channel_bytes x.0 ++ x.1) × (length x.0 ≡ n) × AllByRecursion IsChannel x.0
unfolding channels_at
channels_take zero bytes x e =
    subst (λ (y : List Channel × List ℕ). (bytes ≡ flat_map channel_bytes y.0 ++ y.1) × (length y.0 ≡ 0) × AllByRecursion IsChannel y.0)
    (same_Some ([], bytes) x e) (refl, refl, tt)
channels_take (suc n) bytes x e =
    let a = bind_some (channel_at bytes) (λ first. channels_at n first.1 >>= λ others. Some (first.0 ∷ others.0, others.1)) x e in
    let b = bind_some (channels_at n a.0.1) (λ others. Some (a.0.0 ∷ others.0, others.1)) x a.2 in
    let first = channel_takes bytes a.0 a.1 in
    let second = channels_take n a.0.1 b.0 b.1 in
    let made : List Channel × List ℕ = (a.0.0 ∷ b.0.0, b.0.1) in
    let both : bytes ≡ flat_map channel_bytes made.0 ++ made.1 = first.0 ∙ ap (λ (t : List ℕ). channel_bytes a.0.0 ++ t) second.0
    ∙ sym (append_assoc (channel_bytes a.0.0) (flat_map channel_bytes b.0.0) b.0.1) in
    subst (λ (y : List Channel × List ℕ). (bytes ≡ flat_map channel_bytes y.0 ++ y.1) × (length y.0 ≡ suc n) × AllByRecursion IsChannel y.0)
    (same_Some made x b.2) (both, ap suc second.1, (first.1, second.2))

channels_again : (cs : List Channel) (rest : List ℕ) → AllByRecursion IsChannel cs
    → channels_at (length cs) (flat_map channel_bytes cs ++ rest) ≡ Some (cs, rest)
unfolding channels_at
channels_again [] rest h = refl
channels_again (c ∷ cs) rest h =
    let grouped : flat_map channel_bytes (c ∷ cs) ++ rest ≡ channel_bytes c
    ++ (flat_map channel_bytes cs ++ rest) = append_assoc (channel_bytes c) (flat_map channel_bytes cs) rest in
    ap (channels_at (suc (length cs))) grouped ∙ rw (channel_again c (flat_map channel_bytes cs ++ rest) h.0, channels_again cs rest h.1)
    refl

-- ---- the header

count_takes : (most : ℕ) (bytes : List ℕ) (n : ℕ) (rest : List ℕ) → count_at most bytes ≡ Some (n, rest)
    → (bytes ≡ n ∷ rest) × (1 ≤ n) × (n ≤ most)
unfolding count_at
count_takes most [] n rest e = absurd cc
count_takes most (m ∷ bytes) n rest e =
    let g = cond_some _ (m, bytes) (n, rest) e in
    let within = and_parts _ _ g.0 in
    subst (λ (p : ℕ × List ℕ). (m ∷ bytes ≡ p.0 ∷ p.1) × (1 ≤ p.0) × (p.0 ≤ most)) g.1 (refl, leb-true _ _ within.0, leb-true _ _ within.1)

count_again : (most n : ℕ) (rest : List ℕ) → 1 ≤ n → n ≤ most → count_at most (n ∷ rest) ≡ Some (n, rest)
unfolding count_at
count_again most n rest low high = rw (le-leb 1 n low, le-leb n most high) refl

header_takes : (magic : List ℕ) (most : ℕ) (bytes : List ℕ) (x : List Channel × List ℕ) → header_at magic most bytes ≡ Some x
    → AreChannels most x.0 × (bytes ≡ table_bytes magic x.0 ++ x.1)
unfolding header_at
header_takes magic most bytes x e =
    let a = bind_some (magic_at magic bytes) (λ rest. count_at most rest >>= λ count. channels_at count.0 count.1) x e in
    let b = bind_some (count_at most a.0) (λ count. channels_at count.0 count.1) x a.2 in
    let first = magic_takes magic bytes a.0 a.1 in
    let second = count_takes most a.0 b.0.0 b.0.1 b.1 in
    let third = channels_take b.0.0 b.0.1 x b.2 in
    let whole : bytes ≡ table_bytes magic x.0 ++ x.1 = first ∙ ap (λ (t : List ℕ). magic ++ t)
    (second.0 ∙ ap (λ (t : List ℕ). b.0.0 ∷ t) third.0 ∙ ap (λ (k : ℕ). k ∷ (flat_map channel_bytes x.0 ++ x.1)) (sym third.1))
    ∙ sym (append_assoc magic (length x.0 ∷ flat_map channel_bytes x.0) x.1) in (
      record {
        some = omega (arith, third.1, second.1);
        few = omega (arith, third.1, second.2);
        each = All-from_recursion IsChannel x.0
            third.2;
      },
      whole,
    )

pub header_again : (magic : List ℕ) (most : ℕ) (cs : List Channel) (rest : List ℕ) → AreChannels most cs
    → header_at magic most (table_bytes magic cs ++ rest) ≡ Some (cs, rest)
unfolding header_at
header_again magic most cs rest h =
    ap (header_at magic most) (append_assoc magic (length cs ∷ flat_map channel_bytes cs) rest)
    ∙ rw (
      magic_again magic (length cs ∷ (flat_map channel_bytes cs ++ rest)),
      count_again most (length cs) (flat_map channel_bytes cs ++ rest) h.some
          h.few,
    ) (channels_again cs rest (recursion_from_All IsChannel cs h.each))

-- ---- what reading gives, as clauses say it

pub is_found : {X : Type 0} (magic : List ℕ) (most : ℕ) (bytes : List ℕ) (view : X → List Channel × List ℕ) (r : Result X CodeError)
    → Gives view r (header_at magic most bytes)
    → IfOk r (λ x. AreChannels most (view x).0 × (bytes ≡ table_bytes magic (view x).0 ++ (view x).1))
is_found magic most bytes view (Ok x) given = header_takes magic most bytes (view x) given
is_found magic most bytes view (Err e) given = tt

pub is_only : {X : Type 0} (magic : List ℕ) (most : ℕ) (bytes : List ℕ) (view : X → List Channel × List ℕ) (r : Result X CodeError)
    → Gives view r (header_at magic most bytes)
    → (cs : List Channel) (rest : List ℕ) → AreChannels most cs → bytes ≡ table_bytes magic cs ++ rest
    → MatchResult r (λ x. ((view x).0 ≡ cs) × ((view x).1 ≡ rest)) (λ e. e ≡ Memory)
is_only magic most bytes view (Ok x) given cs rest h e =
    let s = same_Some (view x) (cs, rest) (sym given ∙ ap (header_at magic most) e ∙ header_again magic most cs rest h) in
    (ap (λ (p : List Channel × List ℕ). p.0) s, ap (λ (p : List Channel × List ℕ). p.1) s)
is_only magic most bytes view (Err Memory) given cs rest h e = refl
is_only magic most bytes view (Err (BadTrace at)) given cs rest h e = absurd (none-some (cs, rest)
    (sym given.1 ∙ ap (header_at magic most) e ∙ header_again magic most cs rest h))
