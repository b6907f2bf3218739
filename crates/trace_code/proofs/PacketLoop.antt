-- Reading the numbers of a packet one after the other, as loops over widths and channels do.
use Rattle.std.proofs.Common.{◌≡◌, ℕ, ◌+◌, ◌<◌, ◌≤◌, Bool, cond, List, [], ◌∷◌, ◌++◌, length, get_or, drop, Option, Some, None, Err, refl, sym}
use Rattle.std.proofs.Common.{ap, ◌∙◌, append_assoc}
use Rattle.std.specs.List.{flat_map, enumerate_from}
use Rattle.std.specs.Option.{ok_or}
use Rattle.std.proofs.lemmas.Result.{IfErr-at_err}
use Rattle.std.proofs.lemmas.List.{append-nil, drop_more, drop_all}
use Rattle.vec_clock.specs.vidi_bits.Number.{has}
use Rattle.vec_clock.specs.trace_model.declared.channel.Channel.{Channel}
use Rattle.trace_code.specs.declared.error.CodeError.{CodeError}
use Rattle.trace_code.specs.declared.error.CodeError.TheVariants.{BadTrace, Memory}
use Rattle.trace_code.specs.Reading.{◌>>=◌, Fails, with_front}
use Rattle.trace_code.specs.PacketReading.{number_at, numbers_at}

-- the widths under a mask, of the channels from c on
abbrev pub widths_from : ℕ → ℕ → List Channel → List ℕ
widths_from c mask channels = flat_map (λ (x : ℕ × Channel). cond (has mask x.0) x.1.widths []) (enumerate_from c channels)

abbrev Read : Type 0
Read = Option (List ℕ × List ℕ)

regroup : (front : List ℕ) (n : ℕ) (read : Read) → with_front front (read >>= λ x. Some (n ∷ x.0, x.1)) ≡ with_front (front ++ n ∷ []) read
regroup front n (Some x) = ap (λ (ns : List ℕ). Some (ns, x.1)) (simp append_assoc)
regroup front n None = refl

-- the fault that a reader says where it found nothing
pub fault-fails : {X Y : Type 0} (e : CodeError) (found : Option X) (read : Option Y) → Err e ≡ ok_or found (BadTrace 0) → found ≡ None
    → read ≡ None → Fails e read
fault-fails e found read value none lacks =
    let same = value ∙ ap (λ (o : Option _). ok_or o (BadTrace 0)) none in
    IfErr-at_err (λ (y : CodeError). Fails y read) (sym same) (refl, lacks)

-- ---- over widths

pub number_goes_on : (front ws : List ℕ) (i : ℕ) (bytes : List ℕ) (n : ℕ) (after : List ℕ) (total : Read) → i < length ws
    → number_at (get_or ws i 0) bytes ≡ Some (n, after)
    → with_front front (numbers_at (drop i ws) bytes) ≡ total → with_front (front ++ n ∷ []) (numbers_at (drop (i + 1) ws) after) ≡ total
unfolding numbers_at
number_goes_on front ws i bytes n after total lt h so_far =
    let one : with_front front (numbers_at (drop i ws) bytes) ≡ with_front (front ++ n ∷ []) (numbers_at (drop (i + 1) ws) after) = rw
    (drop_more ws i 0 lt, h) (regroup front n (numbers_at (drop (i + 1) ws) after)) in
    sym one ∙ so_far

pub number_lacks : (front ws : List ℕ) (i : ℕ) (bytes : List ℕ) (total : Read) → i < length ws
    → number_at (get_or ws i 0) bytes ≡ None
    → with_front front (numbers_at (drop i ws) bytes) ≡ total → total ≡ None
unfolding numbers_at
number_lacks front ws i bytes total lt h so_far =
    let one : with_front front (numbers_at (drop i ws) bytes) ≡ None = rw (drop_more ws i 0 lt, h) refl in
    sym so_far ∙ one

pub number_ends : (e : CodeError) (front ws : List ℕ) (i : ℕ) (bytes : List ℕ) (total : Read) → i < length ws
    → Fails e (number_at (get_or ws i 0) bytes)
    → with_front front (numbers_at (drop i ws) bytes) ≡ total → Fails e total
number_ends Memory front ws i bytes total lt h so_far = tt
number_ends (BadTrace at) front ws i bytes total lt h so_far = (h.0, number_lacks front ws i bytes total lt h.1 so_far)

pub number_is_done : (front ws : List ℕ) (i : ℕ) (bytes : List ℕ) (total : Read) → length ws ≤ i
    → with_front front (numbers_at (drop i ws) bytes) ≡ total → total ≡ Some (front, bytes)
unfolding numbers_at
number_is_done front ws i bytes total le so_far =
    let one : with_front front (numbers_at (drop i ws) bytes) ≡ Some (front, bytes) = rw (drop_all i ws le)
    (ap (λ (ns : List ℕ). Some (ns, bytes)) (append-nil front)) in
    sym so_far ∙ one

-- ---- over channels

-- the numbers of some widths, and then those of the others, behind a first one
after_first : (front ws vs : List ℕ) (read : Option (ℕ × List ℕ))
    → ((n : ℕ) (bytes : List ℕ) → with_front (front ++ n ∷ []) (numbers_at (ws ++ vs) bytes)
    ≡ (with_front (front ++ n ∷ []) (numbers_at ws bytes) >>= λ x. with_front x.0 (numbers_at vs x.1)))
    → with_front front (read >>= λ first. numbers_at (ws ++ vs) first.1 >>= λ others. Some (first.0 ∷ others.0, others.1))
    ≡ (with_front front (read >>= λ first. numbers_at ws first.1 >>= λ others. Some (first.0 ∷ others.0, others.1))
    >>= λ x. with_front x.0 (numbers_at vs x.1))
after_first front ws vs None h = refl
after_first front ws vs (Some first) h =
    regroup front first.0 (numbers_at (ws ++ vs) first.1) ∙ h first.0 first.1
    ∙ ap (λ (r : Read). r >>= λ x. with_front x.0 (numbers_at vs x.1)) (sym (regroup front first.0 (numbers_at ws first.1)))

and_then : (front ws vs bytes : List ℕ) → with_front front (numbers_at (ws ++ vs) bytes)
    ≡ (with_front front (numbers_at ws bytes) >>= λ x. with_front x.0 (numbers_at vs x.1))
unfolding numbers_at
and_then front [] vs bytes = ap (λ (f : List ℕ). with_front f (numbers_at vs bytes)) (sym (append-nil front))
and_then front (w ∷ ws) vs bytes = after_first front ws vs (number_at w bytes) (λ n rest. and_then (front ++ n ∷ []) ws vs rest)

pub nothing_read : (front bytes : List ℕ) → with_front front (numbers_at [] bytes) ≡ Some (front, bytes)
unfolding numbers_at
nothing_read front bytes = ap (λ (ns : List ℕ). Some (ns, bytes)) (append-nil front)

-- the widths of channel c where the mask names it
abbrev pub widths_at_start : Bool → Channel → List ℕ
widths_at_start starts channel = cond starts channel.widths []

widths-more : (mask : ℕ) (cs : List Channel) (c : ℕ) (channel : Channel) → c < length cs → channel ≡ get_or cs c channel
    → widths_from c mask (drop c cs) ≡ widths_at_start (has mask c) channel ++ widths_from (c + 1) mask (drop (c + 1) cs)
widths-more mask cs c channel lt at = ap (widths_from c mask) (drop_more cs c channel lt
    ∙ ap (λ (x : Channel). x ∷ drop (c + 1) cs) (sym at))

pub start_goes_on : (front : List ℕ) (mask : ℕ) (cs : List Channel) (c : ℕ) (channel : Channel) (bytes new after : List ℕ) (total : Read)
    → c < length cs → channel ≡ get_or cs c channel
    → with_front front (numbers_at (widths_at_start (has mask c) channel) bytes) ≡ Some (new, after)
    → with_front front (numbers_at (widths_from c mask (drop c cs)) bytes) ≡ total
    → with_front new (numbers_at (widths_from (c + 1) mask (drop (c + 1) cs)) after) ≡ total
start_goes_on front mask cs c channel bytes new after total lt at h so_far =
    let ws = widths_at_start (has mask c) channel in
    let vs = widths_from (c + 1) mask (drop (c + 1) cs) in
    let one : with_front front (numbers_at (widths_from c mask (drop c cs)) bytes) ≡ with_front new (numbers_at vs after) =
    ap (λ (us : List ℕ). with_front front (numbers_at us bytes)) (widths-more mask cs c channel lt at) ∙ and_then front ws vs bytes
    ∙ ap (λ (r : Read). r >>= λ x. with_front x.0 (numbers_at vs x.1)) h in
    sym one ∙ so_far

pub start_lacks : (front : List ℕ) (mask : ℕ) (cs : List Channel) (c : ℕ) (channel : Channel) (bytes : List ℕ) (total : Read)
    → c < length cs → channel ≡ get_or cs c channel
    → with_front front (numbers_at (widths_at_start (has mask c) channel) bytes) ≡ None
    → with_front front (numbers_at (widths_from c mask (drop c cs)) bytes) ≡ total → total ≡ None
start_lacks front mask cs c channel bytes total lt at h so_far =
    let ws = widths_at_start (has mask c) channel in
    let vs = widths_from (c + 1) mask (drop (c + 1) cs) in
    let one : with_front front (numbers_at (widths_from c mask (drop c cs)) bytes) ≡ None =
    ap (λ (us : List ℕ). with_front front (numbers_at us bytes)) (widths-more mask cs c channel lt at) ∙ and_then front ws vs bytes
    ∙ ap (λ (r : Read). r >>= λ x. with_front x.0 (numbers_at vs x.1)) h in
    sym so_far ∙ one

pub start_ends : (e : CodeError) (front : List ℕ) (mask : ℕ) (cs : List Channel) (c : ℕ) (channel : Channel) (bytes : List ℕ) (total : Read)
    → c < length cs → channel ≡ get_or cs c channel
    → Fails e (with_front front (numbers_at (widths_at_start (has mask c) channel) bytes))
    → with_front front (numbers_at (widths_from c mask (drop c cs)) bytes) ≡ total → Fails e total
start_ends Memory front mask cs c channel bytes total lt at h so_far = tt
start_ends (BadTrace place) front mask cs c channel bytes total lt at h so_far =
    (h.0, start_lacks front mask cs c channel bytes total lt at h.1 so_far)

pub start_is_done : (front : List ℕ) (mask : ℕ) (cs : List Channel) (c : ℕ) (bytes : List ℕ) (total : Read) → length cs ≤ c
    → with_front front (numbers_at (widths_from c mask (drop c cs)) bytes) ≡ total → total ≡ Some (front, bytes)
unfolding numbers_at
start_is_done front mask cs c bytes total le so_far =
    let one : with_front front (numbers_at (widths_from c mask (drop c cs)) bytes)
    ≡ Some (front, bytes) = rw (drop_all c cs le) (ap (λ (ns : List ℕ). Some (ns, bytes)) (append-nil front)) in
    sym so_far ∙ one

pub start_begins : (read : Read) → with_front [] read ≡ read
start_begins (Some x) = refl
start_begins None = refl
