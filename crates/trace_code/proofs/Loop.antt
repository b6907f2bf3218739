-- Reading channels one after the other, as a loop does.
use Rattle.std.proofs.Common.{◌≡◌, ℕ, suc, ◌-◌, ◌+◌, ◌≤◌, ◌<◌, List, [], ◌∷◌, ◌++◌, Option, Some, None, refl, sym, ap, ◌∙◌, append_assoc}
use Rattle.std.proofs.Common.{arith}
use Rattle.std.proofs.lemmas.List.{append-nil}
use Rattle.vec_clock.specs.trace_model.declared.channel.Channel.{Channel}
use Rattle.trace_code.specs.declared.error.CodeError.{CodeError}
use Rattle.trace_code.specs.declared.error.CodeError.TheVariants.{BadTrace, Memory}
use Rattle.trace_code.specs.Reading.{◌>>=◌, Fails, with_front, channel_at, channels_at}

regroup : (front : List Channel) (c : Channel) (read : Option (List Channel × List ℕ))
    → with_front front (read >>= λ x. Some (c ∷ x.0, x.1)) ≡ with_front (front ++ c ∷ []) read
regroup front c (Some x) = ap (λ (cs : List Channel). Some (cs, x.1)) (simp append_assoc)
regroup front c None = refl

pub goes_on : (front : List Channel) (count i : ℕ) (bytes : List ℕ) (c : Channel) (after : List ℕ) (total : Option (List Channel × List ℕ))
    → i < count → channel_at bytes ≡ Some (c, after)
    → with_front front (channels_at (count - i) bytes) ≡ total → with_front (front ++ c ∷ []) (channels_at (count - (i + 1)) after) ≡ total
unfolding channels_at
goes_on front count i bytes c after total lt h so_far =
    let k : count - i ≡ suc (count - (i + 1)) = omega arith in
    let one : with_front front (channels_at (count - i) bytes) ≡ with_front (front ++ c ∷ []) (channels_at (count - (i + 1)) after) = rw
    (k, h) (regroup front c (channels_at (count - (i + 1)) after)) in
    sym one ∙ so_far

pub ends : (e : CodeError) (front : List Channel) (count i : ℕ) (bytes : List ℕ) (total : Option (List Channel × List ℕ)) → i < count
    → Fails e (channel_at bytes)
    → with_front front (channels_at (count - i) bytes) ≡ total → Fails e total
unfolding channels_at
ends Memory front count i bytes total lt h so_far = tt
ends (BadTrace at) front count i bytes total lt h so_far =
    let k : count - i ≡ suc (count - (i + 1)) = omega arith in
    let one : with_front front (channels_at (count - i) bytes) ≡ None = rw (k, h.1) refl in
    (h.0, sym so_far ∙ one)

pub is_done : (front : List Channel) (count i : ℕ) (bytes : List ℕ) (total : Option (List Channel × List ℕ)) → count ≤ i
    → with_front front (channels_at (count - i) bytes) ≡ total → total ≡ Some (front, bytes)
unfolding channels_at
is_done front count i bytes total le so_far =
    let k : count - i ≡ 0 = omega arith in
    let one : with_front front (channels_at (count - i) bytes) ≡ Some (front, bytes) = rw k
    (ap (λ (cs : List Channel). Some (cs, bytes)) (append-nil front)) in
    sym so_far ∙ one
