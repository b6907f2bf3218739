-- Reading the parts of a trace at the front of bytes: the part and the bytes after it, or None where no such part stands there.
use Rattle.std.specs.Prelude.{◌≡◌, ℕ, zero, suc, ◌≤◌, Bool, false, ◌&&◌, List, [], ◌∷◌, ◌++◌, length, take, drop, Option, Some, None}
use Rattle.std.specs.Prelude.{Result, Ok, Err, nat_lt, nat_le, option_and_then, if◌then◌else◌, All}
use Rattle.std.specs.List.{list_all}
use Rattle.std.specs.Str.{bytes_eq}
use Rattle.vec_clock.specs.trace_model.declared.channel.Channel.{Channel}
use Rattle.vec_clock.specs.trace_model.declared.channel.Dir.{Dir}
use Rattle.vec_clock.specs.trace_model.declared.channel.Dir.TheVariants.{Inward, Outward}
use Rattle.vec_clock.specs.trace_model.Channel.{is_letter, is_letter_or_digit, IsChannel}
use Rattle.trace_code.specs.declared.error.CodeError.{CodeError}
use Rattle.trace_code.specs.declared.error.CodeError.TheVariants.{BadTrace, Memory}

infixl 10 ◌>>=◌
abbrev pub ◌>>=◌ : {A B : Type 0} → Option A → (A → Option B) → Option B
o >>= f = option_and_then f o

-- What a function returned, seen by view, is what reading gives, unless memory ran out.
abbrev pub Fails : {Y : Type 0} → CodeError → Option Y → Type 0
Fails Memory read = Unit {0}
Fails (BadTrace at) read = (at ≡ 0) × (read ≡ None)

abbrev pub Gives : {X Y : Type 0} → (X → Y) → Result X CodeError → Option Y → Type 0
Gives view (Ok x) read = read ≡ Some (view x)
Gives view (Err e) read = Fails e read

-- the items before, and those that reading gives
abbrev pub with_front : {X : Type 0} → List X → Option (List X × List ℕ) → Option (List X × List ℕ)
with_front front read = read >>= λ x. Some (front ++ x.0, x.1)

unfoldable pub magic_at : List ℕ → List ℕ → Option (List ℕ)
magic_at magic bytes = if bytes_eq (take (length magic) bytes) magic then Some (drop (length magic) bytes) else None

unfoldable pub dir_at : List ℕ → Option (Dir × List ℕ)
dir_at [] = None
dir_at (zero ∷ rest) = Some (Inward, rest)
dir_at (suc zero ∷ rest) = Some (Outward, rest)
dir_at (suc (suc n) ∷ rest) = None

-- a count, and that many bytes
unfoldable pub counted_at : List ℕ → Option (List ℕ × List ℕ)
counted_at [] = None
counted_at (n ∷ rest) = if nat_lt (length rest) n then None else Some (take n rest, drop n rest)

unfoldable pub is_name : List ℕ → Bool
is_name [] = false
is_name (b ∷ bs) = is_letter b && nat_le (length bs) 63 && list_all is_letter_or_digit bs

abbrev pub is_width : ℕ → Bool
is_width w = nat_le 1 w && nat_le w 128

unfoldable pub are_widths : List ℕ → Bool
are_widths widths = nat_le (length widths) 16 && list_all is_width widths

unfoldable pub name_at : List ℕ → Option (List ℕ × List ℕ)
name_at bytes = do
  name ← counted_at bytes
  if is_name name.0 then Some name else None

unfoldable pub widths_at : List ℕ → Option (List ℕ × List ℕ)
widths_at bytes = do
  widths ← counted_at bytes
  if are_widths widths.0 then Some widths else None

unfoldable pub channel_at : List ℕ → Option (Channel × List ℕ)
channel_at bytes = do
  dir ← dir_at bytes
  name ← name_at dir.1
  widths ← widths_at name.1
  Some (record { dir = dir.0; name = name.0; widths = widths.0 }, widths.1)

unfoldable pub channels_at : ℕ → List ℕ → Option (List Channel × List ℕ)
channels_at zero bytes = Some ([], bytes)
channels_at (suc n) bytes = do
  first ← channel_at bytes
  others ← channels_at n first.1
  Some (first.0 ∷ others.0, others.1)

-- a count of channels, from 1 to the most
unfoldable pub count_at : ℕ → List ℕ → Option (ℕ × List ℕ)
count_at most [] = None
count_at most (n ∷ rest) = if nat_le 1 n && nat_le n most then Some (n, rest) else None

-- a header of the version with this magic and this most of channels, whatever its names and the sizes of its contents
unfoldable pub header_at : List ℕ → ℕ → List ℕ → Option (List Channel × List ℕ)
header_at magic most bytes = do
  rest ← magic_at magic bytes
  count ← count_at most rest
  channels_at count.0 count.1

-- the channels of such a header
pub record AreChannels (most : ℕ) (channels : List Channel) : Type 0 where
  pub some : 1 ≤ length channels
  pub few : length channels ≤ most
  pub each : All IsChannel channels
