-- `wrap`: one answer, which leaves one text.
use Rattle.std.proofs.Common.{◌≡◌, ℕ, ◌≤◌, Bool, List, [], Option, None, Some, length, inl, inr, sym, ap, subst, ◌∙◌, arith}
use Rattle.vidi_commands.specs.vidi_bits.Findings.{first}
use Rattle.vidi_commands.proofs.vidi_bits_lemmas.Lists.{some_same}
use Rattle.vlog_tree.specs.Tree.{FileOf}
use Rattle.vlog_tree.specs.Spelling.{toks}
use Rattle.vidi_commands.specs.vlog_parse.Marks.{all_marked}
use Rattle.vidi_commands.specs.vlog_elab.declared.error.ElabError.{ElabError}
use Rattle.vidi_commands.specs.vlog_elab.declared.error.ElabError.TheVariants.{Memory}
use Rattle.vidi_commands.specs.chan_map.declared.pins.Map.{Map}
use Rattle.vidi_commands.specs.shim_trees.RecordTop.{record_name}
use Rattle.vidi_commands.specs.shim_trees.ReplayTop.{replay_name}
use Rattle.vidi_commands.specs.shim_trees.Wrapped.{reserved_names, wrapped}
use Rattle.vidi_commands.specs.vidi_io.Shelf.{Files}
use Rattle.vidi_commands.specs.report_text.declared.reason.Word.TheVariants as words
use Rattle.vidi_commands.specs.report_text.declared.reason.Reason.TheVariants as reasons
use Rattle.vidi_commands.specs.report_text.Reason.{reason_line}
use Rattle.vidi_commands.specs.vidi_bench.declared.device.Device.{Device}
use Rattle.vidi_commands.specs.vidi_bench.vidi_answer.declared.status.Status.{Status}
use Rattle.vidi_commands.specs.vidi_bench.vidi_answer.declared.status.Status.TheVariants.{Done, Refused}
use Rattle.vidi_commands.specs.vidi_bench.Design.{text_limit}
use Rattle.vidi_commands.specs.vidi_bench.Devices.{IsDevice, Mapping}
use Rattle.vidi_commands.specs.vidi_bench.Reading.{Reading}
use Rattle.vidi_commands.specs.Said.{wrapped_line}
use Rattle.vidi_commands.specs.vlog_elab.Errors.{number_of}
use Rattle.vidi_commands.specs.wrap_command.Shims.{file_text, IsClearTop, IsClearTree, IsDeepTree, IsFaulty}
use Rattle.vidi_commands.specs.wrap_command.Shims.{IsFaultyTop, IsFaultyTree, IsRefusedTop, IsUnwrapped, IsWrapped}
use Rattle.vidi_commands.specs.vidi_bench.Steps.{IsRefusal}
use Rattle.vidi_commands.specs.wrap_command.Wraps.{IsUnwritten, IsWrappable, IsWrapping, RefusedWrap, Wraps, WrapsFile}
use Rattle.vidi_laws.proofs.OneEnding.{One, OneBy, one-said, one-read, one-reading-by, reading-apart}
use Rattle.vidi_laws.proofs.OneCheck.{TextLaws, Alike, alike, one-spelled, one-spelling, text-apart}
use Rattle.vidi_laws.proofs.OneRefusal.{one_refusal, refused_clear}
use Rattle.vidi_laws.proofs.SameDevice.{DeviceLaws, mapping-apart, one-mapping, same-device}
use Rattle.vidi_laws.proofs.SameRecord.{LeftAlike}

-- ---- the reasons that hold of a wrapped tree
one-faulty : (n k : ℕ) → k ≡ n → (a b : Status) (x y : List ℕ) → IsFaulty n a x → IsFaulty k b y → (a ≡ b) × (x ≡ y)
one-faulty n k same a b x y s t =
    one-said (Refused words.Design (reasons.Wrapped n)) (reason_line words.Design (reasons.Wrapped n)) a b x y s
    (subst (λ (i : ℕ). IsFaulty i b y) same t)

no-number : (e : ElabError) (n : ℕ) → number_of e ≡ Some n → e ≡ Memory → ⊥
no-number e n names memory = let none : None ≡ Some n = ap number_of (sym memory) ∙ names in cc

one-refused_top : (top : List ℕ) (w : FileOf ℕ) → One (IsRefusedTop top w)
one-refused_top top w a b x y (e, is, (n, names, s)) (d, is', (k, names', s')) = elim (one_refusal w top e d is is') [
  | inl memory ↦ absurd (no-number e n names memory)
  | inr rest ↦ elim rest [
    | inl memory ↦ absurd (no-number d k names' memory)
    | inr same ↦ one-faulty n k (some_same k n (sym names' ∙ ap number_of (sym same) ∙ names)) a b x y s s'
  ]
]

one-faulty_top : (top : List ℕ) (w : FileOf ℕ) → One (IsFaultyTop top w)
one-faulty_top top w a b x y (inl bad) (inl bad') = one-refused_top top w a b x y bad bad'
one-faulty_top top w a b x y (inl (e, is, (n, names, s))) (inr (d, accepted, looped)) =
    absurd (no-number e n names (refused_clear w top e is accepted.0))
one-faulty_top top w a b x y (inr (d, accepted, looped)) (inl (e, is, (n, names, s))) =
    absurd (no-number e n names (refused_clear w top e is accepted.0))
one-faulty_top top w a b x y (inr (d, accepted, (loop, is, s))) (inr (e, accepted', (loop', is', s'))) =
    one-said (Refused words.Design (reasons.Wrapped 10)) (reason_line words.Design (reasons.Wrapped 10)) a b x y s s'

top-apart : TextLaws → (top : List ℕ) (w : FileOf ℕ) (a : Status) (x : List ℕ) → IsFaultyTop top w a x → IsClearTop top w → ⊥
top-apart laws top w a x (inl (e, is, (n, names, s))) (d, accepted, ordered) =
    no-number e n names (refused_clear w top e is accepted.0)
top-apart laws top w a x (inr (d, accepted, (loop, is, s))) (e, accepted', (order, ordered)) =
    laws.loops w top d e accepted.1 accepted'.1 loop order is ordered

one-deep_tree : (w : FileOf ℕ) → One (IsDeepTree w)
one-deep_tree w a b x y (line, deep, s) (line', deep', s') =
    one-said (Refused words.Design (reasons.Wrapped 14)) (reason_line words.Design (reasons.Wrapped 14)) a b x y s s'

one-faulty_tree : TextLaws → (w : FileOf ℕ) → One (IsFaultyTree w)
one-faulty_tree laws w a b x y (inl deep) (inl deep') = one-deep_tree w a b x y deep deep'
one-faulty_tree laws w a b x y (inl (line, deep, s)) (inr (shallow, rest)) = absurd (laws.depth.apart (all_marked (toks w)) line deep shallow)
one-faulty_tree laws w a b x y (inr (shallow, rest)) (inl (line, deep, s)) = absurd (laws.depth.apart (all_marked (toks w)) line deep shallow)
one-faulty_tree laws w a b x y (inr (low, inl bad)) (inr (low', inl bad')) = one-faulty_top record_name w a b x y bad bad'
one-faulty_tree laws w a b x y (inr (low, inl bad)) (inr (low', inr (clear, bad'))) = absurd (top-apart laws record_name w a x bad clear)
one-faulty_tree laws w a b x y (inr (low, inr (clear, bad))) (inr (low', inl bad')) = absurd (top-apart laws record_name w b y bad' clear)
one-faulty_tree laws w a b x y (inr (low, inr (clear, bad))) (inr (low', inr (clear', bad'))) = one-faulty_top replay_name w a b x y bad bad'

tree-apart : TextLaws → (w : FileOf ℕ) (a : Status) (x : List ℕ) → IsFaultyTree w a x → IsClearTree w → ⊥
tree-apart laws w a x (inl (line, deep, s)) clear = laws.depth.apart (all_marked (toks w)) line deep clear.shallow
tree-apart laws w a x (inr (low, inl bad)) clear = top-apart laws record_name w a x bad clear.recording
tree-apart laws w a x (inr (low, inr (recording, bad))) clear = top-apart laws replay_name w a x bad clear.replaying

-- ---- a file and a map
none-first : (name : List ℕ) (names : List (List ℕ)) → first names ≡ Some name → names ≡ [] → ⊥
none-first name names is none = let gone : None ≡ Some name = ap (λ (xs : List (List ℕ)). first xs) (sym none) ∙ is in cc

one-unwrapped : TextLaws → (f : FileOf ℕ) (m : Map) → One (IsUnwrapped f m)
one-unwrapped laws f m a b x y (inl (name, is, s)) (inl (name', is', s')) =
    one-said (Refused words.Design (reasons.Reserved name)) (reason_line words.Design (reasons.Reserved name)) a b x y s
    (subst (λ (k : List ℕ). IsRefusal words.Design (reasons.Reserved k) b y) (some_same name' name (sym is' ∙ is)) s')
one-unwrapped laws f m a b x y (inl (name, is, s)) (inr (none, rest)) = absurd (none-first name (reserved_names f) is none)
one-unwrapped laws f m a b x y (inr (none, rest)) (inl (name, is, s)) = absurd (none-first name (reserved_names f) is none)
one-unwrapped laws f m a b x y (inr (none, inl bad)) (inr (none', inl bad')) = one-faulty_tree laws (wrapped f m) a b x y bad bad'
one-unwrapped laws f m a b x y (inr (none, inl bad)) (inr (none', inr (clear, long))) = absurd (tree-apart laws (wrapped f m) a x bad clear)
one-unwrapped laws f m a b x y (inr (none, inr (clear, long))) (inr (none', inl bad)) = absurd (tree-apart laws (wrapped f m) b y bad clear)
one-unwrapped laws f m a b x y (inr (none, inr (clear, (long, s)))) (inr (none', inr (clear', (long', s')))) =
    one-said (Refused words.Design reasons.WrapLong) (reason_line words.Design reasons.WrapLong) a b x y s s'

unwrapped-apart : TextLaws → (f : FileOf ℕ) (m : Map) (a : Status) (x : List ℕ) → IsWrapped f m → IsUnwrapped f m a x → ⊥
unwrapped-apart laws f m a x is (inl (name, at, s)) = none-first name (reserved_names f) at is.names
unwrapped-apart laws f m a x is (inr (none, inl bad)) = tree-apart laws (wrapped f m) a x bad is.clear
unwrapped-apart laws f m a x is (inr (none, inr (clear, (long, s)))) =
    let fits : length (file_text (wrapped f m)) ≤ text_limit = is.fits in omega (arith, long, fits)

-- ---- two texts
-- the device that they say, of which the map is kept
abbrev device_of : (design map : List ℕ) (f : FileOf ℕ) (m : Map) → IsWrapping design map f m → Device
device_of design map f m is = record { design = is.fitted.design; order = record { drivers = is.fitted.drivers }; map = m }

is-device : (design map : List ℕ) (f : FileOf ℕ) (m : Map) (is : IsWrapping design map f m) → IsDevice design map (device_of design map f m is)
is-device design map f m is = record {
  file = f;
  spelled = is.spelled;
  text = is.text;
  mapped = is.mapped;
  accepted = is.fitted.accepted;
  ordered = is.fitted.ordered;
  bound = is.fitted.bound;
}

module _ (laws : DeviceLaws) where
  one-refused_wrap : (design m : List ℕ) → OneBy Alike (RefusedWrap design m)
  one-refused_wrap design m = one-spelling laws.texts design (λ f. Mapping m f (IsUnwrapped f))
      (λ f. one-mapping laws (IsUnwrapped f) (λ k a b x y u v. alike a b x y (one-unwrapped laws.texts f k a b x y u v)) m f)

  unwritten : (design m : List ℕ) (files : Files) → OneBy Alike (IsUnwritten design m (Some files) (λ _. ⊥))
  unwritten design m files = one-reading-by Alike alike text_limit words.Design design files
      (λ d. Reading text_limit words.Map m (Some files) (λ _. ⊥) (RefusedWrap d))
      (λ d. one-reading-by Alike alike text_limit words.Map m files (RefusedWrap d) (one-refused_wrap d))

  refused-apart : (design m : List ℕ) (f : FileOf ℕ) (k : Map) → IsWrapping design m f k → (a : Status) (x : List ℕ)
      → RefusedWrap design m a x → ⊥
  unfolding is-device
  refused-apart design m f k is a x (inl none) = text-apart laws.texts design a x f none is.spelled
  refused-apart design m f k is a x (inr (g, spelled, rest)) =
      mapping-apart laws design m (device_of design m f k is) (is-device design m f k is) (IsUnwrapped f) a x
      (unwrapped-apart laws.texts f k a x is.wrapped)
      (subst (λ (h : FileOf ℕ). Mapping m h (IsUnwrapped h) a x) (one-spelled laws.texts design g f spelled is.spelled) rest)

  unwritten-apart : (design m : List ℕ) (files : Files) (f : FileOf ℕ) (k : Map) → IsWrappable design m (Some files) f k → (a : Status)
      (x : List ℕ) → IsUnwritten design m (Some files) (λ _. ⊥) a x → ⊥
  unwritten-apart design m files f k is a x = reading-apart text_limit words.Design design files
      (λ d. Reading text_limit words.Map m (Some files) (λ _. ⊥) (RefusedWrap d)) is.design_text is.design_read a x
      (reading-apart text_limit words.Map m files (RefusedWrap is.design_text) is.map_text is.map_read a x
      (refused-apart is.design_text is.map_text f k is.wrapping a x))

  -- what the same files say twice
  wrapping-once : (design m : List ℕ) (f g : FileOf ℕ) (k l : Map) → IsWrapping design m f k → IsWrapping design m g l → (f ≡ g) × (k ≡ l)
  wrapping-once design m f g k l x y = (
    one-spelled laws.texts design f g x.spelled y.spelled,
    (same-device laws design m (device_of design m f k x) (device_of design m g l y) (is-device design m f k x) (is-device design m g l y)).map,
  )

  wrappable-once : (design m : List ℕ) (files : Files) (f g : FileOf ℕ) (k l : Map) → IsWrappable design m (Some files) f k
      → IsWrappable design m (Some files) g l → (f ≡ g) × (k ≡ l)
  wrappable-once design m files f g k l x y =
      let d = one-read text_limit design files y.design_text x.design_text y.design_read x.design_read in
      let n = one-read text_limit m files y.map_text x.map_text y.map_read x.map_read in
      wrapping-once x.design_text x.map_text f g k l x.wrapping
      (subst (λ (text : List ℕ). IsWrapping x.design_text text g l) n
      (subst (λ (text : List ℕ). IsWrapping text y.map_text g l) d y.wrapping))

  pub one_wrap : (design m out : List ℕ) (files : Files) (P Q : Bool → Type 0) (a b : Status) (x y : List ℕ) (left right : Option Files)
      → Wraps design m out (Some files) (λ _. ⊥) P a x left → Wraps design m out (Some files) (λ _. ⊥) Q b y right
      → LeftAlike a b x y left right
  one_wrap design m out files P Q a b x y left right (inl (u, (l, _))) (inl (v, (r, _))) = (unwritten design m files a b x y u v, l ∙ sym r)
  one_wrap design m out files P Q a b x y left right (inl (u, l)) (inr (g, k, is, wrote)) =
      absurd (unwritten-apart design m files g k is a x u)
  one_wrap design m out files P Q a b x y left right (inr (f, k, is, wrote)) (inl (u, r)) =
      absurd (unwritten-apart design m files f k is b y u)
  one_wrap design m out files P Q a b x y left right (inr (f, k, is, (said, (left_is, _)))) (inr (g, l, is', wrote')) =
      let same = wrappable-once design m files f g k l is is' in
      let theirs : WrapsFile f k out (Some files) Q b y right =
      subst (λ (h : FileOf ℕ). WrapsFile h k out (Some files) Q b y right) (sym same.0)
      (subst (λ (n : Map). WrapsFile g n out (Some files) Q b y right) (sym same.1) wrote') in (
        alike a b x y (one-said Done (wrapped_line (length k.channels)) a b x y said theirs.0),
        left_is ∙ sym theirs.1.0,
      )
