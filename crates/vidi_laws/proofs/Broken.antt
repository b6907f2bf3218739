-- What `salvage` keeps of a recording that broke off.
use Rattle.std.proofs.Common.{◌≡◌, ◌≤◌, ◌+◌, ◌-◌, false, ℕ, zero, suc, Bool, List, [], ◌∷◌, ◌++◌, Option, Some, Result, Err, length, take, inl, inr, refl, sym, ap, subst, ◌∙◌, arith, ⊎_elim}
use Rattle.std.specs.FinMap.{get}
use Rattle.std.specs.List.{flat_map}
use Rattle.std.proofs.Math.Seq.{take-append-add}
use Rattle.std.proofs.lemmas.List.{length-take, length-take-le, length-append, take_at}
use Rattle.std.proofs.lemmas.List.Elements.{All-take}
use Rattle.vidi_commands.specs.trace_model.declared.packet.Packet.{Packet}
use Rattle.vidi_commands.specs.trace_model.declared.trace.Trace.{Trace}
use Rattle.vidi_commands.specs.trace_model.Packet.{IsPacket}
use Rattle.vidi_commands.proofs.trace_model_lemmas.EpochLemmas.{epochs_alternate, throughout_from, throughout-take}
use Rattle.vidi_commands.specs.trace_model.Recording.{trace_of}
use Rattle.vidi_commands.specs.trace_code.declared.error.CodeError.{CodeError}
use Rattle.vidi_commands.specs.trace_code.declared.error.CodeError.TheVariants as errors
use Rattle.vidi_commands.specs.trace_code.Decoding.{HasNoHeader}
use Rattle.vidi_commands.specs.trace_code.Encoding.{HasEncoding, encode, end_mark, header_bytes, packet_bytes}
use Rattle.vidi_commands.specs.trace_code.Salvage.{front, FrontIsSalvaged, LieWhole, Salvages}
use Rattle.vidi_commands.specs.trace_v2.Old.{begins_old}
use Rattle.vidi_commands.specs.vidi_io.Shelf.{Files, HasStarted, holding}
use Rattle.vidi_commands.specs.report_text.declared.reason.Word.TheVariants as words
use Rattle.vidi_commands.specs.vidi_bench.vidi_answer.declared.status.Status.{Status}
use Rattle.vidi_commands.specs.vidi_bench.Reading.{IsRead}
use Rattle.vidi_commands.specs.Said.{salvaged_line}
use Rattle.vidi_commands.specs.trace_commands.Traces.{trace_limit, IsHeaderless, IsWholeIn, Saves}
use Rattle.vidi_laws.specs.Headline.{BrokenRecordingIsSalvaged, IsBrokenOff, KeepsWhole, SalvagedTraceIsReplayable}
use Rattle.vidi_laws.proofs.Headline.{read-there, recorded-short, replayable-there, run-kept}
use Rattle.vidi_laws.proofs.OneEnding.{one-read, reading-apart}
use Rattle.vidi_laws.proofs.OneSalvaged.{found, wanting, no_memory, same_found}
use Rattle.vidi_laws.proofs.OneTraces.{old-or-new}

abbrev headerless : Result Trace CodeError
headerless = Err (errors.BadTrace 0)

headerless-wanting : headerless ≡ wanting → ⊥
headerless-wanting e = cc

headerless-found : (t : Trace) → headerless ≡ found t → ⊥
headerless-found t e = cc

front-encodes : (t : Trace) → HasEncoding t → (k : ℕ) → HasEncoding (front k t)
front-encodes t encodes k = record {
  table = encodes.table;
  well_formed = record {
    packets = All-take (IsPacket t.channels) k t.packets encodes.well_formed.packets;
    alternate =
        epochs_alternate (take k t.packets) (throughout-take k t.packets (throughout_from t.packets encodes.well_formed.alternate));
  };
  few =
      let cut = length-take k t.packets in
      let small = encodes.few in
      omega (arith, cut, small);
}

module _ (law : FrontIsSalvaged) (t : Trace) (bytes : List ℕ) (encodes : HasEncoding t) (broken : IsBrokenOff t bytes) where
  front_is : take (length bytes) (encode t) ≡ bytes
  front_is = ap (take (length bytes)) (sym broken.1.1) ∙ take_at bytes broken.1.0 (length bytes) refl

  -- the packets that lie whole in the bytes
  kept : (u : Trace) → Salvages bytes (found u) → (k : ℕ) × LieWhole t (length bytes) k × (u ≡ front k t)
  kept u whole = ⊎_elim
      (λ (e : found u ≡ wanting). absurd (no_memory u e))
      (λ (r : (k : ℕ) × LieWhole t (length bytes) k × (found u ≡ found (front k t))). (r.0, r.1, same_found u (front r.0 t) r.2))
      (law t (length bytes) (found u) encodes broken.0 (subst (λ (b : List ℕ). Salvages b (found u)) (sym front_is) whole))

  -- which don't begin as an old trace's
  is-new : begins_old bytes ≡ false
  is-new =
      let header = header_bytes t.channels in
      let body = flat_map (packet_bytes t.channels) t.packets ++ end_mark (length t.packets) in
      let n = length bytes - length header in
      let long : length bytes ≡ length header + n = omega (arith, broken.0) in
      let parts : bytes ≡ header ++ take n body =
      sym front_is ∙ ap (λ (k : ℕ). take k (header ++ body)) long ∙ take-append-add header body n in
      subst (λ (b : List ℕ). begins_old b ≡ false) (sym parts) refl

  has-header : HasNoHeader bytes → ⊥
  has-header none = ⊎_elim
      headerless-wanting
      (λ (r : (k : ℕ) × LieWhole t (length bytes) k × (headerless ≡ found (front k t))). headerless-found (front r.0 t) r.2)
      (law t (length bytes) headerless encodes broken.0 (subst (λ (b : List ℕ). Salvages b headerless) (sym front_is) (none, refl)))

  lacks-no_header : (status : Status) (text : List ℕ) → IsHeaderless bytes status text → ⊥
  lacks-no_header status text (inl (old, lacks)) = old-or-new bytes old is-new
  lacks-no_header status text (inr (new, (none, s))) = has-header none

  whole-salvaged : (u : Trace) → IsWholeIn bytes u → Salvages bytes (found u)
  whole-salvaged u (inl (old, whole)) = absurd (old-or-new bytes old is-new)
  whole-salvaged u (inr (new, whole)) = whole

  fits : length (encode t) ≤ trace_limit → length bytes ≤ trace_limit
  fits small =
      let long = ap length (sym broken.1.1) ∙ length-append bytes broken.1.0 in
      omega (arith, long, small)

  count-is : (k : ℕ) → LieWhole t (length bytes) k → length (take k t.packets) ≡ k
  count-is k lie = length-take-le k t.packets lie.there

  saved : length (encode t) ≤ trace_limit → (trace out : List ℕ) (now : Files) → get now trace ≡ Some bytes → (P : Bool → Type 0)
      (status : Status) (text : List ℕ) (left : Option Files) → Saves trace out (Some now) (λ _. ⊥) P status text left
      → KeepsWhole t bytes out now status text left
  saved small trace out now at P status text left saves = go (read-there trace_limit trace bytes now at (fits small)) saves
    where
      go : IsRead trace_limit trace (Some now) bytes → Saves trace out (Some now) (λ _. ⊥) P status text left
          → KeepsWhole t bytes out now status text left
      go read (inl (unsaved, same)) = absurd (reading-apart trace_limit words.Trace trace now IsHeaderless bytes read status text
          (lacks-no_header status text) unsaved)
      go read (inr (u, (file, read', whole), said, (same, _))) =
          let file_is : file ≡ bytes = one-read trace_limit trace now file bytes read' read in
          let (k, lie, e) = kept u (whole-salvaged u (subst (λ (b : List ℕ). IsWholeIn b u) file_is whole)) in
          record {
            count = k;
            whole = lie;
            said = (said.0, said.1 ∙ ap (λ (v : Trace). salvaged_line (length v.packets)) e ∙ ap salvaged_line (count-is k lie));
            encoding = front-encodes t encodes k;
            leaves = same ∙ ap (λ (v : Trace). holding (Some now) out (encode v)) e;
          }

pub broken-salvaged : FrontIsSalvaged → BrokenRecordingIsSalvaged
broken-salvaged law design m script stalls files b plan planned rows stop run bytes broken trace out now at starts after status text left
    saves =
    saved law (trace_of b.device.map.channels rows) bytes (run-kept design m script stalls files b plan planned rows stop run).encoded broken
    (recorded-short design m script stalls files b plan planned rows stop run) trace out now at (HasStarted starts after) status text left
    saves

-- ---- a front is no longer than the whole

bytes-take : (f : Packet → List ℕ) (k : ℕ) (packets : List Packet) → length (flat_map f (take k packets)) ≤ length (flat_map f packets)
bytes-take f zero packets = omega arith
bytes-take f (suc k) [] = omega arith
bytes-take f (suc k) (p ∷ packets) =
    let l = bytes-take f k packets in
    let a = length-append (f p) (flat_map f (take k packets)) in
    let b = length-append (f p) (flat_map f packets) in
    omega (arith, l, a, b)

encoded-len : (t : Trace) → length (encode t) ≡ length (header_bytes t.channels) + (length (flat_map (packet_bytes t.channels) t.packets) + 5)
encoded-len t =
    let a = length-append (header_bytes t.channels) (flat_map (packet_bytes t.channels) t.packets ++ end_mark (length t.packets)) in
    let b = length-append (flat_map (packet_bytes t.channels) t.packets) (end_mark (length t.packets)) in
    omega (arith, a, b)

front-short : (t : Trace) (k : ℕ) → length (encode (front k t)) ≤ length (encode t)
front-short t k =
    let a = encoded-len (front k t) in
    let b = encoded-len t in
    let l = bytes-take (packet_bytes t.channels) k t.packets in
    omega (arith, a, b, l)

pub salvaged-replayable : SalvagedTraceIsReplayable
salvaged-replayable design map script stalls files b plan planned rows stop run count trace now same same' there =
    let t : Trace = trace_of b.device.map.channels rows in
    let encodes : HasEncoding t = (run-kept design map script stalls (Some files) b plan planned rows stop run).encoded in
    let small : length (encode t) ≤ trace_limit = recorded-short design map script stalls (Some files) b plan planned rows stop run in
    let l : length (encode (front count t)) ≤ length (encode t) = front-short t count in
    replayable-there design map script stalls files b plan planned (front count t) (front-encodes t encodes count) refl
    (omega (arith, small, l)) trace now same same' there
