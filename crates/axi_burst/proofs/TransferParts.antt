-- Transfers, of what begins and where it completes.
use Rattle.std.proofs.Common.{◌≡◌, ℕ, List, [], ◌∷◌, Option, map, refl, ap, ◌∙◌}
use Rattle.std.specs.List.{zip}
use Rattle.trace_model.specs.declared.channel.Channel.{Channel}
use Rattle.trace_model.specs.declared.packet.Packet.{Packet}
use Rattle.trace_model.specs.declared.trace.Trace.{Trace}
use Rattle.trace_model.specs.Recording.{recorded}
use Rattle.axi_burst.specs.declared.axi.AddressPorts.{AddressPorts}
use Rattle.axi_burst.specs.declared.transfers.Address.{Address}
use Rattle.axi_burst.specs.declared.transfers.Beat.{Beat}
use Rattle.axi_burst.specs.Transfers.{address, address_to, addresses, beat_of, beat_to, beats, begun_address, begun_beat, end_places}

pub address_parts : (beat : ℕ) (ports : AddressPorts) (xs : List (List ℕ)) (ys : List ℕ)
    → map address_to (zip (map (begun_address beat ports) xs) ys)
    ≡ map (address beat ports) (map (λ (x : List ℕ × ℕ). record { content = x.0; at = x.1 }) (zip xs ys))
address_parts beat ports [] ys = refl
address_parts beat ports (x ∷ xs) [] = refl
address_parts beat ports (x ∷ xs) (y ∷ ys) =
    ap (λ zs. address beat ports (record { content = x; at = y }) ∷ zs) (address_parts beat ports xs ys)

pub beat_parts : (id last : Option ℕ) (xs : List (List ℕ)) (ys : List ℕ)
    → map beat_to (zip (map (begun_beat id last) xs) ys)
    ≡ map (beat_of id last) (map (λ (x : List ℕ × ℕ). record { content = x.0; at = x.1 }) (zip xs ys))
beat_parts id last [] ys = refl
beat_parts id last (x ∷ xs) [] = refl
beat_parts id last (x ∷ xs) (y ∷ ys) = ap (λ zs. beat_of id last (record { content = x; at = y }) ∷ zs) (beat_parts id last xs ys)

-- ---- and of slices that show them
pub completed-addresses : (beat : ℕ) (ports : AddressPorts) (t : Trace) (channels : List Channel) (packets : List Packet)
    (begun shown asks : List Address) (ends places : List ℕ) → channels ≡ t.channels → packets ≡ t.packets
    → begun ≡ map (begun_address beat ports) (recorded channels packets ports.channel) → shown ≡ begun
    → ends ≡ end_places ports.channel packets → places ≡ ends → asks ≡ map address_to (zip shown places) → asks ≡ addresses beat ports t
completed-addresses beat ports t channels packets begun shown asks ends places e f b s p q a =
    a ∙ ap (λ xs. map address_to (zip xs places)) (s ∙ b) ∙ ap (λ ys. map address_to (zip (map (begun_address beat ports)
    (recorded channels packets ports.channel)) ys)) (q ∙ p)
    ∙ address_parts beat ports (recorded channels packets ports.channel) (end_places ports.channel packets)
    ∙ ap (λ cs. map (address beat ports) (map (λ (x : List ℕ × ℕ). record { content = x.0; at = x.1 }) (zip (recorded cs packets ports.channel)
    (end_places ports.channel packets)))) e
    ∙ ap (λ ps. map (address beat ports) (map (λ (x : List ℕ × ℕ). record { content = x.0; at = x.1 }) (zip (recorded t.channels ps ports.channel)
    (end_places ports.channel ps)))) f

pub completed-beats : (id last : Option ℕ) (t : Trace) (c : ℕ) (channels : List Channel) (packets : List Packet)
    (begun shown found : List Beat) (ends places : List ℕ) → channels ≡ t.channels → packets ≡ t.packets
    → begun ≡ map (begun_beat id last) (recorded channels packets c) → shown ≡ begun
    → ends ≡ end_places c packets → places ≡ ends → found ≡ map beat_to (zip shown places) → found ≡ beats id last t c
completed-beats id last t c channels packets begun shown found ends places e f b s p q a =
    a ∙ ap (λ xs. map beat_to (zip xs places)) (s ∙ b)
    ∙ ap (λ ys. map beat_to (zip (map (begun_beat id last) (recorded channels packets c)) ys)) (q ∙ p)
    ∙ beat_parts id last (recorded channels packets c) (end_places c packets)
    ∙ ap (λ cs. map (beat_of id last) (map (λ (x : List ℕ × ℕ). record { content = x.0; at = x.1 }) (zip (recorded cs packets c) (end_places c packets)))) e
    ∙ ap (λ ps. map (beat_of id last) (map (λ (x : List ℕ × ℕ). record { content = x.0; at = x.1 }) (zip (recorded t.channels ps c) (end_places c ps)))) f
