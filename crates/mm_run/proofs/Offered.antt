-- How many packets stores are offered before a run.
use Rattle.std.proofs.Common.{◌≡◌, ℕ, ◌+◌, ◌≤◌, ◌^◌, List, [], ◌∷◌, length, map, get_or, arith}
use Rattle.std.specs.Prelude.{Option, Some, None}
use Rattle.std.proofs.lemmas.List.Elements.{All-map}
use Rattle.mm_base.specs.declared.rows.StoreRow.{StoreRow}
use Rattle.mm_run.specs.Types.{SpacePacket, Holdings, ScriptedSource}
use Rattle.mm_desk.specs.declared.held.Held.{Held}
use Rattle.mm_memory.specs.Holdings.{opened}
use Rattle.mm_memory.specs.Recording.{after_offer, after_record, packet_for}
use Rattle.mm_record.specs.Supplies.{Supply}
use Rattle.mm_carry.specs.Course.{AreWithinLimits}
use Rattle.mm_run.specs.Sources.{AreFew}
use Rattle.mm_run.specs.declared.source.TheConstants.{MAX_PACKETS}
use Rattle.mm_run.specs.Runs.{AreOffered, opened_with, gives}

-- the stores of a setup were offered nothing
pub none_offered : (rows : List StoreRow) → AreOffered 0 (map opened rows)
none_offered rows = All-map (λ (h : Held). h.state.offered ≤ 0) opened rows (λ k d within. omega arith)

-- a store that is offered one packet or none
offered_one : (h : Held) (packet : Option SpacePacket) → (after_offer 0 h packet).state.offered ≤ h.state.offered + 1
offered_one h (Some packet) = grind arith
offered_one h None = omega arith

-- each packet is one more at most
offered_all : (most : ℕ) (memory : Holdings) (packets : List SpacePacket) → AreOffered most memory.stores
    → AreOffered (most + length packets) (opened_with memory packets).stores
offered_all most memory [] few = λ k d within. omega (arith, few k d within)
offered_all most memory (p ∷ ps) few =
    let offer_to : Held → Held = λ h. after_offer 0 h (packet_for memory.routes p h) in
    let once = All-map (λ (h : Held). h.state.offered ≤ most + 1) offer_to memory.stores
    (λ k d within. let h = get_or memory.stores k d in omega
    (arith, few k d within, offered_one h (packet_for memory.routes p h))) in
    λ k d within. omega (arith, offered_all (most + 1) (after_record 0 p memory) ps once k d within)

-- a run of scripted sources over stores that were offered few packets is within the limits in which no store refuses
-- one
pub within_limits : (steps : ℕ) (memory : Holdings) (packets : List SpacePacket) (sources : List ScriptedSource)
    → length packets ≤ 2 ^ 63 → MAX_PACKETS ≡ 65535 → AreOffered 0 memory.stores
    → AreFew sources → AreWithinLimits steps (opened_with memory packets).stores (map gives sources)
within_limits steps memory packets sources fits most offered few = record {
  few = λ step first last. All-map (λ (s : Supply). length (s step) ≤ 65535) gives sources
      (λ k d within. let one = few k d within step in omega (arith, one, most));
  offered = λ k d within. let one = offered_all 0 memory packets offered k d within in omega (arith, one, fits);
}
