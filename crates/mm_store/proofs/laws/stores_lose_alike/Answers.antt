use Rattle.std.proofs.Common.{◌≡◌, ◌⊎◌, ◌+◌, ◌<◌, ◌≤◌, List, [], ◌∷◌, length, max, inl, inr, refl, arith}
use Rattle.std.proofs.lemmas.Bool.{cases_lt, lt-ltb, le-ltb, ne_eqb}
use Rattle.std.proofs.lemmas.List.{length_push}
use Rattle.mm_base.specs.declared.kind.Kind.{Kind}
use Rattle.mm_base.specs.declared.kind.Kind.TheVariants.{Circular, Bounded}
use Rattle.mm_store.specs.declared.stored.Stored.{Stored}
use Rattle.mm_store.specs.Content.{Store, clock_end, put_timed, put_full}
use Rattle.mm_store.specs.Laws.{LosesOverflow}
use Rattle.mm_store.proofs.laws.stores_lose_alike.Goals as goal

-- a full store of either kind hands one packet back
full_loses : (kind : Kind) (content : List Stored) (s : Store) (new : Stored) → s.content ≡ content → length content ≡ s.size → 1 ≤ s.size → LosesOverflow s (put_full kind content s new).1 (put_full kind content s new).0
full_loses Circular [] s new held full room = absurd (omega arith)
full_loses Circular (oldest ∷ later) s new held full room =
    record { volume = rw held (omega (arith, length_push later new)); lost = rw held (omega (arith, length_push later new)) }
full_loses Bounded content s new held full room =
    record { volume = rw held (omega arith); lost = rw held (omega arith) }

-- a store with room keeps one packet more, and a full one hands one back
timed_loses : (s : Store) (new : Stored) → 1 ≤ s.size → length s.content ≤ s.size → (length s.content < s.size) ⊎ (s.size ≤ length s.content) → LosesOverflow s (put_timed s new).1 (put_timed s new).0
timed_loses s new room_for_one within (inl room) =
    rw (lt-ltb (length s.content) s.size room) (record { volume = omega (arith, length_push s.content new); lost = omega (arith, length_push s.content new) })
timed_loses s new room_for_one within (inr full) =
    let exact : length s.content ≡ s.size = omega (arith, within) in
    rw (le-ltb (length s.content) s.size full) (full_loses s.kind s.content s new refl exact room_for_one)

pub returns : goal.returns
returns c = record {
  law = λ s now packet room_for_one within before.
      let new : Stored = record { time = max now (s.last + 1); packet = packet } in
      rw (ne_eqb s.last clock_end (λ same. omega arith)) (timed_loses s new room_for_one within (cases_lt (length s.content) s.size));
}
