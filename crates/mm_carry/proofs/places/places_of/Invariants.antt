use Rattle.mm_carry.proofs.Words.{◌≡◌, length, ArePlaces}
use Rattle.mm_carry.proofs.places.places_of.Given as goal

abbrev pub invariant-loop-store : goal.invariant-loop-store
invariant-loop-store l = (length l.places ≡ 16) × ArePlaces l.problem l.stores l.store l.places
