-- What becomes of all that the sources of a run give: what some route takes, and what none does.
use Rattle.std.specs.Prelude.{◌≡◌, ℕ, ◌+◌, ◌<◌, Bool, not, List, ◌++◌, length, filter, flat_map, IsPermutation}
use Rattle.std.specs.List.{list_any}
use Rattle.mm_control.specs.Routing.{is_routed}
use Rattle.mm_desk.specs.Fates.{packets_of}
use Rattle.mm_carry.specs.Words.{SpacePacket, row, stores, State, Stored, Held}
use Rattle.mm_carry.specs.Accounts.{over_steps}
use Rattle.mm_carry.specs.RunInput.{RunInput, place_in_memory, store_state}

-- all that the sources give in a step, source after source
abbrev pub given_at : RunInput → ℕ → List SpacePacket
given_at m t = flat_map (λ gives. gives t) m.gives

-- a route takes the packet to this store of the problem
abbrev pub is_for : RunInput → ℕ → SpacePacket → Bool
is_for m s packet = is_routed m.memory.routes (row m.problem s).id packet

-- some route takes it to some store of the problem
abbrev pub is_taken : RunInput → SpacePacket → Bool
is_taken m packet = list_any (λ s. is_for m s packet) (stores m.problem)

-- what the sources give in the first steps that some route takes
abbrev pub routed : RunInput → ℕ → List SpacePacket
routed m steps = filter (is_taken m) (over_steps (given_at m) steps)

-- what they give in them that no route takes: each telecommand is of these
abbrev pub untaken : RunInput → ℕ → List SpacePacket
untaken m steps = filter (λ packet. not (is_taken m packet)) (over_steps (given_at m) steps)

-- a store took these packets from one state to another: what stood in it and they are what was sent, what it holds, and
-- the lost, each packet as often. Its counters rose by as many as they are, and by as many as are lost
pub record HasTaken (packets sent : List SpacePacket) (before after : State) : Type 0 where
  pub lost : List SpacePacket
  pub became : IsPermutation (packets_of before.store.content ++ packets)
      (sent ++ packets_of after.store.content ++ lost)
  pub offered : after.offered ≡ before.offered + length packets
  pub counted : after.lost ≡ before.lost + length lost

-- what a run that left these stores made of all that the sources gave in the first steps, each packet as often: what
-- some route takes, of which each store took just what a route takes to it, and what no route takes, which no store
-- took
pub record AreShared (m : RunInput) (steps : ℕ) (gave : ℕ → ℕ → List Stored) (left : List Held) : Type 0 where
  pub all : IsPermutation (over_steps (given_at m) steps) (routed m steps ++ untaken m steps)
  pub each : (s : ℕ) → s < length m.problem.rows → HasTaken (filter (is_for m s) (routed m steps))
      (over_steps (λ t. packets_of (gave (place_in_memory m s) t)) steps)
      (store_state m m.memory.stores s) (store_state m left s)
