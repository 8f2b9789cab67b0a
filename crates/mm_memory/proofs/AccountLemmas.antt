-- What becomes of the packets of one store: in one turn, and then in any.
use Rattle.mm_memory.proofs.Words.{◌≡◌, inl, inr, ℕ, ◌+◌, Bool, List, [], ◌∷◌, ◌++◌, length, sym, subst, arith}
use Rattle.mm_memory.proofs.Words.{length-append, if◌then◌else◌, Option, Some, None, IsPermutation, sum, append-nil}
use Rattle.mm_memory.proofs.Words.{sum_by-append, SpacePacket, Event, given_up, deleted, after, over, State, joined}
use Rattle.mm_memory.proofs.Words.{Holdings, state_of}
use Rattle.std.proofs.lemmas.List.Sorted.{IsPermutation-refl}
use Rattle.mm_desk.specs.Fates.{packets_of, taken, ConservePackets}
use Rattle.mm_memory.specs.Accounts.{Turn, AreTurns, after_turns, in_store, in_turns, held_in, losses_at, losses_in}
use Rattle.mm_memory.specs.Accounts.{events_in, removes_in, recorded_by, deleted_by, lost_by, counter_gone}
use Rattle.mm_memory.proofs.TurnLemmas.{Becomes, becomes}

-- the packets of a store's state, where there is the store
abbrev pub packets_at : Option State → List SpacePacket
packets_at before = packets_of (in_store (λ s. s.store.content) before)

-- what is deleted of a store, and its counter where it is deleted whole
abbrev pub deleted_of : List Event → Bool → State → List SpacePacket
deleted_of es gone s = if gone then packets_of s.store.content else over deleted s es

abbrev pub counter_of : Bool → State → List ℕ
counter_of gone s = if gone then s.lost ∷ [] else []

-- the packets of one store in one turn
record Moves (before left : Option State) (recorded deleted lost : List SpacePacket) (gone : List ℕ) : Type 0 where
  packets : IsPermutation (packets_at before ++ recorded) (deleted ++ packets_at left ++ lost)
  counted : losses_at left + sum gone ≡ losses_at before + length lost

-- by what is asked of the store
abbrev MovesBy : List Event → (State → Bool) → Option State → Option State → Type 0
MovesBy es gone before left =
    Moves before left (in_store (λ s. over taken s es) before) (in_store (λ s. deleted_of es (gone s) s) before)
    (in_store (λ s. over given_up s es) before)
    (in_store (λ s. counter_of (gone s) s) before)

module _ (conserve : ConservePackets) where
  -- nothing is asked, and the packets stay
  same_packets : (s t : State) → t.store.content ≡ s.store.content → t.lost ≡ s.lost
      → Moves (Some s) (Some t) [] [] [] []
  same_packets s t content lost = record { packets = rw content (IsPermutation-refl _); counted = omega (arith, lost) }

  -- a store is deleted with all that it holds
  all_gone : (s : State) → Moves (Some s) None [] (packets_of s.store.content) [] (s.lost ∷ [])
  all_gone s = record {
    packets = subst (IsPermutation (packets_of s.store.content ++ []))
        (sym (append-nil (packets_of s.store.content ++ []))) (IsPermutation-refl _);
    counted = omega arith;
  }

  by_events : (s : State) (es : List Event)
      → Moves (Some s) (Some (after s es)) (over taken s es) (over deleted s es) (over given_up s es) []
  by_events s es = let law = conserve s es in record { packets = law.packets; counted = omega (arith, law.lost) }

  moves : (es : List Event) (gone : State → Bool) (before left : Option State) → Becomes es gone before left
      → MovesBy es gone before left
  moves es gone (Some s) (Some t) (kept, inl is) = rw (kept, is) (by_events s es)
  moves es gone (Some s) (Some t) (kept, inr shape) = rw (kept, shape.asked) (same_packets s t shape.content shape.lost)
  moves es gone (Some s) None (goes, nothing) = rw (goes, nothing) (all_gone s)
  moves es gone None (Some t) new =
      record { packets = rw new.content (IsPermutation-refl _); counted = omega (arith, new.lost) }
  moves es gone None None nothing = record { packets = IsPermutation-refl _; counted = omega arith }

  -- the packets of one store in any turns
  pub record Accounts (id : List ℕ) (m : Holdings) (turns : List Turn) : Type 0 where
    pub packets : IsPermutation (packets_of (held_in id m) ++ in_turns recorded_by id m turns)
        (in_turns deleted_by id m turns ++ packets_of (held_in id (after_turns m turns)) ++ in_turns lost_by id m turns)
    pub counted : losses_in id (after_turns m turns) + sum (in_turns counter_gone id m turns)
        ≡ losses_in id m + length (in_turns lost_by id m turns)

  pub accounts : (id : List ℕ) (m : Holdings) (turns : List Turn) → AreTurns m turns → Accounts id m turns
  accounts id m [] made = record { packets = IsPermutation-refl _; counted = omega arith }
  accounts id m (t ∷ ts) made =
      let here = moves (events_in id m t.call) (removes_in id t.call) (state_of id m) (state_of id t.left)
      (becomes id m t.left t.call made.0) in
      let rest = accounts id t.left ts made.1 in
      let before = state_of id m in
      record {
        packets = joined (packets_at before) (in_store (recorded_by id m t.call) before)
            (in_store (deleted_by id m t.call) before) (packets_at (state_of id t.left))
            (in_store (lost_by id m t.call) before) _ _ _ _ here.packets rest.packets;
        counted = omega (
          arith,
          here.counted,
          rest.counted,
          length-append (in_store (lost_by id m t.call) before)
              (in_turns lost_by id t.left ts),
          sum_by-append (λ (n : ℕ). n) (in_store (counter_gone id m t.call) before)
              (in_turns counter_gone id t.left ts),
        );
      }
