-- What a store of a memory loses for room in a turn.
use Rattle.mm_memory.proofs.Words.{◌≡◌, ◌≢◌, inl, inr, ℕ, ◌≤◌, Bool, List, [], ◌∷◌, ◌++◌, length, All, refl, ap, subst}
use Rattle.mm_memory.proofs.Words.{◌∙◌, Option, Some, None, append-nil, All-nil, Event, given_up, after, over, State}
use Rattle.mm_memory.proofs.Words.{IsState, step, AtEach, overwritten, Holdings, state_of, AtEachTurn, HasState}
use Rattle.mm_base.specs.declared.kind.Kind.TheVariants.{Circular, Bounded}
use Rattle.mm_desk.specs.Losses.{LosesNone, IsOlder, BoundedLoseNew, CircularLoseOldest}
use Rattle.mm_memory.specs.Accounts.{Turn, AreTurns, MayLeave, in_store, events_in, removes_in}
use Rattle.mm_memory.specs.Losses.{LosesNewIn, LosesOldestIn, LosesInTurn}
use Rattle.mm_memory.proofs.RetrievalLemmas.{IsOne, call_asks}
use Rattle.mm_memory.proofs.TurnLemmas.{Becomes, becomes}

-- a store that lost the one packet offered is left as it was
full_by : (es : List Event) (gone : State → Bool) (s : State) (left : Option State) → IsOne es
    → Becomes es gone (Some s) left → AtEach LosesNone s es → over given_up s es ≢ []
    → (s.store.size ≤ length s.store.content) × HasState (λ u. u.store ≡ s.store) left
full_by [] gone s left one became none lost = absurd (lost refl)
full_by (e ∷ []) gone s (Some u) one (stays, inl is) none lost =
    let full = none.0 (λ empty. lost (rw (append-nil (given_up s e)) empty)) in
    (full.0, ap (λ (u : State). u.store) is ∙ full.1)
full_by (e ∷ []) gone s (Some u) one (stays, inr shape) none lost = let asked = shape.asked in absurd cc
full_by (e ∷ []) gone s None one (goes, nothing) none lost = absurd cc
full_by (e ∷ f ∷ es) gone s left one became none lost = absurd one

-- what is overwritten is older than what is held then
older_by : (es : List Event) (gone : State → Bool) (s : State) (left : Option State) → Becomes es gone (Some s) left
    → All (IsOlder (after s es).store.content) (over overwritten s es)
    → All (IsOlder (in_store (λ u. u.store.content) left)) (over overwritten s es)
older_by es gone s (Some u) (stays, inl is) older = rw is older
older_by es gone s (Some u) (stays, inr shape) older = rw shape.asked (All-nil _)
older_by es gone s None (goes, nothing) older = rw nothing (All-nil _)

module _ (bounded : BoundedLoseNew) (circular : CircularLoseOldest) (id : List ℕ) where
  turn_loses : (m : Holdings) (t : Turn) → MayLeave t.call m t.left → LosesInTurn id m t
  turn_loses m t made s at =
      let es = events_in id m t.call in
      let gone = removes_in id t.call in
      let became = subst (λ (o : Option State). Becomes es gone o (state_of id t.left)) at
      (becomes id m t.left t.call made) in (
        (λ kind. record {
          full = full_by es gone s (state_of id t.left) (call_asks id m t.call) became (bounded s es kind).full;
          none = (bounded s es kind).none;
        }),
        (λ kind sound. record {
          lost = (circular s es sound kind).lost;
          older = older_by es gone s (state_of id t.left) became (circular s es sound kind).older;
        }),
      )

  pub turns_lose : (m : Holdings) (turns : List Turn) → AreTurns m turns → AtEachTurn (LosesInTurn id) m turns
  turns_lose m [] made = tt
  turns_lose m (t ∷ ts) made = (turn_loses m t made.0, turns_lose t.left ts made.1)
