-- What a retrieval from a store of a memory gives: over turns while it is on, the store goes on by events alone.
use Rattle.mm_memory.proofs.Words.{◌≡◌, inl, inr, ℕ, Bool, true, false, not, List, [], ◌∷◌, ◌++◌, All, Contains, refl}
use Rattle.mm_memory.proofs.Words.{sym, ap, subst, ◌∙◌, bytes_eq, Option, Some, None, Ok, Err, is_some, cond_both}
use Rattle.mm_memory.proofs.Words.{and_right, append-nil, All-nil, All-append, Event, StateFault, deleted, given, after}
use Rattle.mm_memory.proofs.Words.{over, State, IsState, step, rest_fault, overwritten, AtEach, gives_held, over-append}
use Rattle.mm_memory.proofs.Words.{Action, Delete, Changes, Holdings, state_of, is_routed, AtEachTurn, HasState}
use Rattle.mm_desk.specs.Retrievals.{IsOn, IsBegun, AbortsNone, AreGiven, RetrievalsGiveRanges}
use Rattle.mm_memory.specs.declared.instruction.StoreChange.TheVariants.{Enable, Disable, Begin, Abort, DeleteContent}
use Rattle.mm_memory.specs.Accounts.{Call, records, asks, applies, Turn, AreTurns, after_turns, events_of, events_in}
use Rattle.mm_memory.specs.Accounts.{removes, removes_in, deleted_by, given_by, in_store, in_turns, held_in}
use Rattle.mm_memory.specs.Retrievals.{IsOnIn, AbortsNoneIn, GivesHeldIn, overwritten_by, GivesRangeIn}
use Rattle.mm_memory.proofs.TurnLemmas.{Becomes, becomes}
use Rattle.mm_desk.specs.declared.event.Event.TheVariants as event

-- a call asks at most one event of a store
abbrev pub IsOne : List Event → Type 0
IsOne [] = Unit {0}
IsOne (e ∷ []) = Unit {0}
IsOne (e ∷ f ∷ es) = ⊥

-- an event that an instruction may ask
abbrev pub IsCommand : Event → Type 0
IsCommand (event.Offer now packet) = ⊥
IsCommand event.Next = ⊥
IsCommand other = Unit {0}

-- what is so of no event, and of each such event, is so of what an action asks
pub by_action : (P : List Event → Type 0) → P [] → ((e : Event) → IsCommand e → P (e ∷ [])) → (action : Action)
    → P (events_of action)
by_action P none each (Changes Enable) = each event.Enable tt
by_action P none each (Changes Disable) = each event.Disable tt
by_action P none each (Changes (Begin from to)) = each (event.Begin from to) tt
by_action P none each (Changes Abort) = each event.Abort tt
by_action P none each (Changes (DeleteContent limit)) = each (event.Delete limit) tt
by_action P none each other = none

pub call_asks : (id : List ℕ) (m : Holdings) (c : Call) → IsOne (events_in id m c)
call_asks id m (records now packet) = cond_both (is_routed m.routes id packet) _ _ IsOne (λ yes. tt) (λ no. tt)
call_asks id m (asks other event) = cond_both (bytes_eq other id) _ _ IsOne (λ yes. tt) (λ no. tt)
call_asks id m (applies (Ok i)) =
    cond_both (bytes_eq i.id id) _ _ IsOne (λ yes. by_action IsOne tt (λ e command. tt) i.action) (λ no. tt)
call_asks id m (applies (Err reason)) = tt

-- what is so of a state and its next event is so at each of at most one
at_one : (P : State → Event → Type 0) (s : State) (es : List Event) → IsOne es → ((e : Event) → P s e) → AtEach P s es
at_one P s [] one each = tt
at_one P s (e ∷ []) one each = (each e, tt)
at_one P s (e ∷ f ∷ es) one each = absurd one

-- what at most one event gives is held
one_gives_held : (s : State) (es : List Event) → IsOne es → All (Contains s.store.content) (over given s es)
one_gives_held s [] one = All-nil _
one_gives_held s (e ∷ []) one = rw (append-nil (given s e)) (gives_held s e)
one_gives_held s (e ∷ f ∷ es) one = absurd one

-- a store with a retrieval on is not at rest
busy : (s : State) → IsOn s → is_some (rest_fault s) ≡ true
busy s on = cond_both s.storage _ _ (λ (f : Option StateFault). is_some f ≡ true) (λ yes. refl) (λ no. rw on refl)

-- and is not deleted
action_stays : (action : Action) (s : State) → IsOn s → removes action s ≡ false
action_stays Delete s on = ap not (busy s on)
action_stays other s on = refl

call_stays : (id : List ℕ) (c : Call) (s : State) → IsOn s → removes_in id c s ≡ false
call_stays id (applies (Ok i)) s on =
    and_right (bytes_eq i.id id) (removes i.action s) (action_stays i.action s on)
call_stays id other s on = refl

-- events after one another
after-append : (s : State) (es more : List Event) → after s (es ++ more) ≡ after (after s es) more
after-append s [] more = refl
after-append s (e ∷ es) more = after-append (step s e).1 es more

AtEach-append : (P : State → Event → Type 0) (s : State) (es more : List Event) → AtEach P s es
    → AtEach P (after s es) more
    → AtEach P s (es ++ more)
AtEach-append P s [] more first second = second
AtEach-append P s (e ∷ es) more first second = (first.0, AtEach-append P (step s e).1 es more first.1 second)

module _ (id : List ℕ) where
  -- the events of a store in turns during a retrieval
  record Follows (m : Holdings) (turns : List Turn) (s : State) : Type 0 where
    events : List Event
    left : state_of id (after_turns m turns) ≡ Some (after s events)
    on : AtEach (λ t e. IsOn t) s events
    gives : in_turns given_by id m turns ≡ over given s events
    overwrites : in_turns overwritten_by id m turns ≡ over overwritten s events
    deletes : in_turns deleted_by id m turns ≡ over deleted s events
    aborts : AtEachTurn (AbortsNoneIn id) m turns → All AbortsNone events

  -- a state is left, after the events of the call
  left_by : (es : List Event) (gone : State → Bool) (s : State) (left : Option State) → IsOn s → gone s ≡ false
      → Becomes es gone (Some s) left → left ≡ Some (after s es)
  left_by es gone s (Some u) on stays (kept, inl is) = ap Some is
  left_by es gone s (Some u) on stays (kept, inr shape) = let never = rw shape.at_rest at on in absurd cc
  left_by es gone s None on stays (goes, nothing) = absurd cc

  follows : (m : Holdings) (turns : List Turn) → AreTurns m turns → AtEachTurn (IsOnIn id) m turns → (s : State)
      → state_of id m ≡ Some s
      → Follows m turns s
  follows m [] made on s at = record {
    events = [];
    left = at;
    on = tt;
    gives = refl;
    overwrites = refl;
    deletes = refl;
    aborts = λ none. All-nil AbortsNone;
  }
  follows m (t ∷ ts) made on s at =
      let es = events_in id m t.call in
      let here : IsOn s = subst (HasState IsOn) at on.0 in
      let stays = call_stays id t.call s here in
      let became = subst (λ (o : Option State). Becomes es (removes_in id t.call) o (state_of id t.left)) at
      (becomes id m t.left t.call made.0) in
      let left = left_by es (removes_in id t.call) s (state_of id t.left) here stays became in
      let rest = follows t.left ts made.1 on.1 (after s es) left in
      record {
        events = es ++ rest.events;
        left = rest.left ∙ ap Some (sym (after-append s es rest.events));
        on = AtEach-append (λ t e. IsOn t) s es rest.events (at_one (λ t e. IsOn t) s es (call_asks id m t.call)
            (λ e. here)) rest.on;
        gives = rw (at, rest.gives) (sym (over-append given s es rest.events));
        overwrites = rw (at, rest.overwrites) (sym (over-append overwritten s es rest.events));
        deletes = rw (at, stays, rest.deletes) (sym (over-append deleted s es rest.events));
        aborts = λ none. All-append AbortsNone es rest.events none.0 (rest.aborts none.1);
      }

  -- what a turn gives is held
  turn_gives_held : (m : Holdings) (t : Turn) → GivesHeldIn id m t
  turn_gives_held m t = by_state (state_of id m) refl
    where
      by_state : (o : Option State) → state_of id m ≡ o → GivesHeldIn id m t
      by_state (Some s) at = rw at (one_gives_held s (events_in id m t.call) (call_asks id m t.call))
      by_state None at = rw at (All-nil _)

  turns_give_held : (m : Holdings) (turns : List Turn) → AtEachTurn (GivesHeldIn id) m turns
  turns_give_held m [] = tt
  turns_give_held m (t ∷ ts) = (turn_gives_held m t, turns_give_held t.left ts)

  pub gives_range : RetrievalsGiveRanges → (from to : ℕ) (m : Holdings) (turns : List Turn) → AreTurns m turns
      → HasState (λ s. IsState s × IsBegun from to s) (state_of id m) → AtEachTurn (IsOnIn id) m turns
      → GivesRangeIn from to id m turns
  gives_range law from to m turns made begun on = by_state (state_of id m) refl begun
    where
      by_state : (o : Option State) → state_of id m ≡ o → HasState (λ s. IsState s × IsBegun from to s) o
          → GivesRangeIn from to id m turns
      by_state (Some s) at begins =
          let f = follows m turns made on s at in
          let range = law from to s f.events begins.0 begins.1 f.on in
          record {
            held = turns_give_held m turns;
            within = rw f.gives range.within;
            rising = rw f.gives range.rising;
            kept = f.deletes ∙ range.kept;
            complete = λ none ended.
                let over_all : AreGiven from to s.store.content (over given s f.events) (over overwritten s f.events) =
                range.complete (f.aborts none) (subst (HasState (λ u. u.retrieval ≡ None)) f.left ended) in
                rw (at, f.gives, f.overwrites) over_all;
          }
      by_state None at begins = absurd begins
