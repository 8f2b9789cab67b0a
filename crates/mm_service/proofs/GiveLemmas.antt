-- The store that a text names, and what a call for the next packet of its retrieval gives and leaves.
use Rattle.mm_service.proofs.Words.{◌≡◌, ℕ, Bool, true, false, List, refl, sym, ap, if◌then◌else◌, Result, Ok, Err}
use Rattle.mm_service.proofs.Words.{is_ok, false≢true, is_id_text, IsIdText, field_of, Fault, BadId, NoSuchStore}
use Rattle.mm_service.proofs.Words.{id_tested, missing, subst, ◌∙◌, Option, Some, None, OnErr, option_map, none-some}
use Rattle.mm_service.proofs.Words.{◌>>=◌, Stored, State, next, Holdings, state_of, store_of, state_of_text, Serving}
use Rattle.mm_service.proofs.Words.{state_named, with_store, with_state}
use Rattle.mm_base.proofs.IdFields.{is_id_text_decides}
use Rattle.mm_desk.specs.declared.held.Held.{Held}
use Rattle.mm_service.specs.declared.giving.Given.{Given}
use Rattle.mm_service.specs.Giving.{Tells, next_of, first_of, Leaves, GivesNext, given_of}

-- what the test gives
tested : List ℕ → Bool → Result (List ℕ) Fault
tested text t = if t then Ok (field_of text) else Err BadId

pub is_tested : (text : List ℕ) → IsIdText text → id_tested text ≡ Ok (field_of text)
unfolding tested
is_tested text is = ap (tested text) ((is_id_text_decides text).1 is)

pub is_refused : (text : List ℕ) → (IsIdText text → ⊥) → id_tested text ≡ Err BadId
unfolding tested
is_refused text other = ap (tested text) (no (is_id_text text) refl) where
  no : (t : Bool) → is_id_text text ≡ t → t ≡ false
  no true e = absurd (other ((is_id_text_decides text).0 e))
  no false e = refl

-- the fault of a text that is none
fault_in : Result (List ℕ) Fault → Fault
fault_in (Ok field) = BadId
fault_in (Err fault) = fault

-- an identifier's text lacks a store
pub missing-known : (text field : List ℕ) → id_tested text ≡ Ok field → missing text ≡ NoSuchStore
unfolding tested
missing-known text field = by_test (is_id_text text) where
  by_test : (t : Bool) → tested text t ≡ Ok field → (if t then NoSuchStore else BadId) ≡ NoSuchStore
  by_test true e = refl
  by_test false e = absurd (false≢true (ap is_ok e))

-- and another text is refused for what it is
pub missing-refused : (text : List ℕ) (fault : Fault) → id_tested text ≡ Err fault → missing text ≡ fault
unfolding fault_in tested
missing-refused text fault = by_test (is_id_text text) where
  by_test : (t : Bool) → tested text t ≡ Err fault → (if t then NoSuchStore else BadId) ≡ fault
  by_test true e = absurd (false≢true (sym (ap is_ok e)))
  by_test false e = ap fault_in e

-- what is given, and the service that is left
abbrev Both : Type 0
Both = Result (Option Stored × Serving) Fault

abbrev then_left : Serving → Result (Option Stored) Fault → Both
then_left t r = r >>= (λ given. Ok (given, t))

first_of-then_left : (t : Serving) (r : Result (Option Stored) Fault) → first_of (then_left t r) ≡ r
first_of-then_left t (Ok given) = refl
first_of-then_left t (Err fault) = refl

leaves : (s t : Serving) (r : Result (Option Stored) Fault) (told : Result (Option Given) Fault) (old new : List ℕ)
    → Tells r told old new → OnErr told (t ≡ s) → Leaves (then_left t r) s t
leaves s t (Ok given) told old new tells same = refl
leaves s t (Err reason) (Err fault) old new tells same = same
leaves s t (Err reason) (Ok None) old new tells same = absurd tells
leaves s t (Err reason) (Ok (Some given)) old new tells same = absurd tells

-- what it gives by the store that is there
abbrev from_state : List ℕ → Serving → State → Both
from_state field s state = given_of (next state).0 >>= (λ given. Ok (given, with_store field s (next state).1))

abbrev from_field : Serving → List ℕ → Both
from_field s field = state_named field s >>= from_state field s

-- a store has the identifier
pub gives_named : (id field : List ℕ) (s t : Serving) (state : State) (told : Result (Option Given) Fault)
    (old new : List ℕ) → id_tested id ≡ Ok field → state_of field s.memory ≡ Some state
    → Tells (given_of (next state).0) told old new → t ≡ with_store field s (next state).1 → OnErr told (t ≡ s)
    → GivesNext id told s t old new
gives_named id field s t state told old new is_field is_state tells left same =
    let r = given_of (next state).0 in
    let found : state_named field s ≡ Ok state = rw is_state refl in
    let whole : next_of id s ≡ then_left t r =
    ap (λ (x : Result (List ℕ) Fault). x >>= from_field s) is_field ∙ ap
    (λ (x : Result State Fault). x >>= from_state field s) found ∙ ap (λ (x : Serving). then_left x r) (sym left) in
    record {
      tells = subst (λ (x : Result (Option Stored) Fault). Tells x told old new)
          (sym (ap first_of whole ∙ first_of-then_left t r)) tells;
      leaves = subst (λ (x : Both). Leaves x s t) (sym whole) (leaves s t r told old new tells same);
    }

-- the first test that fails is told
refusal_is : (id : List ℕ) (s : Serving) (old : List ℕ) (fault : Fault) → next_of id s ≡ Err fault
    → GivesNext id (Err fault) s s old old
refusal_is id s old fault whole = record {
  tells = subst (λ (x : Both). Tells (first_of x) (Err fault) old old) (sym whole) (refl, refl);
  leaves = subst (λ (x : Both). Leaves x s s) (sym whole) refl;
}

-- no store has it
pub gives_unnamed : (id field : List ℕ) (s : Serving) (old : List ℕ) → id_tested id ≡ Ok field
    → state_of field s.memory ≡ None → GivesNext id (Err NoSuchStore) s s old old
gives_unnamed id field s old is_field is_none =
    let lacks : state_named field s ≡ Err NoSuchStore = rw is_none refl in
    refusal_is id s old NoSuchStore (ap (λ (x : Result (List ℕ) Fault). x >>= from_field s) is_field
    ∙ ap (λ (x : Result State Fault). x >>= from_state field s) lacks)

-- the state of the store that a text names, where the text passes this test
abbrev state_if : List ℕ → Holdings → Bool → Option State
state_if text memory t = option_map (λ (h : Held). h.state) (if t then store_of (field_of text) memory.stores else None)

-- a text that names a store is an identifier's, and the store is the one with its field
pub named_state : (text : List ℕ) (memory : Holdings) (state : State) → state_of_text text memory ≡ Some state
    → (id_tested text ≡ Ok (field_of text)) × (state_of (field_of text) memory ≡ Some state)
named_state text memory state = either (is_id_text text) refl where
  either : (t : Bool) → is_id_text text ≡ t → state_if text memory t ≡ Some state
      → (id_tested text ≡ Ok (field_of text)) × (state_of (field_of text) memory ≡ Some state)
  either true e found = (rw e refl, found)
  either false e found = absurd (none-some state found)

-- no store is named by the text
pub gives_missing : (id : List ℕ) (s : Serving) (old : List ℕ) → state_of_text id s.memory ≡ None
    → GivesNext id (Err (missing id)) s s old old
gives_missing id s old = either (is_id_text id) refl where
  either : (t : Bool) → is_id_text id ≡ t → state_if id s.memory t ≡ None
      → GivesNext id (Err (if t then NoSuchStore else BadId)) s s old old
  either true e none = gives_unnamed id (field_of id) s old (rw e refl) none
  either false e none =
      let refused : id_tested id ≡ Err BadId = rw e refl in
      refusal_is id s old BadId (ap (λ (x : Result (List ℕ) Fault). x >>= from_field s) refused)

pub put_back : (id : List ℕ) (s : Serving) (state : State) → with_state id s.memory state ≡ s.memory
    → with_store id s state ≡ s
put_back id s state same = ap (λ (m : Holdings). let t : Serving = record s { memory = m } in t) same
