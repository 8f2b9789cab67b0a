-- What changes of the list of stores leave, and the outcomes that they have.
use Rattle.mm_memory.proofs.Words.{◌≡◌, ◌≢◌, inl, inr, ℕ, zero, suc, ◌+◌, ◌<◌, Bool, true, false, cond, not, List, []}
use Rattle.mm_memory.proofs.Words.{◌∷◌, ◌++◌, length, get_or, take, refl, sym, subst, ap, ◌∙◌, arith, if◌then◌else◌}
use Rattle.mm_memory.proofs.Words.{map, slice_get, Option, Some, None, Err, AllPairs, find, set, false≢true}
use Rattle.mm_memory.proofs.Words.{length_push, set-get_or, take_more, length-filter, count_by-le-length}
use Rattle.mm_memory.proofs.Words.{get_or_from_slice_get, none-some, RouteRow, Held, Outcome, ComesUnlessNoMemory}
use Rattle.mm_memory.proofs.Words.{Applies, AppliesEach, without, Parsed, Holdings, AreHeld, HaveOtherIds, StandsAt}
use Rattle.mm_memory.proofs.Words.{has_id, store_of, is_itself, with_changed-stands}
use Rattle.std.proofs.lemmas.List.Kept.{AllPairs-filter}
use Rattle.std.proofs.lemmas.List.Quantifiers.{all_pairs_push}
use Rattle.mm_base.specs.declared.limits.TheConstants.{MAX_STORES}
use Rattle.mm_memory.specs.declared.answer.Answer.{Answer}
use Rattle.mm_memory.specs.declared.fault.Fault.TheVariants.{NoMemory}
use Rattle.mm_memory.specs.Accounts.{applies, Turn, AreTurns, calls_of, after_turns}
use Rattle.mm_memory.specs.Applying.{changed, outcome_told}

-- the store at the place of an identifier
pub stood : (id : List ℕ) (stores : List Held) (place : ℕ) (h : Held) → StandsAt id stores place
    → store_of id stores ≡ Some h → slice_get stores place ≡ Some h
stood id stores place h stands found = sym stands.store ∙ found

module _ (id : List ℕ) (stores : List Held) (routes : List RouteRow) (place : ℕ) (h left : Held) (Lacks : Type 0)
    (acted : Outcome × Held) (result : Outcome) where
  abbrev left_with : Outcome → List Held → Outcome × Holdings
  left_with o all = (o, record { stores = all; routes = routes })

  abbrev put : Outcome × Held → Outcome × Holdings
  put x = left_with x.0 (set stores place x.1)

  -- what one store answers is what the memory answers
  pub changed_comes : AllPairs HaveOtherIds stores → StandsAt id stores place → slice_get stores place ≡ Some h
      → ComesUnlessNoMemory Lacks acted h (result, left)
      → ComesUnlessNoMemory Lacks (changed id acted (record { stores = stores; routes = routes }))
      (record { stores = stores; routes = routes }) (result, record { stores = set stores place left; routes = routes })
  changed_comes named stands at (inl e) =
      inl (ap put e ∙ ap (left_with acted.0)
      (sym (with_changed-stands id (λ _. acted.1) stores place h named stands at)))
  changed_comes named stands at (inr lacks) =
      let same = ap (set stores place) (sym (get_or_from_slice_get stores place h h at)) ∙ set-get_or stores place h in
      inr (lacks.0, lacks.1, ap put lacks.2 ∙ ap (left_with (Err NoMemory)) same)

-- where nothing is found, neither the first passes nor is anything found in the rest
pub neither : {A : Type 0} (h : A) (t : Bool) (o : Option A) → cond t (Some h) o ≡ None → (t ≡ false) × (o ≡ None)
neither h true o e = absurd (none-some h (sym e))
neither h false o e = (refl, e)

-- a store that is not found has another identifier
not_found : (id : List ℕ) (stores : List Held) → store_of id stores ≡ None → (k : ℕ) (d : Held) → k < length stores
    → (get_or stores k d).id ≢ id
not_found id [] absent k d inside = absurd (omega arith)
not_found id (h ∷ hs) absent zero d inside =
    λ same. false≢true (sym (neither h (has_id id h) (find (has_id id) hs) absent).0 ∙ is_itself h.id id same)
not_found id (h ∷ hs) absent (suc k) d inside =
    not_found id hs (neither h (has_id id h) (find (has_id id) hs) absent).1 k d (omega arith)

-- a new store has an identifier of its own
pub AreHeld-pushed : (pushed : Bool) (id : List ℕ) (stores : List Held) (h : Held) → AreHeld stores → h.id ≡ id
    → store_of id stores ≡ None → length stores < MAX_STORES → AreHeld (if pushed then stores ++ h ∷ [] else stores)
AreHeld-pushed true id stores h sound same absent room = record {
  at_most = omega (arith, length_push stores h);
  named = all_pairs_push HaveOtherIds stores h sound.named
      (λ k d inside. λ other. not_found id stores absent k d inside (other ∙ same));
}
AreHeld-pushed false id stores h sound same absent room = sound

-- what is left without a store
pub AreHeld-without : (id : List ℕ) (stores : List Held) → AreHeld stores → AreHeld (without id stores)
AreHeld-without id stores sound =
    let p : Held → Bool = λ h. not (has_id id h) in
    record {
      at_most = omega (arith, length-filter p stores, count_by-le-length p stores, sound.at_most);
      named = AllPairs-filter HaveOtherIds p stores sound.named;
    }

-- one instruction more is applied, with one answer more
pub AppliesEach-push : (is : List Parsed) (i : Parsed) (m next left : Holdings) (answers : List Answer)
    (answer : Answer) → AppliesEach is m answers next → Applies i next (outcome_told answer, left)
    → AppliesEach (is ++ i ∷ []) m (answers ++ answer ∷ []) left
AppliesEach-push [] i m next left [] answer before one =
    let P : Holdings → Type 0 = λ x. Applies i x (outcome_told answer, left) in
    (left, subst P before one, refl)
AppliesEach-push [] i m next left (a ∷ rest) answer before one = absurd before
AppliesEach-push (j ∷ is) i m next left [] answer before one = absurd before
AppliesEach-push (j ∷ is) i m next left (a ∷ rest) answer before one =
    (before.0, before.1, AppliesEach-push is i before.0 next left rest answer before.2 one)

-- the same in a loop over the instructions
pub applies_one_more : (is : List Parsed) (k : ℕ) (d : Parsed) (m next left : Holdings) (answers more : List Answer)
    (answer : Answer) (outcome : Outcome) → k < length is → more ≡ answers ++ answer ∷ []
    → outcome_told answer ≡ outcome → AppliesEach (take k is) m answers next
    → Applies (get_or is k d) next (outcome, left) → AppliesEach (take (k + 1) is) m more left
applies_one_more is k d m next left answers more answer outcome inside grown told before one =
    let i = get_or is k d in
    let P : Outcome → Type 0 = λ o. Applies i next (o, left) in
    let Q : List Parsed → Type 0 = λ l. AppliesEach l m (answers ++ answer ∷ []) left in
    let R : List Answer → Type 0 = λ a. AppliesEach (take (k + 1) is) m a left in
    subst R (sym grown) (subst Q (sym (take_more is k d inside))
    (AppliesEach-push (take k is) i m next left answers answer before (subst P (sym told) one)))

-- a request that is applied is a call for each of its instructions
pub requested : (is : List Parsed) (m n : Holdings) (answers : List Answer) → AppliesEach is m answers n
    → (turns : List Turn) × (calls_of turns ≡ map applies is) × AreTurns m turns × (n ≡ after_turns m turns)
requested [] m n [] same = ([], refl, tt, same)
requested [] m n (answer ∷ answers) each = absurd each
requested (i ∷ is) m n [] each = absurd each
requested (i ∷ is) m n (answer ∷ answers) each =
    let rest = requested is each.0 n answers each.2 in (
      record { call = applies i; left = each.0 } ∷ rest.0,
      ap (λ calls. applies i ∷ calls) rest.1,
      ((outcome_told answer, each.1), rest.2),
      rest.3,
    )
