-- The place of the one store with an identifier, what a search finds, and stores with the same identifiers.
use Rattle.mm_desk.proofs.Words.{◌≡◌, ◌≢◌, ◌⊎◌, inl, inr, ℕ, ◌<◌, ◌≤◌, Bool, true, false, cond, ltb, List, []}
use Rattle.mm_desk.proofs.Words.{length, get_or, All, refl, sym, subst, ap, ◌∙◌, length-set, get_or-set_same}
use Rattle.mm_desk.proofs.Words.{get_or-set_other, arith, bytes_eq, if◌then◌else◌, slice_get, Option, Some, None}
use Rattle.mm_desk.proofs.Words.{MatchOption, IfSome, AllPairs, position_or_len, find, cases_order, nat_tests}
use Rattle.mm_desk.proofs.Words.{get_or-map, length-map, same_lists}
use Rattle.std.proofs.Math.ListN.{set}
use Rattle.std.proofs.lemmas.List.Folds.{find_at}
use Rattle.std.proofs.lemmas.List.Sums.{passes_at_first}
use Rattle.std.proofs.lemmas.Option.{slice_get_past, slice_get_within, get_or_from_slice_get}
use Rattle.std.proofs.lemmas.Slice.Eq.{bytes_eq-Decides}
use Rattle.mm_desk.specs.declared.held.Held.{Held}
use Rattle.mm_desk.specs.Holdings.{HaveOtherIds, AreHeld, StandsAt, has_id, ids_of, store_of, with_changed}

-- the first place that passes is the store's place, and where none passes no store has the identifier
pub stands_at_first : (id : List ℕ) (stores : List Held) (r : Option ℕ)
    → r ≡ cond (ltb (position_or_len (has_id id) stores) (length stores))
    (Some (position_or_len (has_id id) stores)) None → MatchOption r (store_of id stores ≡ None) (StandsAt id stores)
stands_at_first id stores r e =
    rw e (by_test (ltb (position_or_len (has_id id) stores) (length stores)) refl)
  where
    by_test : (t : Bool) → ltb (position_or_len (has_id id) stores) (length stores) ≡ t
        → MatchOption (cond t (Some (position_or_len (has_id id) stores)) None) (store_of id stores ≡ None)
        (StandsAt id stores)
    by_test true h = record { within = grind (arith, nat_tests); store = find_at (has_id id) stores }
    by_test false h =
        let past : length stores ≤ position_or_len (has_id id) stores = grind (arith, nat_tests) in
        find_at (has_id id) stores ∙ slice_get_past stores (position_or_len (has_id id) stores) past

-- the place that is told is the first that passes
pub is_first : (told : Bool) (first : ℕ) (r : Option ℕ) → r ≡ cond told (Some first) None
    → IfSome r (λ place. place ≡ first)
is_first true first r e = rw e refl
is_first false first r e = rw e tt

-- an identifier is itself, and no other
pub same_id : (a b : List ℕ) → bytes_eq a b ≡ true → a ≡ b
same_id a b same = (bytes_eq-Decides a b).0 same

pub is_itself : (a b : List ℕ) → a ≡ b → bytes_eq a b ≡ true
is_itself a b = (bytes_eq-Decides a b).1

pub is_other : (a b : List ℕ) → a ≢ b → bytes_eq a b ≡ false
is_other a b other =
    elim (bytes_eq a b) as (λ t. bytes_eq a b ≡ t → t ≡ false) [
      | true ↦ λ e. absurd (other (same_id a b e))
      | false ↦ λ e. refl
    ] refl

-- what is found passes the test, and has what all have
pub find-some : {X : Type 0} (P : X → Type 0) (test : X → Bool) (xs : List X) (x : X) → All P xs
    → find test xs ≡ Some x → (test x ≡ true) × P x
find-some {X} P test xs x all found =
    let i : ℕ = position_or_len test xs in
    let there : slice_get xs i ≡ Some x = sym (find_at test xs) ∙ found in
    let within : i < length xs = slice_get_within xs i x there in
    let passes = passes_at_first test xs x within in
    subst (λ (y : X). (test y ≡ true) × P y) (get_or_from_slice_get xs i x x there) (passes, all i x within)

-- the store that is found has the identifier
pub found_id : (id : List ℕ) (stores : List Held) (h : Held) → store_of id stores ≡ Some h → h.id ≡ id
found_id id stores h found =
    same_id h.id id (find-some (λ s. Unit {0}) (has_id id) stores h (λ k d within. tt) found).0

module _ (id : List ℕ) (change : Held → Held) (stores : List Held) (place : ℕ) (h : Held)
    (named : AllPairs HaveOtherIds stores) (within : place < length stores) (at : slice_get stores place ≡ Some h)
    (same : h.id ≡ id) where
  abbrev one : Held → Held
  one x = if has_id id x then change x else x

  each : (k : ℕ) (d : Held) → k < length stores → (k ≡ place) ⊎ ((k < place) ⊎ (place < k))
      → one (get_or stores k d) ≡ get_or (set stores place (change h)) k d
  each k d inside (inl here) =
      rw (
        here,
        get_or-set_same stores place (change h) d within,
        get_or_from_slice_get stores place h d at,
        is_itself h.id id same,
      ) refl
  each k d inside (inr (inl before)) =
      let other = is_other (get_or stores k d).id id (λ e. named k place d before within (e ∙ sym same
      ∙ ap (λ (x : Held). x.id) (sym (get_or_from_slice_get stores place h d at)))) in
      let apart : k ≢ place = λ e. absurd (omega arith) in
      rw (other, get_or-set_other stores place k (change h) d apart) refl
  each k d inside (inr (inr after)) =
      let other = is_other (get_or stores k d).id id
      (λ e. named place k d after inside
      (ap (λ (x : Held). x.id) (get_or_from_slice_get stores place h d at) ∙ same ∙ sym e)) in
      let apart : k ≢ place = λ e. absurd (omega arith) in
      rw (other, get_or-set_other stores place k (change h) d apart) refl

  -- the one store with the identifier is changed at its place
  pub with_changed-at : with_changed id change stores ≡ set stores place (change h)
  with_changed-at =
      same_lists _ _ (length-map stores one ∙ sym (length-set stores place _))
      (λ k d inside.
      let kept : k < length stores = omega (arith, length-map stores one) in
      get_or-map one stores k d d kept ∙ each k d kept (cases_order k place))

-- the same, where the store stands at the place
pub with_changed-stands : (id : List ℕ) (change : Held → Held) (stores : List Held) (place : ℕ) (h : Held)
    → AllPairs HaveOtherIds stores → StandsAt id stores place → slice_get stores place ≡ Some h
    → with_changed id change stores ≡ set stores place (change h)
with_changed-stands id change stores place h named stands at =
    with_changed-at id change stores place h named stands.within at (found_id id stores h (stands.store ∙ at))

-- two answers that lend under one name are the same where the lender ends the same
pub lent_alike : {N A B C : Type 0} (name : N) (f g : A → B) → ((a : A) → f a ≡ g a)
    → ◌≡◌ {A = (N × (A → B)) ⊎ C} (inl (name, f)) (inl (name, g))
lent_alike name f g same = λ i. inl (name, λ a. same a i)

-- as many identifiers as stores
length-ids_of : (a b : List Held) → ids_of a ≡ ids_of b → length a ≡ length b
length-ids_of a b same = sym (length-map a (λ (h : Held). h.id)) ∙ ap length same ∙ length-map b (λ (h : Held). h.id)

-- a store with an identifier of the list
id_at : (a : List Held) (i : ℕ) (d : Held) → i < length a → get_or (ids_of a) i [] ≡ (get_or a i d).id
id_at a i d within = get_or-map (λ (h : Held). h.id) a i d [] within

pub AreHeld-same_ids : (a b : List Held) → ids_of a ≡ ids_of b → AreHeld a → AreHeld b
AreHeld-same_ids a b same held =
    let as_many = length-ids_of a b same in
    record {
      at_most = omega (arith, as_many, held.at_most);
      named = λ i j d less within.
          let j_in : j < length a = omega arith in
          let i_in : i < length a = omega arith in
          let i_out : i < length b = omega arith in
          let first = sym (id_at a i d i_in) ∙ ap (λ (ids : List (List ℕ)). get_or ids i []) same ∙ id_at b i d i_out in
          let second = sym (id_at a j d j_in) ∙ ap (λ (ids : List (List ℕ)). get_or ids j []) same
          ∙ id_at b j d within in
          λ alike. held.named i j d less j_in (first ∙ alike ∙ sym second);
    }
