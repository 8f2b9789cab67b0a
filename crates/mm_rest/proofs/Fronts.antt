-- The members of a table that is made key by key, from the last to the first, and tables row by row.
use Rattle.std.proofs.Common.{◌≡◌, ◌∙◌, ◌+◌, ◌<◌, ◌++◌, ℕ, true, List, [], ◌∷◌, String, Global, refl, sym, ap, ap₂}
use Rattle.std.proofs.Common.{Equal, Greater, Less, Ordering, get_or, is_lt, length, map, string_bytes, subst, take}
use Rattle.std.specs.List.{All}
use Rattle.std.specs.BTreeMap.{insert_entry}
use Rattle.std.specs.Ordering.{match_ordering}
use Rattle.std.specs.String.{string_cmp}
use Rattle.std.proofs.lemmas.Bool.{false≢true}
use Rattle.std.proofs.lemmas.List.{map-append, take_more}
use Rattle.std.proofs.lemmas.List.Elements.{All-append, All-cons, All-nil}
use Rattle.toml.specs.Data.{Data, is_before, member}
use Rattle.toml.specs.View.{members_view, view}
use Rattle.toml.specs.declared.value.Value.{Value}

abbrev Entry : Type 0
Entry = String Global × Value

-- a key that comes before the others stands in front of them
front : (o : Ordering) (k : String Global) (v : Value) (e : Entry) (es more : List Entry) → is_lt o ≡ true
    → members_view (match_ordering o ((k, v) ∷ e ∷ es) ((e.0, v) ∷ es) more)
    ≡ member (string_bytes k) (view v) (members_view (e ∷ es))
front Less k v e es more before = refl
front Equal k v e es more before = absurd (false≢true before)
front Greater k v e es more before = absurd (false≢true before)

put_before : (k : String Global) (v : Value) (es : List Entry) → is_before (string_bytes k) (members_view es) ≡ true
    → members_view (insert_entry string_cmp es k v) ≡ member (string_bytes k) (view v) (members_view es)
put_before k v [] before = refl
put_before k v (e ∷ es) before = front (string_cmp k e.0) k v e es (e ∷ insert_entry string_cmp es k v) before

pub put_front : (k : String Global) (key : List ℕ) (v : Value) (es new : List Entry) → string_bytes k ≡ key
    → is_before key (members_view es) ≡ true → new ≡ insert_entry string_cmp es k v
    → members_view new ≡ member key (view v) (members_view es)
put_front k key v es new same before is =
    ap members_view is ∙ put_before k v es (rw same before) ∙ ap (λ t. member t (view v) (members_view es)) same

-- ---- rows

module _ {R : Type 0} (rows : List R) (i : ℕ) (row : R) (within : i < length rows) (is : row ≡ get_or rows i row) where
  taken : take (i + 1) rows ≡ take i rows ++ row ∷ []
  taken = take_more rows i row within ∙ ap (λ r. take i rows ++ r ∷ []) (sym is)

  -- one row more is printed
  pub one_more : (data_of : R → Data) (values : List Value) (v : Value)
      → map view values ≡ map data_of (take i rows) → view v ≡ data_of row
      → map view (values ++ v ∷ []) ≡ map data_of (take (i + 1) rows)
  one_more data_of values v before here =
      map-append view values (v ∷ []) ∙ ap₂ (λ a d. a ++ d ∷ []) before here
      ∙ sym (ap (map data_of) taken ∙ map-append data_of (take i rows) (row ∷ []))

  -- and what is known of each row is known of it
  pub whole_more : (P : R → Type 0) → All P (take i rows) → P row → All P (take (i + 1) rows)
  whole_more P before here = subst (All P) (sym taken)
      (All-append P (take i rows) (row ∷ []) before (All-cons P row [] here (All-nil P)))
