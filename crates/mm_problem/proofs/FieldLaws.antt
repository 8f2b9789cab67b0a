-- What is read at a key, and what the key says.
use Rattle.std.proofs.Common.{◌≡◌, ℕ, ℤ, pos, negsuc, ◌≤◌, nat_le, ◌||◌, List, [], ◌∷◌, map, Option, Some, Ok}
use Rattle.std.proofs.Common.{refl, sym, ap, ◌∙◌, arith}
use Rattle.std.specs.Prelude.{Contains, bytes_eq, option_and_then}
use Rattle.std.specs.Bool.{Decides}
use Rattle.std.specs.List.{list_any, list_all}
use Rattle.std.proofs.lemmas.Bool.{and_parts}
use Rattle.std.proofs.lemmas.Bool.Decides.{Decides-by_and}
use Rattle.std.proofs.lemmas.List.Folds.{list_any_at}
use Rattle.std.proofs.lemmas.Map.Views.{Contains-from_any}
use Rattle.std.proofs.lemmas.Slice.Eq.{bytes_eq-Decides}
use Rattle.toml.specs.Data.{Data, string, integer, array, table, Items, Members, as_str, as_integer, as_array, as_table}
use Rattle.mm_problem.specs.declared.fault.Name.{Name}
use Rattle.mm_problem.specs.Keys.{keys_of, is_named, has_only, value_at, text_at, integer_at, within, number_at}
use Rattle.mm_problem.specs.Name.{text_of}
use Rattle.mm_problem.specs.ReadableSetup.{HasOnly, SaysText, SaysNumber, SaysId}
use Rattle.mm_problem.specs.Tables.{id_at}
use Rattle.mm_base.proofs.IdFields.{is_id_text_decides, Decides-nat_le}
use Rattle.mm_base.proofs.ReadingSteps.{bind_ok, ok_or_ok, cond_ok}

-- ---- the kinds of values

-- a value that is a text
pub string_said : (o : Option Data) (text : List ℕ) → option_and_then as_str o ≡ Some text → o ≡ Some (string text)
string_said (Some (string s)) text h = cc
string_said other text h = absurd (cc)

-- the same of a value that is there
pub text_is : (d : Data) (text : List ℕ) → as_str d ≡ Some text → d ≡ string text
text_is (string s) text h = cc
text_is other text h = absurd (cc)

-- a value that is a whole number
pub integer_said : (o : Option Data) (z : ℤ) → option_and_then as_integer o ≡ Some z → o ≡ Some (integer z)
integer_said (Some (integer y)) z h = cc
integer_said other z h = absurd (cc)

-- a value that is an array
pub array_said : (d : Data) (ds : Items) → as_array d ≡ Some ds → d ≡ array ds
array_said (array es) ds h = cc
array_said other ds h = absurd (cc)

-- a value that is a table
pub table_said : (d : Data) (ms : Members) → as_table d ≡ Some ms → d ≡ table ms
table_said (table ns) ms h = cc
table_said other ms h = absurd (cc)

-- ---- keys

-- the test that an element has a value at f
pub found_decides : {X : Type 0} (f : X → List ℕ) (xs : List X) (key : List ℕ)
    → Decides (list_any (λ x. bytes_eq (f x) key) xs) (Contains (map f xs) key)
found_decides f xs key =
    let mapped = any-map f key xs in (
      λ h. Contains-from_any {eq = λ q k. bytes_eq k q} (λ q k is. sym ((bytes_eq-Decides k q).0 is)) key (map f xs)
          (mapped ∙ h),
      λ h. sym mapped ∙ list_any_at (λ k. bytes_eq k key) (map f xs) h.0 key h.1 ((bytes_eq-Decides _ key).1 h.2),
    )
  where
    any-map : {X : Type 0} (f : X → List ℕ) (key : List ℕ) (xs : List X)
        → list_any (λ k. bytes_eq k key) (map f xs) ≡ list_any (λ x. bytes_eq (f x) key) xs
    any-map f key [] = refl
    any-map f key (x ∷ xs) = ap (λ b. bytes_eq (f x) key || b) (any-map f key xs)

-- the test of the keys of a table
pub has_only_decides : (names : List Name) (ms : Members) → Decides (has_only names ms) (HasOnly names ms)
has_only_decides names ms =
    Decides-by_and (is_named names) (Contains (map text_of names))
    (list_all (is_named names)) (found_decides text_of names) refl (λ _ _. refl) (keys_of ms)

-- ---- texts and numbers

module _ (low high : ℕ) (name : Name) (n : ℕ) where
  -- a number that passed is within its range
  pub within_said : (m : ℕ) → within low high name (pos m) ≡ Ok n → (m ≡ n) × (low ≤ m) × (m ≤ high)
  within_said m h =
      let (passed, same) = cond_ok _ _ _ _ h in
      let (above, below) = and_parts (nat_le low m) (nat_le m high) passed in
      (same, (Decides-nat_le low m).0 above, (Decides-nat_le m high).0 below)

  -- the same of a whole number
  whole_said : (z : ℤ) → within low high name z ≡ Ok n → (z ≡ pos n) × (low ≤ n) × (n ≤ high)
  whole_said (pos m) h =
      let (same, above, below) = within_said m h in
      (ap pos same, omega arith, omega arith)
  whole_said (negsuc m) h = absurd (cc)

  -- a number within the range is read
  within_read : low ≤ n → n ≤ high → within low high name (pos n) ≡ Ok n
  within_read above below = rw ((Decides-nat_le low n).1 above, (Decides-nat_le n high).1 below) refl

module _ (row : ℕ) (name : Name) (ms : Members) where
  -- a text that is read is what the key has
  pub text_said : (text : List ℕ) → text_at row name ms ≡ Ok text → SaysText ms name text
  text_said text h = string_said (value_at name ms) text (ok_or_ok _ _ _ h)

  -- a whole number that is read is what the key has
  integer_at_said : (z : ℤ) → integer_at row name ms ≡ Ok z → value_at name ms ≡ Some (integer z)
  integer_at_said z h = integer_said (value_at name ms) z (ok_or_ok _ _ _ h)

  -- an identifier that is read is what the key has
  pub id_said : (id : List ℕ) → id_at row name ms ≡ Ok id → SaysId ms name id
  unfolding id_at
  id_said id h =
      let (text, said, is) = bind_ok _ _ _ h in
      let (passed, same) = cond_ok _ _ _ _ is in
      record {
        text = text;
        says = text_said text said;
        well_formed = (is_id_text_decides text).0 passed;
        padded = sym same;
      }

  -- the identifier that the key has is read
  pub id_read : (id : List ℕ) → SaysId ms name id → id_at row name ms ≡ Ok id
  unfolding id_at
  id_read id h = rw (h.says, (is_id_text_decides h.text).1 h.well_formed) (ap Ok (sym h.padded))

  module _ (low high n : ℕ) where
    -- a number that is read is what the key has, and within the range
    pub number_said : number_at row name low high ms ≡ Ok n → SaysNumber ms name n × (low ≤ n) × (n ≤ high)
    unfolding number_at
    number_said h =
        let (z, at, in_range) = bind_ok _ _ _ h in
        let (is, above, below) = whole_said low high name n z in_range in
        (integer_at_said z at ∙ ap (λ y. Some (integer y)) is, above, below)

    -- the number that the key has is read, where it is within the range
    pub number_read : SaysNumber ms name n → low ≤ n → n ≤ high → number_at row name low high ms ≡ Ok n
    unfolding number_at
    number_read says above below = rw says (within_read low high name n above below)
