-- Entries of fixed width, read one after another.
use Rattle.std.proofs.Common.{◌≡◌, ℕ, suc, ◌+◌, ◌-◌, ◌*◌, ◌<◌, ◌≤◌, List, [], ◌∷◌, ◌++◌, length, Option, Some, None, refl, sym, ap, ◌∙◌, arith, append_assoc, length-append}
use Rattle.std.proofs.lemmas.Grind.{flat_map-append}
use Rattle.std.proofs.lemmas.List.{append-nil, nil_from_length}
use Rattle.std.proofs.lemmas.List.Concat.{flat_map-cons}
use Rattle.std.specs.List.{flat_map, AllByRecursion}
use Rattle.std.specs.Prelude.{IfNone, IsSome}

-- what a loop has read so far, and what it has still to read
pub record HasRead {E : Type 0} (spelling : E → List ℕ) (fits : E → Type 0) (width : ℕ) (octets : List ℕ) (entries : List E) (rest : List ℕ) (count done : ℕ) : Type 0 where
  pub spelled : octets ≡ flat_map spelling entries ++ rest
  pub len : length entries ≡ done
  pub each : AllByRecursion fits entries
  pub left : length rest ≡ (count - done) * width

-- one step of the loop takes one entry
steps : (count done width : ℕ) → done < count → (count - done) * width ≡ width + (count - (done + 1)) * width
steps count done width lt =
    let one_more : count - done ≡ suc (count - (done + 1)) = omega arith in
    rw one_more (omega arith)

-- what is left is an entry at least
pub has_more : (count done width left : ℕ) → done < count → left ≡ (count - done) * width → width ≤ left
has_more count done width left lt is = omega (arith, steps count done width lt)

-- nothing is left at the end
pub nothing_left : (count done width : ℕ) (rest : List ℕ) → count ≤ done → length rest ≡ (count - done) * width → rest ≡ []
nothing_left count done width rest le is =
    let none : count - done ≡ 0 = omega arith in
    let len : length rest ≡ 0 = omega (arith, rw none at is) in
    nil_from_length rest len

-- what holds of each entry, with one more
each_more : {E : Type 0} (fits : E → Type 0) (entries : List E) (entry : E) → AllByRecursion fits entries → fits entry → AllByRecursion fits (entries ++ entry ∷ [])
each_more fits [] entry each fit = (fit, tt)
each_more fits (first ∷ others) entry each fit = (each.0, each_more fits others entry each.1 fit)

-- the octets of the entries with one more
flat_map_more : {E : Type 0} (spelling : E → List ℕ) (entries : List E) (entry : E) → flat_map spelling (entries ++ entry ∷ []) ≡ flat_map spelling entries ++ spelling entry
flat_map_more {E = E} spelling entries entry =
    rw (flat_map-append spelling entries (entry ∷ []), flat_map-cons spelling entry []) (ap (λ (x : List ℕ). flat_map spelling entries ++ x) (append-nil (spelling entry)))

-- the entries with one more
pub reads_more : {E : Type 0} (spelling : E → List ℕ) (fits : E → Type 0) (width : ℕ) (octets : List ℕ) (entries : List E) (rest : List ℕ) (count done : ℕ) (entry : E) (after : List ℕ)
    → done < count → HasRead spelling fits width octets entries rest count done → rest ≡ spelling entry ++ after → length rest ≡ width + length after → fits entry
    → HasRead spelling fits width octets (entries ++ entry ∷ []) after count (done + 1)
reads_more spelling fits width octets entries rest count done entry after lt read rest-is len fit =
    record {
      spelled = read.spelled ∙ ap (λ (x : List ℕ). flat_map spelling entries ++ x) rest-is ∙ sym (append_assoc (flat_map spelling entries) (spelling entry) after) ∙ ap (λ (x : List ℕ). x ++ after) (sym (flat_map_more spelling entries entry));
      len = omega (arith, length-append entries (entry ∷ []), read.len);
      each = each_more fits entries entry read.each fit;
      left = omega (arith, steps count done width lt, read.left, len);
    }

-- what is not absent is there
pub is_some_at : {X : Type 0} (o : Option X) (width left : ℕ) → width ≤ left → IfNone o (left < width) → IsSome o
is_some_at None width left le none = absurd (omega (arith, none))
is_some_at (Some x) width left le none = refl
