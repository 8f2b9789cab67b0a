-- The octets of each entry say what the entry is.
use Rattle.std.proofs.Common.{◌≡◌, ℕ, zero, suc, ◌*◌, List, [], ◌∷◌, ◌++◌, length, take, drop, get_or, refl, sym, ap}
use Rattle.std.proofs.Common.{◌∙◌, arith, append_assoc, length-append}
use Rattle.std.specs.List.{flat_map, AllByRecursion}
use Rattle.std.specs.Int.{w16, w32, w64, from_be_bytes}
use Rattle.std.proofs.lemmas.List.{append-nil, take_at, drop_at}
use Rattle.std.proofs.lemmas.List.Concat.{flat_map-cons}
use Rattle.std.proofs.lemmas.Nat.{from_be_bytes-to_be_bytes_2, from_be_bytes-to_be_bytes_4, from_be_bytes-to_be_bytes_8}
use Rattle.mm_st15.specs.Layout.{Field, identifier, number8, number16, number32, number64, Held, field_width}
use Rattle.mm_st15.specs.Layout.{field_octets, FitsField, AllHeld, fields_width, with_fields, FitFields, Layout}
use Rattle.mm_st15.specs.Layout.{layout_width, octets_of, Fits, target_layout, report_type_layout, time_range_layout}
use Rattle.mm_st15.specs.Layout.{time_limit_layout, configuration_layout, size_layout, channel_layout, row_layout}
use Rattle.mm_st15.specs.Layout.{summary_layout, status_layout}

-- what a field with these octets holds
field_from : (f : Field) → List ℕ → Held f
field_from identifier octets = octets
field_from number8 octets = get_or octets 0 0
field_from number16 octets = from_be_bytes w16 octets
field_from number32 octets = from_be_bytes w32 octets
field_from number64 octets = from_be_bytes w64 octets

-- a field has its width
field_len : (f : Field) (x : Held f) → FitsField f x → length (field_octets f x) ≡ field_width f
field_len identifier x fits = fits
field_len number8 x fits = refl
field_len f x fits = refl

-- a field that was written is read again
field_again : (f : Field) (x : Held f) → FitsField f x → field_from f (field_octets f x) ≡ x
unfolding field_from
field_again identifier x fits = refl
field_again number8 x fits = refl
field_again number16 x fits = from_be_bytes-to_be_bytes_2 x fits
field_again number32 x fits = from_be_bytes-to_be_bytes_4 x fits
field_again number64 x fits = from_be_bytes-to_be_bytes_8 x fits

-- what the fields with these octets hold
fields_from : (fields : List Field) → List ℕ → AllHeld fields
fields_from [] octets = tt
fields_from (f ∷ fields) octets =
    (field_from f (take (field_width f) octets), fields_from fields (drop (field_width f) octets))

-- the octets of the fields alone
abbrev fields_octets : (fields : List Field) → AllHeld fields → List ℕ
fields_octets [] held = []
fields_octets (f ∷ fields) held = field_octets f held.0 ++ fields_octets fields held.1

-- the fields stand after what is before them
fields_after : (before : List ℕ) (fields : List Field) (held : AllHeld fields)
    → with_fields before fields held ≡ before ++ fields_octets fields held
fields_after before [] held = sym (append-nil before)
fields_after before (f ∷ fields) held =
    fields_after (before ++ field_octets f held.0) fields held.1
    ∙ append_assoc before (field_octets f held.0) (fields_octets fields held.1)

-- fields have their width
fields_len : (fields : List Field) (held : AllHeld fields) → FitFields fields held
    → length (fields_octets fields held) ≡ fields_width fields
fields_len [] held fits = refl
fields_len (f ∷ fields) held fits =
    omega (
      arith,
      length-append (field_octets f held.0) (fields_octets fields held.1),
      field_len f held.0 fits.0,
      fields_len fields held.1 fits.1,
    )

-- fields that were written are read again
fields_again : (fields : List Field) (held : AllHeld fields) → FitFields fields held
    → fields_from fields (fields_octets fields held) ≡ held
unfolding fields_from
fields_again [] held fits = refl
fields_again (f ∷ fields) held fits =
    let first : List ℕ = field_octets f held.0 in
    let others : List ℕ = fields_octets fields held.1 in
    let len = field_len f held.0 fits.0 in
    rw (take_at first others (field_width f) len, drop_at first others (field_width f) len)
    (rw (field_again f held.0 fits.0, fields_again fields held.1 fits.1) refl)

-- octets of one width, from which the entry is read again
pub record IsReadable {Entry : Type 0} (layout : Layout Entry) : Type 0 where
  pub of : List ℕ → Entry
  pub len : (entry : Entry) → Fits layout entry → length (octets_of layout entry) ≡ layout_width layout
  pub again : (entry : Entry) → Fits layout entry → of (octets_of layout entry) ≡ entry

-- an entry that is made of what its fields hold can be read
readable : {Entry : Type 0} (layout : Layout Entry) (make : AllHeld layout.fields → Entry)
    → ((entry : Entry) → make (layout.held entry) ≡ entry) → IsReadable layout
readable {Entry = Entry} layout make made = record {
  of = of;
  len = λ entry fits. ap length (alone entry) ∙ fields_len layout.fields (layout.held entry) fits;
  again = λ entry fits. ap of (alone entry) ∙ ap make (fields_again layout.fields (layout.held entry) fits)
      ∙ made entry;
}
  where
    of : List ℕ → Entry
    of octets = make (fields_from layout.fields octets)

    alone : (entry : Entry) → octets_of layout entry ≡ fields_octets layout.fields (layout.held entry)
    alone entry = fields_after [] layout.fields (layout.held entry)

pub target_readable : IsReadable target_layout
target_readable = readable target_layout (λ x. record { id = x.0 }) (λ e. refl)

pub report_type_readable : IsReadable report_type_layout
report_type_readable =
    readable report_type_layout (λ x. record { id = x.0; apid = x.1.0; service = x.1.1.0; subtype = x.1.1.1.0 })
    (λ e. refl)

pub time_range_readable : IsReadable time_range_layout
time_range_readable = readable time_range_layout (λ x. record { id = x.0; from = x.1.0; to = x.1.1.0 }) (λ e. refl)

pub time_limit_readable : IsReadable time_limit_layout
time_limit_readable = readable time_limit_layout (λ x. record { id = x.0; limit = x.1.0 }) (λ e. refl)

pub configuration_readable : IsReadable configuration_layout
configuration_readable =
    readable configuration_layout (λ x. record { id = x.0; size = x.1.0; kind = x.1.1.0; channel = x.1.1.1.0 })
    (λ e. refl)

pub size_readable : IsReadable size_layout
size_readable = readable size_layout (λ x. record { id = x.0; size = x.1.0 }) (λ e. refl)

pub channel_readable : IsReadable channel_layout
channel_readable = readable channel_layout (λ x. record { id = x.0; channel = x.1.0 }) (λ e. refl)

pub row_readable : IsReadable row_layout
row_readable = readable row_layout (λ x. record { apid = x.0; service = x.1.0; subtype = x.1.1.0 }) (λ e. refl)

pub summary_readable : IsReadable summary_layout
summary_readable = readable summary_layout
    (λ x. record { id = x.0; oldest = x.1.0; newest = x.1.1.0; held = x.1.1.1.0 }) (λ e. refl)

pub status_readable : IsReadable status_layout
status_readable = readable status_layout (λ x. record { id = x.0; storage = x.1.0; retrieval = x.1.1.0 }) (λ e. refl)

-- what a reader makes of an identifier and what follows it
pub behind_id : {E : Type 0} (make : List ℕ → List ℕ → E) (id others : List ℕ) → length id ≡ 8
    → make (take 8 (id ++ others)) (drop 8 (id ++ others)) ≡ make id others
behind_id {E = E} make id others len = rw (take_at id others 8 len, drop_at id others 8 len) refl

-- this many entries, one after another
pub entries_from : {E : Type 0} → (List ℕ → E) → ℕ → ℕ → List ℕ → List E
entries_from of width zero octets = []
entries_from of width (suc count) octets = of (take width octets) ∷ entries_from of width count (drop width octets)

-- the entries after their count
pub entries_in : {E : Type 0} → (List ℕ → E) → ℕ → List ℕ → List E
entries_in of width [] = []
entries_in of width (count ∷ octets) = entries_from of width count octets

module _ {Entry : Type 0} (layout : Layout Entry) (is : IsReadable layout) where
  -- entries that were written are read again
  pub entries_again : (entries : List Entry) → AllByRecursion (Fits layout) entries
      → entries_from is.of (layout_width layout) (length entries) (flat_map (octets_of layout) entries) ≡ entries
  unfolding entries_from
  entries_again [] each = refl
  entries_again (first ∷ others) each =
      let len = is.len first each.0 in
      let left : List ℕ = flat_map (octets_of layout) others in
      rw (flat_map-cons (octets_of layout) first others)
      (rw (take_at (octets_of layout first) left (layout_width layout) len)
      (rw (drop_at (octets_of layout first) left (layout_width layout) len)
      (rw (is.again first each.0, entries_again others each.1) refl)))

  -- entries that were written after their count are read again
  pub entries_in_again : (entries : List Entry) → AllByRecursion (Fits layout) entries
      → entries_in is.of (layout_width layout) (length entries ∷ flat_map (octets_of layout) entries) ≡ entries
  unfolding entries_in
  entries_in_again entries each = entries_again entries each

  -- entries have as many octets as their number times the width
  pub length_of_entries : (entries : List Entry) → AllByRecursion (Fits layout) entries
      → length (flat_map (octets_of layout) entries) ≡ length entries * (layout_width layout)
  length_of_entries [] each = omega arith
  length_of_entries (first ∷ others) each =
      rw (flat_map-cons (octets_of layout) first others)
      (rw (length-append (octets_of layout first) (flat_map (octets_of layout) others), is.len first each.0)
      (rw (length_of_entries others each.1) (omega arith)))
