-- The records of a text, one read after the other.
use Rattle.std.proofs.Common.{◌≡◌, ℕ, ◌+◌, ◌<◌, ◌≤◌, zero, suc, Bool, true, false, ◌&&◌, ◌==◌, cond, List, [], ◌∷◌, ◌++◌, length, Option, Some, None, Bor, refl, sym, ap, ◌∙◌, subst, arith, add-one, inl, inr}
use Rattle.std.proofs.lemmas.Bool.{cases_Bool, false≢true}
use Rattle.csv.specs.Machine.{Read, next_record, step, in_field, start_field, start_record, after_end, is_end, ends_at_end, fields_after, field_after, ends_with, is_byte}
use Rattle.csv.specs.Reading.{default_config, records_from, records_next, ReadsNext, NextIs, ReadRecord, pending_of, took_first, is_flexible}
use Rattle.csv.specs.declared.parser.Action.{Action}
use Rattle.csv.specs.declared.parser.Action.TheVariants as act
use Rattle.csv.specs.declared.parser.Config.{Config}
use Rattle.csv.specs.declared.parser.State.{State}
use Rattle.csv.specs.declared.parser.State.TheVariants as st
use Rattle.csv.specs.declared.parser.Terminator.{Terminator}
use Rattle.csv.specs.declared.parser.Terminator.TheVariants as term
use Rattle.csv.specs.declared.reader.Reader.{Reader}
use Rattle.mm_problem.specs.Records.{Fields, HasRecords, TakesRecord}

-- ---- a record ends between two records

-- where the action ends a record, the state is one between records
abbrev EndsBetween : State × Action → Type 0
EndsBetween p = is_end p.1 ≡ true → ends_at_end p.0 ≡ false

-- the same of a choice of two steps
ends_either : (b : Bool) (p q : State × Action) → EndsBetween p → EndsBetween q → EndsBetween (cond b p q)
ends_either true p q h k = h
ends_either false p q h k = k

-- after the end of a record
between_after : (t : Terminator) (c : ℕ) → ends_at_end (after_end t c) ≡ false
between_after term.CRLF c = elim (cases_Bool (c == 13)) [ inl cr ↦ rw cr refl | inr other ↦ rw other refl ]
between_after (term.Any t) c = refl

module _ (cfg : Config) where
  -- the same of a step in a field
  in_field_ends : (c : ℕ) → EndsBetween (in_field cfg c)
  in_field_ends c =
      ends_either (c == cfg.delimiter) (st.StartField, act.EndField) (cond (ends_with cfg.terminator c) (after_end cfg.terminator c, act.EndRecord) (st.InField, act.Copy))
      (λ h. absurd (false≢true h))
      (ends_either (ends_with cfg.terminator c) (after_end cfg.terminator c, act.EndRecord) (st.InField, act.Copy) (λ _. between_after cfg.terminator c) (λ h. absurd (false≢true h)))

  -- the same at the start of a field
  start_field_ends : (c : ℕ) → EndsBetween (start_field cfg c)
  start_field_ends c = ends_either (cfg.quoting && (c == cfg.quote)) (st.InQuoted, act.Skip) (in_field cfg c) (λ h. absurd (false≢true h)) (in_field_ends c)

  -- the same at the start of a record
  start_record_ends : (c : ℕ) → EndsBetween (start_record cfg c)
  start_record_ends c =
      ends_either (ends_with cfg.terminator c) (st.StartRecord, act.Skip) (cond (is_byte cfg.comment c) (st.InComment, act.Skip) (start_field cfg c))
      (λ h. absurd (false≢true h))
      (ends_either (is_byte cfg.comment c) (st.InComment, act.Skip) (start_field cfg c) (λ h. absurd (false≢true h)) (start_field_ends c))

  -- the same of each step
  step_ends : (s : State) (c : ℕ) → EndsBetween (step cfg s c)
  step_ends st.StartRecord c = start_record_ends c
  step_ends st.StartField c = start_field_ends c
  step_ends st.InField c = in_field_ends c
  step_ends st.InQuoted c =
      ends_either (cfg.quoting && (c == cfg.quote)) (st.AfterQuote, act.Skip) (cond (cfg.quoting && is_byte cfg.escape c) (st.InEscape, act.Skip) (st.InQuoted, act.Copy))
      (λ h. absurd (false≢true h))
      (ends_either (cfg.quoting && is_byte cfg.escape c) (st.InEscape, act.Skip) (st.InQuoted, act.Copy) (λ h. absurd (false≢true h)) (λ h. absurd (false≢true h)))
  step_ends st.InEscape c = λ h. absurd (false≢true h)
  step_ends st.AfterQuote c = ends_either (cfg.quoting && cfg.double_quote && (c == cfg.quote)) (st.InQuoted, act.Copy) (in_field cfg c) (λ h. absurd (false≢true h)) (in_field_ends c)
  step_ends st.InComment c = ends_either (c == 10) (st.StartRecord, act.Skip) (st.InComment, act.Skip) (λ h. absurd (false≢true h)) (λ h. absurd (false≢true h))
  step_ends st.AfterCr c = ends_either (c == 10) (st.StartRecord, act.Skip) (start_record cfg c) (λ h. absurd (false≢true h)) (start_record_ends c)

  -- a record that was read leaves a state between records, and no more text
  leaves : (s : State) (fields : List (List ℕ)) (field xs : List ℕ) (p : Read) → next_record cfg s fields field xs ≡ Some p → (ends_at_end p.1 ≡ false) × (length p.2 ≤ length xs)
  unfolding next_record
  leaves s fields field [] p h = elim (cases_Bool (ends_at_end s)) [
    | inl ends ↦ (let found = rw ends at h in let same : (fields ++ field ∷ [], st.StartRecord, []) ≡ p = cc in subst (λ q. (ends_at_end q.1 ≡ false) × (length q.2 ≤ 0)) same (refl, omega arith))
    | inr goes ↦ absurd (let none = rw goes at h in cc)
  ]
  leaves s fields field (c ∷ rest) p h = elim (cases_Bool (is_end (step cfg s c).1)) [
    | inl ends ↦ (let found = rw ends at h in let same : (fields_after (step cfg s c).1 fields field, (step cfg s c).0, rest) ≡ p = cc in
        subst (λ q. (ends_at_end q.1 ≡ false) × (length q.2 ≤ length (c ∷ rest))) same (step_ends s c ends, omega arith))
    | inr goes ↦ (let later = leaves (step cfg s c).0 (fields_after (step cfg s c).1 fields field) (field_after (step cfg s c).1 c field) rest p (rw goes at h) in (later.0, omega arith))
  ]

  -- and less text, where the read began between records
  takes_some : (s : State) (xs : List ℕ) (p : Read) → ends_at_end s ≡ false → next_record cfg s [] [] xs ≡ Some p → (ends_at_end p.1 ≡ false) × (length p.2 < length xs)
  unfolding next_record
  takes_some s [] p between h = absurd (let none = rw between at h in cc)
  takes_some s (c ∷ rest) p between h = elim (cases_Bool (is_end (step cfg s c).1)) [
    | inl ends ↦ (let found = rw ends at h in let same : (fields_after (step cfg s c).1 [] [], (step cfg s c).0, rest) ≡ p = cc in
        subst (λ q. (ends_at_end q.1 ≡ false) × (length q.2 < length (c ∷ rest))) same (step_ends s c ends, omega arith))
    | inr goes ↦ (let later = leaves (step cfg s c).0 (fields_after (step cfg s c).1 [] []) (field_after (step cfg s c).1 c []) rest p (rw goes at h) in (later.0, omega arith))
  ]

  -- ---- the records of a text do not hang on how many are asked for

  -- what follows a record decides
  next_same : (f g : State → List ℕ → List Fields) (o : Option Read) → ((p : Read) → o ≡ Some p → f p.1 p.2 ≡ g p.1 p.2) → records_next f o ≡ records_next g o
  next_same f g None same = refl
  next_same f g (Some p) same = ap (λ rows. p.0 ∷ rows) (same p refl)

  -- two counts above the length of the text ask for the same records
  enough : (m n : ℕ) (s : State) (xs : List ℕ) → ends_at_end s ≡ false → length xs < m → length xs < n → records_from cfg m s xs ≡ records_from cfg n s xs
  unfolding records_from
  enough zero n s xs between few more = absurd (omega arith)
  enough (suc m) zero s xs between few more = absurd (omega arith)
  enough (suc m) (suc n) s xs between few more =
      next_same (records_from cfg m) (records_from cfg n) (next_record cfg s [] [] xs)
      (λ p is. let shorter = takes_some s xs p between is in enough m n p.1 p.2 shorter.0 (omega arith) (omega arith))

-- ---- a read of a reader

-- what is left is known after a read of what was known
reads_known : (cfg : Config) (s : State) (xs : List ℕ) (after : Option (List ℕ)) (found : Bool) (fields : List (List ℕ)) (s2 : State)
    → ReadsNext cfg s (Some xs) after found fields s2 → (ys : List ℕ) × (after ≡ Some ys) × NextIs (next_record cfg s [] [] xs) found fields s2 ys
reads_known cfg s xs None found fields s2 h = absurd h
reads_known cfg s xs (Some ys) found fields s2 h = (ys, refl, h)

module _ (old new : Reader (Bor (List ℕ))) (rows : List Fields) (found : Bool) (fields : Fields) (h : HasRecords old rows)
    (read : ReadRecord (λ (s : Bor (List ℕ)). Some s.now) old new found fields) (first : took_first new ≡ true) (flexible : is_flexible new ≡ is_flexible old) where
  -- what the read found, by what the text has next
  taken : (o : Option Read) → next_record default_config old.state [] [] h.rest ≡ o → (ys : List ℕ) → pending_of (Some new.rdr.now) new ≡ Some ys → NextIs o found fields new.state ys
      → TakesRecord (records_next (records_from default_config (length h.rest)) o) found fields new
  taken None from ys left is = is
  taken (Some p) from ys left is =
      let shorter = takes_some default_config old.state h.rest p h.between from in (
        is.0,
        is.1,
        record {
          ready = inl first;
          config = read.2 ∙ h.config;
          plain = read.3 ∙ h.plain;
          flexible = flexible ∙ h.flexible;
          between = rw is.2 shorter.0;
          rest = ys;
          source = rw read.1 left;
          read = rw (is.2, is.3) (enough default_config (length h.rest) (length p.2 + 1) p.1 p.2 shorter.0 shorter.1 (omega arith));
        },
      )

  -- the read took the first of the records, or found the end
  pub takes_record : TakesRecord rows found fields new
  unfolding records_from
  takes_record =
      let known = reads_known default_config old.state h.rest (pending_of (Some new.rdr.now) new) found fields new.state (rw (h.config, h.source) at read.0) in
      let all : rows ≡ records_from default_config (suc (length h.rest)) old.state h.rest = h.read ∙ ap (λ n. records_from default_config n old.state h.rest) (add-one (length h.rest)) in
      rw all (taken (next_record default_config old.state [] [] h.rest) refl known.0 known.1 known.2)

-- a record was found: it is the first of those that were left
pub found_record : (rows : List Fields) (fields : Fields) (reader : Reader (Bor (List ℕ))) → TakesRecord rows true fields reader → (more : List Fields) × (rows ≡ fields ∷ more) × HasRecords reader more
found_record [] fields reader h = absurd (false≢true (sym h))
found_record (row ∷ more) fields reader h = (more, ap (λ f. f ∷ more) (sym h.1), h.2)

-- none was found: none was left
pub found_end : (rows : List Fields) (fields : Fields) (reader : Reader (Bor (List ℕ))) → TakesRecord rows false fields reader → rows ≡ []
found_end [] fields reader h = refl
found_end (row ∷ more) fields reader h = absurd (false≢true h.0)
