-- What is read of a word is what was printed there.
use Rattle.std.proofs.Common.{◌≡◌, ℕ, zero, suc, ◌<◌, ◌≤◌, Bool, true, false, ◌==◌, List, [], ◌∷◌, ◌++◌, map, get_or}
use Rattle.std.proofs.Common.{drop, Option, Some, ℤ, pos, negsuc, refl, sym, ap, subst, ◌∙◌, inl, inr, arith}
use Rattle.std.proofs.Common.{append_assoc, append-nil}
use Rattle.std.specs.Prelude.{All, codes, decimal, FitsSigned, option_and_then, option_map, ◌^◌}
use Rattle.std.specs.Fmt.{signed_decimal}
use Rattle.std.specs.List.{find}
use Rattle.std.specs.Int.{w64}
use Rattle.std.specs.Str.{bytes_eq}
use Rattle.std.proofs.NetLemmas.Options.{map_some}
use Rattle.std.proofs.lemmas.Bool.{cases_Bool, false≢true}
use Rattle.std.proofs.lemmas.Bool.Decides.{nat_tests}
use Rattle.std.proofs.lemmas.Fmt.{decimal_digit, first_decimal}
use Rattle.std.proofs.lemmas.List.{map-append}
use Rattle.std.proofs.lemmas.List.Elements.{All-nil, All-cons, All-head, All-tail, All-push, All-map}
use Rattle.std.proofs.lemmas.List.Elements.{All-weaker}
use Rattle.std.proofs.lemmas.Option.{cond_some, none-some, option_and_then_some, same_Some}
use Rattle.std.proofs.lemmas.Slice.Eq.{bytes_eq-Decides}
use Rattle.mm_base.specs.Id.{is_id_text, IsIdField, field_of, id_text}
use Rattle.mm_base.specs.declared.numbers.Numeral.{Numeral}
use Rattle.mm_base.specs.declared.numbers.Numeral.TheVariants.{Number}
use Rattle.mm_base.proofs.IdFields.{field_of-IsIdField, id_text-field_of, is_id_text_decides}
use Rattle.mm_base.proofs.NumberTexts.{numeral_printed, printed_numeral}
use Rattle.mm_plan.specs.declared.form.Form.{Form}
use Rattle.mm_plan.specs.declared.form.Form.TheVariants.{First, Second, Third}
use Rattle.mm_plan.specs.Sheet.{form_word}
use Rattle.mm_plan.specs.Reading.{number_in, number_of, id_of, negative, signed_of, form_said, each, next, word, only}
use Rattle.mm_plan.specs.Reading.{no_more}
use Rattle.mm_plan.proofs.Spelled.{IsBare, bare_tested, bare_decimal, bare_signed, bare_id}

-- what is printed of a value is read as that value, and what is read as a value was printed of it
pub record Reads {A W : Type 0} (Good : W → Type 0) (P : A → Type 0) (print : A → W) (read : W → Option A)
    : Type 0 where
  pub again : (x : A) → P x → read (print x) ≡ Some x
  pub is : (w : W) (x : A) → read w ≡ Some x → P x × (w ≡ print x)
  pub good : (x : A) → P x → Good (print x)

-- what is printed of two values alike is printed of one
pub one_value : {A W : Type 0} {Good : W → Type 0} {P : A → Type 0} {print : A → W} {read : W → Option A}
    → Reads Good P print read → (x y : A) → P x → P y → print x ≡ print y → x ≡ y
one_value {read = read} r x y h i e = same_Some x y (sym (r.again x h) ∙ ap read e ∙ r.again y i)

-- ---- words

-- a number
number_is : (k : Numeral) (n : ℕ) → number_in k ≡ Some n → k ≡ Number n
number_is (Number m) n e = cc
number_is other n e = absurd (cc)

-- numbers are read
pub numbers : (most : ℕ) → most < 2 ^ 64 → Reads IsBare (λ n. n ≤ most) decimal (number_of most)
unfolding number_of
numbers most small = record {
  again = λ n within. ap number_in (printed_numeral most n small within);
  is = λ w n e. let p = numeral_printed most w n small (number_is _ n e) in (p.1, p.0);
  good = λ n within. bare_decimal n (omega arith);
}

-- identifiers are read
pub ids : Reads IsBare IsIdField id_text id_of
unfolding id_of
ids = record {
  again = λ f h. rw ((is_id_text_decides (id_text f)).1 h.text) (ap Some (sym h.padded));
  is = λ w f e.
      let p = cond_some (is_id_text w) (field_of w) f e in
      let is = (is_id_text_decides w).0 p.0 in
      subst (λ g. IsIdField g × (w ≡ id_text g)) p.1 (field_of-IsIdField w is, sym (id_text-field_of w is));
  good = bare_id;
}

-- what is found passes
found : {A : Type 0} (p : A → Bool) (xs : List A) (x : A) → find p xs ≡ Some x → p x ≡ true
found p [] x e = absurd (none-some x e)
found p (y ∷ ys) x e = elim (cases_Bool (p y)) [
  | inl passes ↦ subst (λ z. p z ≡ true) (same_Some y x (rw passes at e)) passes
  | inr fails ↦ found p ys x (rw fails at e)
]

-- the word of a form is that form
form_again : (f : Form) → (form_said (form_word f) ≡ Some f) × IsBare (form_word f)
form_again First = (refl, bare_tested (codes "1") refl)
form_again Second = (refl, bare_tested (codes "2") refl)
form_again Third = (refl, bare_tested (codes "3") refl)

-- forms are read
pub forms : Reads IsBare (λ f. Unit {0}) form_word form_said
forms = record {
  again = λ f h. (form_again f).0;
  is = λ w f e.
      let here = found (λ g. bytes_eq w (form_word g)) (First ∷ Second ∷ Third ∷ []) f e in
      (tt, (bytes_eq-Decides w (form_word f)).0 here);
  good = λ f h. (form_again f).1;
}

-- a given word is read
pub given : (this : List ℕ) → IsBare this → Reads IsBare (λ u. Unit {0}) (λ u. this) (word this)
given this bare = record {
  again = λ u h. rw ((bytes_eq-Decides this this).1 refl) refl;
  is = λ w u e. (tt, (bytes_eq-Decides w this).0 (cond_some (bytes_eq w this) tt u e).0);
  good = λ u h. bare;
}

-- ---- signed numbers

-- a number is printed without a sign
no_sign : (n : ℕ) → n < 2 ^ 64 → (get_or (decimal n) 0 0 == 45) ≡ false
no_sign zero low = rw (decimal_digit 0 (omega arith)) refl
no_sign (suc n) low = let first = first_decimal (suc n) (omega arith) low in grind (arith, nat_tests)

-- a printed signed number is read
signed_again : (z : ℤ) → FitsSigned w64 z → signed_of (signed_decimal z) ≡ Some z
unfolding signed_of
signed_again (pos n) fits =
    let small : n < 2 ^ 63 = fits.sfits in
    let low : n < 2 ^ 64 = omega arith in
    rw (no_sign n low) (ap (option_map pos) ((numbers 9223372036854775807 (omega arith)).again n (omega arith)))
signed_again (negsuc n) fits =
    let small : n < 2 ^ 63 = fits.sfits in
    ap (option_and_then negative) ((numbers 9223372036854775808 (omega arith)).again (suc n) (omega arith))

-- a number below 0
negative_is : (n : ℕ) (z : ℤ) → n ≤ 2 ^ 63 → negative n ≡ Some z
    → FitsSigned w64 z × (45 ∷ decimal n ≡ signed_decimal z)
negative_is zero z most e = absurd (none-some z e)
negative_is (suc n) z most e =
    subst (λ y. FitsSigned w64 y × (45 ∷ decimal (suc n) ≡ signed_decimal y)) (same_Some (negsuc n) z e)
    (record { sfits = omega (arith, most) }, refl)

-- a word with a sign
sign_first : (w : List ℕ) → (get_or w 0 0 == 45) ≡ true → w ≡ 45 ∷ drop 1 w
sign_first [] e = absurd (false≢true e)
sign_first (c ∷ cs) e = ap (λ d. d ∷ cs) (grind (arith, nat_tests))

-- signed numbers are read
pub signed : Reads IsBare (FitsSigned w64) signed_decimal signed_of
unfolding signed_of
signed = record {
  again = signed_again;
  is = λ w z e. elim (cases_Bool (get_or w 0 0 == 45)) [
    | inl sign ↦
        option_and_then_some negative (number_of 9223372036854775808 (drop 1 w)) z (rw sign at e) (λ n is same.
        let p = (numbers 9223372036854775808 (omega arith)).is (drop 1 w) n is in
        let q = negative_is n z p.0 same in
        (q.0, sign_first w sign ∙ ap (λ ds. 45 ∷ ds) p.1 ∙ q.1))
    | inr other ↦
        map_some pos (number_of 9223372036854775807 w) z (rw other at e) (λ n is same.
        let p = (numbers 9223372036854775807 (omega arith)).is w n is in
        subst (λ y. FitsSigned w64 y × (w ≡ signed_decimal y)) same (record { sfits = omega (arith, p.0) }, p.1))
  ];
  good = bare_signed;
}

-- ---- lists of words

-- no words
none_is : (ws : List (List ℕ)) (u : Unit {0}) → no_more ws ≡ Some u → Unit {0} × (ws ≡ [])
none_is [] u e = (tt, refl)
none_is (w ∷ ws) u e = absurd (none-some u e)

-- nothing is read of no words
pub none : Reads (All IsBare) (λ u. Unit {0}) (λ u. []) no_more
none = record { again = λ u h. refl; is = none_is; good = λ u h. All-nil IsBare }

module _ {A : Type 0} {Good : List ℕ → Type 0} {P : A → Type 0} {print : A → List ℕ} {read : List ℕ → Option A}
    (r : Reads Good P print read) where
  only_is : (ws : List (List ℕ)) (x : A) → only read ws ≡ Some x → P x × (ws ≡ print x ∷ [])
  only_is (w ∷ []) x e = let p = r.is w x e in (p.0, ap (λ v. v ∷ []) p.1)
  only_is other x e = absurd (none-some x e)

  -- a word and no more is read
  pub only_read : Reads (All Good) P (λ x. print x ∷ []) (only read)
  only_read = record { again = r.again; is = only_is; good = λ x h. All-cons Good _ [] (r.good x h) (All-nil Good) }

  each_again : (before xs : List A) → All P xs → each read before (map print xs) ≡ Some (before ++ xs)
  each_again before [] h = ap Some (sym (append-nil before))
  each_again before (x ∷ xs) h =
      rw (r.again x (All-head P x xs h))
      (each_again (before ++ x ∷ []) xs (All-tail P x xs h) ∙ ap Some (append_assoc before (x ∷ []) xs))

  each_is : (before : List A) (ws : List (List ℕ)) (xs : List A) → All P before → each read before ws ≡ Some xs
      → All P xs × (map print before ++ ws ≡ map print xs)
  each_is before [] xs h e =
      subst (λ ys. All P ys × (map print before ++ [] ≡ map print ys)) (same_Some before xs e) (h, append-nil _)
  each_is before (w ∷ ws) xs h e =
      option_and_then_some (λ y. each read (before ++ y ∷ []) ws) (read w) xs e (λ y is more.
      let p = r.is w y is in
      let q = each_is (before ++ y ∷ []) ws xs (All-push P before y h p.0) more in
      (q.0, simp (map-append, append_assoc, ← p.1) at q.1))

  -- each word of several is read
  pub all_read : Reads (All Good) (All P) (map print) (each read [])
  all_read = record {
    again = each_again [];
    is = λ ws xs e. each_is [] ws xs (All-nil P) e;
    good = λ xs h. All-map Good print xs (All-weaker P (λ x. Good (print x)) r.good xs h);
  }

  module _ {B : Type 0} {Q : B → Type 0} {others : B → List (List ℕ)} {more : List (List ℕ) → Option B}
      (s : Reads (All Good) Q others more) where
    next_is : (ws : List (List ℕ)) (z : A × B) → next read more ws ≡ Some z
        → (P z.0 × Q z.1) × (ws ≡ print z.0 ∷ others z.1)
    next_is [] z e = absurd (none-some z e)
    next_is (w ∷ ws) z e =
        option_and_then_some (λ x. option_map (λ y. (x, y)) (more ws)) (read w) z e (λ x first rest.
        map_some (λ y. (x, y)) (more ws) z rest (λ y then same.
        let p = r.is w x first in
        let q = s.is ws y then in
        let both : w ∷ ws ≡ print x ∷ others y = cc (p.1, q.1) in
        subst (λ v. (P v.0 × Q v.1) × (w ∷ ws ≡ print v.0 ∷ others v.1)) same ((p.0, q.0), both)))

    -- a word is read, and then those after it
    pub next_read : Reads (All Good) (λ z. P z.0 × Q z.1) (λ z. print z.0 ∷ others z.1) (next read more)
    next_read = record {
      again = λ z h. rw (r.again z.0 h.0, s.again z.1 h.1) refl;
      is = next_is;
      good = λ z h. All-cons Good _ _ (r.good z.0 h.0) (s.good z.1 h.1);
    }
