-- What sources give until they are as they will be later.
use Rattle.mm_record.proofs.Words.{◌≡◌, suc, List, [], ◌∷◌, length, map, refl, sym, subst, ap, arith, AllZip, Supply}
use Rattle.mm_record.proofs.Words.{supplies, WhateverComes}
use Rattle.std.proofs.lemmas.Slice.Zip.{AllZip-long}

-- two lists side by side are as long, whatever holds of their elements
pub zip_long : {A B : Type 0} (R : A → B → Type 0) (xs : List A) (ys : List B) → AllZip R xs ys → length xs ≡ length ys
zip_long R xs ys zipped = sym (AllZip-long R xs ys zipped)

-- there are as many supplies as sources
pub length-supplies : {S : Type 0} (until : S → S → Supply) (ss lasts : List S) → length ss ≡ length lasts
    → length (supplies until ss lasts) ≡ length ss
length-supplies until [] lasts same = refl
length-supplies until (s ∷ ss) [] same = absurd (omega arith)
length-supplies until (s ∷ ss) (last ∷ lasts) same = ap suc (length-supplies until ss lasts (omega arith))

-- what a known source gives until any later moment
pub supplies-known : {S : Type 0} (gives : S → Supply) (ss lasts : List S) → length ss ≡ length lasts
    → supplies (λ s _. gives s) ss lasts ≡ map gives ss
supplies-known gives [] lasts same = refl
supplies-known gives (s ∷ ss) [] same = absurd (omega arith)
supplies-known gives (s ∷ ss) (last ∷ lasts) same = ap (λ (rest : List Supply). gives s ∷ rest)
    (supplies-known gives ss lasts (omega arith))

module _ {S : Type 0} (leads : S → S → Type 0) (until : S → S → Supply) where
  -- sources may stay as they are
  pub all_stay : ((s : S) → leads s s) → (ss : List S) → AllZip leads ss ss
  all_stay stays [] = tt
  all_stay stays (s ∷ ss) = (stays s, all_stay stays ss)

  -- what follows from what holds whatever comes
  pub comes_weaker : (before after : List S) (P Q : List Supply → List Supply → Type 0)
      → ((given left : List Supply) → P given left → Q given left)
      → WhateverComes leads until before after P → WhateverComes leads until before after Q
  comes_weaker before after P Q weaker comes lasts lead = let one = comes lasts lead in (one.0, weaker _ _ one.1)

-- where what sources give is known, what holds whatever comes holds of it
pub as_known : {S : Type 0} (gives : S → Supply) (before after : List S) (P : List Supply → List Supply → Type 0)
    → WhateverComes (λ _ _. Unit {0}) (λ s _. gives s) before after P → P (map gives before) (map gives after)
as_known {S} gives before after P comes =
    let leads : S → S → Type 0 = λ s last. Unit {0} in
    let until : S → S → Supply = λ s last. gives s in
    let one = comes after (all_stay leads until (λ s. tt) after) in
    subst (P (map gives before)) (supplies-known gives after after refl)
    (subst (λ (given : List Supply). P given (supplies until after after))
    (supplies-known gives before after (zip_long leads before after one.0)) one.1)
