-- Lists that grow by elements which may stand after the earlier ones: the first element with which one is not good.
use Rattle.std.proofs.Common.{◌≡◌, ℕ, ◌+◌, ◌-◌, ◌<◌, true, List, [], ◌∷◌, ◌++◌, length, get_or, take, All}
use Rattle.std.proofs.Common.{refl, sym, ap, ◌∙◌, subst, arith}
use Rattle.std.specs.Prelude.{◌≢◌, ◌==◌, AllPairs}
use Rattle.std.proofs.lemmas.Bool.{both_ways, eq-eqb, ne_eqb}
use Rattle.std.proofs.lemmas.List.{get_or-take, length-take, length_push, get_or_push, get_or_append_left, take_more}
use Rattle.std.proofs.lemmas.List.{take-take}
use Rattle.std.proofs.lemmas.List.Elements.{All-push, All-take}
use Rattle.std.proofs.lemmas.List.Folds.{list_any_at, list_any_none}
use Rattle.std.proofs.lemmas.List.Quantifiers.{all_pairs_push}
use Rattle.mm_problem.specs.Dumping.{Dumping}
use Rattle.mm_cut.specs.Stretches.{IsStretch, AreApart, IsStretchAfter, AreStretches}
use Rattle.mm_plan.specs.declared.stretch.Stretch.{Stretch}
use Rattle.mm_cut.specs.Counts.{is_listed, IsCounted, IsCountedAfter, AreCounted}
use Rattle.mm_cut.specs.FirstBad.{IsFirstBad}

-- what holds of each two elements holds of those of a front
AllPairs-take : {X : Type 0} (R : X → X → Type 0) (n : ℕ) (xs : List X) → AllPairs R xs → AllPairs R (take n xs)
AllPairs-take R n xs pairs = λ i j d before inside.
    let below : j < n = omega (arith, length-take n xs) in
    let below_first : i < n = omega arith in
    rw (get_or-take n xs i d below_first, get_or-take n xs j d below)
    (pairs i j d before (omega (arith, length-take n xs)))

-- what a longer list says of its last element
All-last : {X : Type 0} (P : X → Type 0) (xs : List X) (y : X) → All P (xs ++ y ∷ []) → P y
All-last P xs y each =
    subst P (get_or_push xs y y (length xs) refl) (each (length xs) y (omega (arith, length_push xs y)))

AllPairs-last : {X : Type 0} (R : X → X → Type 0) (xs : List X) (y : X) → AllPairs R (xs ++ y ∷ [])
    → All (λ x. R x y) xs
AllPairs-last R xs y pairs = λ k d inside.
    rw (get_or_append_left xs (y ∷ []) d k inside, get_or_push xs y d (length xs) refl)
    at (pairs k (length xs) d inside (omega (arith, length_push xs y)))

-- a front with the next element, as a loop reads it
pub take_one_more : {X : Type 0} (xs : List X) (i : ℕ) (x d : X) → i < length xs → x ≡ get_or xs i d
    → take (i + 1) xs ≡ take i xs ++ x ∷ []
take_one_more xs i x d inside is = take_more xs i d inside ∙ ap (λ y. take i xs ++ y ∷ []) (sym is)

-- numbers of which neither is below the other are one
pub neither_first : (j k : ℕ) → ¬ (j < k) → ¬ (k < j) → j ≡ k
neither_first j k not_below not_above = omega arith

-- a list is good where each element may stand after the earlier ones
pub record Grows {X : Type 0} (AreGood : List X → Type 0) (MayFollow : List X → X → Type 0) : Type 0 where
  pub front : (n : ℕ) (xs : List X) → AreGood xs → AreGood (take n xs)
  pub more : (xs : List X) (y : X) → AreGood xs → MayFollow xs y → AreGood (xs ++ y ∷ [])
  pub last : (xs : List X) (y : X) → AreGood (xs ++ y ∷ []) → MayFollow xs y

module _ {X : Type 0} {AreGood : List X → Type 0} {MayFollow : List X → X → Type 0}
    (grows : Grows AreGood MayFollow) where
  -- a list with a bad element is not good
  pub IsFirstBad-not_good : (xs : List X) (k : ℕ) → IsFirstBad AreGood xs k → ¬ AreGood xs
  IsFirstBad-not_good xs k bad good = bad.here (grows.front k xs good)

  -- there is one first bad element at the most
  IsFirstBad-not_before : (xs : List X) (j k : ℕ) → IsFirstBad AreGood xs j → IsFirstBad AreGood xs k → j < k → ⊥
  IsFirstBad-not_before xs j k at_j at_k before =
      at_j.here (subst AreGood (take-take j (k - 1) xs (omega arith)) (grows.front j (take (k - 1) xs) at_k.before))

  pub IsFirstBad-same : (xs : List X) (j k : ℕ) → IsFirstBad AreGood xs j → IsFirstBad AreGood xs k → j ≡ k
  IsFirstBad-same xs j k at_j at_k =
      neither_first j k (IsFirstBad-not_before xs j k at_j at_k) (IsFirstBad-not_before xs k j at_k at_j)

  module _ (xs : List X) (i : ℕ) (x d : X) (inside : i < length xs) (is : x ≡ get_or xs i d)
      (good : AreGood (take i xs)) where
    -- a loop goes on where the next element may follow
    pub good_more : MayFollow (take i xs) x → AreGood (take (i + 1) xs)
    good_more follows = rw (take_one_more xs i x d inside is) (grows.more (take i xs) x good follows)

    -- and has found the first bad one where it may not
    pub first_bad_at : ¬ MayFollow (take i xs) x → IsFirstBad AreGood xs (i + 1)
    first_bad_at stops =
        let here : i + 1 - 1 ≡ i = omega arith in
        record {
          first = omega arith;
          last = omega arith;
          before = rw here good;
          here = λ are. stops (grows.last (take i xs) x (rw (take_one_more xs i x d inside is) at are));
        }

-- the stretches of a cut
pub stretches_grow : (q : Dumping) → Grows (AreStretches q) (IsStretchAfter q)
stretches_grow q = record {
  front = λ n ds are. record {
    each = All-take (IsStretch q) n ds are.each;
    apart = AllPairs-take AreApart n ds are.apart;
  };
  more = λ ds d are on. record {
    each = All-push (IsStretch q) ds d are.each on.is;
    apart = all_pairs_push AreApart ds d are.apart on.apart;
  };
  last = λ ds d are. record {
    is = All-last (IsStretch q) ds d are.each;
    apart = AllPairs-last AreApart ds d are.apart;
  };
}

-- a step that is not listed is none of those listed
not_listed : (ts : List ℕ) (t : ℕ) → (is_listed ts t ≡ true → ⊥) → All (λ k. k ≢ t) ts
not_listed ts t none = λ k d inside same. none (list_any_at (λ u. u == t) ts k d inside (eq-eqb (get_or ts k d) t same))

-- the counted steps of a cut
pub counts_grow : (q : Dumping) (ds : List Stretch) → Grows (AreCounted q ds) (IsCountedAfter q ds)
counts_grow q ds = record {
  front = λ n ts are. record { each = All-take (IsCounted q ds) n ts are.each; once = AllPairs-take ◌≢◌ n ts are.once };
  more = λ ts t are on. record {
    each = All-push (IsCounted q ds) ts t are.each on.is;
    once = all_pairs_push ◌≢◌ ts t are.once (not_listed ts t (both_ways (is_listed ts t) on.new));
  };
  last = λ ts t are.
      let others = AllPairs-last ◌≢◌ ts t are.once in
      record {
        is = All-last (IsCounted q ds) ts t are.each;
        new = list_any_none (λ k. k == t) ts (λ k d within. ne_eqb (get_or ts k d) t (others k d within));
      };
}
