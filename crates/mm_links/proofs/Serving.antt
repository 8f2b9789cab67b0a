-- Passes that are served until one time after another.
use Rattle.std.proofs.Common.{◌≡◌, ℕ, ◌<◌, ◌≤◌, List, [], ◌∷◌, ◌++◌, length, inl, inr, arith}
use Rattle.std.proofs.lemmas.Bool.{cases_lt}
use Rattle.std.proofs.lemmas.List.Elements.{All-push, Contains-push, Contains-append_left}
use Rattle.std.proofs.lemmas.List.Quantifiers.{all_pairs_push}
use Rattle.mm_links.specs.declared.better.Offer.{Offer}
use Rattle.mm_links.specs.declared.better.Part.{Part}
use Rattle.mm_links.specs.Used.{offer, IsThere, IsBest, IsPart, EndsBefore, IsQuiet, AreQuiet, AreUsedUntil}

-- what is there later in a quiet time was there at its begin
there_before : (o : Offer) (time next moment : ℕ) → IsQuiet time next o → time ≤ moment → moment < next
    → IsThere o moment
    → IsThere o time
there_before o time next moment quiet after before there =
    elim (cases_lt time o.begin) [
      | inl later ↦ absurd (omega (arith, quiet.begin later, there.begun))
      | inr begun ↦ record { begun = begun; lasts = omega (arith, there.lasts) }
    ]

-- the best pass at its begin is the best one throughout
pub best_throughout : (offers : List Offer) (time next moment i : ℕ) → AreQuiet offers (length offers) time next
    → IsBest offers (length offers) time i → time ≤ moment → moment < next → IsBest offers (length offers) moment i
best_throughout offers time next moment i quiet best after before =
    record {
      known = best.known;
      there = record {
        begun = omega (arith, best.there.begun);
        lasts = omega (arith, (quiet i best.known).end best.there.lasts);
      };
      most = λ k known there.
          best.most k known (there_before (offer offers k) time next moment (quiet k known) after before there);
    }

-- a part that lasts on
pub part_more : (offers : List Offer) (pass begin time next : ℕ) → begin ≤ time → time < next
    → ((moment : ℕ) → begin ≤ moment → moment < time → IsBest offers (length offers) moment pass)
    → IsBest offers (length offers) time pass → AreQuiet offers (length offers) time next
    → IsPart offers (record { pass = pass; begin = begin; end = next })
part_more offers pass begin time next from to before best quiet =
    record {
      some = omega arith;
      best = λ moment low high. elim (cases_lt moment time) [
        | inl early ↦ before moment low early
        | inr late ↦ best_throughout offers time next moment pass quiet best late high
      ];
    }

-- a time in which no pass is there
pub none_served : (offers : List Offer) (time next : ℕ) (parts : List Part) → time < next
    → AreQuiet offers (length offers) time next
    → ((k : ℕ) → k < length offers → IsThere (offer offers k) time → ⊥)
    → AreUsedUntil offers time parts → AreUsedUntil offers next parts
none_served offers time next parts later quiet none used =
    record {
      each = used.each;
      apart = used.apart;
      before = λ k d within. omega (arith, used.before k d within);
      all = λ i moment known below there. elim (cases_lt moment time) [
        | inl early ↦ used.all i moment known early there
        | inr late ↦ absurd (none i known (there_before (offer offers i) time next moment
            (quiet i known) late below there))
      ];
    }

-- one part more
pub part_served : (offers : List Offer) (time : ℕ) (parts : List Part) (p : Part) → p.begin ≡ time → IsPart offers p
    → AreUsedUntil offers time parts → AreUsedUntil offers p.end (parts ++ p ∷ [])
part_served offers time parts p begin is used =
    record {
      each = All-push (IsPart offers) parts p used.each is;
      apart = all_pairs_push EndsBefore parts p used.apart (λ k d within. omega (arith, used.before k d within));
      before = All-push (λ q. q.end ≤ p.end) parts p (λ k d within. omega (arith, used.before k d within, is.some))
          (omega arith);
      all = λ i moment known below there. elim (cases_lt moment time) [
        | inl early ↦
            let served = used.all i moment known early there in
            (served.0, (Contains-append_left parts (p ∷ []) served.0 served.1.0, served.1.1, served.1.2))
        | inr late ↦ (p, (Contains-push parts p, omega arith, below))
      ];
    }
