-- Orders of which none broke were all carried out whole.
use Rattle.mm_dump.proofs.Words.{◌≡◌, inl, inr, ℕ, ◌+◌, ◌<◌, cond, eqb, List, [], ◌∷◌, ◌++◌, map, flat_map, get_or, All}
use Rattle.mm_dump.proofs.Words.{refl, ap, subst, ◌∙◌, arith, Option, None, cases_lt, eqb_tells, sum_by-cons, All-head}
use Rattle.mm_dump.proofs.Words.{All-tail, get_or-le-sum_by, IsOrderOf, id_at, Course, worst_of, worst_in, OrderBroken}
use Rattle.mm_dump.proofs.Words.{taken_at, times, Sent, all_sent, cond-eqb_same, cond-eqb_other}
use Rattle.mm_dump.specs.Dumped.{AllTook, AllTried}
use Rattle.mm_dump.specs.Laws.{SettledOrdersAreDumped}
use Rattle.mm_dump.proofs.Courses.{no_failures, whole_course, worst-none}
use Rattle.mm_dump.proofs.Ordered.{wanted_named}

module _ (course : ℕ → Course) where
  -- the worst causes of the orders that links took
  abbrev causes_at : List (List ℕ) → List (Option OrderBroken)
  causes_at places = map (λ (ks : List ℕ). worst_in (map course ks)) places

  -- where no order broke, none did that some link took
  unbroken_of : (ks : List ℕ) (k : ℕ) → worst_in (map course ks) ≡ None → 0 < times k ks → (course k).why ≡ None
  unbroken_of [] k none some = absurd (omega (arith, some))
  unbroken_of (j ∷ ks) k none some =
      let both = worst-none (course j).why (map (λ (c : Course). c.why) (map course ks)) none in
      elim (eqb_tells j k) [
        | inl same ↦ subst (λ (n : ℕ). (course n).why ≡ None) same.1 both.0
        | inr other ↦
            let count = sum_by-cons (λ (y : ℕ). cond {A = ℕ} (eqb y k) 1 0) j ks in
            unbroken_of ks k both.1 (omega (arith, some, count, cond-eqb_other j k 1 other.1))
      ]

  unbroken : (places : List (List ℕ)) (k : ℕ) → worst_of (causes_at places) ≡ None → 0 < taken_at places k
      → (course k).why ≡ None
  unbroken [] k none some = absurd (omega (arith, some))
  unbroken (ks ∷ places) k none some =
      let both = worst-none (worst_in (map course ks)) (causes_at places) none in
      elim (cases_lt 0 (times k ks)) [
        | inl here ↦ unbroken_of ks k both.0 here
        | inr away ↦ unbroken places k both.1 (omega (arith, some, away, sum_by-cons (times k) ks places))
      ]

  -- what orders sent, each at its own place
  sent_there : (ids : List (List ℕ)) (ks : List ℕ) → All (λ (k : ℕ). (course k).order.place ≡ k) ks
      → flat_map (λ (c : Course). all_sent (id_at ids c.order.place) c.sent) (map course ks)
      ≡ flat_map (λ (k : ℕ). all_sent (id_at ids k) (course k).sent) ks
  sent_there ids [] own = refl
  sent_there ids (k ∷ ks) own =
      let here = All-head (λ (k : ℕ). (course k).order.place ≡ k) k ks own in
      let rest = sent_there ids ks (All-tail (λ (k : ℕ). (course k).order.place ≡ k) k ks own) in
      λ i. all_sent (id_at ids (here i)) (course k).sent ++ rest i

  -- so each link took what the stores at its places gave
  took : {L : Type 0} (sent : L → List Sent) (failed : L → ℕ) (ids : List (List ℕ)) (places : List (List ℕ))
      (olds news : List L) → worst_of (causes_at places) ≡ None
      → ((k : ℕ) → 0 < taken_at places k → (course k).order.place ≡ k)
      → AllTried sent failed ids course places olds news
      → AllTook sent failed ids (λ k. (course k).sent) places olds news
  unfolding AllTried AllTook
  took sent failed ids [] [] [] none own tried = tt
  took sent failed ids (ks ∷ places) (old ∷ olds) (new ∷ news) none own tried =
      let both = worst-none (worst_in (map course ks)) (causes_at places) none in
      let mine : All (λ (k : ℕ). (course k).order.place ≡ k) ks = λ i d within.
      let k : ℕ = get_or ks i d in
      let one = get_or-le-sum_by (λ (y : ℕ). cond {A = ℕ} (eqb y k) 1 0) ks i d within in
      own k (omega (arith, sum_by-cons (times k) ks places, cond-eqb_same k k 1 refl, one)) in (
        tried.0.all ∙ ap (λ (ss : List Sent). sent old ++ ss) (sent_there ids ks mine),
        omega (arith, tried.0.failures, no_failures (map course ks) tried.0.are.each both.0),
        took sent failed ids places olds news both.1
            (λ k has. own k (omega (arith, has, sum_by-cons (times k) ks places))) tried.1,
      )
  took sent failed ids places olds news none own tried = absurd tried

pub all_dumped : {L : Type 0} (sent : L → List Sent) (failed : L → ℕ) → SettledOrdersAreDumped sent failed
all_dumped sent failed ids orders before after old new settled =
    let course : ℕ → Course = settled.course in
    let places : List (List ℕ) = settled.places in
    record {
      gave = λ k. (course k).sent;
      places = places;
      stores = λ k inside.
          let tried = settled.stores k inside in
          record {
            calls = (course k).calls;
            run = tried.run;
            dump = record {
              none = λ nothing. elim (cases_lt 0 (taken_at places k)) [
                | inl has ↦
                    let is = settled.order_is k has in
                    absurd (omega (arith, nothing, is.some, is.amount))
                | inr untaken ↦ let none = tried.none (omega (arith, untaken)) in (none.1, none.0)
              ];
              whole = λ some.
                  let has : 0 < taken_at places k = omega (arith, settled.all refl k, wanted_named k orders some) in
                  let whole = whole_course (course k) (unbroken course places k settled.cause has) (tried.some has) in (
                    (course k).seat,
                    subst (λ (n : ℕ). IsOrderOf (course k).seat n (course k).sent (course k).calls)
                        (settled.order_is k has).amount whole.order,
                  );
            };
          };
      once = settled.all refl;
      links = took course sent failed ids places old new settled.cause (λ k has. (settled.order_is k has).place)
          settled.links;
    }
