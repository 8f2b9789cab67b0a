-- The worst of the causes for which orders broke.
use Rattle.mm_dump.proofs.Words.{◌≡◌, ◌+◌, List, [], ◌∷◌, length, get_or, map, refl, ap, ◌∙◌, All, subst, ◌≤◌, arith}
use Rattle.mm_dump.proofs.Words.{length-append, Option, Some, None, All-nil, All-cons, sum_by_zeros, OrderBroken}
use Rattle.mm_dump.proofs.Words.{LinkFailed, NoMemory, worse, worst_of, worst_in, Course, IsWhole, EndedAs, IsCourse}
use Rattle.mm_dump.proofs.Words.{failed_by}
use Rattle.std.specs.Prelude.{fold}

-- what is worse than nothing is itself
pub worse-alone : (a : Option OrderBroken) → worse a None ≡ a
worse-alone None = refl
worse-alone (Some NoMemory) = refl
worse-alone (Some LinkFailed) = refl

-- where the worse of two causes is none, both are
worse-none : (a b : Option OrderBroken) → worse a b ≡ None → (a ≡ None) × (b ≡ None)
worse-none None b none = (refl, none)
worse-none (Some NoMemory) b none = absurd (cc none)
worse-none (Some LinkFailed) None none = absurd (cc none)
worse-none (Some LinkFailed) (Some why) none = absurd (cc none)

-- where the worst of causes is none, the first is, and the worst of the others
pub worst-none : (why : Option OrderBroken) (whys : List (Option OrderBroken)) → worst_of (why ∷ whys) ≡ None
    → (why ≡ None) × (worst_of whys ≡ None)
worst-none why [] none = (none, refl)
worst-none why (next ∷ whys) none =
    let both = worst-none (worse why next) whys none in
    let first = worse-none why next both.0 in
    (first.0, ap (λ (a : Option OrderBroken). fold worse a whys) first.1 ∙ both.1)

-- and so is each
pub none_broke : {X : Type 0} (cause : X → Option OrderBroken) (xs : List X) → worst_of (map cause xs) ≡ None
    → All (λ x. cause x ≡ None) xs
none_broke cause [] none = All-nil (λ x. cause x ≡ None)
none_broke cause (x ∷ xs) none =
    let both = worst-none (cause x) (map cause xs) none in
    All-cons (λ y. cause y ≡ None) x xs both.0 (none_broke cause xs both.1)

-- an order that did not break is whole
pub whole_course : (c : Course) → c.why ≡ None → IsCourse c → IsWhole c
whole_course c none is = subst (λ (why : Option OrderBroken). EndedAs why c) none is

-- where nothing broke no send failed
pub no_failures : (cs : List Course) → All IsCourse cs → worst_in cs ≡ None → failed_by cs ≡ 0
no_failures cs known none =
    sum_by_zeros (λ (c : Course). length c.unsent) cs (λ i d inside.
    let unbroken = none_broke (λ (c : Course). c.why) cs none i d inside in
    ap length (whole_course (get_or cs i d) unbroken (known i d inside)).all)

-- what an order sent and what failed of it is no more than it wanted
pub course_few : (c : Course) → IsCourse c → length c.sent + length c.unsent ≤ c.order.amount
course_few c is = of c.why is
  where
    of : (why : Option OrderBroken) → EndedAs why c → length c.sent + length c.unsent ≤ c.order.amount
    of None whole = omega (arith, whole.order.most, ap length whole.all)
    of (Some why) broken = omega (arith, broken.order.most, length-append c.sent c.unsent)
