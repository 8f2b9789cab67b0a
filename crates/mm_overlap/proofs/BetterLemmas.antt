-- Passes that one transmitter serves.
use Rattle.std.proofs.Common.{◌≡◌, ℕ, zero, suc, ◌+◌, ◌-◌, ◌*◌, ◌/◌, ◌^◌, ◌<◌, ◌≤◌, Bool, true, false, cond, List, []}
use Rattle.std.proofs.Common.{◌∷◌, ◌++◌}
use Rattle.std.proofs.Common.{length, min, get_or, take, drop, refl, sym, ap, ◌∙◌, subst, inl, inr, arith, append_assoc}
use Rattle.std.specs.Prelude.{All, AllPairs, Contains, IsTrue, Option, Some, None, map, nat_le, nat_lt, ◌&&◌}
use Rattle.std.specs.Prelude.{filter, slice_index}
use Rattle.std.specs.Int.{◌∣◌}
use Rattle.std.specs.List.{fold, flat_map, list_all, range_with_len}
use Rattle.std.proofs.Math.Nat.{dvd_trans, div-mul_cancel, pos_of_dvd_of_pos, mul-pos}
use Rattle.std.proofs.lemmas.Bool.{cases_Bool, cases_lt, and_parts}
use Rattle.std.proofs.lemmas.Bool.Decides.{nat_tests}
use Rattle.std.proofs.lemmas.List.{get_or-map, get_or_default, length-map, map-append, map_more, take_all, take_more}
use Rattle.std.proofs.lemmas.List.{flat_map_more, take-append-drop}
use Rattle.std.proofs.lemmas.List.Sums.{fold_push}
use Rattle.std.proofs.lemmas.List.Elements.{All-head, All-push}
use Rattle.std.proofs.lemmas.List.FromFn.{length-map-range_with_len, get_or-map-range_with_len, map-range_with_len_more}
use Rattle.mm_base.proofs.Pairs.{All-front, All-back, AllPairs-map}
use Rattle.mm_links.specs.declared.better.Offer.{Offer}
use Rattle.mm_links.specs.declared.better.Part.{Part}
use Rattle.mm_links.specs.Used as used
use Rattle.mm_mission.specs.declared.limits.TheConstants.{MAX_RATE}
use Rattle.mm_mission.specs.declared.parts.Pass.{Pass}
use Rattle.mm_mission.specs.declared.parts.Rate.{Rate}
use Rattle.mm_mission.specs.Mission.{MissionRows, EndsBefore, is_span, is_rate, is_own_rate, is_pass}
use Rattle.mm_overlap.specs.Given.{pass, no_pass}
use Rattle.mm_overlap.specs.Better.{channels_of, channel_rate, is_at_most, lesser, no_rate, plus, rate_of, rates_of}
use Rattle.mm_overlap.specs.Better.{IsThere, IsBest, IsPartOf, AreParts, IsOutOfRange}
use Rattle.mm_overlap.specs.Better.{IsCommonTime, HaveNoTime, IsLeastIfAny, IsLeastTime, IsTimeIfAny, IsNextTime}
use Rattle.mm_overlap.specs.Better.{IsSent, AreSent, below, offer_of, part_of}
use Rattle.mm_overlap.proofs.Multiples.{at_most_as, at_most_in, together}

-- ---- common times

-- one more rate
pub next_rate : (time : ℕ) (r : Rate) (next : Option ℕ) → IsLeastIfAny time r.micros next
    → IsNextTime time (r ∷ []) next
next_rate time r (Some next) is rates least =
    let divides : ℕ → Rate → Type 0 = λ t q. q.micros ∣ t in
    record {
      common = All-push (divides next) rates r (λ k d within. dvd_trans _ (least.common k d within) is.first) is.second;
      least = λ s common. is.least s (least.least s (All-front (divides s) rates (r ∷ []) common))
          (All-head (divides s) r [] (All-back (divides s) rates (r ∷ []) common));
      some = is.some;
      within = is.within;
    }
next_rate time r None none rates least = λ s some common.
    let divides : Rate → Type 0 = λ q. q.micros ∣ s in
    none s some (least.least s (All-front divides rates (r ∷ []) common))
    (All-head divides r [] (All-back divides rates (r ∷ []) common))

-- some rates, and then others
pub chained : (time middle : ℕ) (first more : List Rate) (next : Option ℕ) → IsNextTime time first (Some middle)
    → IsNextTime middle more next → IsNextTime time (first ++ more) next
chained time middle first more next one two rates least =
    subst (λ all. IsTimeIfAny all next) (append_assoc rates first more) (two (rates ++ first) (one rates least))

-- where some rates have no common time, they have none with others
pub none_with : (rates more : List Rate) → HaveNoTime rates → HaveNoTime (rates ++ more)
none_with rates more none s some common = none s some (All-front (λ r. r.micros ∣ s) rates more common)

pub none_more : (time : ℕ) (first more : List Rate) → IsNextTime time first None → IsNextTime time (first ++ more) None
none_more time first more none rates least =
    subst HaveNoTime (append_assoc rates first more) (none_with (rates ++ first) more (none rates least))

-- ---- octets in a common time

pub sent_alone : (time : ℕ) (r : Rate) → 1 ≤ time → r.micros ∣ time → IsSent time r (r.octets * (time / r.micros))
sent_alone time r some divides = record {
  same = omega (arith, ap (λ k. r.octets * k) (div-mul_cancel r.micros divides));
  some = pos_of_dvd_of_pos divides some;
}

module _ (time : ℕ) (r s : Rate) (o n : ℕ) (first : IsSent time r o) (second : IsSent time s n) where
  pub sent_together : IsSent time (plus r s) (o + n)
  sent_together = record {
    same = together time o r.octets r.micros n s.octets s.micros first.same second.same;
    some = mul-pos first.some second.some;
  }

  -- what is at most the other in that time is so as a fraction
  pub at_most_sent : 1 ≤ time → o ≤ n → IsTrue (is_at_most r s)
  at_most_sent some less =
      let fraction = at_most_as time o r.octets r.micros n s.octets s.micros first.same second.same some less in
      grind (arith, nat_tests, fraction)

  pub sent_lesser : 1 ≤ time → IsSent time (lesser r s) (min o n)
  sent_lesser some = elim (cases_Bool (is_at_most r s)) [
    | inl holds ↦
        let fraction : r.octets * s.micros ≤ s.octets * r.micros = grind (arith, nat_tests, holds) in
        let less = at_most_in time o r.octets r.micros n s.octets s.micros first.same second.same first.some second.some
        fraction in
        let is : min o n ≡ o = omega (arith, less) in
        rw (holds, is) first
    | inr lacks ↦
        let fraction : s.octets * r.micros ≤ r.octets * s.micros = grind (arith, nat_tests, lacks) in
        let less = at_most_in time n s.octets s.micros o r.octets r.micros second.same first.same second.some first.some
        fraction in
        let is : min o n ≡ n = omega (arith, less) in
        rw (lacks, is) second
  ]

-- ---- ranks

-- more numbers are less than a greater one
below_more : (xs : List ℕ) (n k : ℕ) → n ≤ k → below xs n ≤ below xs k
below_more [] n k more = omega arith
below_more (x ∷ xs) n k more =
    let rest = below_more xs n k more in
    elim (cases_Bool (nat_lt x n)) [
      | inl first ↦
          let second : nat_lt x k ≡ true = grind (arith, nat_tests, first, more) in
          rw (first, second) (omega (arith, rest))
      | inr first ↦ elim (cases_Bool (nat_lt x k)) [
        | inl second ↦ rw (first, second) (omega (arith, rest))
        | inr second ↦ rw (first, second) rest
      ]
    ]

-- and still more if one of the numbers itself is less than it
below_itself : (xs : List ℕ) (n k i d : ℕ) → i < length xs → get_or xs i d ≡ n → n < k → below xs n < below xs k
below_itself [] n k i d within is less = absurd (omega arith)
below_itself (x ∷ xs) n k zero d within is less =
    let rest = below_more xs n k (omega arith) in
    let same : x ≡ n = is in
    let first : nat_lt x n ≡ false = grind (arith, nat_tests, same) in
    let second : nat_lt x k ≡ true = grind (arith, nat_tests, same, less) in
    rw (first, second) (omega (arith, rest))
below_itself (x ∷ xs) n k (suc i) d within is less =
    let rest = below_itself xs n k i d (omega arith) is less in
    elim (cases_Bool (nat_lt x n)) [
      | inl first ↦
          let second : nat_lt x k ≡ true = grind (arith, nat_tests, first, less) in
          rw (first, second) (omega (arith, rest))
      | inr first ↦ elim (cases_Bool (nat_lt x k)) [
        | inl second ↦ rw (first, second) (omega (arith, rest))
        | inr second ↦ rw (first, second) rest
      ]
    ]

-- a number is at most another one of the list if no more numbers are less than it
pub by_rank : (xs : List ℕ) (n i d : ℕ) → i < length xs → below xs n ≤ below xs (get_or xs i d) → n ≤ get_or xs i d
by_rank xs n i d within less = elim (cases_lt (get_or xs i d) n) [
  | inl more ↦ absurd (omega (arith, less, below_itself xs (get_or xs i d) n i d within refl more))
  | inr most ↦ most
]

-- ---- channels and passes one by one

module _ (p : Pass) (channels : List ℕ) (time : ℕ) where
  -- the rates of the link and of the first channels
  abbrev pub rates_to : ℕ → List Rate
  rates_to i = p.rate ∷ map (channel_rate p) (take i channels)

  rates_with : (i : ℕ) → rates_of channels p ≡ rates_to i ++ map (channel_rate p) (drop i channels)
  rates_with i =
      ap (λ cs. p.rate ∷ map (channel_rate p) cs) (sym (take-append-drop i channels))
      ∙ ap (λ rs. p.rate ∷ rs) (map-append (channel_rate p) (take i channels) (drop i channels))

  pub channel_next : (i d middle : ℕ) (next : Option ℕ) → i < length channels
      → IsNextTime time (rates_to i) (Some middle)
      → IsNextTime middle (channel_rate p (get_or channels i d) ∷ []) next → IsNextTime time (rates_to (i + 1)) next
  channel_next i d middle next within one two =
      let more : rates_to (i + 1) ≡ rates_to i ++ channel_rate p (get_or channels i d) ∷ [] =
      ap (λ rs. p.rate ∷ rs) (map_more (channel_rate p) channels i d within) in
      rw more (chained time middle (rates_to i) (channel_rate p (get_or channels i d) ∷ []) next one two)

  pub channel_none : (i : ℕ) → IsNextTime time (rates_to i) None → IsNextTime time (rates_of channels p) None
  channel_none i none =
      rw (rates_with i) (none_more time (rates_to i) (map (channel_rate p) (drop i channels)) none)

  pub channels_done : (i : ℕ) (next : Option ℕ) → length channels ≤ i → IsNextTime time (rates_to i) next
      → IsNextTime time (rates_of channels p) next
  channels_done i next all is = rw (take_all i channels all) at is

module _ (channels : List ℕ) (passes : List Pass) (i time : ℕ) (d : Pass) (within : i < length passes)
    (least : IsLeastTime (flat_map (rates_of channels) (take i passes)) time) where
  passes_more : flat_map (rates_of channels) (take (i + 1) passes)
      ≡ flat_map (rates_of channels) (take i passes) ++ rates_of channels (get_or passes i d)
  passes_more =
      ap (flat_map (rates_of channels)) (take_more passes i d within)
      ∙ sym (flat_map_more (rates_of channels) [] (take i passes) (get_or passes i d))

  pub pass_next : (next : ℕ) → IsNextTime time (rates_of channels (get_or passes i d)) (Some next)
      → IsLeastTime (flat_map (rates_of channels) (take (i + 1) passes)) next
  pass_next next is = rw passes_more (is (flat_map (rates_of channels) (take i passes)) least)

  pub pass_none : IsNextTime time (rates_of channels (get_or passes i d)) None → IsOutOfRange channels passes i
  pass_none none = record {
    known = within;
    none = rw passes_more (none (flat_map (rates_of channels) (take i passes)) least);
    before = λ no_time. absurd (omega (arith, no_time time least.some least.common, least.within));
  }

-- a common time of all passes is one of each
pub common_of_pass : (f : Pass → List Rate) (P : Rate → Type 0) (passes : List Pass) (i : ℕ) (d : Pass)
    → i < length passes → All P (flat_map f passes) → All P (f (get_or passes i d))
common_of_pass f P [] i d within all = absurd (omega arith)
common_of_pass f P (p ∷ passes) zero d within all = All-front P (f p) (flat_map f passes) all
common_of_pass f P (p ∷ passes) (suc i) d within all =
    common_of_pass f P passes i d (omega arith) (All-back P (f p) (flat_map f passes) all)

-- and of each channel
pub common_of_channel : (P : Rate → Type 0) (p : Pass) (channels : List ℕ) (i d : ℕ) → i < length channels
    → All P (rates_of channels p) → P (channel_rate p (get_or channels i d))
common_of_channel P p channels i d within all =
    subst P (get_or-map (channel_rate p) channels i d p.rate within)
    (all (suc i) p.rate (omega (arith, length-map channels (channel_rate p))))

-- one channel more of those that are sent together
pub sum_more : (p : Pass) (channels : List ℕ) (i d : ℕ) → i < length channels
    → fold plus no_rate (map (λ c. lesser (channel_rate p c) p.rate) (take (i + 1) channels))
    ≡ plus (fold plus no_rate (map (λ c. lesser (channel_rate p c) p.rate) (take i channels)))
    (lesser (channel_rate p (get_or channels i d)) p.rate)
sum_more p channels i d within =
    ap (fold plus no_rate) (map_more (λ c. lesser (channel_rate p c) p.rate) channels i d within)
    ∙ fold_push plus no_rate (map (λ c. lesser (channel_rate p c) p.rate) (take i channels))
    (lesser (channel_rate p (get_or channels i d)) p.rate)

-- a part of a pass that is in range
pub part_fits : (lasts b e : ℕ) (d : Pass) → IsTrue (is_pass lasts d) → b < e → e ≤ d.span.end
    → IsTrue (is_pass lasts (record d { span = record { begin = b; end = e } }))
part_fits lasts b e d fits some most =
    let (front, own) = and_parts (is_span lasts d.span && is_rate d.rate) (list_all is_own_rate d.channels) fits in
    let (span, link) = and_parts (is_span lasts d.span) (is_rate d.rate) front in
    let (begun, end) = and_parts (nat_lt d.span.begin d.span.end) (nat_le d.span.end lasts) span in
    let first : nat_lt b e ≡ true = grind (arith, nat_tests, some) in
    let last : nat_le e lasts ≡ true = grind (arith, nat_tests, most, end) in
    rw (first, last, link, own) refl

-- ---- offers

-- one more pass is offered
pub offers_more : (passes : List Pass) (octets : List ℕ) (i e end worth : ℕ) (d : Pass) (offers new : List Offer)
    → new ≡ offers ++ record { begin = (get_or passes i d).span.begin; end = end; worth = worth } ∷ []
    → offers ≡ map (offer_of passes octets) (range_with_len 0 i) → i < length passes → i < length octets
    → end ≡ (get_or passes i d).span.end → worth ≡ below octets (get_or octets i e)
    → new ≡ map (offer_of passes octets) (range_with_len 0 (i + 1))
offers_more passes octets i e end worth d offers new is before within known ends ranks =
    let own : get_or passes i d ≡ pass passes i = get_or_default passes i d no_pass within in
    let number : get_or octets i e ≡ slice_index octets i = get_or_default octets i e 0 known in
    let last : ◌≡◌ {A = Offer} (record { begin = (get_or passes i d).span.begin; end = end; worth = worth })
    (offer_of passes octets i) = rw (ranks, ends, number, own) refl in
    is ∙ ap (λ o. offers ++ o ∷ []) last ∙ ap (λ os. os ++ offer_of passes octets i ∷ []) before
    ∙ sym (map-range_with_len_more (offer_of passes octets) 0 i i (omega arith))

-- one more pass ends in time
pub ends_more : (passes : List Pass) (i : ℕ) (d : Pass) → i < length passes
    → ((k : ℕ) → k < i → (pass passes k).span.end < 2 ^ 64) → (get_or passes i d).span.end < 2 ^ 64
    → (k : ℕ) → k < i + 1 → (pass passes k).span.end < 2 ^ 64
ends_more passes i d within before last k below = elim (cases_lt k i) [
  | inl early ↦ before k early
  | inr past ↦
      let here : i ≡ k = omega arith in
      let own : (pass passes i).span.end < 2 ^ 64 = rw (get_or_default passes i d no_pass within) at last in
      rw here at own
]

-- ---- the parts

module _ (m : MissionRows) (passes : List Pass) (time : ℕ) (octets : List ℕ) (some : 1 ≤ time)
    (sent : AreSent (channels_of m) time passes octets) where
  abbrev pub offers : List Offer
  offers = map (offer_of passes octets) (range_with_len 0 (length passes))

  as_many : length offers ≡ length passes
  as_many = length-map-range_with_len (offer_of passes octets) 0 (length passes)

  the_offer : (i : ℕ) → i < length passes → used.offer offers i ≡ offer_of passes octets i
  the_offer i within =
      get_or-map-range_with_len (offer_of passes octets) 0 (length passes) i i used.no_offer within (omega arith)

  -- passes that are there are offered
  is_there : (i moment : ℕ) → i < length passes → used.IsThere (used.offer offers i) moment
      → IsThere (pass passes i) moment
  is_there i moment within there =
      let here : used.IsThere (offer_of passes octets i) moment = rw (the_offer i within) at there in
      record { begun = here.begun; lasts = here.lasts }

  is_offered : (i moment : ℕ) → i < length passes → IsThere (pass passes i) moment
      → used.IsThere (used.offer offers i) moment
  is_offered i moment within there =
      rw (the_offer i within) (record { begun = there.begun; lasts = there.lasts })

  -- what is worth most can send most
  sends_most : (i k : ℕ) → i < length passes → k < length passes
      → (used.offer offers i).worth ≤ (used.offer offers k).worth
      → IsTrue (is_at_most (rate_of (channels_of m) (pass passes i)) (rate_of (channels_of m) (pass passes k)))
  sends_most i k first second less =
      let rank : below octets (slice_index octets i) ≤ below octets (slice_index octets k) =
      rw (the_offer i first, the_offer k second) at less in
      at_most_sent time (rate_of (channels_of m) (pass passes i)) (rate_of (channels_of m) (pass passes k))
      (slice_index octets i) (slice_index octets k) (sent.each i first) (sent.each k second) some
      (by_rank octets (slice_index octets i) k 0 (omega (arith, sent.as_many)) rank)

  is_best : (moment i : ℕ) → used.IsBest offers (length offers) moment i → IsBest m passes moment i
  is_best moment i best =
      let known : i < length passes = omega (arith, best.known, as_many) in
      record {
        known = known;
        there = is_there i moment known best.there;
        most = λ k within there. sends_most k i within known
            (best.most k (omega (arith, as_many)) (is_offered k moment within there));
      }

  is_part : (p : Part) → used.IsPart offers p → IsPartOf m passes p.pass (part_of passes p)
  is_part p is = record {
    some = is.some;
    rate = refl;
    channels = refl;
    best = λ moment there. is_best moment p.pass (is.best moment there.begun there.lasts);
  }

  -- a part is of a pass
  pub part_known : (p : Part) → used.IsPart offers p → p.pass < length passes
  part_known p is = (is_best p.begin p.pass (is.best p.begin (omega arith) is.some)).known

  -- and in range, as that is
  pub part_in_range : All (λ (q : Pass). IsTrue (is_pass m.lasts q)) passes → (p : Part) → used.IsPart offers p
      → IsTrue (is_pass m.lasts (part_of passes p))
  part_in_range fits p is =
      let some_time = is.some in
      let known = part_known p is in
      let last = is.best (p.end - 1) (omega arith) (omega arith) in
      let there = is_there p.pass (p.end - 1) known last.there in
      part_fits m.lasts p.begin p.end (pass passes p.pass) (fits p.pass no_pass known) is.some
      (omega (arith, there.lasts, some_time))

  no_part : Part
  no_part = record { pass = 0; begin = 0; end = 0 }

  -- the parts that are served are those that are meant
  pub are_parts : (parts : List Part) → used.AreUsed offers parts
      → ((i : ℕ) → i < length passes → (pass passes i).span.end < 2 ^ 64)
      → AreParts m passes (map (λ (p : Part). p.pass) parts) (map (part_of passes) parts)
  are_parts parts is ends = record {
    as_many = length-map parts (λ (p : Part). p.pass) ∙ sym (length-map parts (part_of passes));
    each = λ j within.
        let known : j < length parts = omega (arith, length-map parts (part_of passes)) in
        let number : slice_index (map (λ (p : Part). p.pass) parts) j ≡ (get_or parts j no_part).pass =
        get_or-map (λ (p : Part). p.pass) parts j no_part 0 known in
        let own : pass (map (part_of passes) parts) j ≡ part_of passes (get_or parts j no_part) =
        get_or-map (part_of passes) parts j no_part no_pass known in
        rw (number, own) (is_part (get_or parts j no_part) (is.each j no_part known));
    apart = AllPairs-map EndsBefore (part_of passes) parts is.apart;
    all = λ i moment within there.
        let served = is.all i moment (omega (arith, as_many)) (omega (arith, ends i within, there.lasts))
        (is_offered i moment within there) in
        let (p, (inside, begun, lasts)) = served in
        let (j, known, found) = inside in
        let own : pass (map (part_of passes) parts) j ≡ part_of passes p =
        get_or-map (part_of passes) parts j p no_pass known ∙ ap (part_of passes) found in
        (j, omega (arith, known, length-map parts (part_of passes)), rw own (record { begun = begun; lasts = lasts }));
  }
