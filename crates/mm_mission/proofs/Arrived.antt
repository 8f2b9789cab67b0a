-- What is sent has come.
use Rattle.std.proofs.Common.{◌≡◌, ℕ, zero, suc, ◌+◌, ◌-◌, ◌*◌, ◌<◌, ◌≤◌, Bool, true, nat_le, nat_lt, ◌&&◌, List, []}
use Rattle.std.proofs.Common.{◌∷◌}
use Rattle.std.proofs.Common.{length, get_or, ap, ◌∙◌, inl, inr, arith}
use Rattle.std.specs.Prelude.{All, Contains, filter, slice_index, ◌⊎◌}
use Rattle.std.specs.List.{sum_by, list_any}
use Rattle.std.proofs.lemmas.Bool.{cases_Bool, cases_lt, or_left, or_right}
use Rattle.std.proofs.lemmas.Bool.Decides.{nat_tests}
use Rattle.std.proofs.lemmas.List.Elements.{All-head, All-tail, All-filter, Contains-append_right}
use Rattle.std.proofs.lemmas.List.Sums.{sum_by-cons}
use Rattle.std.proofs.lemmas.Nat.{mul-le}
use Rattle.mm_base.proofs.RangeSums.{sum_by_range_more, sum_by_range_same}
use Rattle.mm_problem.specs.Dumping.{Dumping, start}
use Rattle.mm_mission.specs.declared.counter.Counter.TheVariants.{Come, Packets}
use Rattle.mm_mission.specs.declared.parts.Observation.{Observation}
use Rattle.mm_mission.specs.Mission.{MissionRows, store_at, IsMission}
use Rattle.mm_mission.specs.Flows.{packet_octets, unit_octets, elapsed, come_by, into, is_into, come_octets}
use Rattle.mm_mission.specs.Flows.{come_divisor}
use Rattle.mm_mission.specs.Flows.{counted}
use Rattle.mm_mission.specs.Edges.{pass_ends, observation_ends, is_in, is_inside, AreEdges}
use Rattle.mm_mission.specs.Planned.{IsProblemOf}
use Rattle.mm_mission.specs.Packets.{step_in, AreSentBy}
use Rattle.mm_mission.specs.Timeline.{is_in_pass}
use Rattle.mm_mission.specs.Laws.{IsRoundedUp, over, AreWithin, SendsWhatIsThere, HaveBeenSent}
use Rattle.mm_mission.proofs.Rising.{rises_by}
use Rattle.mm_mission.proofs.Grown.{steps_grow}
use Rattle.mm_mission.proofs.Summed.{arrivals_add_up, packets_add_up, observations_rise}
use Rattle.mm_mission.proofs.Stepped.{dumped_there}
use Rattle.mm_mission.proofs.Passed.{outside, in_some_pass, ends_there, some_sent}

-- ---- numbers

-- between two times, what is rounded up at both of them lies less than one above what is rounded up
between : (before after now x y z d p w : ℕ) → 0 < p + w → before * d < x + d → after * d < y + d
    → x * w + y * p ≡ z * (p + w) → z ≤ now * d → before * w + after * p < (now + 1) * (p + w)
between before after now x y z d p w some low high even here =
    elim (cases_lt (before * w + after * p) ((now + 1) * (p + w))) [
      | inl below ↦ below
      | inr above ↦ absurd (omega (
        arith,
        even,
        mul-le (before * d + 1) w (x + d) w (omega arith) (omega arith),
        mul-le (after * d + 1) p (y + d) p (omega arith) (omega arith),
        mul-le z (p + w) (now * d) (p + w) here (omega arith),
        mul-le ((now + 1) * (p + w)) d (before * w + after * p) d above (omega arith),
      ))
    ]

-- sums of what is so for each
all_even : {X : Type 0} (before after now : X → ℕ) (p w : ℕ) (xs : List X)
    → All (λ x. before x * w + after x * p ≡ now x * (p + w)) xs
    → sum_by before xs * w + sum_by after xs * p ≡ sum_by now xs * (p + w)
all_even before after now p w [] each = omega arith
all_even {X} before after now p w (x ∷ xs) each =
    let Even : X → Type 0 = λ x. before x * w + after x * p ≡ now x * (p + w) in
    omega (
      arith,
      all_even before after now p w xs (All-tail Even x xs each),
      All-head Even x xs each,
      ap (λ k. k * w) (sum_by-cons before x xs),
      ap (λ k. k * p) (sum_by-cons after x xs),
      ap (λ k. k * (p + w)) (sum_by-cons now x xs),
    )

-- whole units within a bound that is not reached
whole_within : (units bound long : ℕ) → units * long < (bound + 1) * long → units ≤ bound
whole_within units bound long sent = elim (cases_lt bound units) [
  | inl above ↦ absurd (omega (arith, sent, mul-le (bound + 1) long units long (omega arith) (omega arith)))
  | inr within ↦ within
]

-- ---- lists

any_weaker : {X : Type 0} (f g : X → Bool) (xs : List X) → ((x : X) → f x ≡ true → g x ≡ true)
    → list_any f xs ≡ true → list_any g xs ≡ true
any_weaker f g [] weaker some = absurd (cc)
any_weaker f g (x ∷ xs) weaker some = elim (cases_Bool (f x)) [
  | inl here ↦ or_left (g x) (list_any g xs) (weaker x here)
  | inr not_here ↦ or_right (g x) (list_any g xs) (any_weaker f g xs weaker (rw not_here at some))
]

kept_there : (f : ℕ → Bool) (xs : List ℕ) (c : ℕ) → f c ≡ true → Contains xs c → Contains (filter f xs) c
kept_there f [] c passes there = absurd (omega (arith, there.1))
kept_there f (x ∷ xs) c passes (zero, within, is) =
    let here : f x ≡ true = ap f is ∙ passes in
    rw here (0, omega arith, is)
kept_there f (x ∷ xs) c passes (suc k, within, is) =
    let (j, below, at) = kept_there f xs c passes (k, omega arith, is) in
    elim (cases_Bool (f x)) [
      | inl kept ↦ rw kept (suc j, omega arith, at)
      | inr left_out ↦ rw left_out (j, below, at)
    ]

-- ---- observations in a step that lies in a pass

module _ (m : MissionRows) (edges : List ℕ) (h : IsMission m) (are : AreEdges m edges) (t : ℕ) (first : 1 ≤ t)
    (last : t < length edges)
    (lies : is_in_pass m.passes (record { begin = slice_index edges (t - 1); end = slice_index edges t }) ≡ true)
  where
    -- no observation begins or ends inside the step
    observed : (c : ℕ) → Contains (observation_ends m.observations) c
        → (c ≤ slice_index edges (t - 1)) ⊎ (slice_index edges t ≤ c)
    observed c there =
        let a = slice_index edges (t - 1) in
        let b = slice_index edges t in
        elim (cases_lt a c) [
          | inr before ↦ inl before
          | inl after ↦ elim (cases_lt c b) [
            | inr past ↦ inr past
            | inl within ↦
                let is_in_some : is_inside m.passes c ≡ true =
                any_weaker (λ p. nat_le p.span.begin a && nat_le b p.span.end) (λ p. is_in c p.span) m.passes
                (λ p both. inside_of p.span.begin p.span.end a b c after within both) lies in
                let (k, below, is) = Contains-append_right (pass_ends m.passes)
                (filter (is_inside m.passes) (observation_ends m.observations)) c
                (kept_there (is_inside m.passes) (observation_ends m.observations) c is_in_some there) in
                outside m edges h are t first last c ((are.each c).1 (suc (suc k), omega arith, is))
          ]
        ]
      where
        inside_of : (begin end a b c : ℕ) → a < c → c < b → (nat_le begin a && nat_le b end) ≡ true
            → (nat_lt begin c && nat_lt c end) ≡ true
        inside_of begin end a b c after within both = grind (arith, nat_tests)

    module _ (time : ℕ) (begin : slice_index edges (t - 1) ≤ time) (end : time ≤ slice_index edges t)
        (long : slice_index edges (t - 1) < slice_index edges t)
      where
        -- what has come of an observation grows evenly from the begin to the end of the step
        come_even : (o : Observation)
            → (o.span.begin ≤ slice_index edges (t - 1)) ⊎ (slice_index edges t ≤ o.span.begin)
            → (o.span.end ≤ slice_index edges (t - 1)) ⊎ (slice_index edges t ≤ o.span.end)
            → come_by (slice_index edges (t - 1)) o * (slice_index edges t - time)
            + come_by (slice_index edges t) o * (time - slice_index edges (t - 1))
            ≡ come_by time o * (time - slice_index edges (t - 1) + (slice_index edges t - time))
        come_even o starts stops =
            let a = slice_index edges (t - 1) in
            let b = slice_index edges t in
            let p = time - a in
            let w = b - time in
            let rest : elapsed o.span a ≡ elapsed o.span time → elapsed o.span b ≡ elapsed o.span time
            → come_by a o * w + come_by b o * p ≡ come_by time o * (p + w) =
            λ same_a same_b. rw (same_a, same_b) (omega arith) in
            elim starts [
              | inr later ↦ rest (omega arith) (omega arith)
              | inl began ↦ elim stops [
                | inl ended ↦ rest (omega arith) (omega arith)
                | inr goes_on ↦
                    let u = a - o.span.begin in
                    let from_a : elapsed o.span a ≡ u = omega arith in
                    let from_time : elapsed o.span time ≡ u + p = omega arith in
                    let from_b : elapsed o.span b ≡ u + p + w = omega arith in
                    rw (from_a, from_time, from_b) (omega arith)
              ]
            ]

        -- so does what has come into a store
        pub all_come_even : (s : ℕ)
            → come_octets m s (slice_index edges (t - 1)) * (slice_index edges t - time)
            + come_octets m s (slice_index edges t) * (time - slice_index edges (t - 1))
            ≡ come_octets m s time * (time - slice_index edges (t - 1) + (slice_index edges t - time))
        all_come_even s =
            let a = slice_index edges (t - 1) in
            let b = slice_index edges t in
            let p = time - a in
            let w = b - time in
            let Even : Observation → Type 0 = λ o. come_by a o * w + come_by b o * p ≡ come_by time o * (p + w) in
            let each : All Even m.observations =
            λ k d within.
            let there = ends_there (λ (o : Observation). o.span) m.observations k d within in
            let o = get_or m.observations k d in
            come_even o (observed o.span.begin there.0) (observed o.span.end there.1) in
            all_even (come_by a) (come_by b) (come_by time) p w (into m s)
            (All-filter (is_into s) Even m.observations each)

-- of what is sent evenly, no more than has come
module _ (m : MissionRows) (edges : List ℕ) (h : IsMission m) (are : AreEdges m edges) (y : ℕ → ℕ → ℕ)
    (s t time units : ℕ) (first : 1 ≤ t) (last : t < length edges) (sent : HaveBeenSent edges y s t time units)
    (lies : is_in_pass m.passes (record { begin = slice_index edges (t - 1); end = slice_index edges t }) ≡ true)
  where
    have_come : (held d : ℕ) (come : ℕ → ℕ) → ((c : ℕ) → IsRoundedUp (come_octets m s c) d (come c))
        → ((n : ℕ) → n < length edges → over (y s) 0 n ≤ held + come (slice_index edges n)) → units ≤ held + come time
    have_come held d come up there =
        let a = slice_index edges (t - 1) in
        let b = slice_index edges t in
        let p = time - a in
        let w = b - time in
        let before = over (y s) 0 (t - 1) in
        let amount = y s t in
        let next : t - 1 + 1 ≡ t = omega arith in
        let far = rises_by edges are.times.rising (t - 1) 1 (omega arith) in
        let long : a < b = omega (arith, rw next at far) in
        let even = all_come_even m edges h are t first last lies time sent.begin sent.end long s in
        let less = between (come a) (come b) (come time) (come_octets m s a) (come_octets m s b) (come_octets m s time)
        d
        p w (omega (arith, sent.begin, sent.end)) (up a).most (up b).most even (up time).least in
        let low : before ≤ held + come a = there (t - 1) (omega arith) in
        let sum = rw next at (sum_by_range_more (y s) 1 (t - 1) t (omega arith)) in
        let high : before + amount ≤ held + come b = omega (arith, there t last, sum) in
        let length_is : p + w ≡ b - a = omega (arith, sent.begin, sent.end) in
        let so_far : units * (p + w) ≤ before * (p + w) + amount * p = rw (← length_is) at sent.sent in
        let low_part = mul-le before w (held + come a) w low (omega arith) in
        let high_part = mul-le (before + amount) p (held + come b) p high (omega arith) in
        whole_within units (held + come time) (p + w) (omega (arith, so_far, low_part, high_part, less))

module _ (m : MissionRows) (edges : List ℕ) (q : Dumping) (x : ℕ → ℕ → ℕ) (s t : ℕ) (h : IsMission m)
    (are : AreEdges m edges) (of : IsProblemOf m edges q) (within : AreWithin m edges q x) (below : s < length m.stores)
    (first : 1 ≤ t) (last : t < length edges)
  where
    -- a step in which a store is to send lies in a pass
    lies_in : 0 < x s t
        → is_in_pass m.passes (record { begin = slice_index edges (t - 1); end = slice_index edges t }) ≡ true
    lies_in some =
        let window_is = (steps_grow m edges q t of first last).window in
        in_some_pass m edges h are t first last (omega (arith, some, within s t below first last, window_is))

    -- the law
    pub units_have_come : (time units : ℕ) → SendsWhatIsThere edges q x s → 0 < x s t
        → HaveBeenSent edges x s t time units → units ≤ start q s + counted m (Come s) time
    units_have_come time units there some sent =
        have_come m edges h are x s t time units first last sent (lies_in some) (start q s)
        (come_divisor unit_octets (store_at m s)) (counted m (Come s)) (λ c. (observations_rise m s h c below).0)
        (λ n inside. omega (arith, there n inside, arrivals_add_up m s h edges q n are.times of below inside))

    -- the law
    pub packets_have_come : (packets : ℕ → ℕ → ℕ) (time count : ℕ) → AreSentBy m edges x packets → 0 < packets s t
        → HaveBeenSent edges packets s t time count → count ≤ (store_at m s).start + counted m (Packets s) time
    packets_have_come packets time count by some sent =
        let units = some_sent m edges x s t (omega (arith, some, by s t below first last)) in
        have_come m edges h are packets s t time count first last sent (lies_in units) (store_at m s).start
        (come_divisor packet_octets (store_at m s)) (counted m (Packets s)) (λ c. (observations_rise m s h c below).1)
        (λ n inside.
        let same = sum_by_range_same (packets s) (λ u. (step_in m edges x s u).dumped) 1 n
        (λ u low high. by s u below low (omega arith)) in
        omega (
          arith,
          same,
          dumped_there m edges x s n,
          packets_add_up m s h edges n are.times inside,
        ))
