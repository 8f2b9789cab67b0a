-- What the steps of a mission's problem add up to.
use Rattle.std.proofs.Common.{◌≡◌, ◌≢◌, ℕ, zero, suc, ◌+◌, ◌-◌, ◌*◌, ◌/◌, ◌<◌, ◌≤◌, List, [], ◌∷◌, length, get_or}
use Rattle.std.proofs.Common.{Option, Some, None, refl, sym, subst, ap, ◌∙◌, inl, inr, add-one, arith}
use Rattle.std.specs.Prelude.{All, Contains, IsTrue, IfSome, slice_index, slice_get}
use Rattle.std.specs.List.{sum_by}
use Rattle.std.specs.List.Sorted.{IsStrictlyIncreasing}
use Rattle.std.proofs.Math.Nat.{zero-div, zero-mod}
use Rattle.std.proofs.lemmas.Bool.{cases_lt}
use Rattle.std.proofs.lemmas.Bool.Decides.{nat_tests}
use Rattle.std.proofs.lemmas.List.Elements.{All-from_get_or, All-head, All-tail, All-contains}
use Rattle.std.proofs.lemmas.List.Sums.{sum_by-cons}
use Rattle.std.proofs.lemmas.Nat.{mul-le}
use Rattle.mm_base.proofs.RangeSums.{sum_by_range_more, sum_by_range_same, sum_by_range-le}
use Rattle.mm_base.proofs.Sums.{sum_by-le_each, sum_by-same, sum_by_zeros}
use Rattle.mm_problem.specs.Dumping.{Dumping, arrivals}
use Rattle.mm_mission.specs.declared.counter.Counter.TheVariants.{Sent, Come, Packets}
use Rattle.mm_mission.specs.declared.parts.Pass.{Pass}
use Rattle.mm_mission.specs.declared.parts.Store.{Store}
use Rattle.mm_mission.specs.Mission.{MissionRows, no_store, store_at, IsMission, is_pass, is_store}
use Rattle.mm_mission.specs.Flows.{elapsed, Pace, whole_units, link_pace, own_pace, pace_on, sent_by, come_by, into}
use Rattle.mm_mission.specs.Flows.{packet_octets, unit_octets, come_octets, come_divisor, begun, counted}
use Rattle.mm_mission.specs.Edges.{AreTimes}
use Rattle.mm_mission.specs.Planned.{growth, IsProblemOf}
use Rattle.mm_mission.specs.Laws.{IsRoundedDown, IsRoundedUp, IsWithinOne, IsKept, LieIn, time_of, over, room, HasRoom}
use Rattle.mm_mission.specs.Laws.{FitsOver}
use Rattle.mm_mission.proofs.Rising.{rises}
use Rattle.mm_mission.proofs.Rounded.{div_most, div_least, div_rises, growth_most, growth_least, up_least, up_most}
use Rattle.mm_mission.proofs.Rounded.{up_rises}
use Rattle.mm_mission.proofs.Paces.{pace_on_some, both_kept}
use Rattle.mm_mission.proofs.Grown.{steps_grow}

-- ---- what a count that rises grows by

-- what it grows by in steps that follow one another adds up to what it grows by in all of them
telescope : (count : ℕ → ℕ) (edges : List ℕ) → ((a b : ℕ) → a ≤ b → count a ≤ count b) → IsStrictlyIncreasing edges
    → (i n : ℕ) → i + n < length edges
    → over (growth count edges) i n ≡ count (slice_index edges (i + n)) - count (slice_index edges i)
telescope count edges grows rising i zero within =
    let here : i + 0 ≡ i = omega arith in
    rw here (omega arith)
telescope count edges grows rising i (suc n) within =
    let at : ℕ → ℕ = λ k. count (slice_index edges k) in
    let so_far = telescope count edges grows rising i n (omega arith) in
    let more = sum_by_range_more (growth count edges) (i + 1) n (i + suc n) (omega arith) in
    let before : i + suc n - 1 ≡ i + n = omega arith in
    let last : growth count edges (i + suc n) ≡ at (i + suc n) - at (i + n) = ap (λ k. at (i + suc n) - at k) before in
    let up : at i ≤ at (i + n) = grows _ _ (rises edges rising i (i + n) (omega arith) (omega arith)) in
    let on : at (i + n) ≤ at (i + suc n) = grows _ _ (rises edges rising (i + n) (i + suc n) (omega arith) within) in
    ap (λ k. over (growth count edges) i k) (sym (add-one n)) ∙ more ∙ omega (arith, so_far, last, up, on)

-- two sums whose terms differ at one place only
sum_by_changed : {X : Type 0} (f g : X → ℕ) (xs : List X) (k : ℕ) (d : X) → k < length xs
    → ((j : ℕ) → j < length xs → j ≢ k → f (get_or xs j d) ≡ g (get_or xs j d))
    → sum_by f xs + g (get_or xs k d) ≡ sum_by g xs + f (get_or xs k d)
sum_by_changed f g [] k d within same = absurd (omega arith)
sum_by_changed {X} f g (x ∷ xs) zero d within same =
    let rest : sum_by f xs ≡ sum_by g xs = sum_by-same f g xs (All-from_get_or (λ y. f y ≡ g y) xs d
    (λ j below. same (suc j) (omega arith) (omega arith))) in
    omega (arith, sum_by-cons f x xs, sum_by-cons g x xs, rest)
sum_by_changed f g (x ∷ xs) (suc k) d within same =
    let rest = sum_by_changed f g xs k d (omega arith) (λ j below other. same (suc j) (omega arith) (omega arith)) in
    omega (arith, sum_by-cons f x xs, sum_by-cons g x xs, rest, same 0 (omega arith) (omega arith))

-- ---- what is sent

-- a product with 0
mul-zero-of : (x y : ℕ) → y ≡ 0 → x * y ≡ 0
mul-zero-of x y none = rw none (omega arith)

whole_rises : (f : Pace) (a b : ℕ) → 0 < f.divisor → a ≤ b → whole_units f a ≤ whole_units f b
unfolding whole_units
whole_rises f a b some rises =
    div_rises f.divisor some (f.octets * a) (f.octets * b) (mul-le f.octets a f.octets b (omega arith) rises)

sent_rises : (m : MissionRows) (channel : Option ℕ) → IsMission m → (a b : ℕ) → a ≤ b
    → counted m (Sent channel) a ≤ counted m (Sent channel) b
unfolding counted
sent_rises m channel h a b rises =
    sum_by-le_each (sent_by m channel a) (sent_by m channel b) m.passes
    (λ k d within.
    let p = get_or m.passes k d in
    whole_rises (pace_on m channel p) (elapsed p.span a) (elapsed p.span b)
    (pace_on_some m channel p (h.passes k d within)) (omega arith))

-- ---- steps in a pass

module _ (m : MissionRows) (p : Pass) (channel : Option ℕ) (h : IsMission m) (there : Contains m.passes p) (a b : ℕ)
    (begin : p.span.begin ≤ a) (rising : a ≤ b) (end : b ≤ p.span.end)
  where
    -- while a pass lasts no other one sends
    others_rest : (j : ℕ) → j < length m.passes → j ≢ there.0
        → sent_by m channel a (get_or m.passes j p) ≡ sent_by m channel b (get_or m.passes j p)
    others_rest j below other =
        let r = get_or m.passes j p in
        let flow : ℕ → ℕ = whole_units (pace_on m channel r) in
        elim (cases_lt j there.0) [
          | inl before ↦
              let apart : r.span.end ≤ p.span.begin = rw there.2 at (h.apart j there.0 p before there.1) in
              let same : elapsed r.span a ≡ elapsed r.span b = omega arith in
              ap flow same
          | inr later ↦
              let apart : p.span.end ≤ r.span.begin = rw there.2 at (h.apart there.0 j p (omega arith) below) in
              let same : elapsed r.span a ≡ elapsed r.span b = omega arith in
              ap flow same
        ]

    -- so what can be sent grows by what this pass can send
    in_pass : counted m (Sent channel) b - counted m (Sent channel) a
        ≡ whole_units (pace_on m channel p) (b - p.span.begin) - whole_units (pace_on m channel p) (a - p.span.begin)
    unfolding counted
    in_pass =
        let flow : ℕ → ℕ = whole_units (pace_on m channel p) in
        let changed = sum_by_changed (sent_by m channel a) (sent_by m channel b) m.passes there.0 p there.1
        others_rest in
        let until_a : elapsed p.span a ≡ a - p.span.begin = omega arith in
        let until_b : elapsed p.span b ≡ b - p.span.begin = omega arith in
        let at_a = ap (sent_by m channel a) there.2 ∙ ap flow until_a in
        let at_b = ap (sent_by m channel b) there.2 ∙ ap flow until_b in
        omega (arith, changed, at_a, at_b)

    abbrev f : Pace
    f = pace_on m channel p

    some : 0 < f.divisor
    some = pace_on_some m channel p (All-contains (λ p. IsTrue (is_pass m.lasts p)) m.passes p h.passes there)

    within_one : IsWithinOne (f.octets * (b - a)) f.divisor (counted m (Sent channel) b - counted m (Sent channel) a)
    unfolding whole_units
    within_one =
        let parts : a - p.span.begin + (b - a) ≡ b - p.span.begin = omega arith in
        let x = f.octets * (a - p.span.begin) in
        let y = f.octets * (b - p.span.begin) in
        let sum : x + f.octets * (b - a) ≡ y = omega (arith, ap (λ k. f.octets * k) parts) in
        rw in_pass (record {
          most = growth_most f.divisor some x y (f.octets * (b - a)) sum;
          least = growth_least f.divisor some x y (f.octets * (b - a)) sum;
        })

    rounded_down : a ≡ p.span.begin
        → IsRoundedDown (f.octets * (b - a)) f.divisor (counted m (Sent channel) b - counted m (Sent channel) a)
    unfolding whole_units
    rounded_down first =
        let none : f.octets * (a - p.span.begin) / f.divisor ≡ 0 =
        ap (λ k. k / f.divisor) (mul-zero-of f.octets (a - p.span.begin) (omega arith)) ∙ zero-div f.divisor in
        let all : b - p.span.begin ≡ b - a = omega arith in
        let units = f.octets * (b - a) / f.divisor in
        let whole : units - 0 ≡ units = omega arith in
        rw (in_pass, none, all, whole) (record {
          most = div_most f.divisor some (f.octets * (b - a));
          least = div_least f.divisor some (f.octets * (b - a));
        })

room_grows : (m : MissionRows) (edges : List ℕ) (q : Dumping) (channel : Option ℕ) (t : ℕ) → IsProblemOf m edges q
    → HasRoom m channel → 1 ≤ t → t < length edges → room q channel t ≡ growth (counted m (Sent channel)) edges t
room_grows m edges q None t of has first last = (steps_grow m edges q t of first last).window
room_grows m edges q (Some c) t of has first last =
    rw ((steps_grow m edges q t of first last).limits c has.0, has.1) refl

-- the law
pub rooms_add_up : (m : MissionRows) (edges : List ℕ) (q : Dumping) (p : Pass) (channel : Option ℕ) (i n : ℕ)
    → IsMission m → AreTimes m edges → IsProblemOf m edges q → Contains m.passes p → HasRoom m channel
    → LieIn p.span edges i n
    → let f = pace_on m channel p in
    IsWithinOne (f.octets * time_of edges i n) f.divisor (over (room q channel) i n)
    × (slice_index edges i ≡ p.span.begin
    → IsRoundedDown (f.octets * time_of edges i n) f.divisor (over (room q channel) i n))
rooms_add_up m edges q p channel i n h times of there has lies =
    let a = slice_index edges i in
    let b = slice_index edges (i + n) in
    let rising = rises edges times.rising i (i + n) (omega arith) lies.there in
    let each = sum_by_range_same (room q channel) (growth (counted m (Sent channel)) edges) (i + 1) n
    (λ t low high. room_grows m edges q channel t of has (omega arith) (omega (arith, lies.there))) in
    let all = telescope (counted m (Sent channel)) edges (sent_rises m channel h) times.rising i n lies.there in
    rw (each ∙ all) (
      within_one m p channel h there a b lies.begin rising lies.end,
      rounded_down m p channel h there a b lies.begin rising lies.end,
    )

-- the law
pub rates_are_kept : (m : MissionRows) (edges : List ℕ) (q : Dumping) (p : Pass) (channel : Option ℕ) (sent : ℕ → ℕ)
    (i n : ℕ) → IsMission m → AreTimes m edges → IsProblemOf m edges q → Contains m.passes p → HasRoom m channel
    → LieIn p.span edges i n → FitsOver q channel sent i n
    → let Kept : Pace → Type 0 = IsKept (time_of edges i n) (over sent i n) (slice_index edges i ≡ p.span.begin) in
    Kept (link_pace m p) × IfSome (own_pace m channel p) Kept
rates_are_kept m edges q p channel sent i n h times of there has lies fits =
    let d = (pace_on m channel p).divisor in
    let (one, exact) = rooms_add_up m edges q p channel i n h times of there has lies in
    let less = sum_by_range-le sent (room q channel) (i + 1) n (λ t low high. fits t (omega arith) (omega arith)) in
    let scaled = mul-le (over sent i n) d (over (room q channel) i n) d less (omega arith) in
    both_kept m channel p (All-contains (λ p. IsTrue (is_pass m.lasts p)) m.passes p h.passes there)
    (time_of edges i n) (over sent i n) (slice_index edges i ≡ p.span.begin) (record {
      less = omega (arith, scaled, one.most);
      no_more = λ first. omega (arith, scaled, (exact first).most);
    })

-- ---- arrivals

octets_rise : (m : MissionRows) (s a b : ℕ) → a ≤ b → come_octets m s a ≤ come_octets m s b
octets_rise m s a b rising =
    sum_by-le_each (come_by a) (come_by b) (into m s)
    (λ k d within.
    let o = get_or (into m s) k d in
    mul-le o.octets (elapsed o.span a) o.octets (elapsed o.span b) (omega arith) (omega arith))

-- the store at a place, if there is one, is one of a mission's
fit_there : (stores : List Store) (s : ℕ) → All (λ s. IsTrue (is_store s)) stores
    → IfSome (slice_get stores s) (λ s. IsTrue (is_store s))
fit_there [] s each = tt
fit_there (x ∷ stores) zero each = All-head (λ s. IsTrue (is_store s)) x stores each
fit_there (x ∷ stores) (suc s) each = fit_there stores s (All-tail (λ s. IsTrue (is_store s)) x stores each)

get_there : (stores : List Store) (s : ℕ) (d : Store) → s < length stores → slice_get stores s
    ≡ Some (get_or stores s d)
get_there [] s d below = absurd (omega arith)
get_there (x ∷ stores) zero d below = refl
get_there (x ∷ stores) (suc s) d below = get_there stores s d (omega arith)

-- the store at a place fits
pub fits_at : (m : MissionRows) (s : ℕ) → IsMission m → s < length m.stores → IsTrue (is_store (store_at m s))
fits_at m s h below =
    subst (λ o. IfSome o (λ s. IsTrue (is_store s))) (get_there m.stores s no_store below)
    (fit_there m.stores s h.stores)

pub packet_some : (s : Store) → IsTrue (is_store s) → 1 ≤ packet_octets s
packet_some s fits = grind (arith, nat_tests, fits)

pub unit_some : (s : Store) → IsTrue (is_store s) → 1 ≤ s.unit
unit_some s fits = grind (arith, nat_tests, fits)

units_some : (s : Store) → IsTrue (is_store s) → 1 ≤ unit_octets s
units_some s fits = mul-le 1 1 s.packet s.unit (packet_some s fits) (unit_some s fits)

-- what has come in parts of so many octets
module _ (octets : Store → ℕ) (some : (s : Store) → IsTrue (is_store s) → 1 ≤ octets s) where
  -- there is something to divide by
  come_some : (s : Store) → IsTrue (is_store s) → 0 < come_divisor octets s
  come_some s fits =
      let micros : 1 ≤ s.micros = grind (arith, nat_tests, fits) in
      mul-le 1 1 s.micros (octets s) micros (some s fits)

  begun_rises : (o : Option Store) (x y : ℕ) → IfSome o (λ s. IsTrue (is_store s)) → x ≤ y
      → begun octets o x ≤ begun octets o y
  begun_rises None x y fits rises = omega arith
  begun_rises (Some s) x y fits rises = up_rises (come_divisor octets s) (come_some s fits) x y rises

  begun_none : (o : Option Store) → begun octets o 0 ≡ 0
  begun_none None = refl
  begun_none (Some s) = rw (zero-div (come_divisor octets s), zero-mod (come_divisor octets s)) (omega arith)

  begun_is : (m : MissionRows) (s x : ℕ) → IsMission m → s < length m.stores
      → IsRoundedUp x (come_divisor octets (store_at m s)) (begun octets (slice_get m.stores s) x)
  begun_is m s x h below =
      let d = come_divisor octets (store_at m s) in
      let some = come_some (store_at m s) (fits_at m s h below) in
      rw (get_there m.stores s no_store below) (record { least = up_least d some x; most = up_most d some x })

-- nothing has come as the mission begins
none_come : (m : MissionRows) (s : ℕ) → come_octets m s 0 ≡ 0
none_come m s =
    sum_by_zeros (come_by 0) (into m s)
    (λ k d within.
    let o = get_or (into m s) k d in
    mul-zero-of o.octets (elapsed o.span 0) (omega arith))

module _ (m : MissionRows) (s : ℕ) where
  pub no_units : counted m (Come s) 0 ≡ 0
  unfolding counted
  no_units = rw (none_come m s) (begun_none unit_octets units_some (slice_get m.stores s))

  no_packets : counted m (Packets s) 0 ≡ 0
  unfolding counted
  no_packets = rw (none_come m s) (begun_none packet_octets packet_some (slice_get m.stores s))

  module _ (h : IsMission m) where
    pub units_rise : (a b : ℕ) → a ≤ b → counted m (Come s) a ≤ counted m (Come s) b
    unfolding counted
    units_rise a b rising =
        begun_rises unit_octets units_some (slice_get m.stores s) (come_octets m s a) (come_octets m s b)
        (fit_there m.stores s h.stores) (octets_rise m s a b rising)

    pub packets_rise : (a b : ℕ) → a ≤ b → counted m (Packets s) a ≤ counted m (Packets s) b
    unfolding counted
    packets_rise a b rising =
        begun_rises packet_octets packet_some (slice_get m.stores s) (come_octets m s a) (come_octets m s b)
        (fit_there m.stores s h.stores) (octets_rise m s a b rising)

    -- the law
    pub observations_rise : (t : ℕ) → s < length m.stores
        → IsRoundedUp (come_octets m s t) (come_divisor unit_octets (store_at m s)) (counted m (Come s) t)
        × IsRoundedUp (come_octets m s t) (come_divisor packet_octets (store_at m s)) (counted m (Packets s) t)
    unfolding counted
    observations_rise t below = (
      begun_is unit_octets units_some m s (come_octets m s t) h below,
      begun_is packet_octets packet_some m s (come_octets m s t) h below,
    )

    -- what a count has grown by since the mission began is the count
    since_begin : (count : ℕ → ℕ) (edges : List ℕ) (n : ℕ) → AreTimes m edges → n < length edges → count 0 ≡ 0
        → ((a b : ℕ) → a ≤ b → count a ≤ count b) → over (growth count edges) 0 n ≡ count (slice_index edges n)
    since_begin count edges n times last none rises =
        let same : 0 + n ≡ n = omega arith in
        telescope count edges rises times.rising 0 n (omega arith) ∙ rw (times.first, same, none) (omega arith)

    -- packets that have arrived up to the end of a step
    pub packets_add_up : (edges : List ℕ) (n : ℕ) → AreTimes m edges → n < length edges
        → over (growth (counted m (Packets s)) edges) 0 n ≡ counted m (Packets s) (slice_index edges n)
    packets_add_up edges n times last = since_begin (counted m (Packets s)) edges n times last no_packets packets_rise

    -- the law
    pub arrivals_add_up : (edges : List ℕ) (q : Dumping) (n : ℕ) → AreTimes m edges → IsProblemOf m edges q
        → s < length m.stores → n < length edges
        → over (arrivals q s) 0 n ≡ counted m (Come s) (slice_index edges n)
    arrivals_add_up edges q n times of below last =
        sum_by_range_same (arrivals q s) (growth (counted m (Come s)) edges) 1 n
        (λ t low high. (steps_grow m edges q t of low (omega arith)).arrivals s below)
        ∙ since_begin (counted m (Come s)) edges n times last no_units units_rise
