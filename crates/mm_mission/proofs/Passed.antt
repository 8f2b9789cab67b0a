-- Dumps and passes.
use Rattle.std.proofs.Common.{◌≡◌, ℕ, ◌+◌, ◌-◌, ◌*◌, ◌<◌, ◌≤◌, Bool, true, false, nat_le, ◌&&◌, List, length, get_or}
use Rattle.std.proofs.Common.{None, refl}
use Rattle.std.proofs.Common.{sym, ap, ◌∙◌, inl, inr, arith, zero, suc, [], ◌∷◌}
use Rattle.std.specs.Prelude.{All, Contains, IsTrue, filter, slice_index, ◌⊎◌}
use Rattle.std.proofs.lemmas.List.{get_or_default}
use Rattle.std.specs.List.{list_any, flat_map}
use Rattle.std.proofs.lemmas.Bool.{cases_Bool, cases_lt, both_ways}
use Rattle.std.proofs.lemmas.Bool.Decides.{nat_tests}
use Rattle.std.proofs.lemmas.List.Elements.{Contains-append_left, Contains-append_right}
use Rattle.std.proofs.lemmas.List.Folds.{list_any_at}
use Rattle.mm_base.proofs.Sums.{sum_by-same}
use Rattle.mm_problem.specs.Dumping.{Dumping}
use Rattle.mm_mission.specs.declared.counter.Counter.TheVariants.{Sent}
use Rattle.mm_mission.specs.declared.parts.Pass.{Pass}
use Rattle.mm_mission.specs.declared.parts.Span.{Span}
use Rattle.mm_mission.specs.declared.dumps.Dump.{Dump}
use Rattle.mm_mission.specs.Mission.{MissionRows, store_at, IsMission}
use Rattle.mm_mission.specs.Flows.{elapsed, whole_units, link_pace, sent_by, counted}
use Rattle.mm_mission.specs.Edges.{ends, pass_ends, observation_ends, is_inside, AreEdges}
use Rattle.mm_mission.specs.Planned.{growth, IsProblemOf}
use Rattle.mm_mission.specs.Packets.{step_in, AreSentBy}
use Rattle.mm_mission.specs.Timeline.{length_of, is_in_pass, IsTimeline}
use Rattle.mm_mission.specs.Laws.{AreWithin}
use Rattle.mm_mission.proofs.Rising.{rises, rises_by}
use Rattle.mm_mission.proofs.Tested.{pass_lasts}
use Rattle.mm_mission.proofs.Timed.{cancel}
use Rattle.mm_mission.proofs.Grown.{steps_grow}

-- where none passes, each fails
none_passes : {X : Type 0} (p : X → Bool) (xs : List X) → list_any p xs ≡ false → All (λ x. p x ≡ false) xs
none_passes p xs none = λ k d within. elim (cases_Bool (p (get_or xs k d))) [
  | inl passes ↦ absurd (both_ways (list_any p xs) none (list_any_at p xs k d within passes))
  | inr fails ↦ fails
]

-- the begin and the end of each span are among the ends of spans
pub ends_there : {X : Type 0} (span : X → Span) (xs : List X) (k : ℕ) (d : X) → k < length xs
    → Contains (flat_map (λ x. ends (span x)) xs) (span (get_or xs k d)).begin
    × Contains (flat_map (λ x. ends (span x)) xs) (span (get_or xs k d)).end
ends_there span [] k d within = absurd (omega arith)
ends_there span (x ∷ xs) zero d within =
    let rest = flat_map (λ y. ends (span y)) xs in (
      Contains-append_left (ends (span x)) rest (span x).begin (0, omega arith, refl),
      Contains-append_left (ends (span x)) rest (span x).end (1, omega arith, refl),
    )
ends_there span (x ∷ xs) (suc k) d within =
    let rest = flat_map (λ y. ends (span y)) xs in
    let later = ends_there span xs k d (omega arith) in (
      Contains-append_right (ends (span x)) rest (span (get_or xs k d)).begin later.0,
      Contains-append_right (ends (span x)) rest (span (get_or xs k d)).end later.1,
    )

-- a pass whose begin and end do not lie between two times, and which does not last from one to the other, sends nothing
quiet : (p : Pass) (a b : ℕ) → p.span.begin < p.span.end → a ≤ b → (p.span.begin ≤ a) ⊎ (b ≤ p.span.begin)
    → (p.span.end ≤ a) ⊎ (b ≤ p.span.end) → (nat_le p.span.begin a && nat_le b p.span.end) ≡ false
    → elapsed p.span a ≡ elapsed p.span b
quiet p a b long rising begin end not_in = elim begin [
  | inl before ↦ elim end [
    | inl past ↦ omega arith
    | inr after ↦
        let test : (nat_le p.span.begin a && nat_le b p.span.end) ≡ true = grind (arith, nat_tests) in
        absurd (both_ways (nat_le p.span.begin a && nat_le b p.span.end) not_in test)
  ]
  | inr after ↦ omega arith
]

module _ (m : MissionRows) (edges : List ℕ) (h : IsMission m) (are : AreEdges m edges) (t : ℕ) (first : 1 ≤ t)
    (last : t < length edges)
  where
    -- no edge lies inside a step
    pub outside : (c : ℕ) → Contains edges c → (c ≤ slice_index edges (t - 1)) ⊎ (slice_index edges t ≤ c)
    outside c (k, within, is) =
        let at : get_or edges k 0 ≡ c = sym (get_or_default edges k c 0 within) ∙ is in
        elim (cases_lt k t) [
          | inl before ↦ inl (omega (arith, at, rises edges are.times.rising k (t - 1) (omega arith) (omega arith)))
          | inr after ↦ inr (omega (arith, at, rises edges are.times.rising t k after within))
        ]

    end_outside : (c : ℕ) → Contains (pass_ends m.passes) c
        → (c ≤ slice_index edges (t - 1)) ⊎ (slice_index edges t ≤ c)
    end_outside c there =
        let inside = filter (is_inside m.passes) (observation_ends m.observations) in
        let (k, within, is) = Contains-append_left (pass_ends m.passes) inside c there in
        outside c ((are.each c).1 (suc (suc k), omega arith, is))

    -- a step in which something can be sent lies in a pass
    pub in_some_pass : 0 < growth (counted m (Sent None)) edges t
        → is_in_pass m.passes (record { begin = slice_index edges (t - 1); end = slice_index edges t }) ≡ true
    unfolding counted
    in_some_pass some =
        let a = slice_index edges (t - 1) in
        let b = slice_index edges t in
        let rising : a ≤ b = rises edges are.times.rising (t - 1) t (omega arith) last in
        let lies : Pass → Bool = λ p. nat_le p.span.begin a && nat_le b p.span.end in
        elim (cases_Bool (list_any lies m.passes)) [
          | inl lies_in ↦ lies_in
          | inr none ↦
              let each = none_passes lies m.passes none in
              let same = sum_by-same (sent_by m None a) (sent_by m None b) m.passes
              (λ k d within.
              let p = get_or m.passes k d in
              let there = ends_there (λ (p : Pass). p.span) m.passes k d within in
              ap (whole_units (link_pace m p)) (quiet p a b (pass_lasts m.lasts p (h.passes k d within)) rising
              (end_outside p.span.begin there.0) (end_outside p.span.end there.1) (each k d within))) in
              absurd (omega (arith, some, same))
        ]

-- a step that sends packets is to send units
pub some_sent : (m : MissionRows) (edges : List ℕ) (x : ℕ → ℕ → ℕ) (s t : ℕ) → 0 < (step_in m edges x s t).dumped
    → 0 < x s t
some_sent m edges x s t some = elim (cases_lt 0 (x s t)) [
  | inl units ↦ units
  | inr none ↦
      let zero : x s t * (store_at m s).unit ≡ 0 =
      ap (λ k. k * (store_at m s).unit) (none_is (x s t) none) ∙ omega arith in
      absurd (omega (arith, some, zero))
]
  where
    none_is : (k : ℕ) → k ≤ 0 → k ≡ 0
    none_is k none = omega arith

-- the law
pub dumps_lie_in_passes : (m : MissionRows) (edges : List ℕ) (q : Dumping) (x packets : ℕ → ℕ → ℕ) (dumps : List Dump)
    → IsMission m → AreEdges m edges → IsProblemOf m edges q → AreWithin m edges q x → AreSentBy m edges x packets
    → IsTimeline m edges packets dumps
    → All (λ d. IsTrue (is_in_pass m.passes d.span)) dumps
dumps_lie_in_passes m edges q x packets dumps h are of within sent line = λ k e inside.
    let d = get_or dumps k e in
    let (i, (j, over)) = line.each k e inside in
    elim over.whole [
      | inr whole ↦ whole
      | inl one ↦
          let place : j - 1 ≡ i = omega arith in
          let first : 1 ≤ j = omega arith in
          let there = rises_by edges are.times.rising i 1 (omega (arith, over.there)) in
          let next : i + 1 ≡ j = omega arith in
          let rising : slice_index edges i < slice_index edges j = omega (arith, rw next at there) in
          let sends = over.sends j over.later (omega arith) in
          let long : length_of d.span ≡ slice_index edges j - slice_index edges i =
          omega (arith, over.begin, over.end) in
          let even = rw (place, long) at sends.even in
          let count = cancel d.packets (packets d.store j) (slice_index edges j - slice_index edges i) (omega arith)
          even in
          let by = sent d.store j over.store first over.there in
          let some = some_sent m edges x d.store j (omega (arith, over.some, count, by)) in
          let fits = within d.store j over.store first over.there in
          let window_is = (steps_grow m edges q j of first over.there).window in
          let lies = in_some_pass m edges h are j first over.there (omega (arith, fits, window_is, some)) in
          rw (over.begin, over.end) (rw place at lies)
    ]
