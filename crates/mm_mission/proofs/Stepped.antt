-- The steps of a plan in packets, one after the other.
use Rattle.std.proofs.Common.{◌≡◌, ℕ, zero, suc, ◌+◌, ◌-◌, ◌*◌, ◌≤◌, List, [], ◌∷◌, ◌++◌, length, get_or, refl, ap, ◌∙◌}
use Rattle.std.proofs.Common.{add-one, min}
use Rattle.std.proofs.Common.{arith, length-append}
use Rattle.std.specs.Prelude.{map}
use Rattle.std.specs.List.{flat_map, range_with_len}
use Rattle.std.proofs.lemmas.List.{append-nil}
use Rattle.std.proofs.lemmas.List.Concat.{flat_map-append}
use Rattle.std.proofs.lemmas.List.FromFn.{length-map-range_with_len, get_or-map-range_with_len, map-range_with_len_more}
use Rattle.mm_base.proofs.RangeSums.{sum_by_range_more}
use Rattle.mm_base.proofs.Ranges.{range_with_len_more}
use Rattle.mm_mission.specs.declared.packets.PacketStep.{PacketStep}
use Rattle.mm_mission.specs.Mission.{MissionRows, store_at}
use Rattle.mm_mission.specs.Laws.{over}
use Rattle.mm_mission.specs.Packets.{step_of, held, arrived_in, held_by, step_in, steps_in, all_steps, no_step, sent_in}
use Rattle.mm_mission.specs.Packets.{AreSentBy}
use Rattle.mm_mission.proofs.Grown.{table_at}

-- the steps up to one, as a loop adds the last of them
pub next_step : (f : ℕ → PacketStep) (t : ℕ) → 1 ≤ t
    → map f (range_with_len 1 (t + 1 - 1)) ≡ map f (range_with_len 1 (t - 1)) ++ f t ∷ []
next_step f t first =
    let next : t + 1 - 1 ≡ t - 1 + 1 = omega arith in
    ap (λ k. map f (range_with_len 1 k)) next ∙ map-range_with_len_more f 1 (t - 1) t (omega arith)

module _ (m : MissionRows) (edges : List ℕ) (x : ℕ → ℕ → ℕ) (s : ℕ) where
  -- what is held as the mission begins, and as a step ends
  pub first_held : held_by m edges x s (1 - 1) ≡ (store_at m s).start
  unfolding held
  first_held = refl

  pub next_held : (t : ℕ) → 1 ≤ t → held_by m edges x s (t + 1 - 1) ≡ (step_in m edges x s t).held
  unfolding held
  next_held zero first = absurd (omega arith)
  next_held (suc t) first =
      let next : suc t + 1 - 1 ≡ suc t = omega arith in
      let before : suc t - 1 ≡ t = omega arith in
      rw (next, before) refl

  -- a step begins with what the one before it left
  pub step_at : (t : ℕ) → step_in m edges x s (suc t)
      ≡ step_of (store_at m s) (held_by m edges x s t) (arrived_in m edges s (suc t)) (x s (suc t))
  step_at t =
      let before : suc t - 1 ≡ t = omega arith in
      ap (λ k. step_of (store_at m s) (held_by m edges x s k) (arrived_in m edges s (suc t)) (x s (suc t))) before

  pub held_at : (t : ℕ) → held_by m edges x s (suc t)
      ≡ (step_of (store_at m s) (held_by m edges x s t) (arrived_in m edges s (suc t)) (x s (suc t))).held
  unfolding held
  held_at t = refl

  -- no more has been sent than was held and has arrived
  sent_or_held : (n : ℕ) → over (λ t. (step_in m edges x s t).dumped) 0 n + held_by m edges x s n
      ≤ (store_at m s).start + over (arrived_in m edges s) 0 n
  unfolding held
  sent_or_held zero = omega arith
  sent_or_held (suc n) =
      let dumped : ℕ → ℕ = λ t. (step_in m edges x s t).dumped in
      let one : n + 1 ≡ suc n = omega arith in
      let more = rw one at (sum_by_range_more dumped 1 n (suc n) (omega arith)) in
      let come = rw one at (sum_by_range_more (arrived_in m edges s) 1 n (suc n) (omega arith)) in
      let here = ap (λ (e : PacketStep). e.dumped) (step_at n) in
      split (over dumped 0 n) (over dumped 0 (suc n)) (dumped (suc n)) (held_by m edges x s n)
      (held_by m edges x s (suc n)) (store_at m s).start (over (arrived_in m edges s) 0 n)
      (over (arrived_in m edges s) 0 (suc n)) (arrived_in m edges s (suc n)) (x s (suc n) * (store_at m s).unit)
      (store_at m s).size (sent_or_held n) more come here (held_at n)
    where
      split : (sent more here before after start came come arrived units size : ℕ) → sent + before ≤ start + came
          → more ≡ sent + here → come ≡ came + arrived → here ≡ min units (before + arrived)
          → after ≡ before + arrived - min units (before + arrived)
          - (before + arrived - min units (before + arrived) - size) → more + after ≤ start + come
      split sent more here before after start came come arrived units size kept sum sum_come is left = omega arith

  pub dumped_there : (n : ℕ) → over (λ t. (step_in m edges x s t).dumped) 0 n
      ≤ (store_at m s).start + over (arrived_in m edges s) 0 n
  dumped_there n = omega (arith, sent_or_held n)

-- the stores up to one, as a loop adds the last of them
pub next_store : (make : ℕ → List PacketStep) (s : ℕ)
    → flat_map make (range_with_len 0 (s + 1)) ≡ flat_map make (range_with_len 0 s) ++ make s
next_store make s =
    ap (λ k. flat_map make (range_with_len 0 k)) (add-one s)
    ∙ ap (flat_map make) (range_with_len_more 0 s s (omega arith))
    ∙ flat_map-append make (range_with_len 0 s) (s ∷ [])
    ∙ ap (λ ys. flat_map make (range_with_len 0 s) ++ ys) (append-nil (make s))

-- how long lists of one length are together
joined_length : (make : ℕ → List PacketStep) (w : ℕ) → ((s : ℕ) → length (make s) ≡ w) → (a n : ℕ)
    → length (flat_map make (range_with_len a n)) ≡ n * w
joined_length make w each a zero = omega arith
joined_length make w each a (suc n) =
    omega (
      arith,
      length-append (make a) (flat_map make (range_with_len (a + 1) n)),
      each a,
      joined_length make w each (a + 1) n,
    )

module _ (m : MissionRows) (edges : List ℕ) (x : ℕ → ℕ → ℕ) where
  each_length : (s : ℕ) → length (steps_in m edges x s) ≡ length edges - 1
  each_length s = length-map-range_with_len (step_in m edges x s) 1 (length edges - 1)

  pub all_length : length (all_steps m edges x) ≡ length m.stores * (length edges - 1)
  all_length = joined_length (steps_in m edges x) (length edges - 1) each_length 0 (length m.stores)

  -- the packets that they say are those that are sent
  pub all_sent_by : AreSentBy m edges x (sent_in edges (all_steps m edges x))
  all_sent_by s t below first last =
      let w = length edges - 1 in
      let at = table_at (steps_in m edges x) w each_length 0 (length m.stores) s (t - 1) (s * w + (t - 1)) no_step below
      (omega arith) refl in
      let same : 0 + s ≡ s = omega arith in
      ap (λ (e : PacketStep). e.dumped) (at
      ∙ ap (λ k. get_or (steps_in m edges x k) (t - 1) no_step) same
      ∙ get_or-map-range_with_len (step_in m edges x s) 1 w (t - 1) t no_step (omega arith) (omega arith))
