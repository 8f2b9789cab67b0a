-- Lists that grow by what passes, step by step.
use Rattle.std.proofs.Common.{◌≡◌, ℕ, ◌+◌, ◌-◌, ◌≤◌, Bool, true, false, cond, List, [], ◌∷◌, ◌++◌, sym, ap, ◌∙◌, arith, add-one, append_assoc, append-nil}
use Rattle.std.specs.Prelude.{map, filter}
use Rattle.std.specs.List.{range_with_len, flat_map}
use Rattle.std.proofs.lemmas.List.{map-append}
use Rattle.std.proofs.lemmas.List.Concat.{flat_map-append}
use Rattle.mm_base.proofs.Ranges.{filter-range_with_len_next, range_with_len_more}
use Rattle.mm_problem.specs.Dumping.{Dumping}
use Rattle.mm_plan.specs.declared.stretch.Stretch.{Stretch}
use Rattle.mm_flow.specs.Cut.{Side}
use Rattle.mm_planner.specs.Runs.{goes_on, is_end, first_step, stretch}

-- one more of what is made of the numbers that pass
made_more : {X : Type 0} (make : ℕ → X) (b : Bool) (front so_far next : List X) (ts : List ℕ) (t : ℕ) (run : X) → so_far ≡ front ++ map make ts → run ≡ make t → next ≡ cond b (so_far ++ run ∷ []) so_far → next ≡ front ++ map make (ts ++ cond b (t ∷ []) [])
made_more make true front so_far next ts t run before is added =
    added ∙ ap (λ xs. xs ++ run ∷ []) before ∙ ap (λ r. front ++ map make ts ++ r ∷ []) is ∙ append_assoc front (map make ts) (make t ∷ []) ∙ ap (λ xs. front ++ xs) (sym (map-append make ts (t ∷ [])))
made_more make false front so_far next ts t run before is added =
    added ∙ before ∙ ap (λ us. front ++ map make us) (sym (append-nil ts))

-- the runs of a store that end by a step
pub runs_more : (q : Dumping) (side : Side) (s t : ℕ) (front so_far next : List Stretch) (run : Stretch) → 1 ≤ t → so_far ≡ front ++ map (stretch q side s) (filter (is_end side s) (range_with_len 1 (t - 1))) → run ≡ stretch q side s t → next ≡ cond (is_end side s t) (so_far ++ run ∷ []) so_far → next ≡ front ++ map (stretch q side s) (filter (is_end side s) (range_with_len 1 (t + 1 - 1)))
runs_more q side s t front so_far next run first before is added =
    made_more (stretch q side s) (is_end side s t) front so_far next (filter (is_end side s) (range_with_len 1 (t - 1))) t run before is added
    ∙ ap (λ ts. front ++ map (stretch q side s) ts) (sym (filter-range_with_len_next (is_end side s) t first))

-- the first step of the run that the next step is in
pub first_step_next : (side : Side) (s t : ℕ) → first_step side s (t + 1) ≡ cond (goes_on side s t) (first_step side s t) (t + 1)
first_step_next side s t = ap (first_step side s) (add-one t) ∙ ap (cond (goes_on side s t) (first_step side s t)) (sym (add-one t))

-- one more number, where it passes
passed_more : (b : Bool) (so_far next ts : List ℕ) (t : ℕ) → so_far ≡ ts → next ≡ cond b (so_far ++ t ∷ []) so_far → next ≡ ts ++ cond b (t ∷ []) []
passed_more true so_far next ts t before added = added ∙ ap (λ xs. xs ++ t ∷ []) before
passed_more false so_far next ts t before added = added ∙ before ∙ sym (append-nil ts)

-- the steps that pass, up to one
pub steps_more : (p : ℕ → Bool) (t : ℕ) (so_far next : List ℕ) → 1 ≤ t → so_far ≡ filter p (range_with_len 1 (t - 1)) → next ≡ cond (p t) (so_far ++ t ∷ []) so_far → next ≡ filter p (range_with_len 1 (t + 1 - 1))
steps_more p t so_far next first before added =
    passed_more (p t) so_far next (filter p (range_with_len 1 (t - 1))) t before added ∙ sym (filter-range_with_len_next p t first)

-- one store more
pub stores_more : {X : Type 0} (make : ℕ → List X) (s : ℕ) (so_far next : List X) → so_far ≡ flat_map make (range_with_len 0 s) → next ≡ so_far ++ make s → next ≡ flat_map make (range_with_len 0 (s + 1))
stores_more make s so_far next before added =
    let at : 0 + s ≡ s = omega arith in
    added ∙ ap (λ xs. xs ++ make s) before ∙ ap (λ xs. flat_map make (range_with_len 0 s) ++ xs) (sym (append-nil (make s)))
    ∙ sym (flat_map-append make (range_with_len 0 s) (s ∷ [])) ∙ ap (flat_map make) (sym (range_with_len_more 0 s s at)) ∙ ap (λ n. flat_map make (range_with_len 0 n)) (sym (add-one s))
