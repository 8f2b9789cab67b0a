-- Each step of the queue keeps its rule.
use Rattle.mm_dump.proofs.Words
use Words.{◌≡◌, inl, inr, ℕ, zero, suc, ◌+◌, ◌-◌, ◌<◌, ◌≤◌, List, [], ◌∷◌, ◌++◌, length, get_or, set, refl, sym, ap}
use Words.{subst, ◌∙◌, arith, sum_by, range_with_len, cases_lt, nil_from_length, length-range_with_len, sum_by-append}
use Words.{sum_by_push, sum_by_range_more, sum_by_ones, sum_by_zeros, get_or-le-sum_by, All, All-cons, All-nil}
use Words.{All-push, QueueView, queue_view, Knows, AreTakenOnce, TakesNext, Tells, All-set}
use mathlib.Core.Option.{some}
use lib.ListN.{get_elem?}
use Rattle.std.proofs.lemmas.List.{set-set}
use Rattle.std.proofs.lemmas.List.Sums.{sum_by-set}
use Rattle.crossbeam_queue.specs.Fifo.{Pushes, Pops, Forks, Merges, Learns}
use Rattle.mm_base.proofs.Ranges.{range_with_len_more}
use Rattle.mm_shared.proofs.Lists.{at_below, at_get}

-- a sum over passes after a change of one
total_set : (f : QueueView → ℕ) (views : List QueueView) (pass : ℕ) (v w : QueueView) → get_elem? views pass ≡ some v
    → sum_by f (set views pass w) + f v ≡ sum_by f views + f w
total_set f views pass v w at =
    omega (arith, sum_by-set f views pass w v (at_below views pass v at), ap f (at_get views pass v v at))

-- how many parts a pass has, and what the numbers that it took weigh
abbrev parts_of : QueueView → ℕ
parts_of v = v.parts

abbrev took : (ℕ → ℕ) → QueueView → ℕ
took weight v = sum_by weight v.taken

-- a pass without parts, which has taken nothing
abbrev nothing : QueueView
nothing = queue_view 0 0 []

-- what holds of each pass holds of this one, and after a change of one
known_at : (P : QueueView → Type 0) (views : List QueueView) (pass : ℕ) (v : QueueView) → All P views
    → get_elem? views pass ≡ some v → P v
known_at P views pass v all at = subst P (at_get views pass v v at) (all pass v (at_below views pass v at))

set_over : (P : QueueView → Type 0) (views : List QueueView) (pass : ℕ) (u w : QueueView) → P w
    → All P (set views pass u) → All P (set views pass w)
set_over P views pass u w mine all =
    subst (All P) (set-set views pass u w) (All-set P (set views pass u) pass w mine all)

-- what a pass with a part knows
knows_part : (pushed : ℕ) (v : QueueView) → v.pushed ≡ pushed → 0 < v.parts → Knows pushed v
knows_part pushed v same has = record { some_part = λ s. same; no_part = λ none. absurd (omega arith) }

-- the first of the numbers queued, and the others
first_queued : (x : ℕ) (items : List ℕ) (next many : ℕ) → x ∷ items ≡ range_with_len next many
    → (1 ≤ many) × (x ≡ next) × (items ≡ range_with_len (next + 1) (many - 1))
first_queued x items next zero same = absurd (cc same)
first_queued x items next (suc many) same =
    let less : suc many - 1 ≡ many = omega arith in
    (omega arith, cc same, rw less (cc same))

-- where one pass has all parts the others have taken none
others_idle : {items : List ℕ} {views : List QueueView} (pass : ℕ) (v : QueueView) → AreTakenOnce items views
    → get_elem? views pass ≡ some v → v.parts ≡ 1024
    → All (λ (u : QueueView). (u.parts ≡ 0) × (u.taken ≡ [])) (set views pass nothing)
others_idle {items} {views} pass v rule at all i d inside =
    let others : List QueueView = set views pass nothing in
    let total = total_set parts_of views pass v nothing at in
    let known = All-set (Knows rule.pushed) views pass nothing
    (record { some_part = λ some. absurd (omega arith); no_part = λ none. refl }) rule.known in
    let none : (get_or others i d).parts ≡ 0 =
    omega (arith, get_or-le-sum_by parts_of others i d inside, total, rule.parts, all) in
    (none, (known i d inside).no_part none)

-- and it has taken all that were
took_all : {items : List ℕ} {views : List QueueView} (pass : ℕ) (v : QueueView) (rule : AreTakenOnce items views)
    → get_elem? views pass ≡ some v → v.parts ≡ 1024 → (h : ℕ → ℕ) → sum_by h (range_with_len 0 rule.next) ≡ took h v
took_all {items} {views} pass v rule at all h =
    let idle = sum_by_zeros (took h) (set views pass nothing)
    (λ i d inside. ap (sum_by h) (others_idle pass v rule at all i d inside).1) in
    omega (arith, rule.each h, total_set (took h) views pass v nothing at, idle)

-- how many numbers there are
counted : (next : ℕ) → sum_by (λ (k : ℕ). 1) (range_with_len 0 next) ≡ next
counted next = sum_by_ones (range_with_len 0 next) ∙ length-range_with_len 0 next

-- making the queue with its first pass
pub begins : AreTakenOnce [] (queue_view 1024 0 [] ∷ [])
begins = record {
  pushed = 0;
  next = 0;
  within = omega arith;
  queued = refl;
  parts = refl;
  each = λ weight. refl;
  known = All-cons (Knows 0) (queue_view 1024 0 []) [] (knows_part 0 (queue_view 1024 0 []) refl (omega arith))
      (All-nil (Knows 0));
}

-- a pop that takes
pub takes : (pass : ℕ) (v : QueueView) → 0 < v.parts → Pops AreTakenOnce pass v (TakesNext v)
takes pass v some_part x items views rule at =
    let w = queue_view v.parts v.pushed (v.taken ++ x ∷ []) in
    let known = known_at (Knows rule.pushed) views pass v rule.known at in
    let count : v.pushed ≡ rule.pushed = known.some_part some_part in
    let first = first_queued x items rule.next (rule.pushed - rule.next) rule.queued in
    let number : x ≡ rule.next = first.1 in
    let less : rule.pushed - rule.next - 1 ≡ rule.pushed - (rule.next + 1) = omega arith in
    let rest : items ≡ range_with_len (rule.next + 1) (rule.pushed - (rule.next + 1)) = first.2
    ∙ ap (range_with_len (rule.next + 1)) less in
    let mine : sum_by (took (λ k. 1)) (set views pass nothing) + took (λ k. 1) v ≡ sum_by (took (λ k. 1)) views + 0 =
    total_set (took (λ k. 1)) views pass v nothing at in
    let before : length v.taken ≤ rule.next =
    omega (arith, mine, rule.each (λ k. 1), counted rule.next, sum_by_ones v.taken) in (
      w,
      record {
        pushed = rule.pushed;
        next = rule.next + 1;
        within = omega (arith, first.0);
        queued = rest;
        parts = omega (arith, total_set parts_of views pass v w at, rule.parts);
        each = λ h.
            let more = sum_by_range_more h 0 rule.next rule.next (omega arith) in
            let changed = total_set (took h) views pass v w at in
            omega (arith, changed, rule.each h, sum_by_push h v.taken x, more, ap h number);
        known = All-set (Knows rule.pushed) views pass w (knows_part rule.pushed w count some_part) rule.known;
      },
      record { within = omega (arith, first.0); taken = refl; few = omega (arith, first.0, before) },
    )

-- splitting a pass
pub forks : (pass : ℕ) (v : QueueView) → 1 < v.parts → Forks AreTakenOnce pass v
    (queue_view (v.parts - 1) v.pushed v.taken) (queue_view 1 v.pushed [])
forks pass v parts items views rule at =
    let l = queue_view (v.parts - 1) v.pushed v.taken in
    let r = queue_view 1 v.pushed [] in
    let known = known_at (Knows rule.pushed) views pass v rule.known at in
    let count : v.pushed ≡ rule.pushed = known.some_part (omega arith) in
    record {
      pushed = rule.pushed;
      next = rule.next;
      within = rule.within;
      queued = rule.queued;
      parts =
          omega (arith, total_set parts_of views pass v l at, rule.parts, sum_by_push parts_of (set views pass l) r);
      each = λ h.
          omega (arith, total_set (took h) views pass v l at, rule.each h, sum_by_push (took h) (set views pass l) r);
      known = All-push (Knows rule.pushed) (set views pass l) r
          (All-set (Knows rule.pushed) views pass l (knows_part rule.pushed l count (omega arith)) rule.known)
          (knows_part rule.pushed r count (omega arith));
    }

-- joining a pass
pub merges : (pass : ℕ) (v : QueueView) (other : ℕ) (w : QueueView) → 0 < v.parts
    → Merges AreTakenOnce pass v other w (queue_view (v.parts + w.parts) v.pushed (v.taken ++ w.taken))
    (queue_view 0 0 [])
merges pass v other w some_part items views rule at apart there =
    let both = queue_view (v.parts + w.parts) v.pushed (v.taken ++ w.taken) in
    let spent = queue_view 0 0 [] in
    let changed : (f : QueueView → ℕ) → sum_by f (set (set views pass both) other spent) + f w + f v
    ≡ sum_by f views + f both + f spent = λ f.
    omega (arith, total_set f views pass v both at, total_set f (set views pass both) other w spent there) in
    let known = known_at (Knows rule.pushed) views pass v rule.known at in
    let count : v.pushed ≡ rule.pushed = known.some_part some_part in
    record {
      pushed = rule.pushed;
      next = rule.next;
      within = rule.within;
      queued = rule.queued;
      parts = omega (arith, changed parts_of, rule.parts);
      each = λ h. omega (arith, changed (took h), rule.each h, sum_by-append h v.taken w.taken);
      known = All-set (Knows rule.pushed) (set views pass both) other spent
          (record { some_part = λ some. absurd (omega arith); no_part = λ none. refl })
          (All-set (Knows rule.pushed) views pass both (knows_part rule.pushed both count (omega arith)) rule.known);
    }

-- what a pass learns of the numbers queued, and of those that it took
pub learns : (pass : ℕ) (v : QueueView) → Learns AreTakenOnce pass v (Tells v)
learns pass v items views rule at =
    let known = known_at (Knows rule.pushed) views pass v rule.known at in
    let queued : length items ≡ rule.pushed - rule.next = ap length rule.queued
    ∙ length-range_with_len rule.next (rule.pushed - rule.next) in
    record {
      room = λ has. omega (arith, known.some_part has, queued);
      counted = λ all.
          let taken = took_all pass v rule at all (λ (k : ℕ). 1) ∙ sum_by_ones v.taken in
          omega (arith, rule.within, known.some_part (omega arith), taken, counted rule.next, queued);
      next = rule.next;
      each = λ all. took_all pass v rule at all;
    }

-- a push of the next number by the pass with all parts, and of 0 where it took all that were pushed
pub pushes : (room pass : ℕ) (v : QueueView) (x : ℕ) → v.parts ≡ 1024 → length v.taken + x ≡ v.pushed
    → (0 < x → v.taken ≡ []) → Pushes AreTakenOnce room pass v x (λ w. w ≡ queue_view 1024 (x + 1) [])
pushes room pass v x all number none items views within rule at =
    let w = queue_view 1024 (x + 1) [] in
    let count : length items ≡ x = omega (arith, (learns pass v items views rule at).counted all, number) in
    let more : suc x ≡ x + 1 - 0 = omega arith in (
      w,
      record {
        pushed = x + 1;
        next = 0;
        within = omega arith;
        queued = ap (λ (xs : List ℕ). xs ++ x ∷ []) (from_0 count) ∙ sym (range_with_len_more 0 x x (omega arith))
            ∙ ap (range_with_len 0) more;
        parts = omega (arith, total_set parts_of views pass v w at, rule.parts);
        each = λ h. omega (arith, total_set (took h) views pass v w at, rule.each h, took_all pass v rule at all h);
        known = set_over (Knows (x + 1)) views pass nothing w (knows_part (x + 1) w refl (omega arith)) (λ i d inside.
            let idle = others_idle pass v rule at all i d inside in
            record { some_part = λ some. absurd (omega (arith, some, idle.0)); no_part = λ none. idle.1 });
      },
      refl,
    )
  where
    from_0 : length items ≡ x → items ≡ range_with_len 0 x
    from_0 count =
        elim (cases_lt 0 x) [
          | inl has ↦
              let taken = took_all pass v rule at all (λ (k : ℕ). 1) ∙ sum_by_ones v.taken in
              let start : rule.next ≡ 0 = omega (arith, taken, counted rule.next, ap length (none has)) in
              let many : rule.pushed - rule.next ≡ x =
              omega (arith, ap length rule.queued, length-range_with_len rule.next (rule.pushed - rule.next), count) in
              rule.queued ∙ (λ i. range_with_len (start i) (many i))
          | inr first ↦
              let start : 0 ≡ x = omega (arith, first) in
              nil_from_length items (omega (arith, count, first)) ∙ ap (range_with_len 0) start
        ]
