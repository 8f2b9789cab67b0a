-- Dumps that send what is to be sent so far.
use Rattle.std.proofs.Common.{◌≡◌, ℕ, zero, suc, ◌+◌, ◌-◌, ◌*◌, ◌/◌, ◌<◌, ◌≤◌, List, [], ◌∷◌, ◌++◌, length, refl, sym}
use Rattle.std.proofs.Common.{ap}
use Rattle.std.proofs.Common.{◌∙◌, subst, inl, inr, arith}
use Rattle.std.specs.Prelude.{All, AllPairs, Contains, slice_index}
use Rattle.std.proofs.Math.Nat.{mul-div_cancel}
use Rattle.std.proofs.lemmas.Bool.{cases_lt, cases_eq}
use Rattle.std.proofs.lemmas.List.Elements.{All-nil, All-cons, All-head, All-push, Contains-append_left}
use Rattle.std.proofs.lemmas.List.Elements.{Contains-append_right, Contains-append_cases}
use Rattle.std.proofs.lemmas.List.Quantifiers.{all_pairs_push}
use Rattle.std.proofs.lemmas.List.Kept.{AllPairs-cons}
use Rattle.mm_base.proofs.Pairs.{All-front, All-back, AllPairs-head, AllPairs-tail}
use Rattle.mm_mission.specs.declared.dumps.Dump.{Dump}
use Rattle.mm_mission.specs.Mission.{MissionRows}
use Rattle.mm_mission.specs.Edges.{AreTimes}
use Rattle.mm_mission.specs.Timeline.{length_of, both, Follows, IsAdded, Sends, IsDumpOver, IsDumpOf, EndsBefore}
use Rattle.mm_mission.specs.Timeline.{IsTimeline, IsDone, IsUpTo, AreSent, step_dump}
use Rattle.mm_mission.proofs.Rising.{rises, rises_by}

-- ---- even rates

pub cancel : (a b n : ℕ) → 0 < n → a * n ≡ b * n → a ≡ b
cancel a b n some same = sym (mul-div_cancel a some) ∙ ap (λ k. k / n) same ∙ mul-div_cancel b some

-- where a number in a length is as another in a second one, and as a third in a third one, these two are alike
cross : (units next own step last long : ℕ) → 0 < long → units * step ≡ own * long → units * last ≡ next * long
    → next * step ≡ own * last
cross units next own step last long some old new =
    cancel (next * step) (own * last) long some
    (omega (arith, ap (λ k. k * last) old, ap (λ k. k * step) new))

joined_new : (units next last long all : ℕ) → units * last ≡ next * long → long + last ≡ all
    → (units + next) * last ≡ next * all
joined_new units next last long all new sum = omega (arith, new, ap (λ k. next * k) sum)

joined_old : (units next own step last long all : ℕ) → 0 < long → units * step ≡ own * long
    → units * last ≡ next * long → long + last ≡ all → (units + next) * step ≡ own * all
joined_old units next own step last long all some old new sum =
    omega (arith, old, cross units next own step last long some old new, ap (λ k. own * k) sum)

-- ---- lists

pairs_but_last : {X : Type 0} (R : X → X → Type 0) (xs : List X) (y : X) → AllPairs R (xs ++ y ∷ [])
    → AllPairs R xs × All (λ x. R x y) xs
pairs_but_last R [] y pairs = (λ i j d before within. absurd (omega arith), All-nil (λ x. R x y))
pairs_but_last R (x ∷ xs) y pairs =
    let rest = pairs_but_last R xs y (AllPairs-tail R x (xs ++ y ∷ []) pairs) in
    let from_first = AllPairs-head R x (xs ++ y ∷ []) pairs in (
      AllPairs-cons R x xs (All-front (R x) xs (y ∷ []) from_first) rest.0,
      All-cons (λ z. R z y) x xs (All-head (R x) y [] (All-back (R x) xs (y ∷ []) from_first)) rest.1,
    )

only_one : {X : Type 0} (y x : X) → Contains (y ∷ []) x → y ≡ x
only_one y x (zero, within, is) = is
only_one y x (suc k, within, is) = absurd (omega arith)

-- ---- dumps

module _ (m : MissionRows) (edges : List ℕ) (x : ℕ → ℕ → ℕ) (times : AreTimes m edges) where
  edge_below : (i j : ℕ) → i < j → j < length edges → slice_index edges i < slice_index edges j
  edge_below i j before within =
      let there : i + (j - i) ≡ j = omega arith in
      let far = rises_by edges times.rising i (j - i) (omega arith) in
      omega (arith, rw there at far)

  place_within : (i j : ℕ) → i < length edges → slice_index edges i ≤ slice_index edges j → i ≤ j
  place_within i j there before = elim (cases_lt j i) [
    | inl below ↦ absurd (omega (arith, edge_below j i below there))
    | inr within ↦ within
  ]

  module _ (s t : ℕ) (first : 1 ≤ t) (last : t < length edges) (below : s < length m.stores) where
    -- the end of the step before is not after the end of the step
    step_rises : slice_index edges (t - 1) ≤ slice_index edges t
    step_rises = rises edges times.rising (t - 1) t (omega arith) last

    later : (d : Dump) → IsUpTo edges s (t - 1) d → IsUpTo edges s t d
    later d up_to = record { store = up_to.store; end = λ own. omega (arith, up_to.end own, step_rises) }

    -- without an amount nothing is to be added
    pub sent_nothing : (dumps : List Dump) → x s t ≡ 0 → AreSent m edges x s (t - 1) dumps → AreSent m edges x s t dumps
    sent_nothing dumps none h = record {
      each = h.each;
      up_to = λ k d within. later _ (h.up_to k d within);
      all = λ r u done from there some. elim done [
        | inl earlier ↦ h.all r u (inl earlier) from there some
        | inr own ↦ elim (cases_eq u t) [
          | inl here ↦ absurd (omega (arith, some, none, ap (λ k. x k u) own.0, ap (λ k. x s k) here))
          | inr before ↦ h.all r u (inr (own.0, omega arith)) from there some
        ]
      ];
      apart = h.apart;
    }

    module _ (amount : 0 < x s t) where
      single_sends : (u : ℕ) → t - 1 < u → u ≤ t → Sends edges x (step_dump edges x s t) u
      single_sends u after within =
          let same : t ≡ u = omega arith in
          subst (Sends edges x (step_dump edges x s t)) same
          (record { begin = omega arith; end = omega arith; even = refl })

      single : IsDumpOver m edges x (step_dump edges x s t) (t - 1) t
      single = record {
        begin = refl;
        end = refl;
        later = omega arith;
        there = last;
        store = below;
        some = amount;
        sends = single_sends;
        whole = inl (omega arith);
      }

      -- what is sent so far, and the step
      all_sent : (dumps new : List Dump) → AreSent m edges x s (t - 1) dumps
          → ((d : Dump) (u : ℕ) → Contains dumps d → Sends edges x d u → 1 ≤ u → u < length edges
          → (e : Dump) × (Contains new e × (e.store ≡ d.store) × Sends edges x e u))
          → ((e : Dump) × (Contains new e × (e.store ≡ s) × Sends edges x e t))
          → (r u : ℕ) → IsDone s t r u → 1 ≤ u → u < length edges → 0 < x r u
          → (e : Dump) × (Contains new e × (e.store ≡ r) × Sends edges x e u)
      all_sent dumps new h kept here r u done from there some =
          let old : IsDone s (t - 1) r u → (e : Dump) × (Contains new e × (e.store ≡ r) × Sends edges x e u) =
          λ earlier.
          let (d, is) = h.all r u earlier from there some in
          let (e, now) = kept d u is.0 is.2 from there in
          (e, (now.0, now.1 ∙ is.1, now.2)) in
          elim done [
            | inl earlier ↦ old (inl earlier)
            | inr own ↦ elim (cases_eq u t) [
              | inl same ↦
                  let (e, is) = here in
                  (e, (is.0, is.1 ∙ sym own.0, subst (Sends edges x e) (sym same) is.2))
              | inr before ↦ old (inr (own.0, omega arith))
            ]
          ]

      -- a dump more at the end
      sent_more : (dumps : List Dump) → AreSent m edges x s (t - 1) dumps
          → AreSent m edges x s t (dumps ++ step_dump edges x s t ∷ [])
      sent_more dumps h =
          let next = step_dump edges x s t in
          record {
            each = All-push (IsDumpOf m edges x) dumps next h.each (t - 1, (t, single));
            up_to = All-push (IsUpTo edges s t) dumps next (λ k d within. later _ (h.up_to k d within))
                (record { store = omega arith; end = λ _. omega arith });
            all = all_sent dumps (dumps ++ next ∷ []) h
                (λ d u there sends _ _. (d, (Contains-append_left dumps (next ∷ []) d there, refl, sends))) (
                  next,
                  (
                    Contains-append_right dumps (next ∷ []) next (0, omega arith, refl),
                    refl,
                    single_sends t (omega arith) (omega arith),
                  ),
                );
            apart = all_pairs_push EndsBefore dumps next h.apart
                (λ k d within same. (h.up_to k d within).end same);
          }

      -- a dump that is joined to the last one
      module _ (earlier : List Dump) (prior : Dump) (h : AreSent m edges x s (t - 1) (earlier ++ prior ∷ []))
          (follows : Follows m.passes prior (step_dump edges x s t)) (i j : ℕ) (over : IsDumpOver m edges x prior i j)
        where
          abbrev joined : Dump
          joined = both prior (step_dump edges x s t)

          -- the last dump ended as the step begins
          ended : j ≡ t - 1
          ended =
              let met : slice_index edges j ≡ slice_index edges (t - 1) = sym over.end ∙ follows.next in
              let low = place_within j (t - 1) over.there (omega (arith, met)) in
              let high = place_within (t - 1) j (omega arith) (omega (arith, met)) in
              omega arith

          rose : slice_index edges i < slice_index edges j
          rose = edge_below i j over.later over.there

          lengths : length_of prior.span + length_of (step_dump edges x s t).span ≡ length_of joined.span
          lengths = omega (arith, over.begin, over.end, follows.next, step_rises, rose)

          joined_sends : (u : ℕ) → i < u → u ≤ t → Sends edges x joined u
          joined_sends u after within =
              let some : 0 < length_of prior.span = omega (arith, over.begin, over.end, rose) in
              let own : x s t * length_of joined.span ≡ x prior.store t * length_of joined.span =
              ap (λ k. x k t * length_of joined.span) (sym follows.store) in
              elim (cases_eq u t) [
                | inl same ↦
                    let from = rises edges times.rising i (t - 1) (omega (arith, over.later, ended)) (omega arith) in
                    subst (Sends edges x joined) (sym same) (record {
                      begin = omega (arith, over.begin, from);
                      end = omega arith;
                      even = joined_new prior.packets (x s t) (slice_index edges t - slice_index edges (t - 1))
                          (length_of prior.span) (length_of joined.span) follows.even lengths ∙ own;
                    })
                | inr before ↦
                    let old = over.sends u after (omega (arith, ended)) in
                    record {
                      begin = old.begin;
                      end = omega (arith, old.end, follows.next, step_rises);
                      even = joined_old prior.packets (x s t) (x prior.store u)
                          (slice_index edges u - slice_index edges (u - 1))
                          (slice_index edges t - slice_index edges (t - 1)) (length_of prior.span)
                          (length_of joined.span) some old.even follows.even lengths;
                    }
              ]

          joined_over : IsDumpOver m edges x joined i t
          joined_over = record {
            begin = over.begin;
            end = refl;
            later = omega (arith, over.later, ended);
            there = last;
            store = over.store;
            some = omega (arith, over.some);
            sends = joined_sends;
            whole = inr follows.inside;
          }

          -- what the last dump sent, the joined one sends
          kept : (d : Dump) (u : ℕ) → Contains (earlier ++ prior ∷ []) d → Sends edges x d u → 1 ≤ u → u < length edges
              → (e : Dump) × (Contains (earlier ++ joined ∷ []) e × (e.store ≡ d.store) × Sends edges x e u)
          kept d u there sends from within = elim (Contains-append_cases earlier (prior ∷ []) d there) [
            | inl before ↦ (d, (Contains-append_left earlier (joined ∷ []) d before, refl, sends))
            | inr one ↦
                let is : prior ≡ d = only_one prior d one in
                let old : Sends edges x prior u = subst (λ k. Sends edges x k u) (sym is) sends in
                let low = place_within i (u - 1) (omega (arith, over.later, over.there))
                (omega (arith, old.begin, over.begin)) in
                let high = place_within u j within (omega (arith, old.end, over.end)) in (
                  joined,
                  (
                    Contains-append_right earlier (joined ∷ []) joined (0, omega arith, refl),
                    ap (λ (k : Dump). k.store) is,
                    joined_sends u (omega arith) (omega (arith, ended)),
                  ),
                )
          ]

          sent_joined : AreSent m edges x s t (earlier ++ joined ∷ [])
          sent_joined =
              let pairs = pairs_but_last EndsBefore earlier prior h.apart in
              record {
                each = All-push (IsDumpOf m edges x) earlier joined
                    (All-front (IsDumpOf m edges x) earlier (prior ∷ []) h.each) (i, (t, joined_over));
                up_to = All-push (IsUpTo edges s t) earlier joined
                    (λ k d within. later _ (All-front (IsUpTo edges s (t - 1)) earlier (prior ∷ []) h.up_to k d within))
                    (record { store = omega (arith, follows.store); end = λ _. omega arith });
                all = all_sent (earlier ++ prior ∷ []) (earlier ++ joined ∷ []) h kept (
                  joined,
                  (
                    Contains-append_right earlier (joined ∷ []) joined (0, omega arith, refl),
                    follows.store,
                    joined_sends t (omega (arith, over.later, ended)) (omega arith),
                  ),
                );
                apart = all_pairs_push EndsBefore earlier joined pairs.0 pairs.1;
              }

      -- the step's dump is added
      pub sent_added : (dumps new : List Dump) → AreSent m edges x s (t - 1) dumps
          → IsAdded m.passes dumps (step_dump edges x s t) new → AreSent m edges x s t new
      sent_added dumps new h (inl is) = rw is (sent_more dumps h)
      sent_added dumps new h (inr (earlier, (prior, before, follows, after))) =
          let so_far : AreSent m edges x s (t - 1) (earlier ++ prior ∷ []) = rw before at h in
          let (i, (j, over)) = All-head (IsDumpOf m edges x) prior []
          (All-back (IsDumpOf m edges x) earlier (prior ∷ []) so_far.each) in
          rw after (sent_joined earlier prior so_far follows i j over)

  -- before all steps
  pub sent_none : AreSent m edges x 0 0 []
  sent_none = record {
    each = All-nil (IsDumpOf m edges x);
    up_to = All-nil (IsUpTo edges 0 0);
    all = λ r u done from there some. elim done [
      | inl earlier ↦ absurd (omega arith)
      | inr own ↦ absurd (omega (arith, own.1))
    ];
    apart = λ i j d before within. absurd (omega arith);
  }

  -- after all steps of a store
  pub sent_store : (s : ℕ) (dumps : List Dump) → AreSent m edges x s (length edges - 1) dumps
      → AreSent m edges x (s + 1) 0 dumps
  sent_store s dumps h = record {
    each = h.each;
    up_to = λ k d within.
        let old = h.up_to k d within in
        record { store = omega (arith, old.store); end = λ own. absurd (omega (arith, own, old.store)) };
    all = λ r u done from there some. elim done [
      | inl before ↦ elim (cases_eq r s) [
        | inl own ↦ h.all r u (inr (own, omega arith)) from there some
        | inr earlier ↦ h.all r u (inl (omega arith)) from there some
      ]
      | inr own ↦ absurd (omega (arith, own.1))
    ];
    apart = h.apart;
  }

  -- after all stores
  pub sent_all : (s : ℕ) (dumps : List Dump) → length m.stores ≤ s → AreSent m edges x s 0 dumps
      → IsTimeline m edges x dumps
  sent_all s dumps many h = record {
    each = h.each;
    all = λ r u below from there some. h.all r u (inl (omega arith)) from there some;
    apart = h.apart;
  }
