use Rattle.std.proofs.Common.{◌≡◌, ℕ, ◌+◌, ◌<◌, Bool, true, false, ◌||◌, List, length, get_or, set, take, refl, sym, ◌∙◌, ap, subst, inl, inr, arith, length-set, get_or-set_same, get_or-set_other}
use Rattle.std.proofs.lemmas.Bool.Decides.{eqb_tells}
use Rattle.std.proofs.lemmas.List.Folds.{list_any_more}
use Rattle.mm_problem.specs.Dumping.{Dumping}
use Rattle.mm_plan.specs.declared.stretch.Stretch.{Stretch}
use Rattle.mm_cut.specs.Stretches.{channel_of, goes_past, goes_past_on, is_inner_on}
use Rattle.mm_cut.proofs.bounds.inner_channels.Goals as goal
use Rattle.mm_cut.proofs.bounds.inner_channels.Goals.{then-goes_past, else-goes_past}

or_true : (b : Bool) → (b || true) ≡ true
or_true true = refl
or_true false = refl

or_false : (b : Bool) → (b || false) ≡ b
or_false true = refl
or_false false = refl

-- one stretch more, in which the step is not inner on the channel
not_inner : (q : Dumping) (ds : List Stretch) (t i c : ℕ) (d : Stretch) → i < length ds → d ≡ get_or ds i d → goes_past_on q t c d ≡ false
    → is_inner_on q (take i ds) t c ≡ is_inner_on q (take (i + 1) ds) t c
not_inner q ds t i c d within is none =
    let more = list_any_more (goes_past_on q t c) ds i d within in
    sym (more ∙ ap (λ e. is_inner_on q (take i ds) t c || goes_past_on q t c e) (sym is) ∙ ap (λ b. is_inner_on q (take i ds) t c || b) none ∙ or_false (is_inner_on q (take i ds) t c))

-- one in which it is
now_inner : (q : Dumping) (ds : List Stretch) (t i c : ℕ) (d : Stretch) → i < length ds → d ≡ get_or ds i d → goes_past_on q t c d ≡ true
    → true ≡ is_inner_on q (take (i + 1) ds) t c
now_inner q ds t i c d within is some =
    let more = list_any_more (goes_past_on q t c) ds i d within in
    sym (more ∙ ap (λ e. is_inner_on q (take i ds) t c || goes_past_on q t c e) (sym is) ∙ ap (λ b. is_inner_on q (take i ds) t c || b) some ∙ or_true (is_inner_on q (take i ds) t c))

-- a channel that is marked
marked : (q : Dumping) (ds : List Stretch) (inner : List Bool) (t i c : ℕ) (d : Stretch) → i < length ds → d ≡ get_or ds i d → goes_past q t d ≡ true → channel_of q d < length inner
    → get_or inner c false ≡ is_inner_on q (take i ds) t c → get_or (set inner (channel_of q d) true) c false ≡ is_inner_on q (take (i + 1) ds) t c
marked q ds inner t i c d within is past below so_far = elim (eqb_tells (channel_of q d) c) [
  | inl same ↦
      let here = get_or-set_same inner (channel_of q d) true false below in
      let there : get_or (set inner (channel_of q d) true) c false ≡ true = subst (λ k. get_or (set inner (channel_of q d) true) k false ≡ true) same.1 here in
      there ∙ now_inner q ds t i c d within is (rw (past, same.0) refl)
  | inr other ↦
      get_or-set_other inner (channel_of q d) c true false (λ e. other.1 (sym e)) ∙ so_far ∙ not_inner q ds t i c d within is (rw (past, other.0) refl)
]

pub loop-stretch-preserved : goal.loop-stretch-preserved
loop-stretch-preserved c =
    let q = c.args.problem.now in
    let ds = c.args.stretches.now in
    let i = c.loop-stretch.stretch-index in
    let d = c.stretch-item.result in
    elim c.if-goes_past.branch [
      | then-goes_past w ↦
          let past : goes_past q c.args.step d ≡ true = sym c.goes_past.ensures ∙ w.if-goes_past.true in
          let own = w.channel_of.ensures.channel in
          rw w.inner-is (record {
            channels = omega (arith, length-set c.loop-stretch.inner w.channel_of.result true, c.loop-stretch.invariant.channels);
            inner = λ k below. rw own (marked q ds c.loop-stretch.inner c.args.step i k d c.loop-stretch-test.true c.stretch-item.is past (omega (arith, own, w.channel_of.ensures.most, c.loop-stretch.invariant.channels)) (c.loop-stretch.invariant.inner k below));
          })
      | else-goes_past w ↦
          let past : goes_past q c.args.step d ≡ false = sym c.goes_past.ensures ∙ w.if-goes_past.false in
          rw w.inner-is (record {
            channels = c.loop-stretch.invariant.channels;
            inner = λ k below. c.loop-stretch.invariant.inner k below ∙ not_inner q ds c.args.step i k d c.loop-stretch-test.true c.stretch-item.is (rw past refl);
          })
    ]
