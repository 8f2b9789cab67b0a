-- What a chart and a table say: the cut that is drawn, the sum that is its bound, what its words list, and the records.
use Rattle.std.proofs.Common.{ℕ, List, [], arith, ◌≡◌, ◌+◌, ◌<◌, ◌≤◌, Bool, true, eqb, leb, ltb, not, cond, ◌&&◌}
use Rattle.std.proofs.Common.{length, get_or, ◌⊎◌, inl, inr, refl, sym, ap, ◌∙◌, subst, ◌-◌}
use Rattle.std.specs.Prelude.{ℤ, Option, Some, None, if◌then◌else◌, pos}
use Rattle.std.proofs.lemmas.Int.{ints}
use Rattle.std.proofs.lemmas.Bool.{cases_lt, and_parts, eq-eqb, or_left, or_right}
use Rattle.std.proofs.lemmas.Bool.Decides.{nat_tests}
use Rattle.std.proofs.lemmas.List.Folds.{Any-from_list_any, list_any_at}
use Rattle.std.proofs.lemmas.List.Elements.{All-contains}
use Rattle.std.proofs.lemmas.List.Sums.{passes_at_first}
use Rattle.std.proofs.lemmas.Slice.Eq.{bytes_eq-Decides}
use Rattle.std.specs.Str.{bytes_eq}
use Rattle.mm_base.proofs.Sums.{sum_by-filter_parts}
use Rattle.mm_problem.specs.Dumping.{Dumping, no_row, row, place, size, start, channel, window, arrivals, steps}
use Rattle.mm_problem.specs.declared.come.Arrivals.{Arrivals}
use Rattle.mm_problem.specs.declared.come.Arrivals.TheVariants.{Before, During}
use Rattle.mm_plan.specs.Volumes.{Amounts}
use Rattle.mm_plan.specs.Table.{amount}
use Rattle.mm_plan.specs.Sheet.{SheetRows, CertificateRows}
use Rattle.mm_plan.specs.declared.stretch.Stretch.{Stretch}
use Rattle.mm_plan.proofs.Steps.{step_balance}
use Rattle.mm_cut.specs.Cuts.{IsCut, bound, limit_sum, counts_window, counts_limits}
use Rattle.mm_cut.specs.Verdicts.{IsVerdict, IsOwnVerdict, IsVerdictWith, IsSheetVerdict}
use Rattle.mm_cut.specs.declared.verdict.Verdict.{Verdict}
use Rattle.mm_cut.specs.declared.verdict.Verdict.TheVariants.{BoundIs, NotShown, FirstNotShown, Least, LeastInOrder}
use Rattle.mm_cut.specs.Stretches.{store_of, channel_of, covers, inner_end, goes_past, goes_past_on, is_inner}
use Rattle.mm_cut.specs.Stretches.{is_inner_on, IsStretch}
use Rattle.mm_cut.specs.Counts.{is_listed}
use Rattle.mm_cut.specs.Changes.{ChangesStretch, HelpsNowhere, OnlyCountedHelps}
use Rattle.mm_cut.proofs.StretchLosses.{inner_end-le}
use Rattle.mm_chart.specs.Picture.{has_cut, Drawn, IsDrawn, cut, counts}
use Rattle.mm_chart.specs.declared.series.Series.{Series}
use Rattle.mm_chart.specs.declared.series.Series.TheVariants.{WindowCounts, ChannelCounts, LimitsCount, Inner, Last}
use Rattle.mm_chart.specs.Series.{one_if, amount_of, has_stretch, is_inner_of, is_last_of, counts_channel}
use Rattle.mm_chart.specs.Words.{is_marked}
use Rattle.mm_chart.specs.Listed.{sum_of, SumsAddUp, SaysLeast, is_shaded, place_of, KeepsListed, OnlyListedHelps}
use Rattle.mm_chart.specs.Table.{RecordsBalance}

-- no stretches and no counts are a cut
pub no_cut : (q : Dumping) → IsCut q [] []
no_cut q = record {
  stretches = record { each = λ k d within. absurd (omega arith); apart = λ i j d before within. absurd (omega arith) };
  counted = record { each = λ k d within. absurd (omega arith); once = λ i j d before within. absurd (omega arith) };
}

-- the stretches and counts of which a verdict says that they are a cut
own_cut : (q : Dumping) (x : Amounts) (ds : List Stretch) (ts : List ℕ) (l : ℕ) (b : ℤ) (v : Verdict)
    → IsVerdict q x ds ts l b v → IsCut q (if has_cut v then ds else []) (if has_cut v then ts else [])
own_cut q x ds ts l b (BoundIs m) is = is.1
own_cut q x ds ts l b (NotShown n m) is = is.0.cut
own_cut q x ds ts l b (FirstNotShown k) is = absurd is
own_cut q x ds ts l b (LeastInOrder n) is = absurd is
own_cut q x ds ts l b (Least n) is = is.0.cut
own_cut q x ds ts l b v is = no_cut q

-- what is drawn is a cut, whatever the verdict and the certificates of the first stores
pub drawn_cut : (q : Dumping) (s : SheetRows) (cs : Option (List CertificateRows)) (v : Verdict)
    → IsVerdictWith q s cs v → IsCut q (if has_cut v then s.cut else []) (if has_cut v then s.by_channels else [])
drawn_cut q s (Some cs) (FirstNotShown k) is = is.0.0.cut
drawn_cut q s (Some cs) (Least n) is = absurd is
drawn_cut q s (Some cs) (LeastInOrder n) is = is.0.0.cut
drawn_cut q s cs v is = own_cut q (amount s.plan) s.cut s.by_channels s.loss s.bound v is

-- what a verdict says of the cut of all stores
pub own_least : (q : Dumping) (s : SheetRows) (cs : Option (List CertificateRows)) (n : ℕ)
    → IsVerdictWith q s cs (Least n) → IsOwnVerdict q s (Least n)
own_least q s None n is = is
own_least q s (Some cs) n is = absurd is

pub own_in_order : (q : Dumping) (s : SheetRows) (cs : Option (List CertificateRows)) (n : ℕ)
    → IsVerdictWith q s cs (LeastInOrder n) → IsOwnVerdict q s (Least n)
own_in_order q s None n is = absurd is
own_in_order q s (Some cs) n is = is.0

pub own_not_shown : (q : Dumping) (s : SheetRows) (cs : Option (List CertificateRows)) (n : ℕ) (m : ℤ)
    → IsVerdictWith q s cs (NotShown n m) → IsOwnVerdict q s (NotShown n m)
own_not_shown q s None n m is = is
own_not_shown q s (Some cs) n m is = is

-- the numbers of the sum are the parts of the bound
sum_is_bound : (p : Drawn) → sum_of p ≡ bound p.problem (cut p) (counts p)
sum_is_bound p =
    let q = p.problem in
    omega (
      arith,
      ints,
      sum_by-filter_parts (is_inner q (cut p)) (is_listed (counts p)) (limit_sum q (cut p)) (window q) (steps q),
    )

-- where there is a cut, it is the sheet's
shown_bound : (p : Drawn) (v : Verdict) → p.verdict ≡ v → has_cut v ≡ true
    → bound p.problem (cut p) (counts p) ≡ bound p.problem p.sheet.cut p.sheet.by_channels
shown_bound p v here has =
    let shown : has_cut p.verdict ≡ true = ap has_cut here ∙ has in
    ap (λ b. bound p.problem (cond b p.sheet.cut []) (cond b p.sheet.by_channels [])) shown

pub sums_add_up : SumsAddUp
sums_add_up p is = record {
  least = λ n here.
      let said = own_least p.problem p.sheet p.sheet.firsts n
      (subst (IsSheetVerdict p.problem p.sheet) here is.verdict) in
      sum_is_bound p ∙ shown_bound p (Least n) here refl ∙ sym said.0.bound ∙ sym said.2;
  in_order = λ n here.
      let said = own_in_order p.problem p.sheet p.sheet.firsts n
      (subst (IsSheetVerdict p.problem p.sheet) here is.verdict) in
      sum_is_bound p ∙ shown_bound p (LeastInOrder n) here refl ∙ sym said.0.bound ∙ sym said.2;
  not_shown = λ n m here.
      let said = own_not_shown p.problem p.sheet p.sheet.firsts n m
      (subst (IsSheetVerdict p.problem p.sheet) here is.verdict) in
      sum_is_bound p ∙ shown_bound p (NotShown n m) here refl ∙ sym said.0.bound ∙ sym said.2;
}

-- the loss of a plan of which the chart says that none loses fewer
sum_least : (p : Drawn) (n : ℕ) → IsDrawn p → SaysLeast p n → sum_of p ≡ pos n
sum_least p n is here = elim here [
  | inl least ↦ (sums_add_up p is).least n least
  | inr in_order ↦ (sums_add_up p is).in_order n in_order
]

-- ---- marks

same_and : (a : ℕ) (b : Bool) → b ≡ true → (eqb a a && b) ≡ true
same_and a b holds = rw (eq-eqb a a refl) holds

-- a step of the problem with an amount is marked
in_range : (t m n : ℕ) → 1 ≤ t → t ≤ m → 1 ≤ n → ltb 0 (cond (leb 1 t && leb t m) n 0) ≡ true
in_range t m n first last some = grind (arith, nat_tests)

marked_at : (p : Drawn) (x : Series) (t : ℕ) → 1 ≤ t → t ≤ length p.problem.windows → 1 ≤ amount_of p x t
    → is_marked p x t ≡ true
marked_at p x t first last some = in_range t (length p.problem.windows) (amount_of p x t) first last some

one_of : (b : Bool) → b ≡ true → 1 ≤ one_if b
one_of b holds = rw holds (omega arith)

-- the inner steps of a stretch end no earlier than before its last
inner_end-ge : (come : Arrivals) (d : Stretch) → d.last ≤ inner_end come d
inner_end-ge Before d = omega arith
inner_end-ge During d = omega arith

-- an inner step of a stretch is a step of the problem
inner_first : (a b t m : ℕ) → (leb a t && ltb t b) ≡ true → 1 ≤ a → b ≤ m + 1 → 1 ≤ t
inner_first a b t m inner first last = grind (arith, nat_tests)

inner_last : (a b t m : ℕ) → (leb a t && ltb t b) ≡ true → 1 ≤ a → b ≤ m + 1 → t ≤ m
inner_last a b t m inner first last = grind (arith, nat_tests)

-- a stretch that begins with step 1 has that step
covers_one : (b : ℕ) → 1 ≤ b → (leb 1 1 && leb 1 b) ≡ true
covers_one b order = grind (arith, nat_tests)

-- a step of a stretch is an inner one or the last
inner_or_last : (a b e t : ℕ) → b ≤ e → (leb a t && leb t b) ≡ true → ((leb a t && ltb t e) ≡ true) ⊎ (t ≡ b)
inner_or_last a b e t past covers = elim (cases_lt t b) [
  | inl inner ↦ inl (grind (arith, nat_tests))
  | inr last ↦ inr (grind (arith, nat_tests))
]

module _ (p : Drawn) (is : IsDrawn p) where
  abbrev ds : List Stretch
  ds = cut p

  abbrev ts : List ℕ
  ts = counts p

  -- a step that is inner in some stretch is a step of the problem
  inner_step : (t : ℕ) → is_inner p.problem ds t ≡ true → (1 ≤ t) × (t ≤ length p.problem.windows)
  inner_step t inner =
      let some = Any-from_list_any (goes_past p.problem t) ds inner in
      let at = All-contains (IsStretch p.problem) ds some.1 is.is_cut.stretches.each (some.0, some.2, some.3) in (
        inner_first some.1.first (inner_end p.problem.come some.1) t (length p.problem.windows) some.4 at.first
            (omega (arith, inner_end-le p.problem.come some.1, at.last)),
        inner_last some.1.first (inner_end p.problem.come some.1) t (length p.problem.windows) some.4 at.first
            (omega (arith, inner_end-le p.problem.come some.1, at.last)),
      )

  window_marked : (t : ℕ) → counts_window p.problem ds ts t ≡ true → is_marked p WindowCounts t ≡ true
  window_marked t counted =
      let step = inner_step t (and_parts (is_inner p.problem ds t) (not (is_listed ts t)) counted).0 in
      marked_at p WindowCounts t step.0 step.1 (one_of (counts_window p.problem ds ts t) counted)

  inner_from_on : (t c : ℕ) → is_inner_on p.problem ds t c ≡ true → is_inner p.problem ds t ≡ true
  inner_from_on t c inner =
      let some = Any-from_list_any (goes_past_on p.problem t c) ds inner in
      let on = and_parts (goes_past p.problem t some.1) (eqb (channel_of p.problem some.1) c) some.4 in
      list_any_at (goes_past p.problem t) ds some.0 some.1 some.2 (rw some.3 on.0)

  limits_marked : (t : ℕ) → is_listed ts t ≡ true → is_inner p.problem ds t ≡ true → is_marked p LimitsCount t ≡ true
  limits_marked t listed inner =
      let step = inner_step t inner in
      let counted : counts_limits p.problem ds ts t ≡ true = rw (inner, listed) refl in
      marked_at p LimitsCount t step.0 step.1 (one_of (counts_limits p.problem ds ts t) counted)

  channel_marked : (t c : ℕ) → is_listed ts t ≡ true → is_inner_on p.problem ds t c ≡ true
      → is_marked p (ChannelCounts c) t ≡ true
  channel_marked t c listed on =
      let inner = inner_from_on t c on in
      let step = inner_step t inner in
      let counted : counts_channel p c t ≡ true = rw (inner, listed, on) refl in
      marked_at p (ChannelCounts c) t step.0 step.1 (one_of (counts_channel p c t) counted)

  -- of one stretch
  module _ (k : ℕ) (d : Stretch) (inside : k < length ds) where
    abbrev e : Stretch
    e = get_or ds k d

    abbrev s : ℕ
    s = store_of p.problem e

    here : IsStretch p.problem e
    here = is.is_cut.stretches.each k d inside

    inner_marked : (t : ℕ) → goes_past p.problem t e ≡ true → is_marked p (Inner s) t ≡ true
    inner_marked t inner =
        let ends : inner_end p.problem.come e ≤ length p.problem.windows + 1 =
        omega (arith, inner_end-le p.problem.come e, here.last) in
        let n = length p.problem.windows in
        let first = inner_first e.first (inner_end p.problem.come e) t n inner here.first ends in
        let last = inner_last e.first (inner_end p.problem.come e) t n inner here.first ends in
        let of : is_inner_of p s t ≡ true =
        list_any_at (λ f. eqb (store_of p.problem f) s && goes_past p.problem t f) ds k d inside
        (same_and s (goes_past p.problem t e) inner) in
        marked_at p (Inner s) t first last (one_of (is_inner_of p s t) of)

    last_of : is_last_of p s e.last ≡ true
    last_of = list_any_at (λ f. eqb (store_of p.problem f) s && eqb f.last e.last) ds k d inside
        (same_and s (eqb e.last e.last) (eq-eqb e.last e.last refl))

    last_marked : is_marked p (Last s) e.last ≡ true
    last_marked = marked_at p (Last s) e.last (omega (arith, here.first, here.order)) here.last
        (one_of (is_last_of p s e.last) last_of)

    -- its store is named
    is_named : has_stretch p s ≡ true
    is_named = list_any_at (λ f. eqb (store_of p.problem f) s) ds k d inside (eq-eqb s s refl)

    shaded : (t : ℕ) → covers e t ≡ true → is_shaded p s t ≡ true
    shaded t at =
        let end = inner_end p.problem.come e in
        elim (inner_or_last e.first e.last end t (inner_end-ge p.problem.come e) at) [
          | inl inner ↦ or_left (is_marked p (Inner s) t) (is_marked p (Last s) t) (inner_marked t inner)
          | inr last ↦ or_right (is_marked p (Inner s) t) (is_marked p (Last s) t) (rw last last_marked)
        ]

    same_id : (row p.problem s).id ≡ e.store
    same_id =
        (bytes_eq-Decides (get_or p.problem.rows s no_row).id e.store).0
        (passes_at_first (λ r. bytes_eq r.id e.store) p.problem.rows no_row here.store)

    stretch_kept : (r : Dumping) → KeepsListed p r → ChangesStretch ◌≤◌ p.problem r ts e
    stretch_kept r h =
        let keeps = h.stores s here.store is_named in
        let there : place_of p r s ≡ store_of r e = ap (place r) same_id in
        record {
          store = subst (λ i. i < length r.rows) there keeps.there;
          start = λ first.
              let at : covers e 1 ≡ true = rw first (covers_one e.last (omega (arith, here.first, here.order))) in
              subst (λ i. start p.problem s ≤ start r i) there (keeps.start (shaded 1 at));
          arrivals = λ t at.
              subst (λ i. arrivals p.problem s t ≤ arrivals r i t) there (keeps.arrivals t (shaded t at));
          size = subst (λ i. size r i e.last ≤ size p.problem s e.last) there (keeps.size e.last last_marked);
          channel = λ t listed inner.
              let marked = limits_marked t listed (list_any_at (goes_past p.problem t) ds k d inside inner) in
              subst (λ i. channel r i ≡ channel p.problem s) there (keeps.channel t marked (inner_marked t inner));
        }

  listed_kept : (r : Dumping) → KeepsListed p r → HelpsNowhere p.problem r ds ts
  listed_kept r h = record {
    come = h.come;
    steps = h.steps;
    channels = h.channels;
    stretches = λ k d inside. stretch_kept k d inside r h;
    windows = λ t at. h.windows t (window_marked t at);
    limited = λ t c listed on.
        h.limited t c (limits_marked t listed (inner_from_on t c on)) (channel_marked t c listed on);
    limits = λ t c listed on.
        h.limits t c (limits_marked t listed (inner_from_on t c on)) (channel_marked t c listed on);
  }

-- from the law that only what a cut counts can lower its bound
pub only_listed_helps : OnlyCountedHelps → OnlyListedHelps
only_listed_helps only_counted_helps p n r x is here h fits =
    let least = only_counted_helps p.problem r (cut p) (counts p) x is.is_cut (listed_kept p is r h) fits in
    omega (arith, ints, least, sum_is_bound p, sum_least p n is here)

pub records_balance : RecordsBalance
records_balance q x s t first = omega (arith, step_balance q x s (t - 1) t (omega (arith, first)))
