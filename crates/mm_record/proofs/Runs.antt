-- Recorders of two groups: why some stopped early, and what each offered until its source is as it will be later.
use Rattle.mm_record.proofs.Words.{◌∙◌, ◌≡◌, List, [], ◌∷◌, ◌++◌, length, get_or, map, All, Option, Some, None, IfSome}
use Rattle.mm_record.proofs.Words.{refl, ap, arith, AllZip, map-append, nil_from_length, All-cons, All-head, All-nil}
use Rattle.mm_record.proofs.Words.{All-tail, Fault, NoMemory, end_of, PortView, asked, RecordingContext, Supply}
use Rattle.mm_record.proofs.Words.{supplies, EachHasOffered, HasOffered, HasOfferedUntil, HaveOffered, worse_of}
use Rattle.mm_record.proofs.Words.{worst_of, RecorderRun}
use Rattle.std.proofs.Math.ListN.{set}

-- the worst of one reason
worst_one : (f : Option Fault) → f ≡ worst_of (f ∷ [])
worst_one None = refl
worst_one (Some NoMemory) = refl
worst_one (Some fault) = refl

-- the worst of two groups is the worse of the worst of each
worse-worse : (a b c : Option Fault) → worse_of (worse_of a b) c ≡ worse_of a (worse_of b c)
worse-worse None b c = refl
worse-worse (Some NoMemory) None c = refl
worse-worse (Some NoMemory) (Some NoMemory) None = refl
worse-worse (Some NoMemory) (Some NoMemory) (Some NoMemory) = refl
worse-worse (Some NoMemory) (Some NoMemory) (Some fault) = refl
worse-worse (Some NoMemory) (Some fault) c = refl
worse-worse (Some fault) b c = refl

worst_of-append : (fs gs : List (Option Fault)) → worse_of (worst_of fs) (worst_of gs) ≡ worst_of (fs ++ gs)
worst_of-append [] gs = refl
worst_of-append (f ∷ fs) gs = worse-worse f (worst_of fs) (worst_of gs) ∙ ap (worse_of f) (worst_of-append fs gs)

-- what each reason has, the worst has
worse_has : (P : Fault → Type 0) (a b : Option Fault) → IfSome a P → IfSome b P → IfSome (worse_of a b) P
worse_has P None b first second = second
worse_has P (Some NoMemory) None first second = first
worse_has P (Some NoMemory) (Some fault) first second = second
worse_has P (Some fault) b first second = first

pub worst_has : (P : Fault → Type 0) (fs : List (Option Fault)) → All (λ f. IfSome f P) fs → IfSome (worst_of fs) P
worst_has P [] all = tt
worst_has P (f ∷ fs) all =
    worse_has P f (worst_of fs) (All-head (λ f. IfSome f P) f fs all)
    (worst_has P fs (All-tail (λ f. IfSome f P) f fs all))

-- if the worst is none, there is none
pub worst_none : (fs : List (Option Fault)) → worst_of fs ≡ None → All (λ f. f ≡ None) fs
worst_none [] none = All-nil (λ f. f ≡ None)
worst_none (None ∷ fs) none = All-cons (λ f. f ≡ None) None fs refl (worst_none fs none)
worst_none (Some fault ∷ fs) none = absurd (some_worse fault (worst_of fs) none)
  where
    some_worse : (fault : Fault) (b : Option Fault) → worse_of (Some fault) b ≡ None → ⊥
    some_worse NoMemory None none = cc
    some_worse NoMemory (Some other) none = cc
    some_worse fault b none = cc

-- the run of one recorder, until its source is as it will be later: what the source gives before the run and after it,
-- the recorder's port, and why it stopped early
pub record Run (e : RecordingContext) : Type 0 where
  pub before : Supply
  pub after : Supply
  pub port : PortView
  pub broken : Option Fault
  pub did : HasOffered e before after broken port

abbrev pub run_of : {e : RecordingContext} → Run e → RecorderRun
run_of r = record { gave = r.did.gave; offered = asked r.port; broken = r.broken }

-- these runs, of sources that gave the first before and give the second now, through these ports, with these faults
pub record AreRuns (e : RecordingContext) (given left : List Supply) (workers : List PortView)
    (faults : List (Option Fault)) : Type 0 where
  pub runs : List (Run e)
  pub given_are : given ≡ map (λ r. r.before) runs
  pub left_are : left ≡ map (λ r. r.after) runs
  pub workers_are : workers ≡ map (λ r. r.port) runs
  pub faults_are : faults ≡ map (λ r. r.broken) runs

module _ {S : Type 0} (leads : S → S → Type 0) (until : S → S → Supply) (e : RecordingContext) where
  -- no recorder
  pub none_run : (sources : List S) (workers : List PortView) → length sources ≡ 0 → length workers ≡ length sources
      → HaveOffered leads until e sources sources workers workers None
  none_run sources workers none same =
      rw (nil_from_length sources none, nil_from_length workers (same ∙ none))
      (record { ends = refl; faults = []; each = tt; why_is = refl })

  -- the recorder of one source
  pub one_run : (sources : List S) (workers : List PortView) (d now : S) (p new : PortView) (broken : Option Fault)
      → length sources ≡ 1 → length workers ≡ length sources → end_of new ≡ end_of (get_or workers 0 p)
      → HasOfferedUntil leads until e (get_or sources 0 d) now new broken
      → HaveOffered leads until e sources (set sources 0 now) workers (set workers 0 new) broken
  one_run (s ∷ []) (w ∷ []) d now p new broken one same end ran =
      record { ends = ap (λ x. x ∷ []) end; faults = broken ∷ []; each = (ran, tt); why_is = worst_one broken }
  one_run sources workers d now p new broken one same end ran = absurd (omega (arith, one, same))

  -- the runs of one group and of another are those of both
  each_append : (ss ts us vs : List S) (xs zs : List PortView) (fs gs : List (Option Fault))
      → EachHasOffered leads until e ss ts xs fs → EachHasOffered leads until e us vs zs gs
      → EachHasOffered leads until e (ss ++ us) (ts ++ vs) (xs ++ zs) (fs ++ gs)
  each_append [] [] us vs [] zs [] gs one two = two
  each_append (s ∷ ss) (t ∷ ts) us vs (x ∷ xs) zs (f ∷ fs) gs one two =
      (one.0, each_append ss ts us vs xs zs fs gs one.1 two)
  each_append ss ts us vs xs zs fs gs one two = absurd one

  -- two groups
  pub both_run : (ss ts us vs : List S) (ws xs ys zs : List PortView) (first second : Option Fault)
      → HaveOffered leads until e ss ts ws xs first → HaveOffered leads until e us vs ys zs second
      → HaveOffered leads until e (ss ++ us) (ts ++ vs) (ws ++ ys) (xs ++ zs) (worse_of first second)
  both_run ss ts us vs ws xs ys zs first second one two = record {
    ends = cc (map-append end_of xs zs, map-append end_of ws ys);
    faults = one.faults ++ two.faults;
    each = each_append ss ts us vs xs zs one.faults two.faults one.each two.each;
    why_is = rw (one.why_is, two.why_is) (worst_of-append one.faults two.faults);
  }

  -- the runs of recorders, until their sources are as these last ones
  pub runs_until : (ss ts lasts : List S) (workers : List PortView) (faults : List (Option Fault))
      → EachHasOffered leads until e ss ts workers faults → AllZip leads ts lasts
      → AllZip leads ss lasts × AreRuns e (supplies until ss lasts) (supplies until ts lasts) workers faults
  runs_until [] [] [] [] [] each lead =
      (tt, record { runs = []; given_are = refl; left_are = refl; workers_are = refl; faults_are = refl })
  runs_until (s ∷ ss) (t ∷ ts) (last ∷ lasts) (w ∷ ws) (f ∷ fs) each lead =
      let one = each.0 last lead.0 in
      let others = runs_until ss ts lasts ws fs each.1 lead.1 in
      let all = others.1 in
      let run : Run e = record { before = until s last; after = until t last; port = w; broken = f; did = one.1 } in (
        (one.0, others.0),
        record {
          runs = run ∷ all.runs;
          given_are = ap (λ ss. run.before ∷ ss) all.given_are;
          left_are = ap (λ ss. run.after ∷ ss) all.left_are;
          workers_are = ap (λ ws. w ∷ ws) all.workers_are;
          faults_are = ap (λ fs. f ∷ fs) all.faults_are;
        },
      )
  runs_until [] [] (last ∷ lasts) [] [] each lead = absurd lead
  runs_until (s ∷ ss) (t ∷ ts) [] (w ∷ ws) (f ∷ fs) each lead = absurd lead
  runs_until ss ts lasts ws fs each lead = absurd each
