-- Seats that are parted and put together keep the rule of shared stores.
use Rattle.mm_shared.proofs.Words.{◌≡◌, ◌≢◌, ⊎_elim, ℕ, ◌+◌, ◌-◌, ◌<◌, eqb, List, [], ◌∷◌, ◌++◌, length, drop, set}
use Rattle.mm_shared.proofs.Words.{refl, sym, ap, ◌∙◌, arith, Option, Some, None, eq-eqb, ne_eqb, cases_lt}
use Rattle.mm_shared.proofs.Words.{length-append, length-drop, length-set, get_or_append_left, get_or-append_right}
use Rattle.mm_shared.proofs.Words.{State, part, knows, Owns, Fits, Stands, Keeps, Each, IsKept, calls_on, held_of}
use Rattle.mm_shared.proofs.Words.{held_by, opening_at, some, dite, ℕ_discrete, get_elem?, Table, Splits, Joins, Knows}
use Rattle.mm_shared.proofs.Words.{others_of, first_of, joined, set_else, if◌then◌else◌, get_or_after_one}
use Rattle.mm_shared.proofs.Ending.{held_yes, held_no}
use Rattle.mm_shared.proofs.Lists.{at_below, each_set, each_push}
use mathlib.Core.Option as slot

module _ (stores seats : ℕ) (s : Table State Knows) (kept : IsKept stores seats s) (id : ℕ) (v : Knows)
    (me : get_elem? s.views id ≡ some v) (rest : v.held ≡ None) (owner : ℕ → ℕ)
    (stays : (seat : ℕ) → kept.owner seat ≢ id → owner seat ≡ kept.owner seat) where
  -- if some seats have new owners, the other views own what they owned
  others_own : (port : ℕ) (u : Knows) → port ≢ id → get_elem? s.views port ≡ some u
      → Owns kept.openings seats owner port u
  others_own port u apart at =
      let own = kept.owns port u at in
      record {
        within = own.within;
        owned = λ seat from to. let is = own.owned seat from to in stays seat (λ mine. apart (sym is ∙ mine)) ∙ is;
        agree = own.agree;
      }

  -- and each view holds what it held
  holds_as : (now : State) (holder : Option ℕ) → held_by kept.owner holder now id ≡ None → (port : ℕ)
      → held_by kept.owner holder now port ≡ held_by owner holder now port
  holds_as now None idle port = refl
  holds_as now (Some seat) idle port = rw (stays seat (λ mine. absurd
      (cc (idle, held_yes kept.owner seat now id mine)))) refl

  -- other views of the same seats keep the rule
  regroups : (views : List Knows) → ((seat : ℕ) → seat < seats → owner seat < length views)
      → Each (Owns kept.openings seats owner) views
      → ((k : ℕ) (old : Keeps (opening_at kept.openings k) seats kept.owner k s)
      → Each (Fits kept.owner k old.it) views)
      → IsKept stores seats record { words = s.words; homes = s.homes; views = views }
  regroups views there owns fits = record {
    openings = kept.openings;
    owner = owner;
    there = there;
    words = kept.words;
    homes = kept.homes;
    owns = owns;
    keeps = λ k under.
        let old = kept.keeps k under in
        let same = holds_as old.it.now old.it.holder (sym (old.fits id v me).held ∙ ap (held_of k) rest) in
        record {
          it = old.it;
          course = old.course;
          fits = λ port u at. let fit = fits k old port u at in
              record { parts = fit.parts; held = fit.held ∙ same port };
        };
  }

module _ (stores seats : ℕ) where
  -- the first seat of a view at rest is parted from the others
  pub splits_kept : (id : ℕ) (v : Knows) → v.held ≡ None → 0 < length v.lists
      → Splits (IsKept stores seats) id v (others_of v) (first_of v)
  splits_kept id v rest some_seat s kept me =
      regroups stores seats s kept id v me rest owner not_mine (views ++ first_of v ∷ []) in_views
      (each_push (Owns kept.openings seats owner) views (first_of v)
      (each_set (Owns kept.openings seats owner) s.views id (others_of v)
      (record {
        within = omega (arith, mine.within, fewer);
        owned = λ seat from to. stays seat (λ same. omega arith) ∙ mine.owned seat (omega arith) (omega (arith, fewer));
        agree = λ none. mine.agree (λ zero. omega arith);
      })
      (others_own stores seats s kept id v me rest owner not_mine))
      (record {
        within = omega (arith, mine.within);
        owned = λ seat from to. rw (eq-eqb seat v.first (omega arith)) refl;
        agree = λ none. mine.agree (λ zero. omega arith);
      }))
      (λ k old.
      let fit = old.fits id v me in
      each_push (Fits kept.owner k old.it) views (first_of v)
      (each_set (Fits kept.owner k old.it) s.views id (others_of v)
      (record {
        parts = λ n inside. ap (λ (seat : ℕ). part seat old.it.log) (omega arith)
            ∙ (fit.parts (1 + n) (omega (arith, fewer)) ∙ ap (calls_on k) (sym (get_or_after_one v.lists n [])));
        held = fit.held;
      })
      (λ port u apart at. old.fits port u at))
      (record {
        parts = λ n inside. let first : n ≡ 0 = omega arith in rw first (fit.parts 0 some_seat);
        held = none_past _ _ old.it.now old.it.holder old.course.stands;
      }))
    where
      views : List Knows
      views = set s.views id (others_of v)

      owner : ℕ → ℕ
      owner seat = if eqb seat v.first then length views else kept.owner seat

      count : length views ≡ length s.views
      count = length-set s.views id (others_of v)

      mine : Owns kept.openings seats kept.owner id v
      mine = kept.owns id v me

      fewer : length (drop 1 v.lists) ≡ length v.lists - 1
      fewer = length-drop 1 v.lists

      -- any seat but the first keeps its owner
      stays : (seat : ℕ) → seat ≢ v.first → owner seat ≡ kept.owner seat
      stays seat other = rw (ne_eqb seat v.first other) refl

      not_mine : (seat : ℕ) → kept.owner seat ≢ id → owner seat ≡ kept.owner seat
      not_mine seat other = stays seat (λ same. other (ap kept.owner same
          ∙ mine.owned v.first (omega arith) (omega arith)))

      in_views : (seat : ℕ) → seat < seats → owner seat < length (views ++ first_of v ∷ [])
      in_views seat inside =
          rw length-append (dite (ℕ_discrete seat v.first) (λ first. rw (eq-eqb seat v.first first) (omega arith))
          (λ other. rw (stays seat other) (omega (arith, count, kept.there seat inside))))

      none_past : (word : ℕ) (home : slot.Option State) (now : State) (holder : Option ℕ)
          → Stands seats word home now holder → None ≡ held_by kept.owner holder now (length views)
      none_past word home now None there = refl
      none_past word home now (Some seat) out = sym (held_no kept.owner seat now (length views)
          (λ same. omega (arith, count, same, kept.there seat out.1)))

  -- seats are put before those of a view at rest
  pub joins_kept : (id : ℕ) (v : Knows) (other : ℕ) (w : Knows) → v.held ≡ None → w.held ≡ None
      → w.first + length w.lists ≡ v.first → 0 < length w.lists
      → Joins (IsKept stores seats) id v other w (joined v w) (knows [] 0 [] None)
  joins_kept id v other w v_rest w_rest next some_seat s kept me apart at_other =
      regroups stores seats s kept other w theirs w_rest owner stays (set (set s.views id both) other spent) in_views
      (each (Owns kept.openings seats owner)
      (record {
        within = omega (arith, mine.within, count);
        owned = λ seat from to.
            ⊎_elim (λ before. rw (eq-eqb (kept.owner seat) other (yours.owned seat from (omega arith))) refl)
            (λ after. let is = mine.owned seat after (omega (arith, count)) in stays seat
            (λ same. apart (sym same ∙ is)) ∙ is) (cases_lt seat v.first);
        agree = λ none. yours.agree (λ zero. omega arith);
      })
      (record {
        within = omega arith;
        owned = λ seat from to. absurd (omega arith);
        agree = λ none. absurd (omega (arith, none refl, yours.within));
      })
      (λ port u not_me not_you at. others_own stores seats s kept other w theirs w_rest owner stays port u not_you at))
      (λ k old.
      let fit = old.fits id v me in
      let their = old.fits other w theirs in
      each (Fits kept.owner k old.it)
      (record {
        parts = λ n inside. ⊎_elim
            (λ before. their.parts n before ∙ ap (calls_on k) (sym (get_or_append_left w.lists v.lists [] n before)))
            (λ after.
            let theirs = fit.parts (n - length w.lists) (omega (arith, count)) in
            ap (λ (seat : ℕ). part seat old.it.log) (omega arith)
            ∙ (theirs ∙ ap (calls_on k) (sym (get_or-append_right w.lists v.lists (length w.lists) n [] refl after))))
            (cases_lt n (length w.lists));
        held = fit.held;
      })
      (record { parts = λ n inside. absurd (omega arith); held = sym (ap (held_of k) w_rest) ∙ their.held })
      (λ port u not_me not_you at. old.fits port u at))
    where
      both : Knows
      both = joined v w

      spent : Knows
      spent = knows [] 0 [] None

      owner : ℕ → ℕ
      owner seat = if eqb (kept.owner seat) other then id else kept.owner seat

      theirs : get_elem? s.views other ≡ some w
      theirs = sym (set_else s.views id other both apart) ∙ at_other

      mine : Owns kept.openings seats kept.owner id v
      mine = kept.owns id v me

      yours : Owns kept.openings seats kept.owner other w
      yours = kept.owns other w theirs

      count : length (w.lists ++ v.lists) ≡ length w.lists + length v.lists
      count = length-append w.lists v.lists

      -- a seat of any view but the spent one keeps its owner
      stays : (seat : ℕ) → kept.owner seat ≢ other → owner seat ≡ kept.owner seat
      stays seat isnt = rw (ne_eqb (kept.owner seat) other isnt) refl

      in_views : (seat : ℕ) → seat < seats → owner seat < length (set (set s.views id both) other spent)
      in_views seat inside =
          rw (length-set (set s.views id both) other spent, length-set s.views id both)
          (dite (ℕ_discrete (kept.owner seat) other) (λ is. rw (eq-eqb (kept.owner seat) other is)
          (at_below s.views id v me))
          (λ isnt. rw (stays seat isnt) (kept.there seat inside)))

      -- what the joined view has, the spent one, and each of the others
      each : (P : ℕ → Knows → Type 0) → P id both → P other spent
          → ((port : ℕ) (u : Knows) → port ≢ id → port ≢ other → get_elem? s.views port ≡ some u → P port u)
          → Each P (set (set s.views id both) other spent)
      each P joint empty old =
          each_set P (set s.views id both) other spent empty
          (λ port u not_you at. each_set (λ (p : ℕ) (x : Knows). p ≢ other → P p x) s.views id both (λ same. joint)
          (λ p x not_me there not_it. old p x not_me not_it there) port u at not_you)
