-- Rows that are read one after the other, and the tables that say them.
use Rattle.std.proofs.Common.{◌≡◌, List, [], ◌∷◌, ◌++◌, length, Result, Ok, sym, ap, ◌∙◌, arith, append_assoc, subst}
use Rattle.std.proofs.Common.{length-append}
use Rattle.std.proofs.Math.ListN.{get_or-append}
use Rattle.std.proofs.Math.Seq.{get_or-append_seam}
use Rattle.std.specs.Prelude.{All, AllPairs}
use Rattle.std.specs.List.{AllZip}
use Rattle.std.proofs.lemmas.List.{append-nil}
use Rattle.std.proofs.lemmas.List.Elements.{All-push}
use Rattle.std.proofs.lemmas.List.Quantifiers.{all_pairs_push}
use Rattle.mm_problem.specs.declared.fault.Fault.{Fault}
use Rattle.mm_problem.specs.Tables.{rows_in}
use Rattle.mm_base.proofs.ReadingSteps.{bind_ok}

-- no two rows of none
pub none_apart : {R : Type 0} (D : R → R → Type 0) → AllPairs D []
none_apart D i j d below within = absurd (omega arith)

module _ {R X : Type 0} (Says : X → R → Type 0) (P : R → Type 0) (D : R → R → Type 0) where
  -- what a row is, which a table says, after earlier rows
  pub record IsNext (earlier : List R) (d : X) (row : R) : Type 0 where
    pub says : Says d row
    pub fits : P row
    pub new : All (λ e. D e row) earlier

  -- what rows are that tables say
  pub record AreRows (ds : List X) (before rows : List R) : Type 0 where
    pub more : List R
    pub behind : rows ≡ before ++ more
    pub each : AllZip Says ds more
    pub fit : All P rows
    pub apart : AllPairs D rows

  -- what holds of a row between others
  fits_at : (earlier more : List R) (row : R) → All P (earlier ++ row ∷ more) → P row
  fits_at earlier more row fit =
      subst P (get_or-append_seam earlier row more row)
      (fit (length earlier) row (omega (arith, length-append earlier (row ∷ more))))

  -- a row differs from those before it
  apart_at : (earlier more : List R) (row : R) → AllPairs D (earlier ++ row ∷ more) → All (λ e. D e row) earlier
  apart_at earlier more row apart k x below =
      let pair = apart k (length earlier) x below (omega (arith, length-append earlier (row ∷ more))) in
      rw (get_or-append earlier (row ∷ more) x k below, get_or-append_seam earlier row more x) at pair

  module _ (next : List R → X → Result R Fault)
      (said : (earlier : List R) (d : X) (row : R) → next earlier d ≡ Ok row → IsNext earlier d row) where
    -- rows that are read are those that the tables say
    pub rows_said : (ds : List X) (earlier rows : List R) → All P earlier → AllPairs D earlier
        → rows_in next earlier ds ≡ Ok rows → AreRows ds earlier rows
    unfolding rows_in
    rows_said [] earlier rows fit apart h =
        let same : earlier ≡ rows = cc in
        record {
          more = [];
          behind = sym same ∙ sym (append-nil earlier);
          each = tt;
          fit = subst (All P) same fit;
          apart = subst (AllPairs D) same apart;
        }
    rows_said (d ∷ ds) earlier rows fit apart h =
        let (row, given, rest) = bind_ok _ _ _ h in
        let this = said earlier d row given in
        let others = rows_said ds (earlier ++ row ∷ []) rows (All-push P earlier row fit this.fits)
        (all_pairs_push D earlier row apart this.new) rest in
        record {
          more = row ∷ others.more;
          behind = others.behind ∙ append_assoc earlier (row ∷ []) others.more;
          each = (this.says, others.each);
          fit = others.fit;
          apart = others.apart;
        }

  module _ (next : List R → X → Result R Fault)
      (read : (earlier : List R) (d : X) (row : R) → IsNext earlier d row → next earlier d ≡ Ok row) where
    -- the rows that tables say are read
    pub rows_read : (ds : List X) (earlier more : List R) → AllZip Says ds more → All P (earlier ++ more)
        → AllPairs D (earlier ++ more) → rows_in next earlier ds ≡ Ok (earlier ++ more)
    unfolding rows_in
    rows_read [] earlier [] each fit apart = ap Ok (sym (append-nil earlier))
    rows_read [] earlier (r ∷ more) each fit apart = absurd each
    rows_read (d ∷ ds) earlier [] each fit apart = absurd each
    rows_read (d ∷ ds) earlier (r ∷ more) each fit apart =
        let given : next earlier d ≡ Ok r = read earlier d r
        (record { says = each.0; fits = fits_at earlier more r fit; new = apart_at earlier more r apart }) in
        let regrouped : (earlier ++ r ∷ []) ++ more ≡ earlier ++ r ∷ more = append_assoc earlier (r ∷ []) more in
        rw given (rows_read ds (earlier ++ r ∷ []) more each.1 (subst (All P) (sym regrouped) fit)
        (subst (AllPairs D) (sym regrouped) apart) ∙ ap Ok regrouped)
