-- The first element of one of several lists is taken.
use Rattle.std.proofs.Common.{◌≡◌, ◌≢◌, ℕ, ◌<◌, List, [], ◌++◌, length, map, get_or, set, sym, ap, ◌∙◌, arith}
use Rattle.std.specs.Prelude.{Option, option_to_list}
use Rattle.std.proofs.lemmas.List.{get_or-map, get_or-set_same, get_or-set_other, map-set, length-map}

module _ {X P : Type 0} (f : X → List P) (qs : List X) (t : ℕ) (q rest : X) where
  -- the list at its place is what was taken and the rest
  pub taken_here : (taken : Option P) → t < length qs → q ≡ get_or qs t q → f q ≡ option_to_list taken ++ f rest
      → get_or (map f qs) t [] ≡ option_to_list taken ++ get_or (map f (set qs t rest)) t []
  taken_here taken within is items =
      let here : get_or (map f qs) t [] ≡ f q = get_or-map f qs t q [] within ∙ ap f (sym is) in
      let left_here : get_or (map f (set qs t rest)) t [] ≡ f rest =
      rw (map-set f qs t rest) (get_or-set_same (map f qs) t (f rest) [] (omega (arith, within, length-map qs f))) in
      rw (here, left_here) items

  -- the others are as they were
  pub others_same : (s : ℕ) → s ≢ t → get_or (map f (set qs t rest)) s [] ≡ get_or (map f qs) s []
  others_same s other = rw (map-set f qs t rest) (get_or-set_other (map f qs) t s (f rest) [] other)
