use Rattle.std.proofs.Common.{◌≡◌, List, [], ◌∷◌, sym, subst, rules}
use denote.Param.Members.{Mut}
use Rattle.std.specs.Fn.{Called, ReturnsEach, AlwaysReturns}
use Rattle.mm_mission_sheet.specs.Timelines.{dump_key}
use Rattle.mm_mission_sheet.proofs.timeline.ordered.Goals as goal

-- a closure that stays as it is answers each call alike
returns_each : {F X R : Type 0} (g : Mut F X R) (P : X → R → Type 0) (f : F)
    → ((a : X) (r : R) (h : F) → Called g f a r h → P a r × (h ≡ f)) → (xs : List X) → ReturnsEach g P f xs
returns_each g P f answers [] = tt
returns_each g P f answers (a ∷ xs) = λ r h called.
    let p = answers a r h called in
    (p.0, subst (λ e. ReturnsEach g P e xs) (sym p.1) (returns_each g P f answers xs))

answers_alike : {F X R : Type 0} (g : Mut F X R) (P : X → R → Type 0) (f : F)
    → ((a : X) (r : R) (h : F) → Called g f a r h → P a r × (h ≡ f)) → AlwaysReturns g P f
answers_alike g P f answers = record { at = returns_each g P f answers }

pub returns : goal.returns
returns c = record {
  same = rw (← c.in_ok-ordered.ensures.items) c.sort_unstable_by_key.ensures.permutation;
  order = c.sort_unstable_by_key.ensures.sorted dump_key (answers_alike _ _ _ (λ a r h called. search rules));
}
