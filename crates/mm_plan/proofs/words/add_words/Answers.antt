use Rattle.std.proofs.Common.{◌≡◌, ◌==◌, ◌++◌, List, Option, Result, map, ap, ◌∙◌, rules}
use Rattle.std.specs.Prelude.{OnOk, MatchResult}
use Rattle.std.specs.Iterator.{Yields, Drains}
use Rattle.std.proofs.lemmas.Iterator.{YieldsList, YieldsList-from_take}
use Rattle.std.proofs.lemmas.Iterator.Adapters.{fact_from_extend}
use Rattle.std.proofs.lemmas.Iterator.Consumers.{YieldsList-at}
use Rattle.std.proofs.lemmas.Iterator.Splits.{YieldsList-from_slice_split}
use Rattle.mm_plan.proofs.words.add_words.Goals as goal

-- what `extend` adds of a chain, as its items are seen
extended : {T A C E Q : Type 0} {steps : T → Option A → T → Type 0} {all : List C} {P : List A → Type 0} {s : T}
    (v : A → C) (r : Result (Unit {0}) E)
    → ((it : T) × (xs : List A) × (it ≡ s) × P xs × MatchResult r (λ _. Drains steps it xs)
    (λ _. (t : T) × Yields steps it xs t))
    → YieldsList steps v s all → ((xs : List A) → map v xs ≡ all → P xs → Q) → OnOk r Q
extended v r ran road says = fact_from_extend v r ran (λ it b. YieldsList-at b road) says

pub returns : goal.returns
returns c =
    extended (λ w. w.now) c.extend.result c.extend.ensures.ran
    (YieldsList-from_take 19 (YieldsList-from_slice_split _ (λ x. x == 32) c.args.text.now (cc) (cc) (cc)
    (λ x b q k. search rules)) c.take.ensures.count)
    (λ xs e h. ap (map (λ w. w.now)) (h.0 ∙ ap (λ words. words ++ xs) c.requires) ∙ e)
