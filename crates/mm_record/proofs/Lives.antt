-- Live sources: nobody knows before what they will give.
use Rattle.mm_record.proofs.Words.{◌≡◌, ◌≢◌, ◌⊎◌, inl, inr, ℕ, ◌≤◌, List, [], ◌++◌, length, drop, Option, Some, None}
use Rattle.mm_record.proofs.Words.{IfNone, refl, sym, subst, ap, ◌∙◌, append_assoc, arith, cases_eq, drop_at}
use Rattle.mm_record.proofs.Words.{SpacePacket, Supply, Gave}
use Rattle.std.specs.Option.{option_to_list}
use Rattle.mm_record.specs.Lives.{rest, Follows}

-- what comes after a moment, where this much more was given
rest_is : (before after : Supply) (t : ℕ) (more : List SpacePacket) → after t ≡ before t ++ more
    → rest before after t ≡ more
rest_is before after t more is = ap (drop (length (before t))) is ∙ drop_at (before t) more (length (before t)) refl

-- what a live source gave, in a step, between two moments before a third
module _ (step : ℕ) (given : Option SpacePacket) (old new last : Supply)
    (here : new step ≡ old step ++ option_to_list given) (others : (t : ℕ) → t ≢ step → new t ≡ old t) where
  -- the packet, and what was given before a third moment
  whole : (more : List SpacePacket) → last step ≡ new step ++ more
      → last step ≡ old step ++ (option_to_list given ++ more)
  whole more grew = grew ∙ ap (λ (ps : List SpacePacket). ps ++ more) here
      ∙ append_assoc (old step) (option_to_list given) more

  -- what the third moment adds
  pub live_gave : (from later : ℕ) → Follows new from last later → IfNone given (last step ≡ new step)
      → Gave step given (rest old last) (rest new last)
  live_gave from later follows over = record {
    packet = rest_is old last step _ (whole (follows.more step) (follows.grew step))
        ∙ ap (λ (ps : List SpacePacket). option_to_list given ++ ps)
        (sym (rest_is new last step (follows.more step) (follows.grew step)));
    none = by_given given here over;
    others = λ t other. ap (λ (ps : List SpacePacket). drop (length ps) (last t)) (others t other);
  }
    where
      by_given : (given : Option SpacePacket) → new step ≡ old step ++ option_to_list given
          → IfNone given (last step ≡ new step) → IfNone given (rest old last step ≡ [])
      by_given None same over = rest_is old last step [] (over ∙ same)
      by_given (Some p) same over = tt

  -- what follows the second moment follows the first
  pub follows_back : (was from later : ℕ) → Follows new from last later → was ≤ from → was ≤ step
      → Follows old was last later
  follows_back was from later follows within before = record {
    more = rest old last;
    grew = λ t. by_step t (cases_eq t step);
    later_is = omega (arith, within, follows.later_is);
    over = λ t early. follows.over t (omega (arith, within, early))
        ∙ others t (λ same. omega (arith, same, early, before));
  }
    where
      grown : (t : ℕ) (more : List SpacePacket) → last t ≡ old t ++ more → last t ≡ old t ++ rest old last t
      grown t more is = is ∙ ap (λ (ps : List SpacePacket). old t ++ ps) (sym (rest_is old last t more is))

      by_step : (t : ℕ) → (t ≡ step) ⊎ (t ≡ step → ⊥) → last t ≡ old t ++ rest old last t
      by_step t (inl same) =
          subst (λ (u : ℕ). last u ≡ old u ++ rest old last u) (sym same)
          (grown step _ (whole (follows.more step) (follows.grew step)))
      by_step t (inr other) =
          grown t (follows.more t) (follows.grew t ∙ ap (λ (ps : List SpacePacket). ps ++ follows.more t)
          (others t other))
