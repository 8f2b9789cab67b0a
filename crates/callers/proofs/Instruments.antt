-- What instruments gave that had given nothing.
use Rattle.std.proofs.Common.{◌≡◌, List, [], ◌∷◌, length, drop, map, All, refl, ap, arith}
use Rattle.std.proofs.lemmas.List.Elements.{All-head, All-tail}
use Rattle.mm_packet.specs.Packet.{SpacePacket}
use Rattle.mm_record.specs.Lives.{rest}
use Rattle.mm_record.specs.Supplies.{Supply, supplies}
use Rattle.callers.specs.Instruments.{nothing}

-- nothing stands after a whole list
drop_whole : (xs : List SpacePacket) → drop (length xs) xs ≡ []
drop_whole [] = refl
drop_whole (x ∷ xs) = drop_whole xs

module _ {X : Type 0} (gave : X → Supply) where
  -- what those gave until then that had given nothing is all that they gave
  pub all_given : (xs lasts : List X) → All (λ x. gave x ≡ nothing) xs → length xs ≡ length lasts → supplies (λ x last. rest (gave x) (gave last)) xs lasts ≡ map gave lasts
  all_given [] [] none same = refl
  all_given [] (last ∷ lasts) none same = absurd (omega arith)
  all_given (x ∷ xs) [] none same = absurd (omega arith)
  all_given (x ∷ xs) (last ∷ lasts) none same =
      let first : rest (gave x) (gave last) ≡ gave last = ap (λ (g : Supply). rest g (gave last)) (All-head (λ x. gave x ≡ nothing) x xs none) in
      let others = all_given xs lasts (All-tail (λ x. gave x ≡ nothing) x xs none) (omega arith) in
      λ i. first i ∷ others i

  -- nothing comes until they are as they are
  pub none_left : (xs : List X) → supplies (λ x last. rest (gave x) (gave last)) xs xs ≡ map (λ x. nothing) xs
  none_left [] = refl
  none_left (x ∷ xs) =
      let first : rest (gave x) (gave x) ≡ nothing = λ i t. drop_whole (gave x t) i in
      let others = none_left xs in
      λ i. first i ∷ others i
