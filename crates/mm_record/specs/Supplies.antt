-- What sources still give, whether it is known before or not.
use Rattle.std.specs.Prelude.{◌≡◌, ◌≢◌, ℕ, List, [], ◌∷◌, ◌++◌, Option, IfNone}
use Rattle.mm_record.specs.Words.{AllZip, option_to_list, SpacePacket}

-- what a source still gives, in each step
abbrev pub Supply : Type 0
Supply = ℕ → List SpacePacket

-- a source with the first supply gave one packet of a step, or had none of it left, and has the second supply
pub record Gave (step : ℕ) (given : Option SpacePacket) (before after : Supply) : Type 0 where
  pub packet : before step ≡ option_to_list given ++ after step
  pub none : IfNone given (before step ≡ [])
  pub others : (t : ℕ) → t ≢ step → after t ≡ before t

-- what each of these sources gives until it is as the last one at its place
abbrev pub supplies : {S : Type 0} → (S → S → Supply) → List S → List S → List Supply
supplies until [] lasts = []
supplies until (s ∷ ss) [] = []
supplies until (s ∷ ss) (last ∷ lasts) = until s last ∷ supplies until ss lasts

-- for any later states of these sources: they led there before too, and this holds of what each source gives until its
-- later state, counted from before and counted from now
abbrev pub WhateverComes : {S : Type 0} → (S → S → Type 0) → (S → S → Supply) → List S → List S
    → (List Supply → List Supply → Type 0) → Type 0
WhateverComes leads until before after P =
    (lasts : List _) → AllZip leads after lasts
    → AllZip leads before lasts × P (supplies until before lasts) (supplies until after lasts)
