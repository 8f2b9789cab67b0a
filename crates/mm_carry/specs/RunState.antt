-- What a run holds.
use Rattle.std.specs.Prelude.{List}
use Rattle.mm_carry.specs.Words.{Held, Supply, WhateverComes}
use Rattle.mm_carry.specs.declared.run_parts.RunParts.{RunParts}

-- the stores, the sources and the links of a run
pub record RunState (S L : Type 0) : Type 0 where
  pub stores : List Held
  pub sources : List S
  pub links : List L

-- what a run holds whose stores are not open
abbrev pub state_of : {S L : Type 0} → RunParts S L → RunState S L
state_of parts = record { stores = parts.stores.items; sources = parts.sources.items; links = parts.links.items }

-- the same, with what its sources give in their place
abbrev pub with_supplies : {S L : Type 0} → RunState S L → List Supply → RunState Supply L
with_supplies now given = record { stores = now.stores; sources = given; links = now.links }

-- for any later states of a run's sources: they led there before the run too, and this holds of the run before and
-- after, with what each source gives until its later state in place of the source
abbrev pub InRun : {S L : Type 0} → (S → S → Type 0) → (S → S → Supply) → RunState S L → RunState S L
    → (RunState Supply L → RunState Supply L → Type 0) → Type 0
InRun leads until before after P =
    WhateverComes leads until before.sources after.sources (λ given left. P (with_supplies before given)
    (with_supplies after left))
