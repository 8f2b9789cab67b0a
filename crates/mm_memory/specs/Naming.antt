-- The store whose identifier has a text.
use Rattle.std.specs.Prelude.{◌≡◌, if◌then◌else◌}
use Rattle.mm_memory.specs.Words.{ℕ, List, Option, None, option_map, Held, State}
use Rattle.mm_base.specs.Id.{is_id_text, field_of, IsIdText, IsIdField}
use Rattle.mm_memory.specs.Holdings.{Holdings, StandsAt, store_of}

-- the store whose identifier has this text; none where the text is no identifier's
abbrev pub store_of_text : List ℕ → List Held → Option Held
store_of_text text stores = if is_id_text text then store_of (field_of text) stores else None

-- the state of the store whose identifier has this text
abbrev pub state_of_text : List ℕ → Holdings → Option State
state_of_text text memory = option_map (λ h. h.state) (store_of_text text memory.stores)

-- the text padded with spaces, which is an identifier's field only where the text is an identifier's
pub record IsPadded (text field : List ℕ) : Type 0 where
  pub padded : field ≡ field_of text
  pub is_text : IsIdField field → IsIdText text

-- the text is an identifier's, and the store with it stands at this place
pub record NamesAt (text : List ℕ) (stores : List Held) (place : ℕ) : Type 0 where
  pub is_text : IsIdText text
  pub stands : StandsAt (field_of text) stores place
