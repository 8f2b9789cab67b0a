-- The setup that bytes spell, read in the order in which faults are found.
use Rattle.std.specs.Prelude.{ℕ, ◌≤◌, nat_le, ◌&&◌, if◌then◌else◌, List, [], ◌∷◌, length, Result, Ok, Err, bytes_eq}
use Rattle.std.specs.Option.{ok_or, option_map_or}
use Rattle.std.specs.Str.{is_utf8}
use Rattle.toml.specs.Data.{Data, Members, as_str}
use Rattle.toml.specs.Parse.{parse_document}
use Rattle.mm_problem.specs.declared.come.Arrivals.{Arrivals}
use Rattle.mm_problem.specs.declared.come.Arrivals.TheVariants.{Before, During}
use Rattle.mm_problem.specs.declared.fault.Fault.{Fault}
use Rattle.mm_problem.specs.declared.fault.Fault.TheVariants.{SetupText, SetupField, Limit}
use Rattle.mm_problem.specs.declared.fault.Name.{Name}
use Rattle.mm_problem.specs.declared.fault.Name.TheVariants as name
use Rattle.mm_base.specs.declared.limits.TheConstants.{MAX_STORES, MAX_ROUTES, CHANNELS}
use Rattle.mm_problem.specs.Come.{word_of}
use Rattle.mm_problem.specs.Keys.{has_only, value_at, array_at, array_if_any}
use Rattle.mm_base.specs.Reading.{◌>>=◌, test}
use Rattle.mm_problem.specs.Setup.{SetupRows}
use Rattle.mm_problem.specs.Tables.{stores_in, routes_in, limits_in}

-- the elements of the arrays of a document, and when the arrivals of a step come
pub record Lists : Type 0 where
  pub stores : List Data
  pub routes : List Data
  pub limits : List Data
  pub come : Arrivals

-- the keys of a document
abbrev pub document_keys : List Name
document_keys = name.Store ∷ name.Route ∷ name.Limit ∷ name.Arrivals ∷ []

-- when arrivals come, by a word
abbrev pub come_of : List ℕ → Result Arrivals Fault
come_of word =
    if bytes_eq word (word_of Before) then Ok Before
    else if bytes_eq word (word_of During) then Ok During
    else Err (SetupField 0 name.Arrivals)

-- when arrivals come, by a value that is a word
unfoldable pub come_from : Data → Result Arrivals Fault
come_from d = do
  word ← ok_or (as_str d) (SetupField 0 name.Arrivals)
  come_of word

-- when arrivals come, by the key of the document; before dumps, if the key is missing
abbrev pub come_at : Members → Result Arrivals Fault
come_at document = option_map_or come_from (value_at name.Arrivals document) (Ok Before)

-- the values at the keys of a document
unfoldable pub lists_at : Members → Result Lists Fault
lists_at document = do
  known ← test (has_only document_keys document) (SetupField 0 name.Unknown)
  stores ← array_at name.Store document
  routes ← array_if_any name.Route document
  limits ← array_if_any name.Limit document
  come ← come_at document
  Ok (record { stores = stores; routes = routes; limits = limits; come = come })

-- at least one store, and no more tables than a setup may have
pub record AreCounted (lists : Lists) : Type 0 where
  pub has_store : 1 ≤ length lists.stores
  pub stores : length lists.stores ≤ MAX_STORES
  pub routes : length lists.routes ≤ MAX_ROUTES
  pub limits : length lists.limits ≤ CHANNELS

-- the test of the number of stores
abbrev pub stores_counted : ℕ → Result (Unit {0}) Fault
stores_counted n = test (nat_le 1 n && nat_le n MAX_STORES) (Limit name.Stores)

-- the test of the number of limits
abbrev pub limits_counted : ℕ → Result (Unit {0}) Fault
limits_counted n = test (nat_le n CHANNELS) (Limit name.Limits)

-- the tests of these numbers
unfoldable pub counts_of : Lists → Result (Unit {0}) Fault
counts_of lists = do
  stores ← stores_counted (length lists.stores)
  routes ← test (nat_le (length lists.routes) MAX_ROUTES) (Limit name.Routes)
  limits_counted (length lists.limits)

-- the rows of all tables
unfoldable pub rows_of : Lists → Result SetupRows Fault
rows_of lists = do
  stores ← stores_in lists.stores
  routes ← routes_in stores lists.routes
  limits ← limits_in lists.limits
  Ok (record { stores = stores; routes = routes; limits = limits; come = lists.come })

-- the setup of a document
unfoldable pub setup_in : Members → Result SetupRows Fault
setup_in document = do
  lists ← lists_at document
  counted ← counts_of lists
  rows_of lists

-- bytes as a text
abbrev pub text_of : List ℕ → Result (List ℕ) Fault
text_of octets = if is_utf8 octets then Ok octets else Err SetupText

-- the document that bytes spell
unfoldable pub document_of : List ℕ → Result Members Fault
document_of octets = do
  text ← text_of octets
  ok_or (parse_document text) SetupText

-- the setup that bytes spell
unfoldable pub setup_of : List ℕ → Result SetupRows Fault
setup_of octets = do
  document ← document_of octets
  setup_in document
