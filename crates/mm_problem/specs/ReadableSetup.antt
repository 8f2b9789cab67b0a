-- Readable setups, as facts on their documents.
use Rattle.std.specs.Prelude.{◌≡◌, ℕ, ◌≤◌, pos, List, [], map, Option, Some, None, All, Contains, IsUtf8}
use Rattle.std.specs.List.{AllZip}
use Rattle.toml.specs.Data.{Data, string, integer, array, table, Items, Members}
use Rattle.toml.specs.Parse.{parse_document}
use Rattle.mm_problem.specs.declared.come.Arrivals.{Arrivals}
use Rattle.mm_problem.specs.declared.come.Arrivals.TheVariants.{Before}
use Rattle.mm_problem.specs.declared.fault.Name.{Name}
use Rattle.mm_problem.specs.declared.fault.Name.TheVariants as name
use Rattle.mm_base.specs.declared.rows.StoreRow.{StoreRow}
use Rattle.mm_base.specs.declared.rows.RouteRow.{RouteRow}
use Rattle.mm_base.specs.declared.rows.LimitRow.{LimitRow}
use Rattle.mm_base.specs.Id.{IsIdText, field_of}
use Rattle.mm_base.specs.Kind.{word_of}
use Rattle.mm_problem.specs.Come.{word_of as word_of_come}
use Rattle.mm_problem.specs.Keys.{elements, keys_of, value_at}
use Rattle.mm_problem.specs.Name.{text_of}
use Rattle.mm_problem.specs.Setup.{SetupRows, IsSetup}
use Rattle.mm_problem.specs.Tables.{store_keys, route_keys, limit_keys}
use Rattle.mm_problem.specs.Document.{document_keys}

-- each key of the table is one of these names
abbrev pub HasOnly : List Name → Members → Type 0
HasOnly names ms = All (Contains (map text_of names)) (keys_of ms)

-- the key has this text
abbrev pub SaysText : Members → Name → List ℕ → Type 0
SaysText ms name text = value_at name ms ≡ Some (string text)

-- the key has this whole number
abbrev pub SaysNumber : Members → Name → ℕ → Type 0
SaysNumber ms name n = value_at name ms ≡ Some (integer (pos n))

-- the key has the text of this identifier
pub record SaysId (ms : Members) (name : Name) (id : List ℕ) : Type 0 where
  pub text : List ℕ
  pub says : SaysText ms name text
  pub well_formed : IsIdText text
  pub padded : id ≡ field_of text

-- the key has this whole number, or is missing and stands for 0
abbrev pub SaysNumberIfAny : Option Data → ℕ → Type 0
SaysNumberIfAny None n = n ≡ 0
SaysNumberIfAny (Some d) n = d ≡ integer (pos n)

-- the table is that of this store
pub record SaysStore (ms : Members) (r : StoreRow) : Type 0 where
  pub only : HasOnly store_keys ms
  pub id : SaysId ms name.Id r.id
  pub size : SaysNumber ms name.Size r.size
  pub kind : SaysText ms name.Type (word_of r.kind)
  pub channel : SaysNumber ms name.Channel r.channel
  pub start : SaysNumberIfAny (value_at name.Start ms) r.start

-- the key has this number of one octet
pub record SaysOctet (ms : Members) (name : Name) (n : ℕ) : Type 0 where
  pub says : SaysNumber ms name n
  pub octet : n ≤ 255

-- the table is that of this route
pub record SaysRoute (ms : Members) (r : RouteRow) : Type 0 where
  pub only : HasOnly route_keys ms
  pub apid : SaysNumber ms name.Apid r.apid
  pub service : SaysOctet ms name.Service r.service
  pub subtype : SaysOctet ms name.Subtype r.subtype
  pub store : SaysId ms name.Store r.store

-- the table is that of this limit
pub record SaysLimit (ms : Members) (r : LimitRow) : Type 0 where
  pub only : HasOnly limit_keys ms
  pub channel : SaysNumber ms name.Channel r.channel
  pub blocks : SaysNumber ms name.Blocks r.blocks

-- the value is the table of a row
pub record IsTableOf {R : Type 0} (Says : Members → R → Type 0) (d : Data) (r : R) : Type 0 where
  pub members : Members
  pub is_table : d ≡ table members
  pub says : Says members r

-- the value is an array with a table for each of these rows, in order
pub record IsArrayOf {R : Type 0} (Says : Members → R → Type 0) (d : Data) (rows : List R) : Type 0 where
  pub items : Items
  pub is_array : d ≡ array items
  pub each : AllZip (IsTableOf Says) (elements items) rows

-- the key has an array with a table for each of these rows
pub record SaysRows {R : Type 0} (Says : Members → R → Type 0) (document : Members) (name : Name) (rows : List R) : Type
    0 where
  pub value : Data
  pub has : value_at name document ≡ Some value
  pub is : IsArrayOf Says value rows

-- the same, or the key is missing and there are no rows
abbrev pub SaysRowsIfAny : {R : Type 0} → (Members → R → Type 0) → Option Data → List R → Type 0
SaysRowsIfAny Says None rows = rows ≡ []
SaysRowsIfAny Says (Some d) rows = IsArrayOf Says d rows

-- the key says when arrivals come, or is missing, and they come before dumps
abbrev pub SaysArrivals : Option Data → Arrivals → Type 0
SaysArrivals None come = come ≡ Before
SaysArrivals (Some d) come = d ≡ string (word_of_come come)

-- the document has these rows, and they are those of a setup within all ranges
pub record IsReadableDocument (document : Members) (m : SetupRows) : Type 0 where
  pub only : HasOnly document_keys document
  pub stores : SaysRows SaysStore document name.Store m.stores
  pub routes : SaysRowsIfAny SaysRoute (value_at name.Route document) m.routes
  pub limits : SaysRowsIfAny SaysLimit (value_at name.Limit document) m.limits
  pub come : SaysArrivals (value_at name.Arrivals document) m.come
  pub within : IsSetup m

-- the bytes are the text of a document with these rows
pub record IsReadableSetup (octets : List ℕ) (m : SetupRows) : Type 0 where
  pub utf8 : IsUtf8 octets
  pub document : Members
  pub parsed : parse_document octets ≡ Some document
  pub readable : IsReadableDocument document m
