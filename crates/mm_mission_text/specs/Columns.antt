-- The columns of the tables of a mission, and the keys of its text.
use Rattle.std.specs.Prelude.{ℕ, Bool, List, [], ◌∷◌, Option, Some, None, codes, bytes_eq}
use Rattle.std.specs.List.{list_any}
use Rattle.mm_mission_text.specs.declared.column.Column.{Column}
use Rattle.mm_mission_text.specs.declared.column.Column.TheVariants as column

-- the name of a column in a header, and of a key in a text
unfoldable pub name_of : Column → List ℕ
name_of column.Id = codes "id"
name_of column.Size = codes "size"
name_of column.Type = codes "type"
name_of column.Channel = codes "channel"
name_of column.Holds = codes "holds"
name_of column.Packet = codes "packet"
name_of column.Name = codes "name"
name_of column.Station = codes "station"
name_of column.Store = codes "store"
name_of column.Begin = codes "begin"
name_of column.End = codes "end"
name_of column.Rate = codes "rate"
name_of column.Volume = codes "volume"
name_of column.Channel0 = codes "channel:0"
name_of column.Channel1 = codes "channel:1"
name_of column.Channel2 = codes "channel:2"
name_of column.Channel3 = codes "channel:3"
name_of column.Channel4 = codes "channel:4"
name_of column.Channel5 = codes "channel:5"
name_of column.Channel6 = codes "channel:6"
name_of column.Channel7 = codes "channel:7"
name_of column.Channels = codes "channels"
name_of column.Block = codes "block"
name_of column.Overlap = codes "overlap"
name_of column.Unit = codes "unit"
name_of column.Pass = codes "pass"
name_of column.Observation = codes "observation"
name_of column.Stores = codes "stores"
name_of column.Stations = codes "stations"
name_of column.Passes = codes "passes"
name_of column.Observations = codes "observations"

-- the key of a channel's rate in the table `channels`
unfoldable pub channel_key : Column → Option (List ℕ)
channel_key column.Channel0 = Some (codes "0")
channel_key column.Channel1 = Some (codes "1")
channel_key column.Channel2 = Some (codes "2")
channel_key column.Channel3 = Some (codes "3")
channel_key column.Channel4 = Some (codes "4")
channel_key column.Channel5 = Some (codes "5")
channel_key column.Channel6 = Some (codes "6")
channel_key column.Channel7 = Some (codes "7")
channel_key other = None

-- whether two columns have one name
abbrev pub is_same : Column → Column → Bool
is_same a b = bytes_eq (name_of a) (name_of b)

-- whether a text is the name of one of these
abbrev pub is_named : List Column → List ℕ → Bool
is_named columns name = list_any (λ column. bytes_eq (name_of column) name) columns

-- the columns that have names, identifiers and words
abbrev pub word_columns : List Column
word_columns =
    column.Id ∷ column.Type ∷ column.Name ∷ column.Station ∷ column.Store ∷ column.Overlap ∷ []
