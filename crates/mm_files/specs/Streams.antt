-- When the name `-` is that of a standard stream, and no file's.
use Rattle.std.specs.Prelude.{◌&&◌, ℕ, Bool, List, codes, bytes_eq}

-- the name of standard input, and of standard output
abbrev pub stream_name : List ℕ
stream_name = codes "-"

-- the name is that of a stream, where there are streams
abbrev pub is_stream : Bool → List ℕ → Bool
is_stream streams name = streams && bytes_eq name stream_name
