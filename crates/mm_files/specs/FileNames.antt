-- How the name of a file is shown.
use Rattle.std.specs.Prelude.{ℕ, List, map, if◌then◌else◌, chars, encode_utf8_all}
use Rattle.std.specs.Char.{is_ascii_control}

-- a control character of ASCII is shown as `?`
abbrev pub shown_char : ℕ → ℕ
shown_char c = if is_ascii_control c then 63 else c

-- a name, in one line
abbrev pub shown_name : List ℕ → List ℕ
shown_name name = encode_utf8_all (map shown_char (chars name))
