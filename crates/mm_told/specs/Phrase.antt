-- What the words of a refusal are made of.
use Rattle.std.specs.Prelude.{ℕ, Bool, ◌==◌, nat_le, not, ◌&&◌, List, length}
use Rattle.std.specs.List.{list_all}

-- a space or a visible character of ASCII: no line ends there, and any terminal shows it
abbrev pub is_printable : ℕ → Bool
is_printable c = nat_le 32 c && nat_le c 126

-- something that can stand inside a line: printable characters, one at least and 160 at most
abbrev pub is_phrase : List ℕ → Bool
is_phrase text = not (length text == 0) && nat_le (length text) 160 && list_all is_printable text
