-- The characters that texts are made of.
use Rattle.std.specs.Prelude.{ℕ}

-- the line feed, which ends a line
abbrev pub line_feed : ℕ
line_feed = 10

-- the space, which stands between words
abbrev pub space : ℕ
space = 32
