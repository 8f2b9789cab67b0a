-- What a note says of a file that was read.
use Rattle.std.specs.Prelude.{string_bytes}
use Rattle.mm_files.specs.Contents.{Reading, reading}
use Rattle.mm_files.specs.declared.readings.Note.{Note}

-- what a note says was read
abbrev pub reading_of : Note → Reading
reading_of note = reading (string_bytes note.name) note.text.value.items
