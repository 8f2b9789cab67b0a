-- Whether reads of an input have failed.
use Rattle.std.specs.Prelude.{ℕ, Bool, true, false, not, ◌||◌, Result, Ok, Err}
use Rattle.std.specs.IoError.{error_kind}
use Rattle.std.specs.declared.io.Error.{Error}
use Rattle.std.specs.declared.io.ErrorKind.{ErrorKind}
use Rattle.std.specs.declared.io.ErrorKind.TheVariants.{Interrupted}

-- a read that was interrupted can be made again
abbrev pub is_interrupted : ErrorKind → Bool
is_interrupted Interrupted = true
is_interrupted kind = false

-- whether a read has failed, this one or one before it
abbrev pub failed_after : Bool → Result ℕ Error → Bool
failed_after failed (Ok count) = failed
failed_after failed (Err error) = not (is_interrupted (error_kind error)) || failed
