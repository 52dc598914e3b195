-- The status of a program that has no words.
use Rattle.std.specs.Prelude.{ℕ}
use Rattle.std.specs.declared.io.ErrorKind.{ErrorKind}
use Rattle.std.specs.declared.io.ErrorKind.TheVariants.{OutOfMemory}

-- out of memory, or a word that isn't text
abbrev pub status_without_words : ErrorKind → ℕ
status_without_words OutOfMemory = 7
status_without_words _ = 2
