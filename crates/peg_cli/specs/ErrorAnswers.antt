-- Describes code: what is made of an error of the argument parser.
use Rattle.std.specs.Prelude.{◌≡◌, ◌≢◌, Result, Ok, Err}
use Rattle.clap.specs.declared.error.kind.ErrorKind.{ErrorKind}
use Rattle.clap.specs.declared.error.kind.ErrorKind.TheVariants as kind
use Rattle.peg_cli.specs.declared.words.Words.{Words}
use Rattle.peg_cli.specs.declared.words.Words.TheVariants.{Help}
use Rattle.peg_cli.specs.declared.words.WordsFault.{WordsFault}
use Rattle.peg_cli.specs.declared.words.WordsFault.TheVariants.{Usage, Memory}

-- help is requested
abbrev pub IsHelp : Words → Type 0
IsHelp (Help text) = Unit {0}
IsHelp other = ⊥

-- A request for help is help. No memory is no memory, and each other error is a usage error. Any of them may be without
-- memory for its text.
abbrev pub IsAnswerToError : ErrorKind → Result Words WordsFault → Type 0
IsAnswerToError found (Ok words) = (found ≡ kind.DisplayHelp) × IsHelp words
IsAnswerToError found (Err (Usage text)) = (found ≢ kind.DisplayHelp) × (found ≢ kind.OutOfMemory)
IsAnswerToError found (Err Memory) = Unit {0}
