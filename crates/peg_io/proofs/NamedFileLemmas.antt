-- Files that can be opened.
use Rattle.std.proofs.Common.{IfSome}
use Rattle.std.specs.declared.io.ErrorKind.{ErrorKind}
use Rattle.peg_io.specs.NamedFile.{NamedFile, Unspecified, Missing, Holds, Readable, Folder, IsMissing, open_error}

-- a file that can be opened gives no error
pub no-open_error : (file : NamedFile) (P : ErrorKind → Type 0) → ¬ IsMissing file → IfSome (open_error file) P
no-open_error Unspecified P there = tt
no-open_error (Missing kind) P there = absurd (there tt)
no-open_error (Holds bytes) P there = tt
no-open_error (Readable bytes) P there = tt
no-open_error (Folder names) P there = tt
