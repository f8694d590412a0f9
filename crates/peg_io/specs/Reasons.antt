-- The words for the kinds of errors of files, as the C library of the system has them.
use Rattle.std.specs.Prelude.{ℕ, List, codes}
use Rattle.std.specs.declared.io.ErrorKind.{ErrorKind}
use Rattle.std.specs.declared.io.ErrorKind.TheVariants as kind

-- what is said of an error of a kind
abbrev pub reason_of : ErrorKind → List ℕ
reason_of kind.NotFound = codes "No such file or directory"
reason_of kind.PermissionDenied = codes "Permission denied"
reason_of kind.NotADirectory = codes "Not a directory"
reason_of kind.IsADirectory = codes "Is a directory"
reason_of kind.FilesystemLoop = codes "Too many levels of symbolic links"
reason_of kind.InvalidFilename = codes "File name too long"
reason_of kind.InvalidInput = codes "Invalid argument"
reason_of kind.StorageFull = codes "No space left on device"
reason_of kind.QuotaExceeded = codes "Disk quota exceeded"
reason_of kind.FileTooLarge = codes "File too large"
reason_of kind.ReadOnlyFilesystem = codes "Read-only file system"
reason_of kind.ResourceBusy = codes "Device or resource busy"
reason_of kind.WouldBlock = codes "Resource temporarily unavailable"
reason_of kind.BrokenPipe = codes "Broken pipe"
reason_of kind.Interrupted = codes "Interrupted system call"
reason_of kind.WriteZero = codes "No byte was written"
reason_of _ = codes "Unknown error"
