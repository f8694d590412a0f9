-- What is read of a file.
use Rattle.std.specs.Prelude.{◌≡◌, ◌≢◌, ◌≤◌, ℕ, List, length, take}
use Rattle.peg_io.specs.NamedFile.{NamedFile, Unspecified, Missing, Holds, Readable, Folder}
use Rattle.peg_explain_files.specs.declared.content.Content.{Content}
use Rattle.peg_explain_files.specs.declared.content.Content.TheVariants.{Bytes, Unopened, Unreadable}

-- the first bytes of a file that holds these bytes, at most `limit`; or the file can't be read
abbrev pub IsRead : (limit : ℕ) → (bytes : List ℕ) → Content → Type 0
IsRead limit bytes (Bytes held) = held.items ≡ take limit bytes
IsRead limit bytes Unopened = ⊥
IsRead limit bytes Unreadable = Unit {0}

-- what is read of a file, by what is specified of it
abbrev pub IsContentOf : (limit : ℕ) → NamedFile → Content → Type 0
IsContentOf limit Unspecified content = Unit {0}
IsContentOf limit (Missing kind) content = content ≡ Unopened
IsContentOf limit (Holds bytes) content = IsRead limit bytes content
IsContentOf limit (Readable bytes) content = IsRead limit bytes content × (content ≢ Unreadable)
IsContentOf limit (Folder names) content = Unit {0}

-- at most `limit` bytes are held
abbrev pub HoldsAtMost : (limit : ℕ) → Content → Type 0
HoldsAtMost limit (Bytes held) = length held.items ≤ limit
HoldsAtMost limit Unopened = Unit {0}
HoldsAtMost limit Unreadable = Unit {0}
