-- Describes code: the names in the set of names, and the key of its hashes.
use Rattle.std.specs.Prelude.{ℕ, List, [], ◌∷◌, ◌++◌, map, string_bytes}
use Rattle.std.specs.Borrow.{Bor}
use Rattle.std.specs.Hash.DefaultHasher.{initial, write}
use Rattle.std.specs.declared.alloc.Global.{Global}
use Rattle.std.specs.declared.hash.DefaultHasher.{DefaultHasher}
use Rattle.std.specs.declared.string.String.{String}
use Rattle.indexmap.specs.IndexSet.{IndexSet}
use Rattle.peg_bytes.specs.Extent.{extent}
use Rattle.peg_bytes.specs.declared.span.Span.{Span}
use Rattle.peg_semantics.specs.Form.{Reference}

-- the names in a set as bytes, in the set's order
abbrev pub names_in : {S : Type 0} → IndexSet (String Global) S → List (List ℕ)
names_in set = map string_bytes set.keys

-- the reference in a pair of a name and a span
abbrev pub reference_of : Bor (List ℕ) × Span → Reference
reference_of pair = record { name = pair.0.now; span = extent pair.1 }

-- the names one after the other, each ended by a zero byte
abbrev pub ended_names : List (List ℕ) → List ℕ
ended_names [] = []
ended_names (name ∷ names) = name ++ 0 ∷ ended_names names

-- a hasher of names that has already read the key
abbrev pub keyed_hasher : List ℕ → DefaultHasher
keyed_hasher key = write initial key
