-- What names of files ask for.
use Rattle.std.specs.Prelude.{ℕ, List, ◌++◌, Option, None, Some, codes, if◌then◌else◌, nat_eq}
use Rattle.std.specs.List.{ends_with, starts_with}
use Rattle.peg_test_files.specs.declared.wanted.Wanted.{Wanted}
use Rattle.peg_test_files.specs.declared.wanted.Wanted.TheVariants.{Match, NoMatch}

-- What the name of a file in a folder asks for: a match of the whole text, or none. Other names aren't those of texts.
abbrev pub wanted_of : (name : List ℕ) → Option Wanted
wanted_of name =
    if ends_with nat_eq name (codes ".rows") then None
    else (if starts_with nat_eq name (codes "match") then Some Match
    else (if starts_with nat_eq name (codes "no_match") then Some NoMatch else None))

-- the name by which a file in a folder is opened
abbrev pub path_of : (folder name : List ℕ) → List ℕ
path_of folder name =
    if ends_with nat_eq folder (codes "/") then folder ++ name else folder ++ codes "/" ++ name
