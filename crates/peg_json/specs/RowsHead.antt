-- Describes code: the head of a line whose tree is a list of nodes.
use Rattle.std.specs.Prelude.{ℕ, List, ◌++◌, codes, decimal}

-- the JSON of a match up to the opening bracket of the list of its nodes, with the JSON of the expected terminals
abbrev pub rows_head : (word : List ℕ) → (end far : ℕ) → (expected : List ℕ) → List ℕ
rows_head word end far expected =
    codes "{\"consumed\":" ++ (decimal end ++ (codes ",\"expected\":" ++ (expected ++ (codes ",\"far\":"
    ++ (decimal far ++ (codes ",\"result\":\"" ++ (word ++ codes "\",\"rows\":[")))))))
