-- How many tests end in which way.
use Rattle.std.specs.Prelude.{ℕ, Bool, true, false, List, ◌++◌, codes, count_by}
use Rattle.std.specs.Fmt.{decimal}
use Rattle.peg_test_files.specs.declared.ends.TestEnd.{TestEnd}
use Rattle.peg_test_files.specs.declared.ends.TestEnd.TheVariants.{Passed, Failed, Ignored}

-- whether two ends are the same
abbrev pub is_end : TestEnd → TestEnd → Bool
is_end Passed Passed = true
is_end Failed Failed = true
is_end Ignored Ignored = true
is_end end other = false

-- the line with the counts
abbrev pub count_line : List TestEnd → List ℕ
count_line ends = decimal (count_by (is_end Passed) ends) ++ codes " passed, "
    ++ decimal (count_by (is_end Failed) ends) ++ codes " failed, "
    ++ decimal (count_by (is_end Ignored) ends) ++ codes " ignored\n"
