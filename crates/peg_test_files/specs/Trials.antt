-- What is found of a file in a folder, and what is printed of it.
use Rattle.std.specs.Prelude.{ℕ, List, [], codes}
use Rattle.std.specs.List.{fold}
use Rattle.peg_explain_files.specs.Entries.{entry_fault, entry_message, entry_name, entry_verdict, message_of, named_line}
use Rattle.peg_explain_files.specs.Entries.{program_line, verdict_of}
use Rattle.peg_explain_files.specs.Verdicts.{worse}
use Rattle.peg_explain_files.specs.declared.ended.Verdict.{Verdict}
use Rattle.peg_explain_files.specs.declared.ended.Verdict.TheVariants.{Matches, Differs, Unreadable}
use Rattle.peg_explain_files.specs.declared.entry.Entry.{Entry}
use Rattle.peg_explain_files.specs.declared.reports.TextReport.{TextReport}
use Rattle.peg_explain_files.specs.declared.reports.TextReport.TheVariants as report
use Rattle.peg_test_files.specs.declared.ends.TestEnd.{TestEnd}
use Rattle.peg_test_files.specs.declared.ends.TestEnd.TheVariants as end
use Rattle.peg_test_files.specs.declared.trial.Trial.{Trial}
use Rattle.peg_test_files.specs.declared.trial.Trial.TheVariants.{Ignored, Unlisted, Tried}
use Rattle.peg_test_files.specs.declared.wanted.Wanted.{Wanted}
use Rattle.peg_test_files.specs.declared.wanted.Wanted.TheVariants.{Match, NoMatch}

-- ---- what is printed on the output

-- the message of a text that matches, though its name says that it doesn't
abbrev pub wrong_match : (name : List ℕ) → List ℕ
wrong_match name = named_line name (codes ": the text matches, and its name says that it doesn't\n")

-- what is printed of a text that shouldn't match: nothing where it differs
abbrev pub unmatched_message : (name : List ℕ) → TextReport → List ℕ
unmatched_message name report.Matches = wrong_match name
unmatched_message name (report.Differs message) = []
unmatched_message name other = message_of name other

-- what is printed of a text whose name asks for this: of one that should match, what `explain` prints
abbrev pub tried_message : Wanted → Entry → List ℕ
tried_message Match entry = entry_message entry
tried_message NoMatch entry = unmatched_message (entry_name entry) entry.report

abbrev pub trial_message : Trial → List ℕ
trial_message Ignored = []
trial_message (Unlisted folder) = []
trial_message (Tried wanted entry) = tried_message wanted entry

-- ---- what is printed on standard error

abbrev pub trial_fault : Trial → List ℕ
trial_fault Ignored = []
trial_fault (Unlisted folder) = program_line folder.now (codes ": can't be read\n")
trial_fault (Tried wanted entry) = entry_fault entry

-- ---- verdicts

-- the verdict of a text that shouldn't match
abbrev pub unmatched_verdict : TextReport → Verdict
unmatched_verdict report.Matches = Differs
unmatched_verdict (report.Differs message) = Matches
unmatched_verdict other = verdict_of other

-- the verdict of a text whose name asks for this
abbrev pub tried_verdict : Wanted → Entry → Verdict
tried_verdict Match entry = entry_verdict entry
tried_verdict NoMatch entry = unmatched_verdict entry.report

abbrev pub trial_verdict : Trial → Verdict
trial_verdict Ignored = Matches
trial_verdict (Unlisted folder) = Unreadable
trial_verdict (Tried wanted entry) = tried_verdict wanted entry

-- the worst verdict of all, after this one
abbrev pub worst_after : Verdict → List Trial → Verdict
worst_after verdict trials = fold (λ worst trial. worse worst (trial_verdict trial)) verdict trials

-- ---- how tests end

-- a text passes if its verdict is the best one
abbrev pub end_of : Verdict → TestEnd
end_of Matches = end.Passed
end_of other = end.Failed

abbrev pub trial_end : Trial → TestEnd
trial_end Ignored = end.Ignored
trial_end (Unlisted folder) = end.Failed
trial_end (Tried wanted entry) = end_of (tried_verdict wanted entry)
