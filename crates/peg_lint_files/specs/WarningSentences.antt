-- What warnings say, in a sentence for people.
use Rattle.std.specs.Prelude.{ℕ, List, codes}
use Rattle.peg_lint.specs.declared.warning.WarningKind.{WarningKind}
use Rattle.peg_lint.specs.declared.warning.WarningKind.TheVariants as kind

-- what a warning of a kind says, and how to write the part instead
abbrev pub kind_sentence : WarningKind → List ℕ
kind_sentence kind.UnusedRule =
    codes "no parse from the start calls this rule: call it, remove it, or name the start with --start"
kind_sentence kind.NeverMatches =
    codes "this never matches: look for an item that always fails, or a rule that calls itself on every path"
kind_sentence kind.NeverTried = codes "this alternative is never tried: put the one that never fails last"
kind_sentence kind.AlwaysFails = codes "this predicate always fails: its operator may be one too many"
kind_sentence kind.NoEffect = codes "this operator has no effect: remove it"
kind_sentence kind.SameAlternative =
    codes "this alternative is an earlier one again: remove it, or change what was copied"
kind_sentence kind.Shadowed = codes "this alternative never matters: put the longer one first"
kind_sentence kind.NeverStops =
    codes "this item never matches here: a repetition gives nothing back, so exclude the item: (!'x' .)* 'x'"
kind_sentence kind.NeverFollows =
    codes "this item never matches after the one before it: remove one of the two, or exchange them"
kind_sentence kind.TakesNothing = codes "this item takes nothing after the one before it: remove one of the two"
kind_sentence kind.ReversedRange =
    codes "this range holds no byte: exchange its ends, or write the dash first in its class"
kind_sentence kind.EmptyAlternative = codes "this alternative is empty: write '' if it is meant"
kind_sentence kind.AnyAtEnd =
    codes "this dot matches a byte and ends no rule: remove it, or write (.) if it is meant"
kind_sentence kind.ClassBeginsWithCaret =
    codes "this class holds the caret: for all other bytes write !'x' . in place of [^x]"
kind_sentence kind.ClassEndsInRange =
    codes "this range goes to a closing bracket: write the dash first, or the bracket as \\]"
kind_sentence kind.RangeOverSigns =
    codes "this range goes over signs: write [A-Za-z] in place of [A-z], or the dash first"
kind_sentence kind.HoldsLineEnd = codes "this goes over the end of a line: write \\n or \\r"
kind_sentence kind.HighBytesInClass =
    codes "a class holds bytes, and a letter beyond ASCII has several: write a literal, or a byte as \\xE9"
kind_sentence kind.BlanksInClass = codes "the class holds the spaces at its ends: remove them, or write \\x20"
kind_sentence kind.RepeatedByte = codes "the class holds a byte of this already: a class has no commas and no names"

-- what is said of the part that causes a warning of a kind; the other kinds have no such part
abbrev pub cause_sentence : WarningKind → List ℕ
cause_sentence kind.NeverTried = codes "this alternative never fails"
cause_sentence kind.SameAlternative = codes "this alternative is the same"
cause_sentence kind.Shadowed = codes "this alternative matches wherever that one does"
cause_sentence kind.NeverStops = codes "this repetition only ends where that item fails"
cause_sentence kind.NeverFollows = codes "this item only ends where that item fails"
cause_sentence kind.TakesNothing = codes "this item only ends where that item takes no byte"
cause_sentence other = codes "this is the cause"
