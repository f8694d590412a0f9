-- Explanations of texts, and the faults that are left for them.
use Rattle.std.proofs.Common.{◌≡◌, ◌∙◌, ◌⊎◌, inl, inr, ℕ, ◌<◌, ◌≤◌, List, IfErr, IfSome, IsErrAnd, IsErrOf, Option, None, Some}
use Rattle.std.proofs.Common.{Result, Ok, Err, arith, length, refl, subst, sym}
use Rattle.peg_explain.specs.Explanations.{IsMismatchIn}
use Rattle.peg_explain.specs.declared.mismatch.Mismatch.{Mismatch}
use Rattle.peg_grammar.specs.Limits.{max_text_bytes}
use Rattle.peg_parser.specs.Parser.{parser_rules}
use Rattle.peg_parser.specs.declared.parser.ParseFault.{ParseFault}
use Rattle.peg_parser.specs.declared.parser.ParseFault.TheVariants as fault
use Rattle.peg_handle.specs.Explanations.{Explains, named_style}
use Rattle.peg_handle.specs.declared.content.Explanation.{Explanation}
use Rattle.peg_handle.specs.declared.content.GrammarFile.{GrammarFile}

-- the faults of a start that has a rule, and of a text that isn't too long
pub other-faults : {V : Type 0} (found : Option (List ℕ)) (from text : List ℕ) (why : ParseFault) → found ≡ Some from
    → length text ≤ max_text_bytes → (IsErrOf {T = V} (Err why) fault.NoSuchStart → found ≡ None)
    → (IsErrOf {T = V} (Err why) fault.TextTooLong → max_text_bytes < length text)
    → (why ≡ fault.StepLimit) ⊎ (why ≡ fault.Memory)
other-faults found from text fault.NoSuchStart is within none long =
    absurd (let no : None ≡ Some from = sym (none refl) ∙ is in cc)
other-faults found from text fault.TextTooLong is within none long =
    absurd (let over : max_text_bytes < length text = long refl in omega (arith, over, within))
other-faults found from text fault.StepLimit is within none long = inl refl
other-faults found from text fault.Memory is within none long = inr refl

-- an error that is passed on has the property of the error
pub passed-on : {V : Type 0} (P : ParseFault → Type 0) (result : Result V ParseFault) (why : ParseFault)
    → IsErrAnd result (λ stated. stated ≡ why) → P why → IfErr result P
passed-on P (Ok x) why is holds = tt
passed-on P (Err other) why is holds = subst P (sym is) holds

-- the mismatch in a text from a start, in the style of a handle
abbrev pub IsMismatchOf : GrammarFile → (text : List ℕ) → Option Mismatch → (from : List ℕ) → Type 0
IsMismatchOf grammar text mismatch from =
    IsMismatchIn (parser_rules grammar.parser) named_style text from mismatch

-- a mismatch and what shows it are an explanation
pub explains : (grammar : GrammarFile) (name text : List ℕ) (found : Option (List ℕ)) (mismatch : Option Mismatch)
    (explanation : Option Explanation)
    → IfSome found (IsMismatchOf grammar text mismatch)
    → Explains grammar.bytes.items (parser_rules grammar.parser) name text mismatch explanation
    → IfSome found (λ from. (m : Option Mismatch) × IsMismatchOf grammar text m from
    × Explains grammar.bytes.items (parser_rules grammar.parser) name text m explanation)
explains grammar name text None mismatch explanation is shows = tt
explains grammar name text (Some from) mismatch explanation is shows = (mismatch, is, shows)
