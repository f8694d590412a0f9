-- What is reported of the results of requests.
use Rattle.std.proofs.Common.{◌≡◌, ◌∙◌, ℕ, Err, IfErr, IsErrAnd, List, Ok, Result, ap, subst, sym}
use Rattle.peg_tool.specs.CommandOutcome.{done_result, found_result}
use Rattle.peg_tool.specs.Faults.{IsFaultAmong, plain_fault, plain_result}
use Rattle.peg_tool.specs.declared.fault.RequestFault.{RequestFault}
use Rattle.peg_tool.specs.declared.report.Findings.{Findings}
use Rattle.peg_tool.specs.declared.report.Report.{Report}
use Rattle.peg_tool.specs.declared.report.Report.TheVariants as report

-- an exit status is reported, and a fault is passed on
pub done-status : (ended : Result ℕ RequestFault) (status : ℕ) → ended ≡ Ok status
    → Ok (report.Done status) ≡ done_result (plain_result ended)
done-status ended status was = sym (ap (λ r. done_result (plain_result r)) was)

pub done-fault : (ended : Result ℕ RequestFault) (fault : RequestFault) (result : Result Report RequestFault)
    → ended ≡ Err fault → IsErrAnd result (λ stated. stated ≡ fault)
    → plain_result result ≡ done_result (plain_result ended)
done-fault ended fault (Ok it) was is = absurd is
done-fault ended fault (Err stated) was is =
    ap (λ f. Err (plain_fault f)) is ∙ sym (ap (λ r. done_result (plain_result r)) was)

-- the same for the findings of an explanation or a coverage
pub found-findings : (ended : Result Findings RequestFault) (findings : Findings) → ended ≡ Ok findings
    → Ok (report.Found findings) ≡ found_result (plain_result ended)
found-findings ended findings was = sym (ap (λ r. found_result (plain_result r)) was)

pub found-fault : (ended : Result Findings RequestFault) (fault : RequestFault) (result : Result Report RequestFault)
    → ended ≡ Err fault → IsErrAnd result (λ stated. stated ≡ fault)
    → plain_result result ≡ found_result (plain_result ended)
found-fault ended fault (Ok it) was is = absurd is
found-fault ended fault (Err stated) was is =
    ap (λ f. Err (plain_fault f)) is ∙ sym (ap (λ r. found_result (plain_result r)) was)

-- a fault that is passed on is among the same names
pub passed-among : (names : List (List ℕ)) (fault : RequestFault) (result : Result Report RequestFault)
    → IsFaultAmong names fault → IsErrAnd result (λ stated. stated ≡ fault) → IfErr result (IsFaultAmong names)
passed-among names fault (Ok it) among is = absurd is
passed-among names fault (Err stated) among is = subst (IsFaultAmong names) (sym is) among
