-- A file has one reading.
use Rattle.std.proofs.Common.{◌≡◌, ◌≢◌, ◌∙◌, ℕ, ◌<◌, ◌≤◌, List, length, codes, Result, Err, ap, arith, refl, sym}
use Rattle.peg_bytes.specs.Extent.{between}
use Rattle.peg_semantics.specs.Form.{Name}
use Rattle.peg_semantics.specs.Record.{Matched, Record}
use Rattle.peg_semantics.specs.Rules.{Rule}
use Rattle.peg_semantics.proofs.RecordLemmas.{one_record}
use Rattle.peg_metagrammar.specs.Denotation.{rules_spelled}
use Rattle.peg_metagrammar.specs.Figure.{figure}
use Rattle.peg_metagrammar.specs.Notation.{IsReading, max_file_bytes}
use Rattle.peg_notation.specs.Reads.{Reads}
use Rattle.peg_notation.specs.declared.fault.NotationFault.{NotationFault}
use Rattle.peg_notation.specs.declared.fault.NotationFault.TheVariants.{FileTooLong, Syntax, TooNested, BadCount, Memory}
use Rattle.peg_parser.specs.Accepts.{IsRead}

pub one_reading : (file : List ℕ) (a b : List Rule) → IsReading file a → IsReading file b → a ≡ b
one_reading file a b m n =
    let same : m.2.0 ≡ n.2.0 = one_record figure file (Name (codes "Grammar") (between 0 0)) 0 0 m.2.0 n.2.0 m.2.1 n.2.1 in
    let results : Matched m.0 m.1 ≡ Matched n.0 n.1 = sym m.2.2 ∙ (ap (λ (r : Record). r.result) same ∙ n.2.2) in
    let trees : m.1 ≡ n.1 = cc in
    m.4 ∙ (ap (rules_spelled file) trees ∙ sym n.4)

-- a file that has a reading isn't rejected, unless memory runs out
pub read-accepts : (file : List ℕ) (rules : List Rule) (why : NotationFault) → IsRead file rules → Reads file (Err why)
    → why ≢ Memory → ⊥
read-accepts file rules FileTooLong is has other = omega (arith, is.within, has)
read-accepts file rules (Syntax at) is has other = has.1 (is.reading.0.0, is.reading.0.1, is.reading.0.2)
read-accepts file rules (TooNested at) is has other =
    let m = is.reading.0 in
    let deep = has.1 m.0 m.1 m.2 in
    let within = is.reading.1 m.0 m.1 m.2 in
    omega (arith, deep, within)
read-accepts file rules (BadCount at) is has other =
    let m = is.reading.0 in
    has.1 m.0 m.1 m.2 m.3
read-accepts file rules Memory is has other = other refl
