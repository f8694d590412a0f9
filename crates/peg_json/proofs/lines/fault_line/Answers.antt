use Rattle.std.proofs.Common.{map, string_bytes}
use Rattle.peg_json.specs.FaultCauses.{fault_cause}
use Rattle.peg_json.proofs.RefusedLines.{fault-reply}
use Rattle.peg_json.proofs.lines.fault_line.Goals as goal

pub returns : goal.returns
returns c =
    let list = map (λ name. name.now) c.args.names.now in
    fault-reply c.new.result c.args.file.now (string_bytes c.in_ok-refusal_json.field-0) c.status.result
    (fault_cause list c.args.fault.now) c.new.ensures.0 c.new.ensures.1 c.in_ok-refusal_json.ensures (c.status.ensures list)
