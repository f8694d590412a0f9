use Rattle.std.proofs.Common.{arith, map}
use Rattle.std.proofs.lemmas.List.{length-map}
use Rattle.std.proofs.lemmas.Result.{on_ok_weaker}
use Rattle.peg_code.specs.Instrs.{instruction_of}
use Rattle.peg_tree.proofs.Sent.{array-sent, item-sent}
use Rattle.peg_listings.specs.CodeText.{instruction_data}
use Rattle.peg_listings.proofs.CodeLemmas.{printed-at}
use Rattle.peg_listings.proofs.code_text.serialize_code.Goals as goal

pub loop-pc-preserved : goal.loop-pc-preserved
loop-pc-preserved g c last rest =
    let code = c.args.program.now.code in
    let instruction = instruction_of c.instr.result in
    c.loop-pc.invariant last (item-sent (map instruction_data code) c.loop-pc.pc (instruction_data instruction)
    (instruction_data instruction)
    (omega (arith, length-map code instruction_data, c.loop-pc-test.true, c.len-pc-end.ensures.count))
    (printed-at instruction_data code c.loop-pc.pc instruction c.instr.ensures)
    (g.S.Serializer.written c.loop-pc.out) (g.S.Serializer.written c.serialize_instruction.new.out) last
    c.in_ok-serialize_instruction.ensures rest)

pub returns : goal.returns
returns g c =
    let code = c.args.program.now.code in
    let count = length-map code instruction_data in
    on_ok_weaker c.end_seq.result (λ e. array-sent (map instruction_data code) c.loop-pc.pc c.len.result
    (omega (arith, count, c.loop-pc-test.false, c.len-pc-end.ensures.count)) (omega (arith, count, c.len.ensures.count))
    (g.S.Serializer.written c.args.out.now) (g.S.Serializer.written c.begin_seq.new.self)
    (g.S.Serializer.written c.loop-pc.out) (g.S.Serializer.written c.end_seq.new.self)
    c.in_ok-begin_seq.ensures c.loop-pc.invariant e) c.end_seq.ensures
