use Rattle.std.proofs.Common.{◌≡◌, ◌+◌, ◌<◌, ◌++◌, ◌∷◌, [], drop, length, ap, arith, length-append}
use Rattle.peg_core.specs.Layout.{bodies_of, form_at}
use Rattle.peg_code.specs.Code.{code_of, entries_of, program_code, rules_code, size}
use Rattle.peg_code.specs.Compiled.{max_instructions}
use Rattle.peg_code.specs.Instructions.{Ret}
use Rattle.peg_code.proofs.CodeLemmas.{length-code_of}
use Rattle.peg_code.proofs.LayoutLemmas.{code-next, emitted-ret, drop-body, entries-next, room-next}
use Rattle.peg_code.proofs.compiler.emit_rules.Goals as goal
use Rattle.peg_code.proofs.compiler.emit_rules.Goals.{After-body}

pub overflow_cast-len : goal.overflow_cast-len
overflow_cast-len c =
    let old = c.loop-rule.instrs in
    let more = rules_code (drop c.loop-rule.rule (bodies_of c.args.core.now)) (length old) in
    omega (arith, ap length c.loop-rule.invariant.code, length-append old more, c.len.ensures, c.requires.few)

-- the code of the rule's body and one more instruction are within the limit
room : (c : After-body) → length c.loop-rule.instrs + size (form_at c.args.core.now.forms c.body.result) < max_instructions
room c =
    let core = c.args.core.now in
    let next = drop-body core c.loop-rule.rule c.body.result c.body.ensures.number in
    let left = room-next c.loop-rule.instrs (program_code (bodies_of core)) (form_at core.forms c.body.result) (drop c.loop-rule.rule (bodies_of core)) (drop (c.loop-rule.rule + 1) (bodies_of core)) next c.loop-rule.invariant.code in
    omega (arith, left, c.requires.few)

pub emit-requires-clause-room : goal.emit-requires-clause-room
emit-requires-clause-room c = omega (arith, room (goal.at.emit-requires-clause-room c).After-body)

pub push-requires-in-loop-rule-2 : goal.push-requires-in-loop-rule-2
push-requires-in-loop-rule-2 c =
    let old = c.loop-rule.instrs in
    let body = form_at c.args.core.now.forms c.body.result in
    omega (arith, room (goal.at.push-requires-in-loop-rule-2 c).After-body, ap length c.in_ok-emit.ensures, length-append old (code_of body (length old)), length-code_of body (length old))

pub loop-rule-preserved : goal.loop-rule-preserved
loop-rule-preserved c =
    let core = c.args.core.now in
    let old = c.loop-rule.instrs in
    let now = c.push-in-loop-rule-2.new.self in
    let body = form_at core.forms c.body.result in
    let rest = drop c.loop-rule.rule (bodies_of core) in
    let more = drop (c.loop-rule.rule + 1) (bodies_of core) in
    let next = drop-body core c.loop-rule.rule c.body.result c.body.ensures.number in
    let emitted : now ≡ (old ++ code_of body (length old)) ++ Ret ∷ [] = emitted-ret old c.emit.new.code now body c.in_ok-emit.ensures c.in_ok-push-3.ensures in
    record {
      code = code-next old now body rest more next emitted (program_code (bodies_of core)) c.loop-rule.invariant.code;
      entries = entries-next old now body rest more next emitted c.loop-rule.entries.items c.push-in-loop-rule.new.self.items (entries_of (bodies_of core)) c.len.result c.in_ok-push-2.ensures.items c.len.ensures c.loop-rule.invariant.entries;
    }
