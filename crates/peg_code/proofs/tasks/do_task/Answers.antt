use Rattle.std.proofs.Common.{◌+◌, ◌<◌, ◌≤◌, get_or, length, sym, subst, arith}
use Rattle.std.proofs.lemmas.Result.{on_ok_weaker}
use Rattle.peg_core.specs.Layout.{form_at}
use Rattle.peg_code.specs.Code.{size}
use Rattle.peg_code.specs.Compiled.{max_instructions}
use Rattle.peg_code.specs.Sizes.{IsFormSize}
use Rattle.peg_code.specs.Tasks.{AddsTasks, code_after, DoesTask, TaskFits}
use Rattle.peg_code.specs.declared.sizes.FormSize.{FormSize}
use Rattle.peg_code.specs.declared.tasks.Task.{Task}
use Rattle.peg_code.specs.declared.tasks.Task.TheVariants.{Form}
use Rattle.peg_code.proofs.CodeLemmas.{size-same}
use Rattle.peg_code.proofs.TaskLemmas.{DoesTask-form, DoesTask-put, length-code_after}
use Rattle.peg_code.proofs.tasks.do_task.Goals as goal
use Rattle.peg_code.proofs.tasks.do_task.Goals.{In-Form}

pub returns-in-Emit : goal.returns-in-Emit
returns-in-Emit c =
    let forms = c.args.core.now.forms in
    let old = c.args.code.now in
    let new = c.push.new.self in
    let rest = c.args.tasks.now.items in
    on_ok_weaker c.push.result
    (λ put. subst (λ (t : Task). DoesTask forms t old rest new rest) (sym c.in-Emit.is) (DoesTask-put forms old new rest c.in-Emit.instr put))
    c.push.ensures

-- the plan of the form
abbrev form_size : (c : In-Form) → FormSize
form_size c = get_or c.args.form_sizes.now c.in-Form.number (record { size = 0; form = 0 })

planned : (c : In-Form) → IsFormSize c.args.core.now.forms c.in-Form.number (form_size c)
planned c =
    let fits : c.in-Form.number < length c.args.core.now.forms = subst (TaskFits (length c.args.core.now.forms)) c.in-Form.is c.requires.fits in
    c.requires.form_sizes.each c.in-Form.number (record { size = 0; form = 0 }) (omega (arith, c.requires.form_sizes.count))

-- the instructions of the form are within the limit
room : (c : In-Form) → length c.args.code.now + size (form_at c.args.core.now.forms (form_size c).form) ≤ max_instructions
room c =
    let forms = c.args.core.now.forms in
    let code = c.args.code.now in
    let number = c.in-Form.number in
    let left : length (code_after forms code (Form number)) ≤ max_instructions = subst (λ (t : Task). length (code_after forms code t) ≤ max_instructions) c.in-Form.is c.requires.room in
    omega (arith, left, length-code_after forms code number, size-same (form_at forms (form_size c).form) (form_at forms number) (planned c).same)

pub overflow_cast-len : goal.overflow_cast-len
overflow_cast-len c = let h = room (goal.at.overflow_cast-len c).In-Form in omega (arith, h, c.len.ensures)

pub add_tasks-requires-clause-room : goal.add_tasks-requires-clause-room
add_tasks-requires-clause-room c =
    let h = room (goal.at.add_tasks-requires-clause-room c).In-Form in omega (arith, h, c.len.ensures)

pub returns-in-Form : goal.returns-in-Form
returns-in-Form c =
    let at = (goal.at.returns-in-Form c).In-Form in
    let forms = c.args.core.now.forms in
    let code = c.args.code.now in
    let old = c.args.tasks.now.items in
    let new = c.add_tasks.new.tasks.items in
    let form = (form_size at).form in
    on_ok_weaker c.add_tasks.result
    (λ adds. subst (λ (t : Task). DoesTask forms t code old code new) (sym c.in-Form.is) (DoesTask-form forms code old new c.in-Form.number form (planned at).same (subst (λ pc. AddsTasks forms pc (Form form) old new) c.len.ensures adds)))
    c.add_tasks.ensures
