use Rattle.std.proofs.Common.{◌<◌, ap, subst, arith}
use Rattle.std.proofs.lemmas.Result.{on_ok_weaker}
use Rattle.peg_code.specs.Code.{code_of}
use Rattle.peg_code.specs.Sizes.{IsTight}
use Rattle.peg_code.specs.declared.instr.Instr.TheVariants as instr
use Rattle.peg_code.proofs.TaskLemmas.{AddsTasks-put, AddsTasks-empty, AddsTasks-seq, AddsTasks-choice, AddsTasks-star, AddsTasks-not}
use Rattle.peg_code.proofs.tasks.add_tasks.Goals as goal

pub returns-in-Empty : goal.returns-in-Empty
returns-in-Empty c =
    AddsTasks-empty c.args.core.now.forms c.args.pc c.args.number c.args.tasks.now.items c.in-Empty.ensures.form.1

pub returns-in-Test : goal.returns-in-Test
returns-in-Test c =
    on_ok_weaker c.add.result
    (λ is. AddsTasks-put c.args.core.now.forms c.args.pc c.args.number (instr.Test c.in-Test.set c.in-Test.terminal) c.args.tasks.now.items c.add.new.tasks.items is (λ at. ap (λ form. code_of form at) c.in-Test.ensures.form.1))
    c.add.ensures

pub returns-in-Rule : goal.returns-in-Rule
returns-in-Rule c =
    on_ok_weaker c.add-in-Rule.result
    (λ is. AddsTasks-put c.args.core.now.forms c.args.pc c.args.number (instr.Call c.in-Rule.rule) c.args.tasks.now.items c.add-in-Rule.new.tasks.items is (λ at. ap (λ form. code_of form at) c.in-Rule.ensures.form.1))
    c.add-in-Rule.ensures

pub returns-in-Seq : goal.returns-in-Seq
returns-in-Seq c =
    let forms = c.args.core.now.forms in
    let within = c.requires.within in
    let first : c.in-Seq.first < c.args.number = c.in-Seq.ensures.fits.0 in
    let rest : c.in-Seq.rest < c.args.number = c.in-Seq.ensures.fits.1 in
    let tight = subst IsTight c.in-Seq.ensures.form.1 c.requires.tight in
    on_ok_weaker c.add-in-Seq.result
    (λ is. AddsTasks-seq forms c.args.pc c.args.number c.in-Seq.first c.in-Seq.rest c.args.tasks.now.items c.add-in-Seq.new.tasks.items is c.in-Seq.ensures.form.1 tight.0 tight.1 (omega arith) (omega arith))
    c.add-in-Seq.ensures

pub returns-in-Choice : goal.returns-in-Choice
returns-in-Choice c =
    let forms = c.args.core.now.forms in
    let first : c.in-Choice.first < c.args.number = c.in-Choice.ensures.fits.0 in
    let rest : c.in-Choice.rest < c.args.number = c.in-Choice.ensures.fits.1 in
    let count = c.requires.form_sizes.count in
    let within = c.requires.within in
    on_ok_weaker c.add_choice.result
    (λ is. AddsTasks-choice forms c.args.pc c.args.number c.in-Choice.first c.in-Choice.rest _ _ c.args.tasks.now.items c.add_choice.new.tasks.items is c.in-Choice.ensures.form.1 (c.requires.form_sizes.each c.in-Choice.first _ (omega arith)).counts (c.requires.form_sizes.each c.in-Choice.rest _ (omega arith)).counts c.requires.room (omega arith) (omega arith))
    c.add_choice.ensures

pub returns-in-Star : goal.returns-in-Star
returns-in-Star c =
    let part : c.in-Star.part < c.args.number = c.in-Star.ensures.fits in
    let count = c.requires.form_sizes.count in
    let within = c.requires.within in
    on_ok_weaker c.add_round.result
    (λ is. AddsTasks-star c.args.core.now.forms c.args.pc c.args.number c.in-Star.part _ c.in-Star.ensures.form.0 c.args.tasks.now.items c.add_round.new.tasks.items is c.in-Star.ensures.form.1 (c.requires.form_sizes.each c.in-Star.part _ (omega arith)).counts c.requires.room (omega arith))
    c.add_round.ensures

pub returns-in-Not : goal.returns-in-Not
returns-in-Not c =
    let part : c.in-Not.part < c.args.number = c.in-Not.ensures.fits in
    let count = c.requires.form_sizes.count in
    let within = c.requires.within in
    on_ok_weaker c.add_round-in-Not.result
    (λ is. AddsTasks-not c.args.core.now.forms c.args.pc c.args.number c.in-Not.part _ c.args.tasks.now.items c.add_round-in-Not.new.tasks.items is c.in-Not.ensures.form.1 (c.requires.form_sizes.each c.in-Not.part _ (omega arith)).counts c.requires.room (omega arith))
    c.add_round-in-Not.ensures
