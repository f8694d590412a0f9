use Rattle.std.proofs.Common.{◌≡◌, Option, false, subst, sym, true}
use Rattle.peg_cli.specs.declared.words.Words.{Words}
use Rattle.peg_tool.specs.Exits.{IsDeviceExit, IsExitAmong, IsExitOf, IsExitOfCause, exit_fault}
use Rattle.peg_tool.specs.Faults.{plain_result, standard_input, standard_output, stream_names}
use Rattle.peg_tool.specs.RequestContract.{EndsAs}
use Rattle.peg_tool.specs.Requests.{EndsWithInput, requested}
use Rattle.peg_tool.specs.declared.program.ProgramFault.{ProgramFault}
use Rattle.peg_tool.proofs.ExitLemmas.{exit-among, exit-cause, exit-device, exit-fault, exit-for, if-ok}
use Rattle.peg_tool.proofs.exit.run_program.Goals as goal

pub returns-in-Ok-clause-runs : goal.returns-in-Ok-clause-runs
returns-in-Ok-clause-runs g c =
    let ended = c.run_request.result in
    let exit = c.from_result.result in
    if-ok c.args.words c.in-Ok.words (λ asked. IsExitOf (requested asked) (g.O.Opener.file_at c.args.files.now)
    (g.I.Source.left c.args.input.now) (g.W.Sink.written c.args.output.now) (g.W.Sink.written c.run_request.new.output) exit)
    c.in-Ok.is (plain_result ended, c.run_request.ensures.leads, exit-for ended exit c.from_result.ensures)

pub returns-in-Ok-clause-ends : goal.returns-in-Ok-clause-ends
returns-in-Ok-clause-ends g c =
    let ended = c.run_request.result in
    let exit = c.from_result.result in
    let Ends = λ (asked : Words) (fault : Option ProgramFault). EndsAs (requested asked)
    (g.O.Opener.file_at c.args.files.now) fault (g.I.Source.failed c.run_request.new.input)
    (g.W.Sink.failed c.run_request.new.output) (c.run_request.new.input ≡ c.args.input.now)
    (c.run_request.new.output ≡ c.args.output.now) (g.W.Sink.written c.args.output.now)
    (g.W.Sink.written c.run_request.new.output) in
    if-ok c.args.words c.in-Ok.words (λ asked. Ends asked (exit_fault exit)) c.in-Ok.is
    (subst (Ends c.in-Ok.words) (sym (exit-fault ended exit c.from_result.ensures)) c.run_request.ensures.ends)

pub returns-in-Ok-clause-output : goal.returns-in-Ok-clause-output
returns-in-Ok-clause-output g c failed =
    exit-device c.run_request.result c.from_result.result standard_output _ c.from_result.ensures
    (c.run_request.ensures.ends.write_fault failed) (c.run_request.ensures.output failed)

pub returns-in-Ok-clause-input : goal.returns-in-Ok-clause-input
returns-in-Ok-clause-input g c =
    let exit = c.from_result.result in
    let input = c.run_request.new.input in
    if-ok c.args.words c.in-Ok.words (λ asked. EndsWithInput (requested asked) → g.I.Source.failed input ≡ true
    → IsDeviceExit standard_input (g.I.Source.fault_kind input) exit) c.in-Ok.is (λ reads failed.
    exit-device c.run_request.result exit standard_input _ c.from_result.ensures
    (c.run_request.ensures.ends.input_fault reads failed) (c.run_request.ensures.input reads failed))

pub returns-in-Ok-clause-cause : goal.returns-in-Ok-clause-cause
returns-in-Ok-clause-cause g c =
    let exit = c.from_result.result in
    let file_at = g.O.Opener.file_at c.args.files.now in
    if-ok c.args.words c.in-Ok.words (λ asked. g.W.Sink.failed c.run_request.new.output ≡ false
    → IsExitOfCause (requested asked) file_at exit) c.in-Ok.is
    (λ works. exit-cause (requested c.in-Ok.words) file_at c.run_request.result exit c.from_result.ensures
    (c.run_request.ensures.cause works))

pub returns-in-Ok-clause-named : goal.returns-in-Ok-clause-named
returns-in-Ok-clause-named g c =
    let exit = c.from_result.result in
    if-ok c.args.words c.in-Ok.words (λ asked. IsExitAmong (stream_names (requested asked)) exit) c.in-Ok.is
    (exit-among c.run_request.result exit (stream_names (requested c.in-Ok.words)) c.from_result.ensures
    c.run_request.ensures.named)
