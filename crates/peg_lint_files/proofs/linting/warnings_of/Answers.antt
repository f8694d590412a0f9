use Rattle.peg_json.specs.Lints.{warned}
use Rattle.peg_lint_files.proofs.linting.warnings_of.Goals as goal

pub file_warnings-requires : goal.file_warnings-requires
file_warnings-requires c =
    let known = c.in_ok-core.ensures in
    record { core = record { forms = known.forms; bodies = known.bodies }; start = c.requires }

pub returns : goal.returns
returns c start is =
    let found = c.in_ok-found in
    warned c.args.rule found.found.items is found.ensures.true_warnings found.ensures.selected found.ensures.all
    found.ensures.in_order found.ensures.distinct
