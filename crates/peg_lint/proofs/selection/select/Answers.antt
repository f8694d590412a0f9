use Rattle.std.proofs.Common.{rules}
use Rattle.std.proofs.lemmas.Fn.{filter_same}
use Rattle.peg_lint.specs.FileWarnings.{is_selected}
use Rattle.peg_lint.proofs.selection.select.Goals as goal

pub returns : goal.returns
returns c = filter_same _ (is_selected c.args.selection) _ (λ x b f k. search rules) _ _ c.retain.ensures.filtered
