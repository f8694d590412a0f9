use Rattle.std.proofs.Common.{◌∙◌, ◌∷◌, ap, map, reverse}
use Rattle.peg_listings.specs.ByteRuns.{byte_run_of}
use Rattle.peg_listings.specs.CodeText.{run_between}
use Rattle.peg_listings.proofs.RunLemmas.{apart, pushed}
use Rattle.peg_listings.proofs.byte_runs.add_byte.Goals as goal

pub returns-in_ok-push-in-None : goal.returns-in_ok-push-in-None
returns-in_ok-push-in-None c =
    let old = c.args.runs.now.items in
    pushed c.pop_last_before.new.runs.items c.push-in-None.new.self.items (record { first = c.args.byte; last = c.args.byte })
    c.in_ok-push-in-None.ensures.items
    ∙ ap (λ l. run_between c.args.byte c.args.byte ∷ reverse (map byte_run_of l)) c.in-None.ensures.same
    ∙ apart c.args.byte (reverse (map byte_run_of old)) c.in-None.ensures.none
