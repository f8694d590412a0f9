use Rattle.std.proofs.Common.{◌∙◌, ap, arith, map, reverse, sym}
use Rattle.std.proofs.lemmas.List.{drop_all}
use Rattle.peg_bytes.specs.ByteSet.{bytes_of}
use Rattle.peg_bytes.proofs.ByteSetLemmas.{length-bytes_of}
use Rattle.peg_listings.specs.ByteRuns.{byte_run_of}
use Rattle.peg_listings.specs.CodeText.{runs_from}
use Rattle.peg_listings.proofs.byte_runs.runs_of.Goals as goal

pub loop-above-init : goal.loop-above-init
loop-above-init c =
    ap (λ l. reverse (map byte_run_of l)) c.new-runs.ensures.items
    ∙ ap (runs_from 256) (sym (drop_all 256 (bytes_of c.args.set.now) (omega (arith, length-bytes_of c.args.set.now))))
