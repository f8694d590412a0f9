use Rattle.std.proofs.Common.{◌≡◌, ◌∙◌, ◌-◌, ap, arith, get_or, length, map, reverse}
use Rattle.peg_listings.specs.declared.byte_runs.ByteRun.{ByteRun}
use Rattle.std.proofs.lemmas.List.{get_or-map, get_or-reverse, length-map, length-reverse}
use Rattle.std.proofs.lemmas.Result.{on_ok_weaker}
use Rattle.peg_tree.proofs.Sent.{array-sent, item-sent}
use Rattle.peg_listings.specs.ByteRuns.{byte_run_of}
use Rattle.peg_listings.specs.CodeText.{run_data}
use Rattle.peg_listings.proofs.code_text.serialize_backwards.Goals as goal

pub loop-sent-preserved : goal.loop-sent-preserved
loop-sent-preserved g c last rest =
    let list = reverse (map byte_run_of c.args.runs.now) in
    let count = length-map list run_data ∙ length-reverse (map byte_run_of c.args.runs.now) ∙ length-map c.args.runs.now byte_run_of in
    let none : ByteRun = record { first = 0; last = 0 } in
    let at = length c.args.runs.now - 1 - c.loop-sent.sent in
    let run = byte_run_of (get_or c.args.runs.now at none) in
    let mapped = length-map c.args.runs.now byte_run_of in
    let here : get_or (map run_data list) c.loop-sent.sent (run_data run) ≡ run_data run =
    get_or-map run_data list c.loop-sent.sent run (run_data run)
    (omega (arith, length-reverse (map byte_run_of c.args.runs.now), mapped, c.loop-sent-test.true))
    ∙ ap run_data (get_or-reverse (map byte_run_of c.args.runs.now) c.loop-sent.sent run (omega (arith, mapped, c.loop-sent-test.true))
    ∙ ap (λ n. get_or (map byte_run_of c.args.runs.now) (n - 1 - c.loop-sent.sent) run) mapped
    ∙ get_or-map byte_run_of c.args.runs.now at none run (omega (arith, c.loop-sent-test.true))) in
    c.loop-sent.invariant last (item-sent (map run_data list) c.loop-sent.sent (run_data run) (run_data run)
    (omega (arith, count, c.loop-sent-test.true)) here
    (g.S.Serializer.written c.loop-sent.out) (g.S.Serializer.written c.serialize_run.new.out) last c.in_ok-serialize_run.ensures rest)

pub returns : goal.returns
returns g c =
    let list = reverse (map byte_run_of c.args.runs.now) in
    let count = length-map list run_data ∙ length-reverse (map byte_run_of c.args.runs.now) ∙ length-map c.args.runs.now byte_run_of in
    on_ok_weaker c.end_seq.result (λ e. array-sent (map run_data list) c.loop-sent.sent (length c.args.runs.now)
    (omega (arith, count, c.loop-sent-test.false)) (omega (arith, count))
    (g.S.Serializer.written c.args.out.now) (g.S.Serializer.written c.begin_seq.new.self)
    (g.S.Serializer.written c.loop-sent.out) (g.S.Serializer.written c.end_seq.new.self)
    c.in_ok-begin_seq.ensures c.loop-sent.invariant e) c.end_seq.ensures
