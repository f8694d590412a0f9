use Rattle.std.proofs.Common.{ℕ, List, Ok, Err, inl, inr, refl}
use Rattle.std.proofs.KnownBytes.{Keeps-refl}
use Rattle.peg_parser.specs.Parser.{parser_rules}
use Rattle.peg_record_files.specs.declared.fault.RecordsFault.TheVariants.{Memory}
use Rattle.peg_explain_records.proofs.EndLemmas.{stated-error}
use Rattle.peg_explain_records.proofs.explaining.explain_all.Goals as goal

pub returns-in_err-explainer-clause-explains : goal.returns-in_err-explainer-clause-explains
returns-in_err-explainer-clause-explains g c from accepts is =
    inl (stated-error c.from_residual.result Memory c.from_residual.ensures.1, Keeps-refl (g.W.Sink.written c.args.output.now))

pub returns-in-Ok-clause-explains : goal.returns-in-Ok-clause-explains
returns-in-Ok-clause-explains g c from accepts is =
    let rules = parser_rules c.args.parser.now in
    inr (inr record {
      rules = rules;
      from = from;
      accepts = accepts;
      starts = is;
      present = c.in-Ok.ensures.present;
      writes = λ streams are. (
        Ok c.in-Ok.worst,
        c.in-Ok.ensures.messages c.args.file.now rules from c.in_ok-explainer.ensures.made is streams are,
        (c.new-in-Ok.ensures.bytes, c.verdict_of.ensures),
      );
    })

pub returns-clause-explains : goal.returns-clause-explains
returns-clause-explains g c from accepts is =
    let rules = parser_rules c.args.parser.now in
    inr (inr record {
      rules = rules;
      from = from;
      accepts = accepts;
      starts = is;
      present = tt;
      writes = λ streams are. (
        Err c.in-Err.fault,
        c.in-Err.ensures.messages c.args.file.now rules from c.in_ok-explainer.ensures.made is streams are,
        refl,
      );
    })
