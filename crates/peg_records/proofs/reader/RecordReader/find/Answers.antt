use Rattle.peg_records.proofs.ReaderLemmas.{range-record}
use Rattle.peg_records.proofs.reader.RecordReader.find.Goals as goal

pub returns-clause-record : goal.returns-clause-record
returns-clause-record c =
    let reader = c.args.self.now in
    range-record reader.end reader.held.items c.deref.result.now reader.start c.args.at c.record_len-len.result
    c.deref.ensures.value c.record_len-len.ensures.within c.record_len-len.ensures.record
