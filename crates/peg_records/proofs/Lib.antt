mod AheadLemmas
mod ReaderLemmas
mod RecordLemmas
