-- Spans of a grammar file, for C.
use Rattle.peg_bytes.specs.Extent.{Extent}
use Rattle.peg_handle.specs.declared.content.FileSpan.{FileSpan}

-- the span of an extent
abbrev pub file_span : Extent → FileSpan
file_span extent = record { start = extent.start; end = extent.end }
