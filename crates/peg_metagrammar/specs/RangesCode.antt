-- Describes code: the range that a `ByteRange` represents.
use Rattle.peg_metagrammar.specs.Ranges.{Range, range}
use Rattle.peg_metagrammar.specs.declared.ranges.ByteRange.{ByteRange}

-- the range of a `ByteRange`
abbrev pub range_of : ByteRange → Range
range_of bytes = range bytes.low bytes.high
