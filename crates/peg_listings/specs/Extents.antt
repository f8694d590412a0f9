-- Spans in JSON.

use Rattle.peg_bytes.specs.Extent.{Extent}
use Rattle.serde_json.specs.Data.{Data, unsigned, number, array, no_items, item}

-- the JSON of a span: the pair of its start and its end
abbrev pub extent_data : Extent → Data
extent_data extent = array (item (number (unsigned extent.start)) (item (number (unsigned extent.end)) no_items))
