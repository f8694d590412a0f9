-- The texts of serialized values.
use Rattle.std.proofs.Common.{◌≡◌, false, IfOk, Result, Ok, Err, Some, [], String, string_bytes}
use Rattle.serde.specs.Event.{Log}
use Rattle.serde_json.specs.Data.{Data}
use Rattle.serde_json.specs.Events.{SendsValue}
use Rattle.serde_json.specs.Sent.{IsTextOf}
use Rattle.serde_json.specs.Written.{compact_text, has_float}
use Rattle.serde_json.proofs.FreeTexts.{text_of_value}
use Rattle.std.specs.declared.alloc.AllocError.{AllocError}
use Rattle.std.specs.declared.alloc.Global.{Global}

-- the text of something that serializes a value is the text of that value
abbrev pub IsTextSentBy : (Log → Log → Type 0) → Result (String Global) AllocError → Type 0
IsTextSentBy Sent result = IfOk result (λ text. (log : Log) × Sent (Some []) log × IsTextOf log (string_bytes text))

pub value-text : (result : Result (String Global) AllocError) (value : Data) → has_float value ≡ false
    → IsTextSentBy (SendsValue value) result → IfOk result (λ text. string_bytes text ≡ compact_text value)
value-text (Ok text) value whole sent = text_of_value value sent.0 (string_bytes text) sent.1 sent.2 whole
value-text (Err why) value whole sent = tt
