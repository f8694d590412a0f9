use Rattle.std.proofs.Common.{◌∙◌, ap, take}
use Rattle.std.proofs.lemmas.List.{take_min}
use Rattle.std.specs.Str.{is_utf8}
use Rattle.peg_messages.proofs.CharacterLemmas.{utf8-test}
use Rattle.peg_messages.proofs.characters.begins_utf8.Goals as goal

pub returns : goal.returns
returns c =
    c.is_ok.ensures.value
    ∙ (utf8-test _ _ c.from_utf8.result c.from_utf8.ensures.cases
    ∙ (ap (λ n. is_utf8 (take n c.args.bytes.now)) c.min.ensures
    ∙ ap is_utf8 (take_min c.args.count c.args.bytes.now)))
