use Rattle.std.proofs.Common.{◌≡◌, ◌+◌, ◌<◌, [], ◌∷◌, ◌++◌, take, sym, ap, ◌∙◌, subst, string_bytes, length, arith}
use Rattle.std.proofs.lemmas.List.{map_push, take_all, take_more}
use Rattle.sha2.specs.Hashers.{Holds256}
use Rattle.peg_semantics.specs.Rules.{names as names_of}
use Rattle.peg_grammar.specs.Names.{ended_names}
use Rattle.peg_grammar.specs.Written.{rule_of, rules_of}
use Rattle.peg_grammar.proofs.NameLists.{ended_names-push}
use Rattle.peg_grammar.proofs.name_key.NameKey.of.Goals as goal

pub loop-definition-init : goal.loop-definition-init
loop-definition-init c = c.new-names.ensures

pub loop-definition-preserved : goal.loop-definition-preserved
loop-definition-preserved c =
    let definitions = c.args.definitions.now in
    let i = c.loop-definition.definition-index in
    let front = take i definitions in
    let before = names_of (rules_of front) in
    let read = c.update.ensures (ended_names before) c.loop-definition.invariant in
    let ended = c.update-in-loop-definition.ensures (ended_names before ++ c.as_bytes.result.now) read in
    let within : i < length definitions = omega arith in
    let more : names_of (rules_of (take (i + 1) definitions)) ≡ before ++ string_bytes c.definition-item.result.name ∷ [] =
    ap (λ ds. names_of (rules_of ds)) (take_more definitions i c.definition-item.result within
    ∙ ap (λ d. front ++ d ∷ []) (sym c.definition-item.is))
    ∙ (ap names_of (map_push rule_of front c.definition-item.result)
    ∙ map_push (λ rule. rule.name) (rules_of front) (rule_of c.definition-item.result)) in
    let message : (ended_names before ++ c.as_bytes.result.now) ++ 0 ∷ [] ≡ ended_names (names_of (rules_of (take (i + 1) definitions))) =
    ap (λ name. (ended_names before ++ name) ++ 0 ∷ []) c.as_bytes.ensures.value
    ∙ sym (ended_names-push before (string_bytes c.definition-item.result.name))
    ∙ ap ended_names (sym more) in
    subst (Holds256 c.update-in-loop-definition.new.self) message ended

pub returns : goal.returns
returns c =
    let definitions = c.args.definitions.now in
    c.finalize.ensures (ended_names (names_of (rules_of definitions)))
    (subst (λ ds. Holds256 c.loop-definition.names (ended_names (names_of (rules_of ds))))
    (take_all c.loop-definition.definition-index definitions c.loop-definition-test.false) c.loop-definition.invariant)
