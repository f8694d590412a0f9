use Rattle.std.proofs.Common.{rules, ◌≡◌, ◌+◌, ◌-◌, length, drop, Ok, Result, refl, sym, ap, ◌∙◌, subst, arith}
use Rattle.std.proofs.lemmas.List.{length-map}
use Rattle.peg_grammar.specs.Written.{form_of}
use Rattle.peg_notation.specs.Reader.{FormRead, FormsRead, ReadError, and_read, begins_prefix, starts_with_slash, closed_form, parenthesized, many_forms, prefix, suffix, sequence, alternative, expression, whole_sequence, whole_choice}
use Rattle.peg_notation.specs.ReaderCode.{lexemes, AreTexts, form_seen, forms_seen, inner_reading, Agrees, AgreesOnError, after_sign, with_sign}
use Rattle.peg_notation.specs.ReaderFile.{file_of}
use Rattle.peg_lexer.specs.Tokens.{lexeme_of}
use Rattle.peg_notation.proofs.ManyLoops.{SoFar, so_far-one, so_far-all}
use Rattle.peg_notation.proofs.ReaderSteps.{fault_passes, parenthesized-is, texts-following, front_lies, prefix-is, sign_order, sign_texts, primary_taken, items_order, choice_order, sequence_fault, expression_fault, sequence_read, expression_read}
use Rattle.peg_notation.proofs.reader.Reader.+reader.Goals as goal

-- ---- Primary

pub primary-name-requires-clause-inside : goal.primary-name-requires-clause-inside
primary-name-requires-clause-inside t c =
    front_lies (file_of c.args.self.now) 0 c.args.tokens.now c.token-item.result c.in-len1-up.len_at_least c.token-item.is c.requires.texts

pub primary-literal-requires-clause-inside : goal.primary-literal-requires-clause-inside
primary-literal-requires-clause-inside t c =
    front_lies (file_of c.args.self.now) 0 c.args.tokens.now c.token-item.result c.in-len1-up.len_at_least c.token-item.is c.requires.texts

pub primary-class-requires-clause-inside : goal.primary-class-requires-clause-inside
primary-class-requires-clause-inside t c =
    front_lies (file_of c.args.self.now) 0 c.args.tokens.now c.token-item.result c.in-len1-up.len_at_least c.token-item.is c.requires.texts

pub parenthesized-returns-in_err-inside-clause-read : goal.parenthesized-returns-in_err-inside-clause-read
parenthesized-returns-in_err-inside-clause-read t c =
    let file = file_of c.args.self.now in
    let rest = lexemes c.args.rest.now in
    let is = parenthesized-is file c.args.left c.if-left-eq0.false (length file) (lexeme_of c.args.opening) rest in
    let stated : AgreesOnError (parenthesized (inner_reading file c.args.left) (length file) (lexeme_of c.args.opening) rest) c.in_err-inside.field-0.0 =
    subst (λ (x : Result FormRead ReadError). AgreesOnError x c.in_err-inside.field-0.0) (sym is)
    (fault_passes (expression file (inner_reading file (c.args.left - 1)) c.args.opening.span.end rest)
    (λ (inside : FormRead). closed_form (length file) inside (drop inside.token_count rest)) c.in_err-inside.field-0.0 c.in_err-inside.ensures.read) in
    search (rules, stated)

pub parenthesized-returns-clause-read : goal.parenthesized-returns-clause-read
parenthesized-returns-clause-read t c =
    let file = file_of c.args.self.now in
    let rest = lexemes c.args.rest.now in
    let is = parenthesized-is file c.args.left c.if-left-eq0.false (length file) (lexeme_of c.args.opening) rest in
    let read = ap (λ (x : Result FormRead ReadError). and_read x (λ (inside : FormRead). closed_form (length file) inside (drop inside.token_count rest)))
    c.in_ok-inside.ensures.read in
    subst (λ (x : Result FormRead ReadError). Agrees form_seen x c.closed.result)
    (ap (closed_form (length file) (form_seen c.in_ok-inside.inside)) c.rest_after.ensures.tokens ∙ sym (is ∙ read)) c.closed.ensures.read

-- ---- Suffix and Prefix

pub suffix-then_suffix-requires-clause-order : goal.suffix-then_suffix-requires-clause-order
suffix-then_suffix-requires-clause-order t c =
    let file = file_of c.args.self.now in
    let e = primary_taken file c.args.left (lexemes c.args.tokens.now) c.requires.texts (form_seen c.in_ok-part.part) c.in_ok-part.ensures.read in
    omega (arith, e.order, c.place_of-start.ensures)

pub suffix-then_suffix-requires-clause-texts : goal.suffix-then_suffix-requires-clause-texts
suffix-then_suffix-requires-clause-texts t c =
    let file = file_of c.args.self.now in
    let e = primary_taken file c.args.left (lexemes c.args.tokens.now) c.requires.texts (form_seen c.in_ok-part.part) c.in_ok-part.ensures.read in
    subst (AreTexts file c.in_ok-part.part.last) (sym c.rest_after.ensures.tokens) e.rest_texts

pub prefix-suffix-requires : goal.prefix-suffix-requires
prefix-suffix-requires t c = (
  omega arith,
  subst (AreTexts (file_of c.args.self.now) 0) (sym c.after_sign.ensures.tokens)
      (sign_texts (file_of c.args.self.now) (lexemes c.args.tokens.now) c.requires.texts),
)

pub prefix-with_sign-requires-clause-order : goal.prefix-with_sign-requires-clause-order
prefix-with_sign-requires-clause-order t c =
    let file = file_of c.args.self.now in
    sign_order file c.args.left (lexemes c.args.tokens.now) c.requires.texts (form_seen c.in_ok-part.part)
    (ap (suffix file (inner_reading file c.args.left)) (sym c.after_sign.ensures.tokens) ∙ c.in_ok-part.ensures.read)

pub prefix-returns-in_err-part-clause-read : goal.prefix-returns-in_err-part-clause-read
prefix-returns-in_err-part-clause-read t c =
    let file = file_of c.args.self.now in
    let inner = inner_reading file c.args.left in
    let ls = lexemes c.args.tokens.now in
    let fault = c.in_err-part.field-0.0 in
    let stated : AgreesOnError (prefix file inner ls) fault =
    subst (λ (x : Result FormRead ReadError). AgreesOnError x fault) (sym (prefix-is file inner ls))
    (fault_passes (suffix file inner (after_sign ls)) (λ (part : FormRead). Ok (with_sign ls part)) fault
    (subst (λ l. AgreesOnError (suffix file inner l) fault) c.after_sign.ensures.tokens c.in_err-part.ensures.read)) in
    search (rules, stated)

pub prefix-returns-clause-read : goal.prefix-returns-clause-read
prefix-returns-clause-read t c =
    let file = file_of c.args.self.now in
    let inner = inner_reading file c.args.left in
    let ls = lexemes c.args.tokens.now in
    let read = ap (suffix file inner) (sym c.after_sign.ensures.tokens) ∙ c.in_ok-part.ensures.read in
    subst (λ (x : Result FormRead ReadError). Agrees form_seen x c.with_sign.result)
    (sym (prefix-is file inner ls ∙ ap (λ (x : Result FormRead ReadError). and_read x (λ (part : FormRead). Ok (with_sign ls part))) read))
    c.with_sign.ensures.read

-- ---- Sequence

pub sequence-prefix-requires : goal.sequence-prefix-requires
sequence-prefix-requires t c = (
  omega arith,
  subst (AreTexts (file_of c.args.self.now) 0) (sym c.rest_after-in-items.ensures.tokens)
      (texts-following (file_of c.args.self.now) c.args.before c.items.items.token_count (lexemes c.args.tokens.now) c.requires.texts),
)

pub sequence-returns-in_err-item-clause-read : goal.sequence-returns-in_err-item-clause-read
sequence-returns-in_err-item-clause-read t c =
    let file = file_of c.args.self.now in
    let inner = inner_reading file c.args.left in
    let ls = lexemes c.args.tokens.now in
    let begun = ap begins_prefix (sym c.rest_after.ensures.tokens) ∙ (sym c.begins_prefix.ensures ∙ c.items-test.true) in
    let stated : AgreesOnError (sequence file inner c.args.before ls) c.in_err-item.field-0.0 =
    sequence_fault file inner c.args.before ls (forms_seen c.items.items) c.in_err-item.field-0.0 c.items.invariant.so_far begun
    (subst (λ l. AgreesOnError (prefix file inner l) c.in_err-item.field-0.0) c.rest_after-in-items.ensures.tokens c.in_err-item.ensures.read) in
    search (rules, stated)

pub sequence-items-preserved : goal.sequence-items-preserved
sequence-items-preserved t c =
    let file = file_of c.args.self.now in
    let inner = inner_reading file c.args.left in
    let ls = lexemes c.args.tokens.now in
    let part = form_seen c.in_ok-item.item in
    let begun = ap begins_prefix (sym c.rest_after.ensures.tokens) ∙ (sym c.begins_prefix.ensures ∙ c.items-test.true) in
    let read = ap (prefix file inner) (sym c.rest_after-in-items.ensures.tokens) ∙ c.in_ok-item.ensures.read in
    let next = so_far-one begins_prefix (λ b. prefix file inner) c.args.before ls (forms_seen c.items.items) part
    c.items.invariant.so_far refl begun read c.in_ok-item.ensures.some in
    let token_count : c.add.new.self.token_count ≡ c.items.items.token_count + c.in_ok-item.item.token_count = ap (λ (p : FormsRead). p.token_count) c.in_ok-add.ensures in
    record {
      so_far = subst (λ (p : FormsRead). SoFar begins_prefix (λ b. prefix file inner) c.args.before ls p) (sym c.in_ok-add.ensures) next;
      fits = omega (arith, token_count, c.in_ok-item.ensures.fits, c.rest_after-in-items.ensures.len, c.items.invariant.fits);
      shallow = omega (arith, ap (λ (p : FormsRead). p.depth) c.in_ok-add.ensures, c.in_ok-item.ensures.shallow, c.items.invariant.shallow);
    }

pub sequence-into_sequence-requires : goal.sequence-into_sequence-requires
sequence-into_sequence-requires t c long =
    let file = file_of c.args.self.now in
    let inner = inner_reading file c.args.left in
    let ls = lexemes c.args.tokens.now in
    let ended = ap begins_prefix (sym c.rest_after.ensures.tokens) ∙ (sym c.begins_prefix.ensures ∙ c.items-test.false) in
    let all = so_far-all begins_prefix (λ b. prefix file inner) c.args.before ls (forms_seen c.items.items) c.items.invariant.so_far ended in
    let order = items_order file c.args.left c.args.before ls c.requires.texts (forms_seen c.items.items) all
    (omega (arith, long, length-map c.items.items.expressions.items form_of)) in
    omega (arith, order, c.place_of.ensures)

pub sequence-returns-clause-read : goal.sequence-returns-clause-read
sequence-returns-clause-read t c =
    let file = file_of c.args.self.now in
    let inner = inner_reading file c.args.left in
    let ls = lexemes c.args.tokens.now in
    let ended = ap begins_prefix (sym c.rest_after.ensures.tokens) ∙ (sym c.begins_prefix.ensures ∙ c.items-test.false) in
    let all = so_far-all begins_prefix (λ b. prefix file inner) c.args.before ls (forms_seen c.items.items) c.items.invariant.so_far ended in
    subst (λ (x : Result FormRead ReadError). Agrees form_seen x c.into_sequence.result)
    (sym (sequence_read file inner c.args.before ls (forms_seen c.items.items) all
    ∙ ap (λ start. Ok (whole_sequence c.args.before start (forms_seen c.items.items))) (sym c.place_of.ensures)))
    c.into_sequence.ensures

-- ---- Expression

pub expression-alternative-requires : goal.expression-alternative-requires
expression-alternative-requires t c =
    let file = file_of c.args.self.now in
    let first = c.in_ok-first.first in
    let rest = texts-following file c.args.before first.token_count (lexemes c.args.tokens.now) c.requires.texts in
    let here = subst (AreTexts file 0) (sym c.rest_after-rest.ensures.tokens) rest in (
      omega arith,
      subst (AreTexts file 0) (sym c.rest_after-in-alternatives.ensures.tokens)
          (texts-following file 0 c.alternatives.more.token_count (lexemes c.rest_after-rest.result.now) here),
    )

pub expression-returns-in_err-alternative-clause-read : goal.expression-returns-in_err-alternative-clause-read
expression-returns-in_err-alternative-clause-read t c =
    let file = file_of c.args.self.now in
    let inner = inner_reading file c.args.left in
    let ls = lexemes c.args.tokens.now in
    let first = form_seen c.in_ok-first.first in
    let more = forms_seen c.alternatives.more in
    let fault = c.in_err-alternative.field-0.0 in
    let rest = c.rest_after-rest.ensures.tokens in
    let begun = ap (λ l. starts_with_slash (drop more.token_count l)) (sym rest) ∙ (ap starts_with_slash (sym c.rest_after.ensures.tokens)
    ∙ (sym c.starts_with_slash.ensures ∙ c.alternatives-test.true)) in
    let stated : AgreesOnError (expression file inner c.args.before ls) fault =
    expression_fault file inner c.args.before ls first more fault c.in_ok-first.ensures.read
    (subst (λ l. SoFar starts_with_slash (alternative file inner) first.last l more) rest c.alternatives.invariant.so_far) begun
    (subst (λ l. AgreesOnError (alternative file inner more.last l) fault)
    (c.rest_after-in-alternatives.ensures.tokens ∙ ap (drop more.token_count) rest) (c.in_err-alternative.ensures.read more.last)) in
    search (rules, stated)

pub expression-alternatives-preserved : goal.expression-alternatives-preserved
expression-alternatives-preserved t c =
    let file = file_of c.args.self.now in
    let inner = inner_reading file c.args.left in
    let rest = lexemes c.rest_after-rest.result.now in
    let last = c.in_ok-first.first.last in
    let more = forms_seen c.alternatives.more in
    let part = form_seen c.in_ok-alternative.alternative in
    let begun = ap starts_with_slash (sym c.rest_after.ensures.tokens) ∙ (sym c.starts_with_slash.ensures ∙ c.alternatives-test.true) in
    let read = ap (alternative file inner more.last) (sym c.rest_after-in-alternatives.ensures.tokens) ∙ c.in_ok-alternative.ensures.read more.last in
    let next = so_far-one starts_with_slash (alternative file inner) last rest more part
    c.alternatives.invariant.so_far refl begun read c.in_ok-alternative.ensures.some in
    let token_count : c.add.new.self.token_count ≡ more.token_count + part.token_count = ap (λ (p : FormsRead). p.token_count) c.in_ok-add.ensures in
    record {
      so_far = subst (λ (p : FormsRead). SoFar starts_with_slash (alternative file inner) last rest p) (sym c.in_ok-add.ensures) next;
      fits = omega (arith, token_count, c.in_ok-alternative.ensures.fits, c.rest_after-in-alternatives.ensures.len, c.alternatives.invariant.fits);
      shallow = omega (arith, ap (λ (p : FormsRead). p.depth) c.in_ok-add.ensures, c.in_ok-alternative.ensures.shallow, c.alternatives.invariant.shallow);
    }

pub expression-into_choice-requires-clause-order : goal.expression-into_choice-requires-clause-order
expression-into_choice-requires-clause-order t c long =
    let file = file_of c.args.self.now in
    let inner = inner_reading file c.args.left in
    let ls = lexemes c.args.tokens.now in
    let first = form_seen c.in_ok-first.first in
    let more = forms_seen c.alternatives.more in
    let rest = c.rest_after-rest.ensures.tokens in
    let ended = ap starts_with_slash (sym c.rest_after.ensures.tokens) ∙ (sym c.starts_with_slash.ensures ∙ c.alternatives-test.false) in
    let all = ap (λ l. many_forms starts_with_slash (alternative file inner) first.last l) (sym rest)
    ∙ so_far-all starts_with_slash (alternative file inner) first.last (lexemes c.rest_after-rest.result.now) more c.alternatives.invariant.so_far ended in
    let order = choice_order file c.args.left c.args.before ls c.requires.texts first c.in_ok-first.ensures.read more all
    (omega (arith, long, length-map c.alternatives.more.expressions.items form_of)) in
    omega (arith, order, c.place_of.ensures)

pub expression-returns-clause-read : goal.expression-returns-clause-read
expression-returns-clause-read t c =
    let file = file_of c.args.self.now in
    let inner = inner_reading file c.args.left in
    let ls = lexemes c.args.tokens.now in
    let first = form_seen c.in_ok-first.first in
    let more = forms_seen c.alternatives.more in
    let rest = c.rest_after-rest.ensures.tokens in
    let ended = ap starts_with_slash (sym c.rest_after.ensures.tokens) ∙ (sym c.starts_with_slash.ensures ∙ c.alternatives-test.false) in
    let all = ap (λ l. many_forms starts_with_slash (alternative file inner) first.last l) (sym rest)
    ∙ so_far-all starts_with_slash (alternative file inner) first.last (lexemes c.rest_after-rest.result.now) more c.alternatives.invariant.so_far ended in
    subst (λ (x : Result FormRead ReadError). Agrees form_seen x c.into_choice.result)
    (sym (expression_read file inner c.args.before ls first more c.in_ok-first.ensures.read all
    ∙ ap (λ start. Ok (whole_choice start first more)) (sym c.place_of.ensures)))
    c.into_choice.ensures
