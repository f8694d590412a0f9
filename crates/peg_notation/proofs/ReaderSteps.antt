-- Steps of the reader's functions: passing on a fault, and the next token.
use Rattle.std.proofs.Common.{◌≡◌, ℕ, zero, suc, ◌-◌, ◌<◌, ◌≤◌, ◌≢◌, List, [], ◌∷◌, length, drop, take, get_or, true}
use Rattle.std.proofs.Common.{Option, None, Some, Result, Ok, Err, refl, sym, ap, ◌∙◌, subst, arith}
use Rattle.peg_bytes.specs.Extent.{Extent, extent}
use Rattle.peg_semantics.specs.Form.{Form}
use Rattle.peg_notation.specs.Reader.{ReadError, Unexpected, TooDeepAt, BadCountAt, FormRead, FormsRead, Reading, place_of, and_read, many_forms, begins_prefix, starts_with_slash, parenthesized, closed_form, primary, suffix, prefix, prefix_of, prefix_sign, whole_sequence, sequence, alternative, whole_choice, expression, expression_in, RuleRead, rule_read, definition_after, definitions_after, grammar, starts_with_arrow}
use Rattle.peg_notation.specs.ReaderCode.{lexemes, AreTexts, inner_reading, AgreesOnError, after_sign, after_sign_of, with_sign, with_sign_of}
use Rattle.peg_notation.specs.Spans.{LiesIn}
use Rattle.peg_lexer.specs.Tokens.{Lexeme, lexeme_of}
use Rattle.peg_lexer.specs.declared.token.Token.{Token}
use Rattle.peg_notation.specs.declared.fault.NotationFault.{NotationFault}
use Rattle.peg_notation.specs.declared.fault.NotationFault.TheVariants.{FileTooLong, Syntax, TooNested, BadCount, Memory}
use Rattle.peg_notation.proofs.ManyLoops.{SoFar, so_far-halt}
use Rattle.peg_notation.proofs.Reached.{token-order, token-lies, texts-from, texts-position, Taken, Reached, Takes, Reaches, InnerReaches, primary-takes, suffix-takes}
use Rattle.peg_notation.proofs.ReachedRules.{Passes, PassesAll, items-pass, alternatives-pass, sequence-reaches, both-order, expression_in-reaches}
use Rattle.peg_notation.proofs.TokenTexts.{lexemes-following}

-- a fault is passed on
pub fault_passes : {X Y : Type 0} (x : Result X ReadError) (next : X → Result Y ReadError) (fault : NotationFault) → AgreesOnError x fault
    → AgreesOnError (and_read x next) fault
fault_passes x next FileTooLong is = is
fault_passes {X} {Y} x next (Syntax at) is = ap (λ (r : Result X ReadError). and_read r next) is
fault_passes {X} {Y} x next (TooNested at) is = ap (λ (r : Result X ReadError). and_read r next) is
fault_passes {X} {Y} x next (BadCount at) is = ap (λ (r : Result X ReadError). and_read r next) is
fault_passes x next Memory is = tt

-- a fault of the part is a fault of the whole, if each reason to stop in the part is one in the whole
pub fault_same : {X Y : Type 0} (x : Result X ReadError) (y : Result Y ReadError) (fault : NotationFault)
    → ((halt : ReadError) → x ≡ Err halt → y ≡ Err halt) → AgreesOnError x fault → AgreesOnError y fault
fault_same x y FileTooLong same is = is
fault_same x y (Syntax at) same is = same (Unexpected at) is
fault_same x y (TooNested at) same is = same (TooDeepAt at) is
fault_same x y (BadCount at) same is = same (BadCountAt at) is
fault_same x y Memory same is = tt

-- an expression inside parentheses may have one parenthesis less open
pub expression_in-is : (file : List ℕ) (n before : ℕ) (lexemes : List Lexeme)
    → expression_in file n before lexemes ≡ expression file (inner_reading file n) before lexemes
unfolding expression_in
expression_in-is file zero before lexemes = refl
expression_in-is file (suc n) before lexemes = refl

-- if a parenthesis may be opened, it contains an expression
pub parenthesized-is : (file : List ℕ) (left : ℕ) → left ≢ 0 → (size : ℕ) (opening : Lexeme) (rest : List Lexeme)
    → parenthesized (inner_reading file left) size opening rest
    ≡ and_read (expression file (inner_reading file (left - 1)) opening.text.end rest)
    (λ (inside : FormRead). closed_form size inside (drop inside.token_count rest))
parenthesized-is file zero some size opening rest = absurd (some refl)
parenthesized-is file (suc n) some size opening rest =
    let less : n ≡ suc n - 1 = omega arith in
    ap (λ (x : Result FormRead ReadError). and_read x (λ (inside : FormRead). closed_form size inside (drop inside.token_count rest)))
    (expression_in-is file n opening.text.end rest
    ∙ ap (λ k. expression file (inner_reading file k) opening.text.end rest) less)

-- the tokens after the first n have their texts after the start of the file
pub texts-following : (file : List ℕ) (from n : ℕ) (lexemes : List Lexeme) → AreTexts file from lexemes
    → AreTexts file 0 (drop n lexemes)
texts-following file from zero lexemes texts = texts-from file from 0 lexemes (omega arith) texts
texts-following file from (suc n) [] texts = omega arith
texts-following file from (suc n) (lexeme ∷ more) texts = texts-following file lexeme.text.end n more texts.2

-- the next token, and those after it
pub front_token : (tokens : List Token) (token : Token) → 1 ≤ length tokens → token ≡ get_or tokens 0 token
    → lexemes tokens ≡ lexeme_of token ∷ lexemes (take (length tokens - 1) (drop 1 tokens))
front_token [] token long is = absurd (omega arith)
front_token (first ∷ more) token long is =
    λ i. lexeme_of (sym is i) ∷ sym (lexemes-following (first ∷ more) 1) i

pub front_texts : (file : List ℕ) (from : ℕ) (tokens : List Token) (token : Token) → 1 ≤ length tokens
    → token ≡ get_or tokens 0 token → AreTexts file from (lexemes tokens)
    → AreTexts file from (lexeme_of token ∷ lexemes (take (length tokens - 1) (drop 1 tokens)))
front_texts file from tokens token long is texts = subst (AreTexts file from) (front_token tokens token long is) texts

pub front_lies : (file : List ℕ) (from : ℕ) (tokens : List Token) (token : Token) → 1 ≤ length tokens
    → token ≡ get_or tokens 0 token → AreTexts file from (lexemes tokens) → LiesIn (length file) (extent token.span)
front_lies file from tokens token long is texts =
    token-lies file from (lexeme_of token) (lexemes (take (length tokens - 1) (drop 1 tokens)))
    (front_texts file from tokens token long is texts)

-- ---- the order of offsets

-- if no parenthesis is open yet, as many may be opened as are left
inner-reaches : (file : List ℕ) (left : ℕ) → InnerReaches file left 0 (inner_reading file left)
inner-reaches file zero = refl
inner-reaches file (suc n) = (omega arith, expression_in-reaches file (suc n) n 1 (omega arith))

-- a prefix is a suffix, as a predicate if its sign comes first
and_read-same : (x : Result FormRead ReadError) → x ≡ and_read x (λ (part : FormRead). Ok part)
and_read-same (Ok part) = refl
and_read-same (Err halt) = refl

pub prefix-is : (file : List ℕ) (inner : Option Reading) (lexemes : List Lexeme) → prefix file inner lexemes
    ≡ and_read (suffix file inner (after_sign lexemes)) (λ (part : FormRead). Ok (with_sign lexemes part))
unfolding prefix
prefix-is file inner [] = and_read-same (suffix file inner [])
prefix-is file inner (l ∷ rest) = by (prefix_sign l.kind)
  where
    by : (sign : Option (Form → Extent → Form)) → prefix_of file inner l rest sign
        ≡ and_read (suffix file inner (after_sign_of l rest sign)) (λ (part : FormRead). Ok (with_sign_of l.text.start part sign))
    by None = and_read-same (suffix file inner (l ∷ rest))
    by (Some sign) = refl

-- the lexemes after the sign are in the file
pub sign_texts : (file : List ℕ) (lexemes : List Lexeme) → AreTexts file 0 lexemes → AreTexts file 0 (after_sign lexemes)
sign_texts file [] texts = texts
sign_texts file (l ∷ rest) texts = by (prefix_sign l.kind)
  where
    by : (sign : Option (Form → Extent → Form)) → AreTexts file 0 (after_sign_of l rest sign)
    by None = texts
    by (Some sign) = texts-from file l.text.end 0 rest (omega arith) texts.2

-- a Suffix that is read ends no earlier than it starts
suffix_taken : (file : List ℕ) (left from : ℕ) (lexemes : List Lexeme) → AreTexts file from lexemes → (part : FormRead)
    → suffix file (inner_reading file left) lexemes ≡ Ok part → Taken file left 0 lexemes part
suffix_taken file left from lexemes texts part read =
    subst (λ (x : Result FormRead ReadError). Takes file left 0 lexemes x) read
    (suffix-takes file left 0 from (inner_reading file left) (inner-reaches file left) lexemes texts)

-- a prefix starts before its suffix ends
pub sign_order : (file : List ℕ) (left : ℕ) (lexemes : List Lexeme) → AreTexts file 0 lexemes → (part : FormRead)
    → suffix file (inner_reading file left) (after_sign lexemes) ≡ Ok part → place_of (length file) lexemes ≤ part.last
sign_order file left [] texts part read = (suffix_taken file left 0 [] texts part read).order
sign_order file left (l ∷ rest) texts part read = by (prefix_sign l.kind) read
  where
    by : (sign : Option (Form → Extent → Form)) → suffix file (inner_reading file left) (after_sign_of l rest sign) ≡ Ok part
        → l.text.start ≤ part.last
    by None read = (suffix_taken file left 0 (l ∷ rest) texts part read).order
    by (Some sign) read =
        omega (
          arith,
          token-order file 0 l rest texts,
          texts-position file l.text.end rest texts.2,
          (suffix_taken file left l.text.end rest texts.2 part read).order,
        )

-- a Primary that is read ends no earlier than it starts, and the tokens after it follow it
pub primary_taken : (file : List ℕ) (left : ℕ) (lexemes : List Lexeme) → AreTexts file 0 lexemes → (part : FormRead)
    → primary file (inner_reading file left) lexemes ≡ Ok part → Taken file left 0 lexemes part
primary_taken file left lexemes texts part read =
    subst (λ (x : Result FormRead ReadError). Takes file left 0 lexemes x) read
    (primary-takes file left 0 0 (inner_reading file left) (inner-reaches file left) lexemes texts)

pub items_order : (file : List ℕ) (left before : ℕ) (lexemes : List Lexeme) → AreTexts file before lexemes → (parts : FormsRead)
    → many_forms begins_prefix (λ b. prefix file (inner_reading file left)) before lexemes ≡ Ok parts → 0 < length parts.forms
    → place_of (length file) lexemes ≤ parts.last
items_order file left before lexemes texts parts read some =
    let passed : Passes file left 0 before lexemes parts =
    subst (λ (x : Result FormsRead ReadError). PassesAll file left 0 before lexemes x) read
    (items-pass file left 0 (inner_reading file left) (inner-reaches file left) before lexemes texts) in
    passed.order (passed.some some)

pub choice_order : (file : List ℕ) (left before : ℕ) (lexemes : List Lexeme) → AreTexts file before lexemes
    → (first : FormRead) → sequence file (inner_reading file left) before lexemes ≡ Ok first → (more : FormsRead)
    → many_forms starts_with_slash (alternative file (inner_reading file left)) first.last (drop first.token_count lexemes) ≡ Ok more
    → 0 < length more.forms → place_of (length file) lexemes ≤ more.last
choice_order file left before lexemes texts first read more read_more some =
    let inner = inner_reading file left in
    let one : Reached file left 0 before lexemes first =
    subst (λ (x : Result FormRead ReadError). Reaches file left 0 before lexemes x) read
    (sequence-reaches file left 0 inner (inner-reaches file left) before lexemes texts) in
    let passed : Passes file left 0 first.last (drop first.token_count lexemes) more =
    subst (λ (x : Result FormsRead ReadError). PassesAll file left 0 first.last (drop first.token_count lexemes) x) read_more
    (alternatives-pass file left 0 inner (inner-reaches file left) first.last (drop first.token_count lexemes) one.rest_texts) in
    both-order file lexemes first.token_count more.token_count first.last more.last one.order passed.after passed.order
    (omega (arith, passed.some some))

-- ---- faults inside loops

pub sequence_fault : (file : List ℕ) (inner : Option Reading) (before : ℕ) (lexemes : List Lexeme) (parts : FormsRead)
    (fault : NotationFault) → SoFar begins_prefix (λ b. prefix file inner) before lexemes parts
    → begins_prefix (drop parts.token_count lexemes) ≡ true → AgreesOnError (prefix file inner (drop parts.token_count lexemes)) fault
    → AgreesOnError (sequence file inner before lexemes) fault
unfolding sequence
sequence_fault file inner before lexemes parts fault so_far begun is =
    fault_passes (many_forms begins_prefix (λ b. prefix file inner) before lexemes)
    (λ (p : FormsRead). Ok (whole_sequence before (place_of (length file) lexemes) p)) fault
    (fault_same (prefix file inner (drop parts.token_count lexemes)) (many_forms begins_prefix (λ b. prefix file inner) before lexemes) fault
    (λ halt same. so_far-halt begins_prefix (λ b. prefix file inner) before lexemes parts halt so_far refl begun same) is)

pub expression_fault : (file : List ℕ) (inner : Option Reading) (before : ℕ) (lexemes : List Lexeme) (first : FormRead) (more : FormsRead)
    (fault : NotationFault) → sequence file inner before lexemes ≡ Ok first
    → SoFar starts_with_slash (alternative file inner) first.last (drop first.token_count lexemes) more
    → starts_with_slash (drop more.token_count (drop first.token_count lexemes)) ≡ true
    → AgreesOnError (alternative file inner more.last (drop more.token_count (drop first.token_count lexemes))) fault
    → AgreesOnError (expression file inner before lexemes) fault
expression_fault file inner before lexemes first more fault read so_far begun is =
    let rest = drop first.token_count lexemes in
    fault_same (many_forms starts_with_slash (alternative file inner) first.last rest) (expression file inner before lexemes) fault
    (λ halt same. ap (λ (x : Result FormRead ReadError). and_read x (λ (p : FormRead). and_read
    (many_forms starts_with_slash (alternative file inner) p.last (drop p.token_count lexemes))
    (λ (q : FormsRead). Ok (whole_choice (place_of (length file) lexemes) p q)))) read
    ∙ ap (λ (x : Result FormsRead ReadError). and_read x (λ (q : FormsRead). Ok (whole_choice (place_of (length file) lexemes) first q))) same)
    (fault_same (alternative file inner more.last (drop more.token_count rest))
    (many_forms starts_with_slash (alternative file inner) first.last rest) fault
    (λ halt same. so_far-halt starts_with_slash (alternative file inner) first.last rest more halt so_far refl begun same) is)

-- ---- what is read in all

pub sequence_read : (file : List ℕ) (inner : Option Reading) (before : ℕ) (lexemes : List Lexeme) (parts : FormsRead)
    → many_forms begins_prefix (λ b. prefix file inner) before lexemes ≡ Ok parts
    → sequence file inner before lexemes ≡ Ok (whole_sequence before (place_of (length file) lexemes) parts)
unfolding sequence
sequence_read file inner before lexemes parts read =
    ap (λ (x : Result FormsRead ReadError). and_read x (λ (p : FormsRead). Ok (whole_sequence before (place_of (length file) lexemes) p))) read

pub expression_read : (file : List ℕ) (inner : Option Reading) (before : ℕ) (lexemes : List Lexeme) (first : FormRead) (more : FormsRead)
    → sequence file inner before lexemes ≡ Ok first
    → many_forms starts_with_slash (alternative file inner) first.last (drop first.token_count lexemes) ≡ Ok more
    → expression file inner before lexemes ≡ Ok (whole_choice (place_of (length file) lexemes) first more)
expression_read file inner before lexemes first more read read_more =
    ap (λ (x : Result FormRead ReadError). and_read x (λ (p : FormRead). and_read
    (many_forms starts_with_slash (alternative file inner) p.last (drop p.token_count lexemes))
    (λ (q : FormsRead). Ok (whole_choice (place_of (length file) lexemes) p q)))) read
    ∙ ap (λ (x : Result FormsRead ReadError). and_read x (λ (q : FormsRead). Ok (whole_choice (place_of (length file) lexemes) first q))) read_more

pub ruleset faults = (fault_passes)

-- a rule after its name, by its body
following_is : (file : List ℕ) (bound : ℕ) (name : Lexeme) (lexemes : List Lexeme) (arrow : Lexeme) (more : List Lexeme)
    → lexemes ≡ arrow ∷ more → starts_with_arrow lexemes ≡ true
    → definition_after file bound name lexemes (starts_with_arrow lexemes)
    ≡ and_read (expression file (inner_reading file bound) arrow.text.end more) (λ (body : FormRead). Ok (rule_read file name body))
following_is file bound name lexemes arrow more front next =
    ap (definition_after file bound name lexemes) next
    ∙ (ap (λ l. definition_after file bound name l true) front
    ∙ ap (λ (x : Result FormRead ReadError). and_read x (λ (body : FormRead). Ok (rule_read file name body)))
    (expression_in-is file bound arrow.text.end more))

pub following_fault : (file : List ℕ) (bound : ℕ) (name : Lexeme) (lexemes : List Lexeme) (arrow : Lexeme) (more : List Lexeme)
    (fault : NotationFault) → lexemes ≡ arrow ∷ more → starts_with_arrow lexemes ≡ true
    → AgreesOnError (expression file (inner_reading file bound) arrow.text.end more) fault
    → AgreesOnError (definition_after file bound name lexemes (starts_with_arrow lexemes)) fault
following_fault file bound name lexemes arrow more fault front next is =
    subst (λ (x : Result RuleRead ReadError). AgreesOnError x fault) (sym (following_is file bound name lexemes arrow more front next))
    (fault_passes (expression file (inner_reading file bound) arrow.text.end more) (λ (body : FormRead). Ok (rule_read file name body)) fault is)

pub following_read : (file : List ℕ) (bound : ℕ) (name : Lexeme) (lexemes : List Lexeme) (arrow : Lexeme) (more : List Lexeme)
    (body : FormRead) → lexemes ≡ arrow ∷ more → starts_with_arrow lexemes ≡ true
    → expression file (inner_reading file bound) arrow.text.end more ≡ Ok body
    → definition_after file bound name lexemes (starts_with_arrow lexemes) ≡ Ok (rule_read file name body)
following_read file bound name lexemes arrow more body front next read =
    following_is file bound name lexemes arrow more front next
    ∙ ap (λ (x : Result FormRead ReadError). and_read x (λ (body : FormRead). Ok (rule_read file name body))) read

-- a file of some tokens is its rules
pub grammar-is : (file : List ℕ) (bound : ℕ) (lexemes : List Lexeme) → 0 < length lexemes
    → grammar file bound lexemes ≡ definitions_after file bound lexemes 0
unfolding grammar
grammar-is file bound [] some = absurd (omega arith)
grammar-is file bound (lexeme ∷ rest) some = refl
