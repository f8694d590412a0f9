-- Expressions as written: the parsing expressions of Ford 2004, section 3.1, with the sugar of section 3.2 kept. They
-- are trees of their own, apart from the code's `Expr`.
use Rattle.std.specs.Prelude.{ℕ, ◌+◌, List, [], ◌∷◌, ◌++◌, length}
use Rattle.peg_bytes.specs.ByteSet.{Bytes}
use Rattle.peg_bytes.specs.Extent.{Extent}

-- an expression in one of twelve forms, with its span in the file; and a list of expressions
mutual
  pub data Form : Type 0 where
    Literal : (bytes : List ℕ) → (span : Extent) → Form
    Class : (set : Bytes) → (span : Extent) → Form
    Any : (span : Extent) → Form
    Name : (name : List ℕ) → (span : Extent) → Form
    Seq : (items : Forms) → (span : Extent) → Form
    Choice : (first : Form) → (rest : Forms) → (span : Extent) → Form
    Optional : (part : Form) → (span : Extent) → Form
    Star : (part : Form) → (span : Extent) → Form
    Plus : (part : Form) → (span : Extent) → Form
    Counted : (part : Form) → (min max : ℕ) → (span : Extent) → Form
    And : (part : Form) → (span : Extent) → Form
    Not : (part : Form) → (span : Extent) → Form

  pub data Forms : Type 0 where
    End : Forms
    Then : (first : Form) → (rest : Forms) → Forms

-- the expressions of a list, as `Forms`
abbrev pub forms : List Form → Forms
forms [] = End
forms (e ∷ es) = Then e (forms es)

-- The number of terminals in an expression: literals, classes and dots, including `''` and the empty class.
abbrev mutual
  pub terminals : Form → ℕ
  terminals (Literal bytes span) = 1
  terminals (Class set span) = 1
  terminals (Any span) = 1
  terminals (Name name span) = 0
  terminals (Seq items span) = terminals_of_all items
  terminals (Choice first rest span) = terminals first + terminals_of_all rest
  terminals (Optional part span) = terminals part
  terminals (Star part span) = terminals part
  terminals (Plus part span) = terminals part
  terminals (Counted part min max span) = terminals part
  terminals (And part span) = terminals part
  terminals (Not part span) = terminals part

  pub terminals_of_all : Forms → ℕ
  terminals_of_all End = 0
  terminals_of_all (Then e rest) = terminals e + terminals_of_all rest

-- a name and its span in the file
pub record Reference : Type 0 where
  pub name : List ℕ
  pub span : Extent

-- The names that an expression refers to, in written order.
abbrev mutual
  pub names_used : Form → List Reference
  names_used (Literal bytes span) = []
  names_used (Class set span) = []
  names_used (Any span) = []
  names_used (Name name span) = record { name = name; span = span } ∷ []
  names_used (Seq items span) = names_used_by_all items
  names_used (Choice first rest span) = names_used first ++ names_used_by_all rest
  names_used (Optional part span) = names_used part
  names_used (Star part span) = names_used part
  names_used (Plus part span) = names_used part
  names_used (Counted part min max span) = names_used part
  names_used (And part span) = names_used part
  names_used (Not part span) = names_used part

  pub names_used_by_all : Forms → List Reference
  names_used_by_all End = []
  names_used_by_all (Then e rest) = names_used e ++ names_used_by_all rest

-- a count: the least and greatest number of repetitions, and the span of the whole counted expression in the file
pub record Count : Type 0 where
  pub min : ℕ
  pub max : ℕ
  pub span : Extent

-- The counts in an expression, in written order: an expression before its parts.
abbrev mutual
  pub counts_written : Form → List Count
  counts_written (Literal bytes span) = []
  counts_written (Class set span) = []
  counts_written (Any span) = []
  counts_written (Name name span) = []
  counts_written (Seq items span) = counts_written_by_all items
  counts_written (Choice first rest span) = counts_written first ++ counts_written_by_all rest
  counts_written (Optional part span) = counts_written part
  counts_written (Star part span) = counts_written part
  counts_written (Plus part span) = counts_written part
  counts_written (Counted part min max span) =
      record { min = min; max = max; span = span } ∷ counts_written part
  counts_written (And part span) = counts_written part
  counts_written (Not part span) = counts_written part

  pub counts_written_by_all : Forms → List Count
  counts_written_by_all End = []
  counts_written_by_all (Then e rest) = counts_written e ++ counts_written_by_all rest

-- The weight of an expression: 1 for itself and for each subexpression, and 1 for each byte of a literal.
abbrev mutual
  pub form_weight : Form → ℕ
  form_weight (Literal bytes span) = 1 + length bytes
  form_weight (Class set span) = 1
  form_weight (Any span) = 1
  form_weight (Name name span) = 1
  form_weight (Seq items span) = 1 + forms_weight items
  form_weight (Choice first rest span) = 1 + form_weight first + forms_weight rest
  form_weight (Optional part span) = 1 + form_weight part
  form_weight (Star part span) = 1 + form_weight part
  form_weight (Plus part span) = 1 + form_weight part
  form_weight (Counted part min max span) = 1 + form_weight part
  form_weight (And part span) = 1 + form_weight part
  form_weight (Not part span) = 1 + form_weight part

  pub forms_weight : Forms → ℕ
  forms_weight End = 0
  forms_weight (Then e rest) = form_weight e + forms_weight rest
