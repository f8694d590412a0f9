-- Explanations of texts, one after the other.
use Rattle.std.proofs.Common.{◌≡◌, ◌∙◌, ℕ, List, [], ◌∷◌, ◌++◌, Option, Result, Ok, Err, ap, append_assoc, map, refl, subst, sym, take}
use Rattle.std.proofs.Common.{◌==◌, IsErrAnd, arith, length, true}
use Rattle.std.specs.List.{filter, flat_map, fold}
use borrow.Author.Tests.{eqb-true}
use Rattle.std.proofs.KnownBytes.{Appends-kept, Appends-nil, Appends-trans}
use Rattle.std.proofs.lemmas.Grind.{flat_map-append}
use Rattle.std.proofs.lemmas.List.{append-nil, map-append}
use Rattle.std.proofs.lemmas.List.Elements.{All-append, All-nil, All-push}
use Rattle.std.proofs.lemmas.List.Sums.{fold-append}
use Rattle.std.specs.Io.KnownBytes.{Appends, Keeps}
use Rattle.peg_explain_files.specs.Entries.{entry_fault, entry_message, entry_name, entry_verdict}
use Rattle.peg_explain_files.specs.Names.{is_nonempty}
use Rattle.peg_explain_files.specs.Printings.{WritesPrinted, printed_by}
use Rattle.peg_explain_files.specs.Progress.{Adds, AreEntriesOf, Explains, IsCut, IsEntryOf, Leads, Progress, Setting, Stops}
use Rattle.peg_explain_files.specs.Verdicts.{worse}
use Rattle.peg_explain_files.specs.declared.ended.ExplainFault.{ExplainFault}
use Rattle.peg_explain_files.specs.declared.ended.ExplainFault.TheVariants.{Write, Memory}
use Rattle.peg_explain_files.specs.declared.entry.Entry.{Entry}
use Rattle.peg_explain_files.specs.declared.printing.Printing.{Printing}
use Rattle.peg_explain_files.specs.declared.printing.Printing.TheVariants as printing

-- ---- what is printed

printed-append : (how : Printing) (xs ys : List ℕ) → printed_by how (xs ++ ys) ≡ printed_by how xs ++ printed_by how ys
printed-append printing.All xs ys = refl
printed-append printing.Nothing xs ys = refl

printed-none : (how : Printing) → printed_by how [] ≡ []
printed-none printing.All = refl
printed-none printing.Nothing = refl

printed-of : (how : Printing) (f : Entry → List ℕ) (xs ys : List Entry)
    → printed_by how (flat_map f (xs ++ ys)) ≡ printed_by how (flat_map f xs) ++ printed_by how (flat_map f ys)
printed-of how f xs ys = ap (printed_by how) (flat_map-append f xs ys) ∙ printed-append how (flat_map f xs) (flat_map f ys)

-- ---- entries that are added

pub Adds-none : (how : Printing) (a : Progress) → Adds how [] a a
Adds-none how a = record {
  messages = subst (Appends a.written a.written) (sym (printed-none how)) (Appends-nil a.written);
  faults = sym (ap (λ (l : List ℕ). a.lines ++ l) (printed-none how) ∙ append-nil a.lines);
  verdict = refl;
}

pub Adds-one : (how : Printing) (entry : Entry) (a b : Progress)
    → Appends a.written b.written (printed_by how (entry_message entry))
    → b.lines ≡ a.lines ++ printed_by how (entry_fault entry) → b.worst ≡ worse a.worst (entry_verdict entry)
    → Adds how (entry ∷ []) a b
Adds-one how entry a b messages faults verdict = record {
  messages = subst (λ (l : List ℕ). Appends a.written b.written (printed_by how l)) (sym (append-nil (entry_message entry))) messages;
  faults = faults ∙ ap (λ (l : List ℕ). a.lines ++ printed_by how l) (sym (append-nil (entry_fault entry)));
  verdict = verdict;
}

pub Adds-trans : (how : Printing) (xs ys : List Entry) (a b c : Progress) → Adds how xs a b → Adds how ys b c
    → Adds how (xs ++ ys) a c
Adds-trans how xs ys a b c first second = record {
  messages = subst (Appends a.written c.written) (sym (printed-of how entry_message xs ys))
      (Appends-trans a.written b.written c.written _ _ first.messages second.messages);
  faults = second.faults
      ∙ (ap (λ (l : List ℕ). l ++ printed_by how (flat_map entry_fault ys)) first.faults
      ∙ (append_assoc a.lines _ _ ∙ ap (λ (l : List ℕ). a.lines ++ l) (sym (printed-of how entry_fault xs ys))));
  verdict = second.verdict
      ∙ (ap (λ v. fold (λ verdict entry. worse verdict (entry_verdict entry)) v ys) first.verdict
      ∙ sym (fold-append (λ verdict entry. worse verdict (entry_verdict entry)) a.worst xs ys));
}

pub entries-append : (setting : Setting) (xs ys : List (List ℕ)) (first second : List Entry) → AreEntriesOf setting xs first
    → AreEntriesOf setting ys second → AreEntriesOf setting (xs ++ ys) (first ++ second)
entries-append setting xs ys first second left right = record {
  named = map-append entry_name first second
      ∙ (ap (λ (l : List (List ℕ)). l ++ map entry_name second) left.named ∙ ap (λ (l : List (List ℕ)). xs ++ l) right.named);
  right = All-append (IsEntryOf setting) first second left.right right.right;
}

entries-none : (setting : Setting) → AreEntriesOf setting [] []
entries-none setting = record { named = refl; right = All-nil (IsEntryOf setting) }

-- ---- texts that are explained

pub Explains-none : (setting : Setting) (a : Progress) → Explains setting [] a a
Explains-none setting a = record { entries = []; are = entries-none setting; adds = Adds-none setting.printing a }

pub Explains-trans : (setting : Setting) (xs ys : List (List ℕ)) (a b c : Progress) → Explains setting xs a b
    → Explains setting ys b c → Explains setting (xs ++ ys) a c
Explains-trans setting xs ys a b c first second = record {
  entries = first.entries ++ second.entries;
  are = entries-append setting xs ys first.entries second.entries first.are second.are;
  adds = Adds-trans setting.printing first.entries second.entries a b c first.adds second.adds;
}

-- ---- faults

-- the names that are left may be followed by others
cut-more : (setting : Setting) (fault : ExplainFault) (names more : List (List ℕ)) (part : List ℕ)
    → IsCut setting fault names part → IsCut setting fault (names ++ more) part
cut-more setting Memory names more part cut = cut
cut-more setting Write names more part cut = record {
  entry = cut.entry;
  later = cut.later ++ more;
  count = cut.count;
  first = ap (λ (l : List (List ℕ)). l ++ more) cut.first;
  right = cut.right;
  short = cut.short;
  is = cut.is;
}

pub Stops-more : (setting : Setting) (fault : ExplainFault) (names more : List (List ℕ)) (old new : Option (List ℕ))
    → Stops setting fault names old new → Stops setting fault (names ++ more) old new
Stops-more setting fault names more old new stops = record {
  entries = stops.entries;
  first = stops.first;
  rest = stops.rest ++ more;
  part = stops.part;
  all = ap (λ (l : List (List ℕ)). l ++ more) stops.all ∙ append_assoc stops.first stops.rest more;
  are = stops.are;
  cut = cut-more setting fault stops.rest more stops.part stops.cut;
  messages = stops.messages;
}

pub Stops-after : (setting : Setting) (fault : ExplainFault) (xs ys : List (List ℕ)) (a b : Progress) (new : Option (List ℕ))
    → Explains setting xs a b → Stops setting fault ys b.written new → Stops setting fault (xs ++ ys) a.written new
Stops-after setting fault xs ys a b new first stops = record {
  entries = first.entries ++ stops.entries;
  first = xs ++ stops.first;
  rest = stops.rest;
  part = stops.part;
  all = ap (λ (l : List (List ℕ)). xs ++ l) stops.all ∙ sym (append_assoc xs stops.first stops.rest);
  are = entries-append setting xs stops.first first.entries stops.entries first.are stops.are;
  cut = stops.cut;
  messages = subst (Appends a.written new)
      (sym (ap (λ (l : List ℕ). l ++ stops.part) (printed-of setting.printing entry_message first.entries stops.entries)
      ∙ append_assoc _ _ stops.part))
      (Appends-trans a.written b.written new _ _ first.adds.messages stops.messages);
}

-- if an allocation fails before a text, nothing is written of it
pub Stops-unwritten : (setting : Setting) (names : List (List ℕ)) (old new : Option (List ℕ)) → Keeps old new
    → Stops setting Memory names old new
Stops-unwritten setting names old new kept = record {
  entries = [];
  first = [];
  rest = names;
  part = [];
  all = refl;
  are = entries-none setting;
  cut = refl;
  messages = subst (λ (l : List ℕ). Appends old new (l ++ [])) (sym (printed-none setting.printing))
      (Appends-kept old old new [] (Appends-nil old) kept);
}

-- if an allocation fails after the texts, their messages are written
pub Stops-explained : (setting : Setting) (names : List (List ℕ)) (a b : Progress) (new : Option (List ℕ))
    → Explains setting names a b → Keeps b.written new → Stops setting Memory names a.written new
Stops-explained setting names a b new explained kept =
    subst (λ (l : List (List ℕ)). Stops setting Memory l a.written new) (append-nil names)
    (Stops-after setting Memory names [] a b new explained (Stops-unwritten setting [] b.written new kept))

-- a line and a verdict alone
pub Adds-fault : (how : Printing) (entry : Entry) (a b : Progress) → entry_message entry ≡ [] → b.written ≡ a.written
    → b.lines ≡ a.lines ++ printed_by how (entry_fault entry) → b.worst ≡ worse a.worst (entry_verdict entry)
    → Adds how (entry ∷ []) a b
Adds-fault how entry a b silent same lines worst = Adds-one how entry a b
    (subst (λ (m : List ℕ). Appends a.written b.written (printed_by how m)) (sym silent)
    (subst (λ (m : List ℕ). Appends a.written b.written m) (sym (printed-none how))
    (subst (λ (w : Option (List ℕ)). Appends a.written w []) (sym same) (Appends-nil a.written)))) lines worst

-- ---- one text

pub leads-one : {T : Type 0} (setting : Setting) (entry : Entry) (a b : Progress) (result : Result T ExplainFault)
    → IsEntryOf setting entry → WritesPrinted setting.printing (entry_message entry) a.written b.written result
    → b.lines ≡ a.lines ++ printed_by setting.printing (entry_fault entry)
    → b.worst ≡ worse a.worst (entry_verdict entry) → Leads setting (entry_name entry ∷ []) a b result
leads-one setting entry a b (Ok value) right writes lines worst = record {
  entries = entry ∷ [];
  are = record { named = refl; right = All-push (IsEntryOf setting) [] entry (All-nil (IsEntryOf setting)) right };
  adds = Adds-one setting.printing entry a b writes lines worst;
}
leads-one setting entry a b (Err Memory) right writes lines worst =
    Stops-unwritten setting (entry_name entry ∷ []) a.written b.written writes
leads-one setting entry a b (Err Write) right writes lines worst =
    let message = printed_by setting.printing (entry_message entry) in
    record {
      entries = [];
      first = [];
      rest = entry_name entry ∷ [];
      part = take writes.0 message;
      all = refl;
      are = entries-none setting;
      cut = record {
        entry = entry;
        later = [];
        count = writes.0;
        first = refl;
        right = right;
        short = writes.1;
        is = refl;
      };
      messages = subst (λ (l : List ℕ). Appends a.written b.written (l ++ take writes.0 message))
          (sym (printed-none setting.printing)) writes.2;
    }

-- ---- faults that are passed on

pub error-passed : {T : Type 0} (P : Result T ExplainFault → Type 0) (passed : Result T ExplainFault) (why : ExplainFault)
    → IsErrAnd passed (λ stated. stated ≡ why) → P (Err why) → P passed
error-passed P (Ok value) why is p = absurd is
error-passed P (Err stated) why is p = subst (λ (f : ExplainFault). P (Err f)) (sym is) p

-- an empty part names no text
pub Explains-empty : (setting : Setting) (part : List ℕ) (a : Progress) → (length part == 0) ≡ true
    → Explains setting (filter is_nonempty (part ∷ [])) a a
Explains-empty setting [] a is = Explains-none setting a
Explains-empty setting (byte ∷ rest) a is = absurd (omega (arith, eqb-true (length (byte ∷ rest)) 0 is))
