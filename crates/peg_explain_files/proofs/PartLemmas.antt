-- The names in some bytes of a list.
use Rattle.std.proofs.Common.{◌≡◌, ◌∙◌, ℕ, true, false, List, [], ◌∷◌, ◌++◌, Option, ap, append_assoc, append-nil, subst, sym}
use Rattle.std.specs.List.{filter}
use Rattle.std.proofs.lemmas.List.Elements.{filter-append}
use Rattle.peg_explain_files.specs.Listings.{ExplainsParts, StopsInParts}
use Rattle.peg_explain_files.specs.Names.{is_end, is_nonempty, parts_in}
use Rattle.peg_explain_files.specs.Progress.{Explains, Progress, Setting, Stops}
use Rattle.peg_explain_files.specs.declared.ended.ExplainFault.{ExplainFault}
use Rattle.peg_explain_files.specs.declared.ended.ExplainFault.TheVariants.{Memory}
use Rattle.peg_explain_files.proofs.ProgressLemmas.{Explains-none, Explains-trans, Stops-after}
use Rattle.peg_explain_files.proofs.SplitLemmas.{slice_split-more, slice_split-push_end, slice_split-push_other}

module _ (setting : Setting) where
  -- ---- one byte

  -- a byte that is no end is carried
  pub parts-other : (byte : ℕ) (carried : List ℕ) (a : Progress) → is_end setting.question.end byte ≡ false
      → ExplainsParts setting (byte ∷ []) carried (carried ++ byte ∷ []) a a
  parts-other byte carried a other = record {
    parts = [];
    split = λ stream done is. slice_split-push_other (is_end setting.question.end) stream byte done carried other is
        ∙ ap (λ (l : List (List ℕ)). l ++ (carried ++ byte ∷ []) ∷ []) (sym (append-nil done));
    explained = Explains-none setting a;
  }

  -- at an end what is carried is a part
  pub parts-end : (byte : ℕ) (carried : List ℕ) (a b : Progress) → is_end setting.question.end byte ≡ true
      → Explains setting (filter is_nonempty (carried ∷ [])) a b → ExplainsParts setting (byte ∷ []) carried [] a b
  parts-end byte carried a b end explained = record {
    parts = carried ∷ [];
    split = λ stream done is. slice_split-push_end (is_end setting.question.end) stream byte done carried end is;
    explained = explained;
  }

  pub parts-end_stops : (fault : ExplainFault) (byte : ℕ) (carried : List ℕ) (old new : Option (List ℕ))
      → is_end setting.question.end byte ≡ true → Stops setting fault (filter is_nonempty (carried ∷ [])) old new
      → StopsInParts setting fault (byte ∷ []) carried old new
  parts-end_stops fault byte carried old new end stops = record {
    parts = carried ∷ [];
    split = λ stream rest done is. slice_split-more (is_end setting.question.end) rest (stream ++ byte ∷ [])
        (done ++ carried ∷ []) [] (slice_split-push_end (is_end setting.question.end) stream byte done carried end is);
    stops = stops;
  }

  -- if an allocation fails, what comes after is not looked at
  pub parts-unwritten : (bytes carried : List ℕ) (old new : Option (List ℕ)) → Stops setting Memory [] old new
      → StopsInParts setting Memory bytes carried old new
  parts-unwritten bytes carried old new stops = record {
    parts = [];
    split = λ stream rest done is.
        let more = slice_split-more (is_end setting.question.end) (bytes ++ rest) stream done carried is in (
          more.0,
          ap (parts_in setting.question.end) (append_assoc stream bytes rest)
              ∙ (more.1 ∙ ap (λ (l : List (List ℕ)). l ++ more.0) (sym (append-nil done))),
        );
    stops = stops;
  }

  -- ---- several bytes

  pub parts-none : (carried : List ℕ) (a : Progress) → ExplainsParts setting [] carried carried a a
  parts-none carried a = record {
    parts = [];
    split = λ stream done is. ap (parts_in setting.question.end) (append-nil stream)
        ∙ (is ∙ ap (λ (l : List (List ℕ)). l ++ carried ∷ []) (sym (append-nil done)));
    explained = Explains-none setting a;
  }

  pub parts-trans : (first second carried between left : List ℕ) (a b c : Progress)
      → ExplainsParts setting first carried between a b → ExplainsParts setting second between left b c
      → ExplainsParts setting (first ++ second) carried left a c
  parts-trans first second carried between left a b c one two = record {
    parts = one.parts ++ two.parts;
    split = λ stream done is.
        ap (parts_in setting.question.end) (sym (append_assoc stream first second))
        ∙ (two.split (stream ++ first) (done ++ one.parts) (one.split stream done is)
        ∙ ap (λ (l : List (List ℕ)). l ++ left ∷ []) (append_assoc done one.parts two.parts));
    explained = subst (λ (l : List (List ℕ)). Explains setting l a c) (sym (filter-append is_nonempty one.parts two.parts))
        (Explains-trans setting _ _ a b c one.explained two.explained);
  }

  -- a fault in the second of two lists of bytes
  pub parts-stop_after : (fault : ExplainFault) (first second carried between : List ℕ) (a b : Progress) (new : Option (List ℕ))
      → ExplainsParts setting first carried between a b → StopsInParts setting fault second between b.written new
      → StopsInParts setting fault (first ++ second) carried a.written new
  parts-stop_after fault first second carried between a b new one two = record {
    parts = one.parts ++ two.parts;
    split = λ stream rest done is.
        let later = two.split (stream ++ first) rest (done ++ one.parts) (one.split stream done is) in (
          later.0,
          ap (λ (l : List ℕ). parts_in setting.question.end (l ++ rest)) (sym (append_assoc stream first second))
              ∙ (later.1 ∙ ap (λ (l : List (List ℕ)). l ++ later.0) (append_assoc done one.parts two.parts)),
        );
    stops = subst (λ (l : List (List ℕ)). Stops setting fault l a.written new)
        (sym (filter-append is_nonempty one.parts two.parts))
        (Stops-after setting fault _ _ a b new one.explained two.stops);
  }

  -- a fault in the first of two lists of bytes
  pub parts-stop_before : (fault : ExplainFault) (first second carried : List ℕ) (old new : Option (List ℕ))
      → StopsInParts setting fault first carried old new → StopsInParts setting fault (first ++ second) carried old new
  parts-stop_before fault first second carried old new one = record {
    parts = one.parts;
    split = λ stream rest done is.
        let later = one.split stream (second ++ rest) done is in
        (later.0, ap (parts_in setting.question.end) (joined stream rest) ∙ later.1);
    stops = one.stops;
  }
    where
      joined : (stream rest : List ℕ) → stream ++ (first ++ second) ++ rest ≡ stream ++ first ++ (second ++ rest)
      joined stream rest =
          ap (λ (l : List ℕ). l ++ rest) (sym (append_assoc stream first second)) ∙ append_assoc (stream ++ first) second rest
