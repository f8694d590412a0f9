-- The results of records, one after the other.
use Rattle.std.proofs.Common.{◌≡◌, ◌∙◌, ℕ, ◌+◌, ◌-◌, ◌<◌, ◌≤◌, List, [], ◌∷◌, ◌++◌, IfOk, OnOk, Result, Ok, Err, Some, ap, arith}
use Rattle.std.proofs.Common.{drop, get_or, length, refl, set, subst, sym, take}
use Rattle.std.proofs.lemmas.List.{drop-drop, drop-set-lt, get_or-drop, length-take-le, take_more, take_more_set}
use Rattle.std.proofs.lemmas.Option.{slice_get-get_or}
use Rattle.peg_parser.specs.declared.parser.ParseFault.{ParseFault}
use Rattle.peg_handle.specs.RecordTasks.{AddsAnswer, IsUnanswered, wanted_nodes}
use Rattle.peg_handle.specs.Records.{AnswersRecords, AreRecordAnswers, LacksRoom, RecordParse, answered_record, node_room}
use Rattle.peg_handle.specs.Records.{one_more, result_nodes}
use Rattle.peg_handle.specs.declared.content.Match.{Match}
use Rattle.peg_handle.specs.declared.nodes.Node.{Node}
use Rattle.peg_handle.specs.declared.record_answers.Unanswered.{Unanswered}
use Rattle.peg_handle.specs.declared.record_answers.Unanswered.TheVariants.{Memory, Room}
use Rattle.peg_handle.specs.declared.records.RecordProgress.{RecordProgress}
use Rattle.peg_handle.specs.declared.records.TextRecord.{TextRecord}

-- the nodes of a result are counted in its record
nodes_counted : (given : TextRecord) (first : ℕ) (result : Result Match ℕ)
    → (answered_record given first result).nodes ≡ length (result_nodes result)
nodes_counted given first (Ok found) = refl
nodes_counted given first (Err status) = refl

-- a record that is still as it was, at any default
is_given : (old new : List TextRecord) (i : ℕ) (d : TextRecord) → drop i new ≡ drop i old
    → get_or new i d ≡ get_or old i d
is_given old new i d others =
    let at : i ≡ i + 0 = omega arith in
    ap (λ (n : ℕ). get_or new n d) at
    ∙ sym (get_or-drop i new 0 d)
    ∙ ap (λ (l : List TextRecord). get_or l 0 d) others
    ∙ get_or-drop i old 0 d
    ∙ ap (λ (n : ℕ). get_or old n d) (sym at)

-- one more record has its answer
pub answers_more : (asked : RecordParse) (old new : List TextRecord) (nodes_old nodes_new : List Node) (i used : ℕ)
    (d answered : TextRecord) → i < length old → i < length new → used ≤ node_room (length nodes_old)
    → drop i new ≡ drop i old → AreRecordAnswers asked (take i old) (take i new) (take used nodes_old)
    → AddsAnswer asked (get_or new i d) used nodes_old nodes_new answered
    → AreRecordAnswers asked (take (i + 1) old) (take (i + 1) (set new i answered))
    (take (used + answered.nodes) nodes_new)
answers_more asked old new nodes_old nodes_new i used d answered in_old in_new within others so_far adds =
    let given : TextRecord = get_or new i d in
    let front_old : take (i + 1) old ≡ take i old ++ given ∷ [] =
    take_more old i d in_old ∙ ap (λ (r : TextRecord). take i old ++ r ∷ []) (sym (is_given old new i d others)) in
    let counted : length (take used nodes_old) ≡ used = length-take-le used nodes_old (omega arith) in
    let is_answer : answered ≡ answered_record given (length (take used nodes_old)) adds.result =
    adds.answer ∙ ap (λ (n : ℕ). answered_record given n adds.result) (sym counted) in
    let front_new : take (i + 1) (set new i answered)
    ≡ take i new ++ answered_record given (length (take used nodes_old)) adds.result ∷ [] =
    take_more_set new i answered in_new ∙ ap (λ (r : TextRecord). take i new ++ r ∷ []) is_answer in
    let count : answered.nodes ≡ length (result_nodes adds.result) =
    ap (λ (r : TextRecord). r.nodes) adds.answer ∙ nodes_counted given used adds.result in
    let front_nodes : take (used + answered.nodes) nodes_new ≡ take used nodes_old ++ result_nodes adds.result =
    ap (λ (n : ℕ). take (used + n) nodes_new) count ∙ adds.added in
    subst (λ (l : List TextRecord). AreRecordAnswers asked l (take (i + 1) (set new i answered))
    (take (used + answered.nodes) nodes_new)) (sym front_old)
    (subst (λ (l : List TextRecord). AreRecordAnswers asked (take i old ++ given ∷ []) l
    (take (used + answered.nodes) nodes_new)) (sym front_new)
    (subst (λ (l : List Node). AreRecordAnswers asked (take i old ++ given ∷ [])
    (take i new ++ answered_record given (length (take used nodes_old)) adds.result ∷ []) l) (sym front_nodes)
    (one_more (take i old) (take i new) (take used nodes_old) given adds.result so_far adds.is)))

-- the nodes of one more record are counted
pub used_more : (asked : RecordParse) (given answered : TextRecord) (used : ℕ) (old new : List Node)
    → AddsAnswer asked given used old new answered
    → (used + answered.nodes ≤ node_room (length old))
    × (drop (used + answered.nodes) new ≡ drop (used + answered.nodes) old)
used_more asked given answered used old new adds =
    let count : length (result_nodes adds.result) ≡ answered.nodes =
    sym (ap (λ (r : TextRecord). r.nodes) adds.answer ∙ nodes_counted given used adds.result) in (
      subst (λ (n : ℕ). used + n ≤ node_room (length old)) count adds.within,
      subst (λ (n : ℕ). drop (used + n) new ≡ drop (used + n) old) count adds.others,
    )

-- what is as it was after a place is as it was after a later one
pub drop_further : {X : Type 0} (old new : List X) (first last : ℕ) → first ≤ last → drop first new ≡ drop first old
    → drop last new ≡ drop last old
drop_further old new first last le same =
    let at : first + (last - first) ≡ last = omega arith in
    sym (drop-drop (last - first) first new ∙ ap (λ (n : ℕ). drop n new) at)
    ∙ ap (drop (last - first)) same
    ∙ drop-drop (last - first) first old
    ∙ ap (λ (n : ℕ). drop n old) at

-- the next record, if its nodes are wanted
is_wanted : (asked : RecordParse) (given : TextRecord) (capacity used : ℕ) (why : Unanswered)
    → IsUnanswered asked given capacity used why → 0 < wanted_nodes why
    → LacksRoom asked given capacity used (wanted_nodes why)
is_wanted asked given capacity used Memory is some = absurd (omega arith)
is_wanted asked given capacity used (Room wanted) is some = is

-- nodes are wanted, unless an allocation failed
wants_nodes : (asked : RecordParse) (given : TextRecord) (capacity used : ℕ) (why : Unanswered)
    → IsUnanswered asked given capacity used why → used ≤ node_room capacity → (why ≡ Memory → ⊥)
    → 0 < wanted_nodes why
wants_nodes asked given capacity used Memory is within other = absurd (other refl)
wants_nodes asked given capacity used (Room wanted) is within other =
    let over : node_room capacity < used + length (result_nodes is.result) =
    subst (λ (n : ℕ). node_room capacity < used + n) (sym is.count) is.room in
    omega (arith, over, within, is.count)

-- the progress of a call that stops before a record
pub stops_before : (asked : RecordParse) (old new : List TextRecord) (nodes_old nodes_new : List Node) (i used : ℕ)
    (d : TextRecord) (why : Unanswered) (returned : Result RecordProgress ParseFault) → i < length old
    → length nodes_new ≡ length nodes_old → used ≤ node_room (length nodes_new) → drop i new ≡ drop i old
    → drop used nodes_new ≡ drop used nodes_old
    → AreRecordAnswers asked (take i old) (take i new) (take used nodes_new)
    → IsUnanswered asked (get_or new i d) (length nodes_new) used why
    → IfOk returned (λ progress. progress ≡ record { records = i; nodes = used; wanted = wanted_nodes why })
    → OnOk returned (why ≡ Memory → 0 < i)
    → IfOk returned (AnswersRecords asked old new nodes_old nodes_new)
stops_before asked old new nodes_old nodes_new i used d why (Err fault) in_old room within others other_nodes so_far
    unanswered is later = tt
stops_before asked old new nodes_old nodes_new i used d why (Ok progress) in_old room within others other_nodes so_far
    unanswered is later =
    subst (AnswersRecords asked old new nodes_old nodes_new) (sym is) (record {
      answers = so_far;
      records_within = omega arith;
      nodes_within = subst (λ (n : ℕ). used ≤ node_room n) room within;
      other_records = others;
      other_nodes = other_nodes;
      lacks = λ some. (
        get_or new i d,
        slice_get-get_or old i d in_old ∙ ap Some (sym (is_given old new i d others)),
        subst (λ (n : ℕ). LacksRoom asked (get_or new i d) n used (wanted_nodes why)) room
            (is_wanted asked (get_or new i d) (length nodes_new) used why unanswered some),
      );
      begins = λ some none. wants_nodes asked (get_or new i d) (length nodes_new) used why unanswered within
          (λ memory. let more : 0 < i = later memory in absurd (omega (arith, more, none)));
    })

-- what comes after one more item that is written is as it was
pub drop_more_set_at : {X : Type 0} (old new : List X) (i : ℕ) (x : X) → drop i new ≡ drop i old
    → drop (i + 1) (set new i x) ≡ drop (i + 1) old
drop_more_set_at old new i x same =
    drop-set-lt (i + 1) new i x (omega arith) ∙ drop_further old new i (i + 1) (omega arith) same
