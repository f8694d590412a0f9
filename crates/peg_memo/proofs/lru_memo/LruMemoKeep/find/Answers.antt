use Rattle.std.proofs.Common.{◌≡◌, Option, Some, None, IfSome, sym, ◌∙◌}
use Rattle.std.specs.Option.{option_map}
use Rattle.peg_memo.specs.StoredResult.{StoredResult, stored_of}
use Rattle.peg_memo.specs.MemoKey.{MemoKey}
use Rattle.peg_memo.specs.declared.found.Found.{Found}
use Rattle.peg_memo.proofs.HeldPairs.{get-entries_in}
use Rattle.peg_memo.proofs.lru_memo.LruMemoKeep.find.Goals as goal

found_held : (answer : Option Found) (stored : Option StoredResult) → option_map stored_of answer ≡ stored
    → IfSome answer (λ found. stored ≡ Some (stored_of found))
found_held None stored same = tt
found_held (Some found) stored same = sym same

pub returns-clause-entries : goal.returns-clause-entries
returns-clause-entries c =
    let asked : MemoKey = (c.args.rule, c.args.position) in
    found_held c.lookup.result _ (c.lookup.ensures ∙ sym (get-entries_in c.args.self.now.pairs asked))

pub returns-clause-all : goal.returns-clause-all
returns-clause-all c = λ _.
    let asked : MemoKey = (c.args.rule, c.args.position) in
    c.lookup.ensures ∙ sym (get-entries_in c.args.self.now.pairs asked)
