use Rattle.std.proofs.Common.{◌==◌, ◌∙◌, ◌&&◌, ◌||◌, ℕ, Bool, List, ap, length, sym}
use Rattle.std.specs.List.{list_any}
use Rattle.std.specs.Prelude.{nat_lt}
use Rattle.peg_explain.specs.Parts.{has_part}
use Rattle.peg_explain.proofs.PartLemmas.{part-added, part-kept}
use Rattle.peg_explain.proofs.parts.Parts.add_rest.Goals as goal

pub returns-then-not-fails_at_once-clause-added : goal.returns-then-not-fails_at_once-clause-added
returns-then-not-fails_at_once-clause-added c item =
    part-kept c.args.rest.now item (has_part c.args.self.now item)
    (nat_lt item (length c.args.self.now.flags.items)) (sym c.if-not-fails_at_once.true ∙ c.fails_at_once.ensures)

pub returns-clause-added : goal.returns-clause-added
returns-clause-added c item =
    let old = c.args.self.now in
    let within = nat_lt item (length old.flags.items) in
    c.add_all.ensures.added item
    ∙ ap (λ (l : List ℕ). has_part old item || (list_any (λ (number : ℕ). number == item) l && within))
    c.deref.ensures.value
    ∙ ap (λ (b : Bool). has_part old item || (b && within))
    (part-added c.args.rest.now item (sym c.if-not-fails_at_once.false ∙ c.fails_at_once.ensures))
