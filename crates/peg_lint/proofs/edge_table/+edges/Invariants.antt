use Rattle.std.proofs.Common.{◌≡◌, ◌≤◌, ℕ, length, map, drop}
use Rattle.peg_grammar.specs.GrammarRules.{rules_in}
use Rattle.peg_grammar.specs.Written.{form_of}
use Rattle.peg_semantics.specs.Form.{forms}
use Rattle.peg_lint.specs.Edges.{alternatives_edges, edges_in, items_edges}
use Rattle.peg_lint.specs.Known.{AreKnown, known_of}
use Rattle.peg_lint.proofs.edge_table.+edges.Given as goal

-- what is known of the items from the index on
abbrev pub invariant-edges_of_items-items : goal.invariant-edges_of_items-items
invariant-edges_of_items-items l = record {
  within : l.index ≤ length l.items;
  known : (n : ℕ) → AreKnown (rules_in l.grammar) n l.table
      → known_of l.all ≡ items_edges (rules_in l.grammar) (edges_in (rules_in l.grammar) n)
      (forms (drop l.index (map form_of l.items)));
}

abbrev pub decreases-edges_of_items-items : goal.decreases-edges_of_items-items
decreases-edges_of_items-items l = l.index

-- what is known of the alternatives from the index on
abbrev pub invariant-edges_of_alternatives-alternatives : goal.invariant-edges_of_alternatives-alternatives
invariant-edges_of_alternatives-alternatives l = record {
  within : l.index ≤ length l.alternatives;
  known : (n : ℕ) → AreKnown (rules_in l.grammar) n l.table
      → known_of l.any ≡ alternatives_edges (rules_in l.grammar) (edges_in (rules_in l.grammar) n)
      (forms (drop l.index (map form_of l.alternatives)));
}

abbrev pub decreases-edges_of_alternatives-alternatives : goal.decreases-edges_of_alternatives-alternatives
decreases-edges_of_alternatives-alternatives l = l.index
