-- Results with links, and the results that they denote.
use Rattle.std.specs.Prelude.{IfSome, List, map, None, Option, Some}
use Rattle.std.specs.List.{All}
use Rattle.peg_memo.specs.MemoKey.{MemoKey}
use Rattle.peg_memo.specs.StoredResult.{StoredResult, StoredFailure, StoredMatch}
use Rattle.peg_nodes.specs.declared.item.Link.{Link}
use Rattle.peg_nodes.specs.Linked.{Linked, link_nodes, IsLink}
use Rattle.peg_memo_policy.specs.declared.linked_result.LinkedResult.{LinkedResult}
use Rattle.peg_memo_policy.specs.declared.linked_result.LinkedResult.TheVariants.{Failed, Matched}

-- the link of a result, if it has one
abbrev pub link_of : LinkedResult → Option Link
link_of Failed = None
link_of (Matched end link) = Some link

-- a result's link, if it has one, is a link of these nodes
abbrev pub IsLinked : Linked → LinkedResult → Type 0
IsLinked nodes linked = IfSome (link_of linked) (IsLink nodes)

abbrev pub AreLinked : Linked → List (MemoKey × LinkedResult) → Type 0
AreLinked nodes entries = All (λ (entry : MemoKey × LinkedResult). IsLinked nodes entry.1) entries

-- the result that a linked result denotes
abbrev pub stored_result : Linked → LinkedResult → StoredResult
stored_result nodes Failed = StoredFailure
stored_result nodes (Matched end link) = StoredMatch end (link_nodes nodes link)

-- calls with the results that their linked results denote
abbrev pub linked_pairs : Linked → List (MemoKey × LinkedResult) → List (MemoKey × StoredResult)
linked_pairs nodes entries = map (λ e. (e.0, stored_result nodes e.1)) entries
