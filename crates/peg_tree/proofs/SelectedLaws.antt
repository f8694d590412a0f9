-- Laws of selected trees.
use Rattle.std.proofs.Common.{◌≡◌, ◌&&◌, Bool, true, false, ℕ, if◌then◌else◌, refl, sym, ◌∙◌, ap}
use Rattle.peg_tree.specs.Nodes.{RulesBelow}
use Rattle.peg_tree.specs.Trees.{Trees, NoTrees, Tree, followed_by}
use Rattle.peg_tree.specs.Selected.{selected_among, selected}

selected_among-all : (trees : Trees) → selected_among (λ _. true) trees ≡ trees
selected_among-all NoTrees = refl
selected_among-all (Tree rule start end children rest) =
    ap (λ below. Tree rule start end below (selected_among (λ _. true) rest)) (selected_among-all children)
    ∙ ap (Tree rule start end children) (selected_among-all rest)

pub selected-all : (trees : Trees) → selected (λ _. true) trees ≡ trees
selected-all NoTrees = refl
selected-all (Tree rule start end children rest) = selected_among-all (Tree rule start end children rest)

followed_by-assoc : (a b c : Trees) → followed_by (followed_by a b) c ≡ followed_by a (followed_by b c)
followed_by-assoc NoTrees b c = refl
followed_by-assoc (Tree rule start end children rest) b c = ap (Tree rule start end children) (followed_by-assoc rest b c)

-- of trees followed by others, the shown ones of both
selected_among-followed_by : (shown : ℕ → Bool) (trees more : Trees)
    → selected_among shown (followed_by trees more) ≡ followed_by (selected_among shown trees) (selected_among shown more)
selected_among-followed_by shown NoTrees more = refl
selected_among-followed_by shown (Tree rule start end children rest) more =
    by (shown rule) (selected_among shown children) (selected_among shown rest) (selected_among shown more)
    (selected_among shown (followed_by rest more)) (selected_among-followed_by shown rest more)
  where
    by : (b : Bool) (below after others all : Trees) → all ≡ followed_by after others
        → (if b then Tree rule start end below all else followed_by below all)
        ≡ followed_by (if b then Tree rule start end below after else followed_by below after) others
    by true below after others all is = ap (Tree rule start end below) is
    by false below after others all is = ap (followed_by below) is ∙ sym (followed_by-assoc below after others)

selected_among-twice : (first second : ℕ → Bool) (trees : Trees)
    → selected_among second (selected_among first trees) ≡ selected_among (λ rule. first rule && second rule) trees
selected_among-twice first second NoTrees = refl
selected_among-twice first second (Tree rule start end children rest) =
    by (first rule) (selected_among-twice first second children) (selected_among-twice first second rest)
  where
    by : (b : Bool) → selected_among second (selected_among first children) ≡ selected_among (λ r. first r && second r) children
        → selected_among second (selected_among first rest) ≡ selected_among (λ r. first r && second r) rest
        → selected_among second (if b then Tree rule start end (selected_among first children) (selected_among first rest)
        else followed_by (selected_among first children) (selected_among first rest))
        ≡ (if b && second rule
        then Tree rule start end (selected_among (λ r. first r && second r) children) (selected_among (λ r. first r && second r) rest)
        else followed_by (selected_among (λ r. first r && second r) children) (selected_among (λ r. first r && second r) rest))
    by true below after =
        ap (λ t. if second rule then Tree rule start end t (selected_among second (selected_among first rest)) else followed_by t (selected_among second (selected_among first rest))) below
        ∙ ap (λ t. if second rule then Tree rule start end (selected_among (λ r. first r && second r) children) t else followed_by (selected_among (λ r. first r && second r) children) t) after
    by false below after =
        selected_among-followed_by second (selected_among first children) (selected_among first rest)
        ∙ ap (λ t. followed_by t (selected_among second (selected_among first rest))) below
        ∙ ap (λ t. followed_by (selected_among (λ r. first r && second r) children) t) after

pub selected-twice : (first second : ℕ → Bool) (trees : Trees)
    → selected second (selected first trees) ≡ selected (λ rule. first rule && second rule) trees
selected-twice first second NoTrees = refl
selected-twice first second (Tree rule start end children rest) =
    ap (λ t. Tree rule start end t (selected_among second (selected_among first rest))) (selected_among-twice first second children)
    ∙ ap (Tree rule start end (selected_among (λ r. first r && second r) children)) (selected_among-twice first second rest)

RulesBelow-followed_by : (bound : ℕ) (trees more : Trees) → RulesBelow bound trees → RulesBelow bound more
    → RulesBelow bound (followed_by trees more)
RulesBelow-followed_by bound NoTrees more first second = second
RulesBelow-followed_by bound (Tree rule start end children rest) more first second =
    (first.0, first.1, RulesBelow-followed_by bound rest more first.2 second)

RulesBelow-selected_among : (shown : ℕ → Bool) (bound : ℕ) (trees : Trees) → RulesBelow bound trees
    → RulesBelow bound (selected_among shown trees)
RulesBelow-selected_among shown bound NoTrees all = tt
RulesBelow-selected_among shown bound (Tree rule start end children rest) all =
    by (shown rule) (RulesBelow-selected_among shown bound children all.1) (RulesBelow-selected_among shown bound rest all.2)
  where
    by : (b : Bool) → RulesBelow bound (selected_among shown children) → RulesBelow bound (selected_among shown rest)
        → RulesBelow bound (if b then Tree rule start end (selected_among shown children) (selected_among shown rest)
        else followed_by (selected_among shown children) (selected_among shown rest))
    by true below after = (all.0, below, after)
    by false below after = RulesBelow-followed_by bound (selected_among shown children) (selected_among shown rest) below after

pub RulesBelow-selected : (shown : ℕ → Bool) (bound : ℕ) (trees : Trees) → RulesBelow bound trees
    → RulesBelow bound (selected shown trees)
RulesBelow-selected shown bound NoTrees all = tt
RulesBelow-selected shown bound (Tree rule start end children rest) all =
    (all.0, RulesBelow-selected_among shown bound children all.1, RulesBelow-selected_among shown bound rest all.2)
